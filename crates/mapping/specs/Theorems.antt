-- What request N2 has the order of neighbours mean, for any list; and that the batch of a lent list is that list to request N1's call.
use Rattle.std.specs.Prelude.{true, List, ◌↔◌, ◌≡◌, ◌≤◌, length}
use Rattle.mapping.specs.declared.Mapping.{Mapping}
use Rattle.mapping.specs.declared.MappingList.{MappingList}
use Rattle.mapping.specs.Batch.{batch_size, batch_of, items_of}
use Rattle.mapping.specs.Facts.{Ordered, Distinct}
use Rattle.mapping.specs.Rules.{rising}

-- each stands before the next exactly if every earlier one stands before every later one
abbrev pub NeighboursOrder : Type 0
NeighboursOrder = (l : MappingList) → (rising l ≡ true) ↔ Ordered l

-- and then no two share space and page
abbrev pub OrderedDistinct : Type 0
OrderedDistinct = (l : MappingList) → Ordered l → Distinct l

-- a lent list that fits in a batch comes back as it was
abbrev pub BatchOfItems : Type 0
BatchOfItems = (items : List Mapping) → length items ≤ batch_size → items_of (batch_of items) ≡ items

-- and one that does not keeps its length, by which it is refused
abbrev pub BatchOfLength : Type 0
BatchOfLength = (items : List Mapping) → length (items_of (batch_of items)) ≡ length items
