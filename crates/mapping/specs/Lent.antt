-- Document 01, "Frame records and mapping list": "the kernel's own lookup then takes the lent slice of mapping records".
use Rattle.std.specs.Prelude.{List, ℕ}
use Rattle.mapping.specs.declared.Mapping.{Mapping}
use Rattle.mapping.specs.declared.MappingList.{MappingList}

-- the list that lent records and a count make, however many records there are and whatever the count
abbrev pub lent : List Mapping → ℕ → MappingList
lent items count = record { items = items; count = count }
