-- Document 01, "Frame records and mapping list", with request N2: the empty list; a new mapping goes to its place, and the later ones move up by
-- one; they move down by one where one goes.
use Rattle.std.specs.Prelude.{cond, ◌&&◌, List, [], ◌∷◌, ◌++◌, ℕ, suc, ◌+◌, ◌-◌, leb, ltb, length, take, drop, replicate}
use Rattle.mapping.specs.declared.Mapping.{Mapping}
use Rattle.mapping.specs.declared.MappingList.{MappingList}
use Rattle.mapping.specs.Entry.{capacity, zero_mapping}
use Rattle.mapping.specs.Lookup.{place_for}

-- the list at the start
unfoldable pub empty : MappingList
empty = record { items = replicate capacity zero_mapping; count = 0 }

-- the records with m at place i, as many as before: the last goes
unfoldable pub including : List Mapping → ℕ → Mapping → List Mapping
including items i m = take (length items) (take i items ++ (m ∷ drop i items))

-- the list with m at place i, if there is room and no place below it is free
unfoldable pub insert_at : MappingList → ℕ → Mapping → MappingList
unfolding including
insert_at l i m = cond (ltb l.count capacity && leb i l.count) (record { items = including l.items i m; count = l.count + 1 }) l

-- the list with m at its place
abbrev pub insert : MappingList → Mapping → MappingList
insert l m = insert_at l (place_for l m.space m.page) m

-- the records without the one at place i, and one of zeros at the end
unfoldable pub without : List Mapping → ℕ → List Mapping
without items i = take i items ++ (drop (suc i) items ++ (zero_mapping ∷ []))

-- the list without the mapping at place i, if that is listed
unfoldable pub remove : MappingList → ℕ → MappingList
unfolding without
remove l i = cond (ltb i l.count && leb l.count capacity) (record { items = without l.items i; count = l.count - 1 }) l
