-- The place and the mapping of a page of a space, and the place at which a new one goes.
use Rattle.std.specs.Prelude.{Bool, cond, ℕ, zero, suc, min, length, Option, Some, None, is_some, unwrap_or}
use Rattle.std.specs.Option.{option_or}
use Rattle.std.proofs.Math.Option as maybe
use Rattle.bits.specs.Mask.{count_of}
use Rattle.mapping.specs.declared.Mapping.{Mapping}
use Rattle.mapping.specs.declared.MappingList.{MappingList}
use Rattle.mapping.specs.Entry.{capacity, is_at, is_before, mapping_at}

-- the first place below n that p picks
unfoldable pub first_found : ℕ → (ℕ → Bool) → Option ℕ
first_found zero p = None
first_found (suc n) p = option_or (first_found n p) (cond (p n) (Some n) None)

-- the first listed place with this space and page
unfoldable pub lookup : MappingList → ℕ → ℕ → Option ℕ
lookup l space page = first_found (min l.count (length l.items)) (λ i. is_at (mapping_at l i) space page)

-- the mapping at the place that was found
abbrev pub mapping_found : MappingList → Option ℕ → maybe.Option Mapping
mapping_found l (Some i) = maybe.some (mapping_at l i)
mapping_found l None = maybe.none

-- the listed mapping of this space and page, or none
unfoldable pub mapping_of : MappingList → ℕ → ℕ → maybe.Option Mapping
mapping_of l space page = mapping_found l (lookup l space page)

-- whether this page of this space is mapped
abbrev pub is_mapped : MappingList → ℕ → ℕ → Bool
is_mapped l space page = is_some (lookup l space page)

-- the place found, past the list where there is none
abbrev pub place_of : Option ℕ → ℕ
place_of x = unwrap_or x capacity

-- the listed mapping of this space and page, all 0 where there is none
abbrev pub listed_mapping : MappingList → ℕ → ℕ → Mapping
listed_mapping l space page = mapping_at l (place_of (lookup l space page))

-- where a mapping of this space and page goes: behind the listed ones that stand before it
unfoldable pub place_for : MappingList → ℕ → ℕ → ℕ
place_for l space page = count_of l.count (λ i. is_before (mapping_at l i) space page)
