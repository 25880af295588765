-- Document 01, "Frame records and mapping list", with request N2: the rules of the list, as a test of any content. The first `count` places are
-- listed.
use Rattle.std.specs.Prelude.{Bool, true, ◌&&◌, List, [], ◌∷◌, ℕ, suc, ◌-◌, leb, drop}
use Rattle.bits.specs.Mask.{all}
use Rattle.board.specs.declared.Board.{Board}
use Rattle.mapping.specs.declared.Mapping.{Mapping}
use Rattle.mapping.specs.declared.MappingList.{MappingList}
use Rattle.mapping.specs.Entry.{capacity, in_range, is_zero, is_before, mapping_at}

-- every listed mapping is in range
unfoldable pub all_in_range : Board → MappingList → Bool
all_in_range b l = all l.count (λ i. in_range b (mapping_at l i))

-- the mapping at place i stands before the next
unfoldable pub rises_at : MappingList → ℕ → Bool
rises_at l i = is_before (mapping_at l i) (mapping_at l (suc i)).space (mapping_at l (suc i)).page

-- each listed mapping stands before the next: request N2's "rising order of space, then page"
unfoldable pub rising : MappingList → Bool
rising l = all (l.count - 1) (rises_at l)

-- past the count all fields are 0
unfoldable pub every_zero : List Mapping → Bool
every_zero [] = true
every_zero (m ∷ ms) = is_zero m && every_zero ms

unfoldable pub rest_zero : MappingList → Bool
unfolding every_zero
rest_zero l = every_zero (drop l.count l.items)

-- whether the list keeps its rules
unfoldable pub keeps_rules : Board → MappingList → Bool
keeps_rules b l = leb l.count capacity && all_in_range b l && rising l && rest_zero l
