-- `manager::records::refill` meets its contract.
use mathlib.Core.Path.{◌≡◌}
use mathlib.Core.List.{List}
use Prim.Native.Nat.{ℕ, ◌<◌}
use lib.ListN.{get_or}
use Rattle.board.specs.declared.Board.{Board}
use Rattle.mapping.specs.declared.MappingList.{MappingList}
use Rattle.manager.specs.Tables.{protection_at}
use Rattle.manager.proofs.records.refill.Given as goal

-- the protections below i are those of the list, on every board with so many colours
abbrev pub Filled : ℕ → MappingList → List ℕ → List ℕ → ℕ → Type 0
Filled colours l rs ps i = (b : Board) → b.colours ≡ colours → (k : ℕ) → k < i → get_or ps k 0 ≡ protection_at b l rs k

abbrev pub invariant-loop-i : goal.invariant-loop-i
invariant-loop-i l = Filled l.colours l.list l.records l.protection-items l.i
