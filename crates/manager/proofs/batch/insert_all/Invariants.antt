-- `manager::insert_all` meets its contract. The loop's invariant: the list and the answers after i items, and that the list keeps its rules.
use mathlib.Core.Path.{◌≡◌}
use mathlib.Core.Bool.{true}
use Prim.Native.Nat.{ℕ, ◌<◌}
use lib.ListN.{length, get_or}
use Rattle.board.specs.declared.Board.{Board}
use Rattle.mapping.specs.declared.MappingList.{MappingList}
use Rattle.mapping.specs.Batch.{items_of}
use Rattle.mapping.specs.Entry.{capacity}
use Rattle.mapping.specs.Rules.{keeps_rules}
use Rattle.manager.specs.Scaffold.Inserted.{list_after_items, refusal_at}
use Rattle.manager.proofs.batch.insert_all.Given as goal

-- a list of its length that keeps its rules
abbrev pub Kept : Board → MappingList → Type 0
Kept b l = (keeps_rules b l ≡ true) × (length l.items ≡ capacity)

abbrev pub invariant-loop-i : goal.invariant-loop-i
invariant-loop-i l =
    (l.next ≡ list_after_items l.board l.initial.next (items_of l.batch) l.i) × ((k : ℕ) → k < l.i → get_or l.answers k 0 ≡ refusal_at l.board l.initial.next (items_of l.batch) k)
    × Kept l.board l.next
