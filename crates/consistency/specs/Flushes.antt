-- Demand 3 on two boards: this one, whose flush leaves its lines in, clean (request N9), and one whose flush also empties them, as document 01's
-- did. Page states are those of request N9 on both, so that one manager serves both: a colour that was flushed for a read then counts as held
-- though its lines are gone, and an empty line is filled from memory.
use Rattle.std.specs.Prelude.{◌≡◌, ℕ}
use Rattle.board.specs.declared.Board.{Board}
use Rattle.cache.specs.Cache.{FlushKind}
use Rattle.machine.specs.Call.{perform}
use Rattle.machine.specs.State.{State, Single, map, Call, single, map_all, Result}
use Rattle.machine.specs.Step.{carry_out_by, orders_of, accept_after, step, unless_refused}
use Rattle.consistency.specs.Demand3.{Demand3Of}

-- an accepted single call, a single call and a call by either flush, as `accept`, `step` and `perform` are of this board; a list of mappings is this
-- board's
unfoldable pub accept_by : Board → FlushKind → State → Single → Result
accept_by b how st call = accept_after b st call (carry_out_by b how (orders_of b st call) st.store)

unfoldable pub step_by : Board → FlushKind → State → Single → Result
unfolding accept_by
step_by b how st call = unless_refused b st call (accept_by b how st call)

unfoldable pub perform_by : Board → FlushKind → State → Call → Result
unfolding step_by
perform_by b how st (single call) = step_by b how st call
perform_by b how st (map_all items answers) = perform b st (map_all items answers)

-- a map orders nothing, so that it is the same by either flush
abbrev pub SameMaps : Board → Type 0
SameMaps b = (how : FlushKind) (st : State) (space page frame rights : ℕ) → step_by b how st (map space page frame rights) ≡ step b st (map space page frame rights)

-- demand 3 by either flush
abbrev pub EitherFlush : Board → Type 0
EitherFlush b = (how : FlushKind) → Demand3Of b (perform_by b how)
