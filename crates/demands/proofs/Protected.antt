-- The tables after an accepted call, by demand 2's statement alone.
use Rattle.board.specs.declared.Board.{Board}
use Rattle.machine.specs.State.{State, Single, Call, single, map_all, Answer}
use Rattle.demands.specs.Demands.{Left, CallLeft}
use Rattle.demands.specs.Protected.{Protected, Changes, AlwaysProtected}

left_protected : (b : Board) (st : State) (call : Single) (after : State) (a : Answer) → Left b st call after a → Protected b after.tables
left_protected b st call after a left =
    record {
      rules_kept_lem = left.tables_kept;
      agree = left.protections;
      idle_read_passes = λ i h. (left.read_passes i h).1;
      idle_write_passes = λ i h. (left.write_passes i h).1;
      idle_fetch_passes = λ i h. (left.fetch_passes i h).1;
      read_is_idle = λ i h. (left.read_passes i h).0;
      write_is_idle = λ i h. (left.write_passes i h).0;
      fetch_is_idle = λ i h. (left.fetch_passes i h).0;
    }

call_protected : (b : Board) (st : State) (call : Call) (after : State) (a : Answer) → CallLeft b st call after a → Changes call a → Protected b after.tables
call_protected b st (single call) after a left changes = left_protected b st call after a left
call_protected b st (map_all items answers) after a left changes =
    left_protected b _ _ after _ (left.last changes.0 changes.1 changes.2).2

pub always_protected : AlwaysProtected
always_protected b demand2 st call accepted changes = call_protected b st call _ _ (demand2 st call accepted) changes
