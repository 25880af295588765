-- The three demands, of every regular board, and of document 01's. `Manager` and `Batch` have the manager's calls.
use mathlib.Core.Path.{◌≡◌, subst}
use Rattle.board.specs.declared.Board.{Board}
use Rattle.board.specs.Board.{Regular, board01}
use Rattle.board.proofs.Geometry.{board01_regular}
use Rattle.manager.specs.Refusals.{first_refusal}
use Rattle.machine.specs.Call.{call_causes}
use Rattle.machine.specs.State.{State, Call, single, map_all, Result}
use Rattle.machine.proofs.CallLaws.{accept_call, perform_accepted}
use Rattle.consistency.proofs.Theorem.{demand3}
use Rattle.demands.specs.Demands.{CallLeft, Demand2, EveryBoard, Board01}
use Rattle.demands.proofs.Answers.{accepted_clear, demand1}
use Rattle.demands.proofs.Items.{each_mapped}
use Rattle.demands.proofs.Kept.{left}

-- what an accepted call leaves
call_left : (b : Board) → Regular b → (st : State) (call : Call) → first_refusal (call_causes b st call) ≡ 0
    → CallLeft b st call (accept_call b st call).after (accept_call b st call).answer
unfolding call_causes
call_left b reg st (single call) e = left b reg st call e
call_left b reg st (map_all items answers) e = each_mapped b reg st items answers

demand2 : (b : Board) → Regular b → Demand2 b
demand2 b reg st call a =
    let e = accepted_clear b st call a in
    subst (λ (r : Result). CallLeft b st call r.after r.answer) (perform_accepted b st call e) (call_left b reg st call e)

pub every_board : EveryBoard
every_board b reg = (demand1 b, demand2 b reg, demand3 b reg)

pub board_01 : Board01
board_01 = every_board board01 board01_regular
