-- `position_hold::look` meets its contract.
use Rattle.std.proofs.Common.{◌≡◌, true, false, arith}
use Rattle.std.proofs.lemmas.Grind.{common_steps}
use Rattle.std.proofs.lemmas.Result.{err_from_is_err_and}
use Rattle.board.specs.Board.{board01}
use Rattle.position_hold.specs.Fix.{hold_refused}
use Rattle.position_hold.proofs.Holds.{look_refused, look_handed_on, look_judged}
use Rattle.position_hold.proofs.look.Goals as goal

pub returns-then-not-contains : goal.returns-then-not-contains
unfolding hold_refused
returns-then-not-contains c = let e : hold_refused c.args.hold ≡ true = grind (arith, common_steps) in look_refused board01 _ _ _ _ _ e

pub returns-in_err-fix : goal.returns-in_err-fix
unfolding hold_refused
returns-in_err-fix c =
    let e : hold_refused c.args.hold ≡ false = grind (arith, common_steps) in
    let p = err_from_is_err_and c.from_residual.result c.from_residual.ensures.1 in
    rw (p.1, p.2) (look_handed_on board01 _ _ _ _ _ e c.read_fix.ensures c.in_err-fix.was)

pub returns : goal.returns
unfolding hold_refused
returns c =
    let e : hold_refused c.args.hold ≡ false = grind (arith, common_steps) in
    look_judged board01 _ _ _ _ _ e c.read_fix.ensures c.in_ok-fix.was c.judge.ensures
