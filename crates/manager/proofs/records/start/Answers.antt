-- `records.start` meets its contract.
use native.Mathlib.Omega.{arith}
use Rattle.manager.proofs.Laws.{is_tabulate}
use Rattle.manager.proofs.records.start.Goals as goal

pub returns : goal.returns
returns c =
    let l = c.loop-at in
    is_tabulate _ _ _ l.auto.records (λ k lk. l.invariant k (omega arith))
