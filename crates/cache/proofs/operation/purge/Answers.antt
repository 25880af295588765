-- `operation.purge` meets its contract.
use mathlib.Core.Path.{◌∙◌}
use native.Mathlib.Omega.{arith}
use Rattle.cache.proofs.Laws.Operations.{purge_done}
use Rattle.cache.proofs.operation.purge.Goals as goal

pub returns : goal.returns
returns c memory words =
    c.loop-i.invariant memory words ∙ purge_done c.args.board c.args.frame c.args.colour c.loop-i.i _ (omega arith)
