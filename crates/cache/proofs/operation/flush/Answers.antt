-- `operation.flush` meets its contract.
use mathlib.Core.Path.{subst⁻¹}
use native.Mathlib.Omega.{arith}
use borrow.Author.Rules.{rules}
use Rattle.cache.specs.Store.{WellFormedStore}
use Rattle.cache.specs.Cache.{leaving}
use Rattle.cache.proofs.Laws.Sweep.{turn_kept}
use Rattle.cache.proofs.Laws.Operations.{flush_line_retags}
use Rattle.cache.proofs.operation.flush.Goals as goal

pub flush_line-requires : goal.flush_line-requires
flush_line-requires c =
    let pre = c.requires in (
      subst⁻¹ (WellFormedStore c.args.board) c.loop-i.invariant
          (turn_kept _ pre.3 c.args.frame _ (flush_line_retags _ pre.3 leaving c.args.frame pre.1) c.args.colour pre.2 _ pre.0 c.loop-i.i (omega arith)),
      pre.1,
      search rules,
      pre.3,
    )
