-- `cache::copy::copy` meets its contract.
use mathlib.Core.Path.{◌∙◌}
use native.Mathlib.Omega.{arith}
use Rattle.std.proofs.Common.{rules}
use Rattle.std.proofs.lemmas.List.{ext_get_or}
use Rattle.cache.proofs.copy.copy.Goals as goal

pub loop-i-init : goal.loop-i-init
loop-i-init c k h = absurd (omega arith)

pub loop-i-preserved : goal.loop-i-preserved
loop-i-preserved c k h = search rules

pub returns : goal.returns
returns c = ext_get_or 0 _ _ (c.loop-i.auto.to ∙ c.requires) (λ k h. c.loop-i.invariant k (omega (arith, c.loop-i.auto.to)))
