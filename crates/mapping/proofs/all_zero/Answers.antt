-- `mapping::all_zero` meets its contract.
use mathlib.Core.Path.{refl, sym, ap, ap₂, ◌∙◌}
use mathlib.Core.Bool.{◌&&◌}
use mathlib.Core.List.{List}
use Rattle.std.proofs.lemmas.List.{take_all}
use Rattle.mapping.specs.declared.Mapping.{Mapping}
use Rattle.mapping.specs.Rules.{every_zero}
use Rattle.mapping.proofs.Rules.{every_zero_more, or_zero}
use Rattle.mapping.proofs.all_zero.Goals as goal

pub loop-m-init : goal.loop-m-init
unfolding every_zero
loop-m-init c = refl

pub loop-m-preserved : goal.loop-m-preserved
loop-m-preserved c =
    or_zero c.loop-m.content c.content-content.result
    ∙ ap₂ ◌&&◌ c.loop-m.invariant c.content-content.ensures
    ∙ sym (every_zero_more c.args.records.now c.loop-m.m-index c.loop-m-test.true)

pub returns : goal.returns
returns c = c.loop-m.invariant ∙ ap (λ (ms : List Mapping). every_zero ms) (take_all c.loop-m.m-index c.args.records.now c.loop-m-test.false)
