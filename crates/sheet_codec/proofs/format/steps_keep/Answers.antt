-- `format.steps_keep` meets its contract.
use Rattle.std.proofs.Common.{refl, arith, rules, tests, ◌∙◌}
use Rattle.std.proofs.lemmas.Iterator.{YieldsList-from_range}
use Rattle.std.proofs.lemmas.Iterator.Search.{all_from_yields_List}
use Rattle.sheet_codec.specs.Format.{step_keeps}
use Rattle.sheet_codec.proofs.Sheet.{all_range}
use Rattle.sheet_codec.proofs.format.steps_keep.Goals as goal

pub returns : goal.returns
returns c =
    let keep = step_keeps c.args.sheet.now in
    all_from_yields_List keep _ _ _ c.all.ensures.ran (YieldsList-from_range 0 c.args.count c.args.count refl (omega arith)) (λ x b q k. search (rules, tests)) ∙ all_range keep c.args.count
