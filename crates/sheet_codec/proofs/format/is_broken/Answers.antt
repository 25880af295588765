-- `sheet_codec::is_broken` meets its contract: one law for each way of being broken.
use mathlib.Core.Path.{sym, ap, ◌∙◌}
use mathlib.Core.Bool.{not}
use Prim.Native.Nat.{ℕ}
use native.Mathlib.Omega.{arith}
use Rattle.bits.specs.Mask.{all}
use Rattle.sheet_codec.specs.Format.{step_keeps}
use Rattle.sheet_codec.proofs.Sheet.{first_place, length_said, many_mappings, many_steps, wrong_length, step_breaks}
use Rattle.sheet_codec.proofs.format.is_broken.Goals as goal

pub returns-then-mappings-gt-MOST_MAPPINGS : goal.returns-then-mappings-gt-MOST_MAPPINGS
returns-then-mappings-gt-MOST_MAPPINGS c = many_mappings c.args.sheet.now (omega (arith, c.mapping_count-mappings.ensures))

pub returns-then-steps-gt-MOST_STEPS : goal.returns-then-steps-gt-MOST_STEPS
returns-then-steps-gt-MOST_STEPS c =
    many_steps c.args.sheet.now (omega (arith, c.mapping_count-mappings.ensures)) (omega (arith, c.step_count-steps.ensures))

-- once both counts fit
pub returns-then-sheet-length : goal.returns-then-sheet-length
returns-then-sheet-length c =
    let mappings = c.mapping_count-mappings.ensures in
    let steps = c.step_count-steps.ensures in
    let said = length_said c.args.sheet.now _ _ _ mappings steps c.first_step-first.ensures.0 in
    wrong_length c.args.sheet.now (omega (arith, mappings)) (omega (arith, steps)) (λ e. c.if-sheet-length.true (e ∙ sym said))

pub steps_keep-requires : goal.steps_keep-requires
steps_keep-requires c =
    (c.first_step-first.ensures.0 ∙ first_place c.args.sheet.now _ c.mapping_count-mappings.ensures, omega (arith, c.first_step-first.ensures.1))

pub returns : goal.returns
returns c =
    let mappings = c.mapping_count-mappings.ensures in
    let steps = c.step_count-steps.ensures in
    let said = length_said c.args.sheet.now _ _ _ mappings steps c.first_step-first.ensures.0 in
    let keep = c.steps_keep.ensures ∙ ap (λ (n : ℕ). all n (step_keeps c.args.sheet.now)) steps in
    ap not keep ∙ step_breaks c.args.sheet.now (omega (arith, mappings)) (omega (arith, steps)) (c.if-sheet-length.false ∙ said)
