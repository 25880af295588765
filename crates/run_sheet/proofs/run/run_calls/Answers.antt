-- `run_sheet::run_calls` meets its contract.
use mathlib.Core.Path.{◌∙◌}
use native.Mathlib.Omega.{arith}
use Rattle.sheet_codec.specs.Text.{step_line_of}
use Rattle.run_sheet.proofs.Running.{ran_all}
use Rattle.sheet_codec.proofs.Sheet.{first_place}
use Rattle.run_sheet.proofs.run.run_calls.Goals as goal

pub run_steps-stepped-requires : goal.run_steps-stepped-requires
run_steps-stepped-requires c =
    let h = c.requires in
    let at = c.first_step-first.ensures in
    let text = c.run_mappings-mapped in
    (at.0 ∙ first_place _ _ h.0, omega (arith, at.1, h.2), h.2, omega (arith, h, text.auto, text.ensures.text_is))

pub returns : goal.returns
returns c =
    ran_all step_line_of _ c.run_mappings-mapped.ensures c.run_steps-stepped.ensures
