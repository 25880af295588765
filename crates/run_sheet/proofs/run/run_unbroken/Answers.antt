-- `run_sheet::run_unbroken` meets its contract.
use mathlib.Core.Path.{◌∙◌}
use native.Mathlib.Omega.{arith}
use Rattle.board.specs.Board.{board01}
use Rattle.manager.proofs.RecordLaws.{start_words}
use Rattle.sheet_codec.proofs.Sheet.{counts_fit}
use Rattle.run_sheet.specs.Run.{start_with}
use Rattle.run_sheet.proofs.Running.{ran_as, ran_closed, run_is}
use Rattle.run_sheet.proofs.run.run_unbroken.Goals as goal

pub step_count-steps-requires : goal.step_count-steps-requires
step_count-steps-requires c = (c.mapping_count-mappings.ensures, omega (arith, c.mapping_count-mappings.ensures, counts_fit _ c.requires.0))

pub run_calls-done-requires : goal.run_calls-done-requires
run_calls-done-requires c =
    let fit = counts_fit _ c.requires.0 in
    (c.mapping_count-mappings.ensures, omega (arith, c.mapping_count-mappings.ensures, fit), omega (arith, c.step_count-steps.ensures, fit), c.requires.1)

pub end_line-requires : goal.end_line-requires
end_line-requires c =
    let fit = counts_fit _ c.requires.0 in
    omega (arith, c.run_calls-done.ensures.text_is, c.run_calls-done.auto, c.requires.1, c.mapping_count-mappings.ensures, c.step_count-steps.ensures, fit)

pub returns : goal.returns
unfolding start_with
returns c =
    let fit = counts_fit _ c.requires.0 in
    let records = c.start.ensures ∙ start_words board01.frames board01.colours in
    let e = run_is _ _ _ _ _ c.empty-list.ensures records c.mapping_count-mappings.ensures c.step_count-steps.ensures in
    ran_closed (omega (arith, c.mapping_count-mappings.ensures, c.step_count-steps.ensures, fit)) (ran_as e c.run_calls-done.ensures) c.end_line.ensures
