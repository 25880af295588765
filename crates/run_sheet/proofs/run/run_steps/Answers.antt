-- `run.run_steps` meets its contract.
use mathlib.Core.Path.{◌∙◌}
use Rattle.sheet_codec.specs.Text.{step_line_of}
use Rattle.sheet_codec.proofs.Sheet.{call_at, kind_or}
use Rattle.run_step.proofs.Making.{did_as, did_kind}
use Rattle.run_sheet.proofs.Running.{ran_none, ran_next, ran_step}
use Rattle.run_sheet.proofs.run.run_steps.Goals as goal

pub loop-k-init : goal.loop-k-init
loop-k-init c = ran_none step_line_of _ _ _ _

pub loop-k-preserved : goal.loop-k-preserved
loop-k-preserved c =
    let l = c.loop-k in
    let f = c.fields_at-f in
    let kind = c.unwrap_or-kind.ensures ∙ kind_or _ _ _ c.try_from.ensures in
    let made = did_as (call_at c.args.sheet.now c.args.first l.k c.requires.0 f.result f.ensures) (did_kind f.result kind c.step-told.ensures) in
    ran_next step_line_of _ _ l.invariant (ran_step l.k made c.step_line-at.ensures c.flushes_of-flushes.ensures c.purges_of-purges.ensures)
