-- `run_step::device_read` meets its contract.
use Rattle.manager.specs.Answers.{outcome}
use Rattle.std.proofs.Common.{refl, ◌∙◌}
use Rattle.run_step.proofs.Making.{did, first_same}
use Rattle.run_step.proofs.steps.device_read.Goals as goal

pub returns : goal.returns
returns c =
    let d = c.device_read-answer in
    did d.ensures refl (c.first_word-shown.ensures ∙ first_same (outcome d.result) _ d.new.buffer refl)
