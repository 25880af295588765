-- `steps.device_write` meets its contract.
use Rattle.std.proofs.Common.{ap}
use Rattle.machine.specs.State.{device_write}
use Rattle.run_step.proofs.Making.{did, did_as}
use Rattle.run_step.proofs.steps.device_write.Goals as goal

pub returns : goal.returns
returns c =
    let told = c.from.ensures in
    did_as (ap (device_write c.args.f.s) c.count_up.ensures) (did c.device_write.ensures told.0 told.1)
