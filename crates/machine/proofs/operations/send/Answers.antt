-- `machine::send` meets its contract.
use mathlib.Core.Path.{◌∙◌}
use Rattle.cache.specs.Cache.{device_read}
use Rattle.machine.proofs.operations.send.Goals as goal

pub returns : goal.returns
returns c =
    let a = c.args in
    record { state = c.carry_out.ensures; filled = c.device_read.ensures _ _ ∙ (λ i. device_read a.board (c.from-frame.ensures i) (c.carry_out.ensures i)) }
