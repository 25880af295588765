-- `machine::receive` meets its contract.
use mathlib.Core.Path.{◌∙◌}
use Rattle.cache.specs.Cache.{device_write}
use Rattle.machine.proofs.operations.receive.Goals as goal

pub returns : goal.returns
returns c =
    let a = c.args in
    c.device_write.ensures _ _ ∙ (λ i. device_write a.board (c.from-frame.ensures i) a.first a.buffer.now (c.carry_out.ensures i))
