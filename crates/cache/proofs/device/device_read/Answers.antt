-- `cache::device::device_read` meets its contract.
use mathlib.Core.Path.{◌∙◌}
use Rattle.board.proofs.Geometry.{memory_at_zero}
use Rattle.cache.specs.Cache.{device_read}
use Rattle.cache.proofs.Laws.Part.{part_lent}
use Rattle.cache.proofs.device.device_read.Goals as goal

pub returns : goal.returns
unfolding device_read
returns c words tags =
    c.copy.ensures ∙ part_lent c.args.memory.now _ (c.memory_at-from.ensures.value ∙ memory_at_zero _ c.requires.3 c.args.frame)
