-- `machine::device_write` meets its contract: it is the write of all the page's words.
use mathlib.Core.Path.{◌∙◌}
use Rattle.board.specs.Board.{board01}
use Rattle.board.proofs.Geometry.{board01_regular}
use Rattle.machine.proofs.Parts.{whole_part}
use Rattle.machine.proofs.transfers.device_write.Goals as goal

pub returns : goal.returns
returns c =
    c.device_write_part.ensures ∙ whole_part board01 _ _ _ board01_regular
