-- `board::Board::colour_line` meets its contract.
use Rattle.board.specs.Board.{colour_line}
use Rattle.board.proofs.Geometry.{colour_line_lt}
use Rattle.board.proofs.Board.colour_line.Goals as goal

pub returns-clause-within : goal.returns-clause-within
unfolding colour_line
returns-clause-within c = rw c.page_lines.ensures.value (colour_line_lt _ c.requires.0 _ _ c.requires.1 c.requires.2)
