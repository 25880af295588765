-- `manager::device_write` meets its contract: it is the transfer of all the page's words.
use mathlib.Core.Path.{ap, ◌∙◌}
use native.Mathlib.Omega.{arith}
use Rattle.board.specs.Board.{board01}
use Rattle.manager.specs.Calls.{step_result}
use Rattle.manager.proofs.Parts.{whole_plan}
use Rattle.manager.proofs.calls.device_write.Goals as goal

pub returns : goal.returns
returns c = c.device_write_part.ensures ∙ ap (step_result board01 _) (whole_plan board01 (omega arith) _ _)
