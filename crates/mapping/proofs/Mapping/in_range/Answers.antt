-- `mapping::Mapping::in_range` meets its contract.
use Rattle.std.proofs.Common.{arith}
use Rattle.std.proofs.lemmas.Grind.{common_steps}
use Rattle.mapping.specs.Entry.{in_range}
use Rattle.mapping.proofs.Mapping.in_range.Goals as goal

pub returns-then-from-board : goal.returns-then-from-board
unfolding in_range
returns-then-from-board c = grind (arith, common_steps)

pub returns-else-from-board : goal.returns-else-from-board
unfolding in_range
returns-else-from-board c = grind (arith, common_steps)
