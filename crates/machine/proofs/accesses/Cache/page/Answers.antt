-- `machine::accesses::Cache::page` meets its contract.
use Rattle.board.proofs.Geometry.{board01_regular}
use Rattle.machine.proofs.accesses.Cache.page.Goals as goal

pub instruction_page-requires : goal.instruction_page-requires
instruction_page-requires c = (board01_regular, c.requires)
