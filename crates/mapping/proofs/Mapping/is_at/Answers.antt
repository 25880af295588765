-- `mapping::Mapping::is_at` meets its contract.
use Rattle.std.proofs.Common.{rules}
use Rattle.mapping.specs.Entry.{is_at}
use Rattle.mapping.proofs.Mapping.is_at.Goals as goal

pub returns : goal.returns
unfolding is_at
returns c = search rules
