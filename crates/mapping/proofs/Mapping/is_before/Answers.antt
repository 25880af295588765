-- `mapping::Mapping::is_before` meets its contract.
use Rattle.std.proofs.Common.{rules}
use Rattle.mapping.specs.Entry.{is_before}
use Rattle.mapping.proofs.Mapping.is_before.Goals as goal

pub returns : goal.returns
unfolding is_before
returns c = search rules
