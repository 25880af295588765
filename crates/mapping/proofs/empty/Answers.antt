-- `mapping::empty` meets its contract.
use mathlib.Core.Path.{ap}
use lib.ListN.{replicate}
use Rattle.mapping.specs.declared.Mapping.{Mapping}
use Rattle.mapping.specs.declared.MappingList.{MappingList}
use Rattle.mapping.specs.Entry.{capacity}
use Rattle.mapping.specs.Change.{empty}
use Rattle.mapping.proofs.empty.Goals as goal

pub returns : goal.returns
unfolding empty
returns c = ap (λ (z : Mapping). filled z) c.zero.ensures
  where
    filled : Mapping → MappingList
    filled z = record { items = replicate capacity z; count = 0 }
