-- `mapping::lent::batch` meets its contract.
use Rattle.std.proofs.Common.{get_or, refl, rules}
use Rattle.mapping.specs.Entry.{zero_mapping}
use Rattle.mapping.proofs.Batches.{batch_made}
use Rattle.mapping.proofs.lent.batch.Goals as goal

pub returns : goal.returns
returns c =
    batch_made _ _ (λ i. get_or c.args.list.now i zero_mapping) (λ i y q k. search rules) c.from_fn.result c.args.list.now c.from_fn.ensures.items (λ i. refl)
