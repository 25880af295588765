-- The rows of request N2's order hold, by computing the definitions.
use mathlib.Core.Path.{refl}
use Rattle.edges.proofs.Opened.{opened}
use Rattle.edges.specs.Order.{order}
use Rattle.edges.specs.Rows.{EveryRowHolds}

pub order_holds : EveryRowHolds order
unfolding opened
order_holds = (refl, (refl, (refl, (refl, (refl, (refl, (refl, (refl, (refl, (refl, (refl, (refl, (refl, (refl, tt))))))))))))))
