-- `mapping::in_order` meets its contract: the records so far are in range and in order, and the next one's key may be no less than that of the last and 1.
use Rattle.mapping.proofs.InOrder.{Ranged, Rising, Least}
use Rattle.mapping.proofs.in_order.Given as goal

abbrev pub invariant-loop-m : goal.invariant-loop-m
invariant-loop-m l = Ranged l.board l.records l.m-index × Rising l.records l.m-index × Least l.records l.m-index l.least
