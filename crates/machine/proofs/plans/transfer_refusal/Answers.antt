-- `machine::transfer_refusal` meets its contract.
use borrow.Author.Tests.{eq-eqb, ne_eqb}
use mathlib.Core.Bool.{and-false}
use Rattle.manager.specs.Refusals.{first_refusal}
use Rattle.machine.specs.Scaffold.Plans.{store_causes}
use Rattle.machine.proofs.plans.transfer_refusal.Goals as goal

pub returns-then-buffer-number : goal.returns-then-buffer-number
unfolding first_refusal store_causes
returns-then-buffer-number c = rw (ne_eqb _ _ c.if-buffer-number.true, and-false)

pub returns : goal.returns
returns c = rw (eq-eqb _ _ c.if-buffer-number.false) c.store_refusal.ensures
