-- `machine::plans::earlier` meets its contract.
use mathlib.Core.Path.{◌≡◌, refl, ap, ◌∙◌}
use mathlib.Core.Bool.{Bool, true, false, not, cond}
use Rattle.std.proofs.Common.{Err}
use Rattle.std.specs.Ordering.{is_lt, ord_min}
use Rattle.manager.specs.declared.refusal.Refusal.{Refusal}
use Rattle.manager.specs.contracts.refusal.RefusalOrd.TheImpl.{cmp-value}
use Rattle.manager.specs.Answers.{refusal_number}
use Rattle.manager.proofs.CauseLaws.{some_number}
use Rattle.manager.proofs.RefusalOrder.{refusals_in_order}
use Rattle.machine.specs.Scaffold.Plans.{earlier, with_own}
use Rattle.machine.proofs.MergeLaws.{earlier_by, earlier_none, with_own_refused, with_none}
use Rattle.machine.proofs.plans.earlier.Goals as goal

-- of two refusals the lesser is the one that is tested earlier
number_of : (t : Bool) (r s : Refusal) → refusal_number (cond t s r) ≡ cond (not t) (refusal_number r) (refusal_number s)
number_of true r s = refl
number_of false r s = refl

lesser : (r s : Refusal) {least : Refusal} → least ≡ ord_min cmp-value.it r s → refusal_number least ≡ earlier (refusal_number r) (refusal_number s)
lesser r s e = ap refusal_number e ∙ number_of (is_lt (cmp-value.it s r)) r s ∙ earlier_by _ _ (some_number r) (some_number s) (refusals_in_order r s)

pub returns-in-Err-Err-clause-plan : goal.returns-in-Err-Err-clause-plan
unfolding with_own
returns-in-Err-Err-clause-plan g c = rw (c.in-Err-Err.is-0, c.in-Err-Err.is-1) (ap Err (lesser c.in-Err-Err.own c.in-Err-Err.managers search))

pub returns-in-Err-Err-clause-refusal : goal.returns-in-Err-Err-clause-refusal
returns-in-Err-Err-clause-refusal g c = rw (c.in-Err-Err.is-0, c.in-Err-Err.is-1) (lesser c.in-Err-Err.own c.in-Err-Err.managers search)

pub returns-in-Err-Ok-clause-plan : goal.returns-in-Err-Ok-clause-plan
returns-in-Err-Ok-clause-plan g c = rw (c.in-Err-Ok.is-0, c.in-Err-Ok.is-1) (with_own_refused _ _ (some_number c.in-Err-Ok.own))

pub returns-in-Err-Ok-clause-refusal : goal.returns-in-Err-Ok-clause-refusal
returns-in-Err-Ok-clause-refusal g c = rw (c.in-Err-Ok.is-0, c.in-Err-Ok.is-1) (earlier_none _)

pub returns-in-Ok-default-clause-plan : goal.returns-in-Ok-default-clause-plan
returns-in-Ok-default-clause-plan g c = rw c.in-Ok-default.is-0 (with_none _)

pub returns-in-Ok-default-clause-refusal : goal.returns-in-Ok-default-clause-refusal
unfolding earlier
returns-in-Ok-default-clause-refusal g c = rw c.in-Ok-default.is-0
