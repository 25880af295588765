-- Demand 1: every call's causes stand in the order of the refusals, so its refusal is the first that applies.
use mathlib.Core.Path.{◌≡◌, refl, sym, subst}
use mathlib.Core.Bool.{true, false, true≢false}
use mathlib.Core.Logic.{◌⊎◌, inl, inr}
use Prim.Native.Nat.{ℕ, zero, suc}
use native.Mathlib.Omega.{arith}
use Rattle.board.specs.declared.Board.{Board}
use Rattle.manager.specs.Refusals.{first_refusal, place_in, refusal_place, in_order}
use Rattle.manager.specs.Theorems.{First}
use Rattle.manager.proofs.Theorems.{first_refusal_lem}
use Rattle.machine.specs.Call.{call_causes, perform}
use Rattle.machine.specs.State.{State, Call, single, map_all, Result}
use Rattle.machine.proofs.StepLaws as machine_laws
use Rattle.machine.proofs.CallLaws.{perform_cases, perform_accepted, perform_refused, accept_accepted}
use Rattle.consistency.specs.Cacheless.{is_refused}
use Rattle.demands.specs.Demands.{Clear, NoCause, FirstCause, Demand1}

module _ (b : Board) (st : State) where
  causes_in_order : (call : Call) → in_order 0 (call_causes b st call) ≡ true
  unfolding call_causes in_order refusal_place place_in
  causes_in_order (single call) = machine_laws.causes_in_order b st call
  causes_in_order (map_all items answers) = refl

  pub no_cause : (call : Call) → first_refusal (call_causes b st call) ≡ 0 → Clear (call_causes b st call)
  no_cause call = (first_refusal_lem (call_causes b st call) (causes_in_order call)).0

  -- a refusal is by the first cause
  pub first_cause : (call : Call) (n : ℕ) → first_refusal (call_causes b st call) ≡ suc n → First (call_causes b st call) (suc n)
  first_cause call n e =
      subst (First (call_causes b st call)) e ((first_refusal_lem (call_causes b st call) (causes_in_order call)).1 (λ z. omega arith))

  -- an accepted call is refused by no cause
  pub accepted_clear : (call : Call) → is_refused (perform b st call).answer ≡ false → first_refusal (call_causes b st call) ≡ 0
  accepted_clear call =
      perform_cases b st call (λ (r : Result). is_refused r.answer ≡ false → first_refusal (call_causes b st call) ≡ 0) (λ e _. e) (λ n _ a. absurd (true≢false a))

pub demand1 : (b : Board) → Demand1 b
demand1 b st call = go (first_refusal (call_causes b st call)) refl
  where
    go : (n : ℕ) → first_refusal (call_causes b st call) ≡ n → NoCause b st call ⊎ ((n : ℕ) × FirstCause b st call n)
    go zero e =
        inl (
          no_cause b st call e,
          subst (λ (r : Result). is_refused r.answer ≡ false) (perform_accepted b st call e) (accept_accepted b st call),
        )
    go (suc n) e = inr (suc n, (first_cause b st call n e, sym (perform_refused b st call n e)))
