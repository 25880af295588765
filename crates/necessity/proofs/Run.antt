-- Calls that lead from one state to another, with the cacheless memory beside it, as a proof puts them together.
use mathlib.Core.Path.{◌≡◌, refl, sym, ap, subst, subst⁻¹, ◌∙◌}
use mathlib.Core.Bool.{Bool, false, true≢false}
use mathlib.Core.List.{List, [], ◌∷◌, ◌++◌}
use Prim.Native.Nat.{ℕ, zero, suc, ◌<◌}
use native.Mathlib.Omega.{arith}
use Rattle.board.specs.declared.Board.{Board}
use Rattle.board.specs.Board.{Regular}
use Rattle.manager.specs.Refusals.{first_refusal}
use Rattle.machine.specs.Call.{call_causes, perform}
use Rattle.machine.specs.Refusals.{causes}
use Rattle.machine.specs.State.{State, Single, Call, single, map_all, Result}
use Rattle.machine.specs.Step.{carry_out, orders_of, accept_after, accept, unless_refused, step}
use Rattle.machine.proofs.CallLaws.{perform_cases, perform_accepted, accept_accepted}
use Rattle.consistency.specs.Cacheless.{Cacheless, after_accepted, after_single, is_refused, fed, use_of}
use Rattle.consistency.specs.Demand3.{state_after, cacheless_after}
use Rattle.consistency.proofs.Invariant.{Invariant}
use Rattle.consistency.proofs.Theorem.{serves}
use Rattle.necessity.specs.Without.{lacking, without_order, SendsBy, Sends}

module _ (b : Board) where
  -- ---- an accepted call

  -- it has no cause of refusal, and answers with its orders
  pub accepted_clear : (st : State) (call : Single) → is_refused (step b st call).answer ≡ false → first_refusal (causes b st call) ≡ 0
  unfolding perform call_causes
  accepted_clear st call =
      perform_cases b st (single call) (λ r. is_refused r.answer ≡ false → first_refusal (causes b st call) ≡ 0) (λ e _. e) (λ n _ t. absurd (true≢false t))

  pub accepted_outcome : (st : State) (call : Single) → is_refused (step b st call).answer ≡ false → (step b st call).answer.outcome ≡ orders_of b st call
  unfolding perform call_causes accept
  accepted_outcome st call =
      perform_cases b st (single call) (λ r. is_refused r.answer ≡ false → r.answer.outcome ≡ orders_of b st call) (λ _ _. refl) (λ n _ t. absurd (true≢false t))

  module _ (st : State) (call : Single) (e : first_refusal (causes b st call) ≡ 0) where
    pub perform_is : perform b st (single call) ≡ accept b st call
    unfolding call_causes
    perform_is = sym (perform_accepted b st (single call) e)

    pub step_is : step b st call ≡ accept b st call
    unfolding perform
    step_is = perform_is

    pub not_refused : is_refused (perform b st (single call)).answer ≡ false
    not_refused = ap (λ (r : Result). is_refused r.answer) perform_is ∙ accept_accepted b st (single call)

    -- and without one of its orders
    pub without_accepted : (j : ℕ) → without_order b j st call ≡ accept_after b st call (carry_out b (lacking j (orders_of b st call)) st.store)
    unfolding without_order
    without_accepted j = rw (e, unless_refused)

    -- what holds of the state that it leaves and the cacheless memory fed it
    pub after_call : (m : Cacheless) (P : State → Cacheless → Type 0) → P (accept b st call).after (after_accepted m call)
        → P (perform b st (single call)).after (fed m (single call) (perform b st (single call)).answer)
    after_call m P p =
        subst⁻¹ (λ (x : Bool). P (perform b st (single call)).after (after_single m call x)) not_refused
        (subst⁻¹ (λ (r : Result). P r.after (after_accepted m call)) perform_is p)

    pub invariant_call : Regular b → (m : Cacheless) → Invariant b st m → Invariant b (accept b st call).after (after_accepted m call)
    invariant_call reg m inv =
        subst (λ (r : Result). Invariant b r.after (after_accepted m call)) perform_is
        (subst (λ (x : Bool). Invariant b (perform b st (single call)).after (after_single m call x)) not_refused (serves b reg st m inv (single call)).1)

  -- ---- a run

  -- calls from a state that lead to one of which P holds
  pub record Run (st : State) (m : Cacheless) (P : State → Cacheless → Type 0) : Type 0 where
    pub calls : List Call
    pub sends : Sends calls
    pub ends : P (state_after (perform b) st calls) (cacheless_after (perform b) st m calls)

  pub stay : (st : State) (m : Cacheless) (P : State → Cacheless → Type 0) → P st m → Run st m P
  stay st m P p = record { calls = []; sends = tt; ends = p }

  append_ends : (st : State) (m : Cacheless) (first second : List Call) (P : State → Cacheless → Type 0)
      → P (state_after (perform b) (state_after (perform b) st first) second) (cacheless_after (perform b) (state_after (perform b) st first) (cacheless_after (perform b) st m first) second)
      → P (state_after (perform b) st (first ++ second)) (cacheless_after (perform b) st m (first ++ second))
  append_ends st m [] second P p = p
  append_ends st m (call ∷ first) second P p =
      append_ends (perform b st call).after (fed m call (perform b st call).answer) first second P p

  append_sends : (first second : List Call) → Sends first → Sends second → Sends (first ++ second)
  append_sends [] second h k = k
  append_sends (single call ∷ first) second h k = (h.0, append_sends first second h.1 k)
  append_sends (map_all items answers ∷ first) second h k = append_sends first second h k

  -- one run after another
  pub then : (st : State) (m : Cacheless) (P Q : State → Cacheless → Type 0) → Run st m P → ((t : State) (n : Cacheless) → P t n → Run t n Q) → Run st m Q
  then st m P Q r next =
      let s = next (state_after (perform b) st r.calls) (cacheless_after (perform b) st m r.calls) r.ends in
      record { calls = r.calls ++ s.calls; sends = append_sends r.calls s.calls r.sends s.sends; ends = append_ends st m r.calls s.calls Q s.ends }

  -- one accepted call
  pub one : (st : State) (m : Cacheless) (P : State → Cacheless → Type 0) (call : Single) → SendsBy (use_of call) → first_refusal (causes b st call) ≡ 0
      → P (accept b st call).after (after_accepted m call) → Run st m P
  one st m P call w e p = record { calls = single call ∷ []; sends = (w, tt); ends = after_call st call e m P p }

  -- runs one after the other, n times
  pub repeated : (P : ℕ → State → Cacheless → Type 0) (n : ℕ) → ((i : ℕ) → i < n → (st : State) (m : Cacheless) → P i st m → Run st m (P (suc i)))
      → (st : State) (m : Cacheless) → P 0 st m → Run st m (P n)
  repeated P zero turn st m p = stay st m (P 0) p
  repeated P (suc n) turn st m p = then st m (P n) (P (suc n)) (repeated P n (λ i h. turn i (omega arith)) st m p) (turn n (omega arith))
