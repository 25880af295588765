-- A whole call, refused or accepted.
use mathlib.Core.Path.{◌≡◌, refl, sym, ap, ◌∙◌}
use mathlib.Core.Bool.{false, not, true≢false}
use mathlib.Core.List.{List}
use mathlib.Core.Option.{none}
use Prim.Native.Nat.{ℕ, zero, suc}
use native.Mathlib.Omega.{arith}
use lib.Dec.{eqb, eqb-suc-zero}
use lib.ListN.{length}
use Rattle.board.specs.declared.Board.{Board}
use Rattle.manager.specs.Answers.{Outcome, refused, accepted, is_refusal, number_of}
use Rattle.manager.specs.Calls.{no_ops}
use Rattle.manager.specs.Refusals.{first_refusal}
use Rattle.manager.specs.Tables.{tabulate}
use Rattle.machine.specs.Call.{after_items, item_answer, call_causes, call_buffer, perform}
use Rattle.machine.specs.Refusals.{causes}
use Rattle.machine.specs.State.{State, Single, map, Call, single, map_all, Result, lent_buffer}
use Rattle.machine.specs.Parts.{Effect, steps, ends, nothing, effect_of, outcome_of}
use Rattle.machine.specs.Step.{operate_by, carry_out_by, answer, result_of, accept, step}

-- what a call is where it is accepted
abbrev pub accept_call : Board → State → Call → Result
accept_call b st (single call) = accept b st call
accept_call b st (map_all items answers) =
    result_of (answer (accepted 0 no_ops) none (tabulate (length items) (item_answer b st items))) (after_items b st items (length items))

-- ---- by its refusal

pub by_refusal : (made : Result) (buffer : List ℕ) (st : State) (P : Result → Type 0) (n : ℕ) → (n ≡ 0 → P made)
    → ((k : ℕ) → n ≡ suc k → P (result_of (answer (refused (suc k)) none buffer) st))
    → P (elim n as (λ _. Result) [ zero ↦ made | suc k ↦ result_of (answer (refused (suc k)) none buffer) st ])
by_refusal made buffer st P zero taken left = taken refl
by_refusal made buffer st P (suc n) taken left = left n refl

-- what holds of the accepted call and of every refusal holds of the call
pub perform_cases : (b : Board) (st : State) (call : Call) (P : Result → Type 0) → (first_refusal (call_causes b st call) ≡ 0 → P (accept_call b st call))
    → ((n : ℕ) → first_refusal (call_causes b st call) ≡ suc n → P (result_of (answer (refused (suc n)) none (call_buffer call)) st))
    → P (perform b st call)
unfolding perform step call_causes
perform_cases b st (single call) P = by_refusal (accept b st call) (lent_buffer call) st P (first_refusal (causes b st call))
perform_cases b st (map_all items answers) P =
    by_refusal (accept_call b st (map_all items answers)) answers st P (first_refusal (call_causes b st (map_all items answers)))

module _ (b : Board) (st : State) (call : Call) where
  pub perform_accepted : first_refusal (call_causes b st call) ≡ 0 → accept_call b st call ≡ perform b st call
  perform_accepted e = perform_cases b st call (λ r. accept_call b st call ≡ r) (λ _. refl) (λ n s. absurd (omega arith))

  pub perform_refused : (k : ℕ) → first_refusal (call_causes b st call) ≡ suc k → result_of (answer (refused (suc k)) none (call_buffer call)) st ≡ perform b st call
  perform_refused k e =
      perform_cases b st call (λ r. result_of (answer (refused (suc k)) none (call_buffer call)) st ≡ r) (λ z. absurd (omega arith))
      (λ n s. ap (λ (m : ℕ). result_of (answer (refused m) none (call_buffer call)) st) (sym e ∙ s))

-- an accepted call is no refusal
effect_accepted : (b : Board) (records : List ℕ) (e : Effect) → is_refusal (outcome_of b records e) ≡ false
effect_accepted b records (steps f s) = refl
effect_accepted b records (ends f) = refl
effect_accepted b records nothing = refl

pub accept_accepted : (b : Board) (st : State) (call : Call) → is_refusal (accept_call b st call).answer.outcome ≡ false
unfolding accept
accept_accepted b st (single call) = effect_accepted b st.tables.records (effect_of b st call)
accept_accepted b st (map_all items answers) = refl

-- ---- a single call's number

numbered : (o : Outcome) → is_refusal o ≡ false → is_refusal o ≡ not (eqb (number_of o) 0)
numbered (refused n) e = absurd (true≢false e)
numbered (accepted f ops) e = refl

-- it is refused exactly if its number is not 0
pub refused_number : (b : Board) (st : State) (call : Single) → is_refusal (step b st call).answer.outcome ≡ not (eqb (number_of (step b st call).answer.outcome) 0)
unfolding perform call_causes
refused_number b st call =
    perform_cases b st (single call) (λ r. is_refusal r.answer.outcome ≡ not (eqb (number_of r.answer.outcome) 0))
    (λ _. numbered (accept b st call).answer.outcome (accept_accepted b st (single call)))
    (λ n _. sym (ap not (eqb-suc-zero n)))

-- a map leaves memory and cache as they were
pub map_store : (b : Board) (st : State) (space page frame rights : ℕ) → (step b st (map space page frame rights)).after.store ≡ st.store
unfolding perform accept carry_out_by operate_by
map_store b st space page frame rights = perform_cases b st (single (map space page frame rights)) (λ r. r.after.store ≡ st.store) (λ _. refl) (λ n _. refl)
