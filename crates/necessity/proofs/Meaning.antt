-- What the claim speaks of means what it says: without an order that it does not have a call is itself, and with all orders no read finds a wrong word.
use mathlib.Core.Path.{◌≡◌, refl, sym, ap, subst, ◌∙◌}
use mathlib.Core.Bool.{Bool, true, false}
use mathlib.Core.List.{List, [], ◌∷◌, ◌++◌, Memᴰ}
use mathlib.Core.Logic.{◌⊎◌, inl, inr, ⊎_elim}
use mathlib.Core.Option.{Option, none, some-injective}
use Prim.Native.Nat.{ℕ, zero, suc, ◌≤◌, ◌<◌}
use native.Mathlib.Omega.{arith}
use borrow.Author.Tests.{ltb-true, ltb-false}
use lib.Dec.{ltb}
use lib.ListN.{length, length-append, get_or}
use Rattle.board.specs.declared.Board.{Board}
use Rattle.board.specs.Board.{Regular, memory_words, cache_words}
use Rattle.page_model.specs.declared.FrameRecord.{FrameRecord}
use Rattle.page_model.specs.declared.Op.{Op}
use Rattle.page_model.specs.declared.Op.TheVariants.{None, Flush, Purge, PurgeInstructions}
use Rattle.page_model.specs.Record.{keeps_rules}
use Rattle.page_model.specs.Step.{operations, op_list, first_two, stepped}
use Rattle.page_model.proofs.Theorems.{ops_complete}
use Rattle.page_model.proofs.Listed.{listed_cases}
use Rattle.mapping.specs.Entry.{capacity}
use Rattle.manager.specs.Answers.{Outcome, refused, accepted, operations_of, first_operation, second_operation}
use Rattle.manager.specs.Refusals.{first_refusal}
use Rattle.manager.specs.Tables.{record_at}
use Rattle.manager.proofs.Laws.{get_d_tabulate}
use Rattle.cache.specs.Store.{Store}
use Rattle.machine.specs.Call.{perform}
use Rattle.machine.specs.Parts.{Effect, steps, ends, nothing, effect_of, outcome_of}
use Rattle.machine.specs.Refusals.{causes}
use Rattle.machine.specs.State.{State, Single, Call, single, map_all, Answer, Result, lent_buffer}
use Rattle.machine.specs.Step.{answer, result_of, carry_out_by, operate_by, operate, carry_out, orders_of, accept_after, accept, step}
use Rattle.consistency.specs.Cacheless.{Cacheless, start_cacheless, is_refused, Use, no_use, sets_frame, loads, stores, loads_page, sends_words, takes_word, brings_word, use_of, fed}
use Rattle.consistency.specs.Demand3.{FindsBy, Finds, AllFind, start_state, state_after, cacheless_after}
use Rattle.consistency.proofs.Theorem.{demand3}
use Rattle.necessity.specs.Action.{Action, step_of, call_of}
use Rattle.necessity.specs.Necessity.{Needed, WithoutNone, NothingWrong, LeavesOutOne, WrongIsWrong, SameStart, OnlyOrders}
use Rattle.necessity.specs.Without.{orders_in, leave_out, lacking, without_order, Differ, WrongBy, Wrong, FindsWrong, WrongWithout}
use Rattle.necessity.proofs.Run.{accepted_clear, accepted_outcome, without_accepted}

-- ---- no order left out

-- an operation is none, or its list has one
one_or_none : (a : Op) → (a ≡ None) ⊎ (length (op_list a) ≡ 1)
one_or_none None = inl refl
one_or_none (Flush c) = inr refl
one_or_none (Purge c) = inr refl
one_or_none (PurgeInstructions c) = inr refl

-- two operations, the second none where the first is: if they are fewer than two, the second is none; if there are none, the first too
module _ (a z : Op) (gap : a ≡ None → z ≡ None) where
  second_none : length (op_list a ++ op_list z) ≤ 1 → z ≡ None
  second_none l =
      let both = length-append (op_list a) (op_list z) in
      ⊎_elim gap (λ one. ⊎_elim (λ e. e) (λ other. absurd (omega arith)) (one_or_none z)) (one_or_none a)

  first_none : length (op_list a ++ op_list z) ≤ 0 → a ≡ None
  first_none l = let both = length-append (op_list a) (op_list z) in ⊎_elim (λ e. e) (λ one. absurd (omega arith)) (one_or_none a)

  leave_none : (j : ℕ) → length (op_list a ++ op_list z) ≤ j → leave_out j (record { first = a; second = z }) ≡ record { first = a; second = z }
  leave_none zero l = let e = second_none (omega arith) in let d = first_none l in λ i. record { first = (e ∙ sym d) i; second = sym e i }
  leave_none (suc zero) l = let e = second_none l in λ i. record { first = a; second = sym e i }
  leave_none (suc (suc j)) l = refl

-- a step's orders have no gap
two_gap : (ops : List Op) → ((o : Op) → Memᴰ o ops → o ≡ None → ⊥) → (first_two ops).first ≡ None → (first_two ops).second ≡ None
two_gap [] h e = refl
two_gap (a ∷ []) h e = refl
two_gap (a ∷ (z ∷ ops)) h e = absurd (h a (Memᴰ.head refl) e)

lacking_none : (b : Board) (records : List ℕ) (x : Effect) (j : ℕ)
    → let o = (operations_of (outcome_of b records x)).ops in length (op_list o.first ++ op_list o.second) ≤ j
    → lacking j (outcome_of b records x) ≡ outcome_of b records x
lacking_none b records (steps f s) j l = ap (accepted f) (leave_none _ _ (two_gap (operations b.colours s (record_at records f)) listed) j l)
  where
    listed : (o : Op) → Memᴰ o (operations b.colours s (record_at records f)) → o ≡ None → ⊥
    listed o m e =
        listed_cases b.colours s (record_at records f) (λ k h p q. let z : ◌≡◌ {A = ℕ} 0 1 = cc in omega arith) (λ k h p q. let z : ◌≡◌ {A = ℕ} 0 1 = cc in omega arith)
        (λ k h p q. let z : ◌≡◌ {A = ℕ} 0 1 = cc in omega arith) m
lacking_none b records (ends f) j l = ap (accepted 0) (leave_none None None (λ e. e) j l)
lacking_none b records nothing j l = ap (accepted 0) (leave_none None None (λ e. e) j l)

pub without_none : WithoutNone
unfolding without_order step accept
without_none b st call j = go (first_refusal (causes b st call))
  where
    go : (n : ℕ)
        → let r : Result = (elim n as (λ _. Result) [ zero ↦ accept_after b st call (carry_out b (orders_of b st call) st.store) | suc k ↦ result_of (answer (refused (suc k)) none (lent_buffer call)) st ]) in
        let o = (operations_of r.answer.outcome).ops in
        length (op_list o.first ++ op_list o.second) ≤ j
        → (elim n as (λ _. Result) [ zero ↦ accept_after b st call (carry_out b (lacking j (orders_of b st call)) st.store) | suc k ↦ result_of (answer (refused (suc k)) none (lent_buffer call)) st ]) ≡ r
    go zero l = ap (λ (o : Outcome). accept_after b st call (carry_out b o st.store)) (lacking_none b st.tables.records (effect_of b st call) j l)
    go (suc n) l = refl

-- ---- no wrong word

differ_same : (found due : Option ℕ) → Differ found due → found ≡ due → ⊥
differ_same found due d e = d.4 (some-injective _ _ (sym d.2 ∙ e ∙ d.3))

wrong_finds : (b : Board) (m : Cacheless) (u : Use) (a : Answer) → WrongBy b m u a → FindsBy b m u a → ⊥
wrong_finds b m no_use a w h = w
wrong_finds b m (sets_frame space page frame) a w h = w
wrong_finds b m (loads space page offset) a w h = differ_same _ _ w h
wrong_finds b m (stores space page offset word) a w h = w
wrong_finds b m (loads_page frame) a w h = w.2 (ap (λ (l : List ℕ). get_or l w.0 0) h ∙ get_d_tabulate b.page (m.word frame) w.0 w.1)
wrong_finds b m (sends_words frame first buffer) a w h = w
wrong_finds b m (takes_word frame offset) a w h = differ_same _ _ w h
wrong_finds b m (brings_word frame offset word) a w h = w

call_finds : (b : Board) (m : Cacheless) (call : Call) (a : Answer) → Wrong b m call a → Finds b m call a → ⊥
call_finds b m (single call) a w h = wrong_finds b m (use_of call) a w h
call_finds b m (map_all items answers) a w h = w

finds_right : (b : Board) (st : State) (m : Cacheless) (calls : List Call) → AllFind b (perform b) st m calls → FindsWrong b st m calls → ⊥
finds_right b st m [] h w = w
finds_right b st m (call ∷ calls) h (inl w) = call_finds b m call (perform b st call).answer w.1 (h.0 w.0)
finds_right b st m (call ∷ calls) h (inr w) = finds_right b (perform b st call).after (fed m call (perform b st call).answer) calls h.1 w

pub nothing_wrong : NothingWrong
nothing_wrong b reg memory words protections full wide long calls =
    finds_right b _ _ calls (demand3 b reg memory words protections calls full wide long).finds

-- ---- one order left out

out_first : (b : Board) (o : Outcome) (s : Store) → carry_out b (lacking 0 o) s ≡ operate b (second_operation o) s
unfolding carry_out_by operate_by
out_first b (refused n) s = refl
out_first b (accepted f ops) s = refl

out_second : (b : Board) (o : Outcome) (s : Store) → carry_out b (lacking 1 o) s ≡ operate b (first_operation o) s
unfolding carry_out_by operate_by
out_second b (refused n) s = refl
out_second b (accepted f ops) s = refl

pub leaves_out_one : LeavesOutOne
leaves_out_one b st call taken =
    let clear = accepted_clear b st call taken in
    let o = sym (accepted_outcome b st call taken) in (
      without_accepted b st call clear 0
          ∙ ap (accept_after b st call) (out_first b (orders_of b st call) st.store ∙ ap (λ (x : Outcome). operate b (second_operation x) st.store) o),
      without_accepted b st call clear 1
          ∙ ap (accept_after b st call) (out_second b (orders_of b st call) st.store ∙ ap (λ (x : Outcome). operate b (first_operation x) st.store) o),
    )

pub wrong_is_wrong : WrongIsWrong
wrong_is_wrong b st m calls w h = finds_right b st m calls h w

pub same_start : SameStart
same_start b h memory words protections calls full wide long = h memory words protections full wide long calls

-- ---- only where there is an order

-- what is found after some calls is found by them and the rest
found_after : (b : Board) (st : State) (m : Cacheless) (before calls : List Call)
    → FindsWrong b (state_after (perform b) st before) (cacheless_after (perform b) st m before) calls → FindsWrong b st m (before ++ calls)
found_after b st m [] calls w = w
found_after b st m (call ∷ before) calls w = inr (found_after b (perform b st call).after (fed m call (perform b st call).answer) before calls w)

whole_wrong : (b : Board) (st : State) (m : Cacheless) (call : Single) (j : ℕ) (later : List Call) → without_order b j st call ≡ step b st call → WrongWithout b j st m call later
    → FindsWrong b st m (single call ∷ later)
unfolding perform
whole_wrong b st m call j later e w =
    subst (λ (r : Result). ((is_refused r.answer ≡ false) × Wrong b m (single call) r.answer) ⊎ FindsWrong b r.after (fed m (single call) r.answer) later) e w

module _ (b : Board) (reg : Regular b) (memory words protections : List ℕ) (full : length memory ≡ memory_words b) (wide : length words ≡ cache_words b)
    (long : length protections ≡ capacity) (f : ℕ) (r : FrameRecord) (a : Action) (j : ℕ)
    (n : Needed b (start_state b memory words protections) (start_cacheless b memory) f r a j) where
  abbrev from : State
  from = start_state b memory words protections

  abbrev ops : List Op
  ops = operations b.colours (step_of b a) r

  abbrev at : State
  at = state_after (perform b) from n.before

  abbrev the_call : Single
  the_call = call_of f n.space n.page a

  -- the call is not the same without that order
  pub not_the_same : without_order b j at the_call ≡ step b at the_call → ⊥
  not_the_same same =
      nothing_wrong b reg memory words protections full wide long (n.before ++ (single the_call ∷ n.later))
      (found_after b from (start_cacheless b memory) n.before (single the_call ∷ n.later)
      (whole_wrong b at (cacheless_after (perform b) from (start_cacheless b memory) n.before) the_call j n.later same n.wrong))

  orders_are : keeps_rules b.colours r ≡ true → orders_in (step b at the_call).answer ≡ ops
  orders_are rules =
      ap (λ (o : Outcome). op_list (operations_of o).ops.first ++ op_list (operations_of o).ops.second)
      (accepted_outcome b at the_call n.accepted ∙ ap (outcome_of b at.tables.records) n.makes
      ∙ ap (λ (x : FrameRecord). accepted f (stepped b.colours (step_of b a) x).ops) n.reached)
      ∙ ops_complete b.colours (step_of b a) r rules

  only : keeps_rules b.colours r ≡ true → (t : Bool) → ltb j (length ops) ≡ t → j < length ops
  only rules true e = ltb-true j (length ops) e
  only rules false e =
      let out = ltb-false j (length ops) e in
      absurd (not_the_same (without_none b at the_call j (subst (λ (l : List Op). length l ≤ j) (sym (orders_are rules)) (omega arith))))

pub only_orders : OnlyOrders
only_orders b reg memory words protections full wide long f r a j rules n =
    only b reg memory words protections full wide long f r a j n rules (ltb j (length (operations b.colours (step_of b a) r))) refl
