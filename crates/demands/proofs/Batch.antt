-- The manager's list of mappings agrees with the machine's, since each item does; and a kernel's own list is that list.
use mathlib.Core.Path.{◌≡◌, refl, sym, ap, subst⁻¹, fun_ext, ◌∙◌}
use mathlib.Core.Bool.{Bool, ◌&&◌, and-true}
use mathlib.Core.List.{List}
use Prim.Native.Nat.{ℕ, zero, suc, ◌≤◌}
use native.Mathlib.Decide.{dec_le}
use native.Mathlib.Omega.{arith}
use lib.ListN.{length}
use Rattle.board.specs.declared.Board.{Board}
use Rattle.mapping.specs.declared.Mapping.{Mapping}
use Rattle.mapping.specs.Batch.{batch_size, batch_of, items_of}
use Rattle.mapping.proofs.Laws.{batch_of_items}
use Rattle.manager.specs.Answers.{accepted, number_of}
use Rattle.manager.specs.Batch as manager
use Rattle.manager.specs.Batch.{item_at, map_item, tables_after, BatchResult, batch_result, map_all_causes, whole_result, map_all_call}
use Rattle.manager.specs.Calls.{Result, call_result, no_ops}
use Rattle.manager.specs.Refusals.{first_refusal}
use Rattle.manager.specs.Tables.{Tables, lengths_right, tabulate}
use Rattle.manager.proofs.LentItems.{long_refused, lent_refusal, lent_items}
use Rattle.cache.specs.Store.{WellFormedStore}
use Rattle.machine.specs.Call.{map_of, after_items, item_answer, call_causes, perform}
use Rattle.machine.specs.Refusals.{store_lengths}
use Rattle.machine.specs.State.{State, single, map_all}
use Rattle.machine.specs.State as state_of
use Rattle.machine.specs.Step.{step}
use Rattle.machine.proofs.CallLaws.{perform_cases, perform_refused, map_store}
use Rattle.machine.proofs.StoreLaws.{lengths_right_lem}
use Rattle.demands.specs.Manager.{BatchAgrees, ManagerAgrees, LentList, LentListPerformed}
use Rattle.demands.proofs.Manager.{single_agrees}

-- what an accepted list gives
abbrev made : Board → Tables → List Mapping → BatchResult
made b t items = batch_result (accepted 0 no_ops) (tabulate (length items) (manager.answer_at b t items)) (tables_after b t items (length items))

module _ (b : Board) (st : State) (wf : WellFormedStore b st.store) (items : List Mapping) where
  -- ---- the items in turn

  -- the tables go along with the machine's, whose memory and cache stay
  abbrev InStep : ℕ → Type 0
  InStep k = (tables_after b st.tables items k ≡ (after_items b st items k).tables) × ((after_items b st items k).store ≡ st.store)

  item_agrees : (k : ℕ) → InStep k
      → map_item b (tables_after b st.tables items k) (item_at items k)
      ≡ call_result (step b (after_items b st items k) (map_of (item_at items k))).answer.outcome (step b (after_items b st items k) (map_of (item_at items k))).after.tables
  item_agrees k p =
      ap (λ (t : Tables). map_item b t (item_at items k)) p.0
      ∙ single_agrees b (after_items b st items k) (map_of (item_at items k)) (subst⁻¹ (WellFormedStore b) p.1 wf)

  in_step : (k : ℕ) → InStep k
  unfolding tables_after after_items
  in_step zero = (refl, refl)
  in_step (suc k) =
      let p = in_step k in
      let m = item_at items k in
      (ap (λ (r : Result). r.after) (item_agrees k p), map_store b (after_items b st items k) m.space m.page m.frame m.rights ∙ p.1)

  answers_agree : tabulate (length items) (manager.answer_at b st.tables items) ≡ tabulate (length items) (item_answer b st items)
  unfolding manager.answer_at item_answer
  answers_agree = ap (tabulate (length items)) (fun_ext (λ k. ap (λ (r : Result). number_of r.answer) (item_agrees k (in_step k))))

  -- ---- the whole

  module _ (answers : List ℕ) where
    refusal_agrees : first_refusal (map_all_causes b st.tables items answers) ≡ first_refusal (call_causes b st (map_all items answers))
    unfolding first_refusal call_causes
    refusal_agrees = rw (lengths_right_lem b st.store wf.memory_length wf.words_length wf.tags_length, and-true)

    pub batch_agrees : BatchAgrees b st (map_all items answers) (map_all_call b st.tables items answers)
    unfolding map_all_call
    batch_agrees =
        perform_cases b st (map_all items answers)
        (λ (r : state_of.Result). map_all_call b st.tables items answers ≡ batch_result r.answer.outcome r.answer.buffer r.after.tables)
        (λ e. ap (λ (n : ℕ). whole_result n answers st.tables (made b st.tables items)) (refusal_agrees ∙ e) ∙ (λ i. batch_result (accepted 0 no_ops) (answers_agree i) ((in_step (length items)).0 i)))
        (λ n e. ap (λ (n : ℕ). whole_result n answers st.tables (made b st.tables items)) (refusal_agrees ∙ e))

pub manager_agrees : (b : Board) → ManagerAgrees b
manager_agrees b st (single call) wf = single_agrees b st call wf
manager_agrees b st (map_all items answers) wf = batch_agrees b st wf items answers

-- ---- a kernel's own list

pub lent_list : LentList
lent_list = lent_items

pub lent_list_performed : LentListPerformed
unfolding call_causes
lent_list_performed b st items answers = go (dec_le (length items) batch_size)
  where
    lengths : Bool
    lengths = lengths_right b st.tables && store_lengths b st.store

    go : Dec (length items ≤ batch_size) → perform b st (map_all (items_of (batch_of items)) answers) ≡ perform b st (map_all items answers)
    go (yes fits) = ap (λ (xs : List Mapping). perform b st (map_all xs answers)) (batch_of_items items fits)
    go (no long) =
        perform_cases b st (map_all items answers) (λ r. perform b st (map_all (items_of (batch_of items)) answers) ≡ r)
        (λ e. absurd (long_refused lengths items answers (omega arith) e))
        (λ n e. sym (perform_refused b st (map_all (items_of (batch_of items)) answers) n (lent_refusal lengths items answers ∙ e)))
