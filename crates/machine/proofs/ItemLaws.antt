-- A list of mappings: what is lent is tested once, the items are listed at once, and that is mapping them singly.
use mathlib.Core.Path.{◌≡◌, refl, sym, ap, ◌∙◌}
use mathlib.Core.Bool.{Bool, true, not, ◌&&◌, and-true}
use mathlib.Core.List.{List, [], ◌∷◌}
use mathlib.Core.Option.{none}
use Prim.Native.Nat.{ℕ, zero, suc}
use borrow.Author.Tests.{not-false}
use lib.Dec.{eqb}
use lib.ListN.{length}
use Rattle.bits.proofs.Tautology.{and_left, and_right}
use Rattle.board.specs.declared.Board.{Board}
use Rattle.mapping.specs.declared.Mapping.{Mapping}
use Rattle.mapping.specs.Entry.{zero_mapping}
use Rattle.manager.specs.Answers.{refused, accepted, number_of}
use Rattle.manager.specs.Scaffold.Inserted.{mapping_refusal, listed_all, batch_made}
use Rattle.manager.specs.Batch.{BatchResult, batch_result, item_at, whole_result}
use Rattle.manager.specs.Calls.{no_ops}
use Rattle.manager.specs.Refusals.{◌if◌, first_refusal, batch_cause}
use Rattle.manager.specs.Tables.{Tables, lengths_right, rules_kept, tabulate}
use Rattle.manager.specs.Theorems.{WellFormedTables}
use Rattle.manager.proofs.CauseLaws.{cleared_in}
use Rattle.manager.proofs.Singly.{refusal_by, taken_by, singly, lengths_refused, refusal_by_lem}
use Rattle.cache.specs.Store.{Store}
use Rattle.cache.specs.Tag.{tags_keep_rules}
use Rattle.machine.specs.Call.{map_of, after_items, item_answer, call_causes, perform}
use Rattle.machine.specs.Refusals.{store_lengths, lent_causes, causes}
use Rattle.machine.specs.State.{State, state, single, map_all, Result}
use Rattle.machine.specs.Step.{answer, result_of, accept, step}
use Rattle.machine.proofs.CallLaws.{perform_cases, map_store}

-- ---- one item

module _ (b : Board) (st : State) (m : Mapping) where
  item_number : number_of (step b st (map_of m)).answer.outcome ≡ first_refusal (causes b st (map_of m))
  unfolding perform call_causes accept
  item_number = perform_cases b st (single (map_of m)) (λ r. number_of r.answer.outcome ≡ first_refusal (causes b st (map_of m))) (λ e. sym e) (λ n e. sym e)

  item_tables : (step b st (map_of m)).after.tables ≡ taken_by b (first_refusal (causes b st (map_of m))) st.tables m
  unfolding perform call_causes accept
  item_tables =
      perform_cases b st (single (map_of m)) (λ r. r.after.tables ≡ taken_by b (first_refusal (causes b st (map_of m))) st.tables m)
      (λ e. ap (λ (n : ℕ). taken_by b n st.tables m) (sym e)) (λ n e. ap (λ (n : ℕ). taken_by b n st.tables m) (sym e))

-- ---- the items in turn

module _ (b : Board) (st : State) (items : List Mapping) where
  -- the refusal in what is lent, beside this store: that of any map
  abbrev lent_by : Tables → ℕ
  lent_by t = first_refusal (lent_causes b (state t st.store) (map_of zero_mapping))

  -- the tables after k items
  abbrev tables_at : ℕ → Tables
  tables_at k = (after_items b st items k).tables

  -- the store stays
  items_store : (k : ℕ) → (after_items b st items k).store ≡ st.store
  unfolding after_items
  items_store zero = refl
  items_store (suc k) = let m = item_at items k in map_store b (after_items b st items k) m.space m.page m.frame m.rights ∙ items_store k

  items_state : (k : ℕ) → after_items b st items k ≡ state (tables_at k) st.store
  items_state k = ap (state (tables_at k)) (items_store k)

  -- item k's refusal
  items_refusal : (k : ℕ) → first_refusal (causes b (after_items b st items k) (map_of (item_at items k)))
      ≡ refusal_by (lent_by (tables_at k)) (mapping_refusal b (tables_at k).list (item_at items k))
  unfolding causes lent_causes
  items_refusal k =
      ap (λ (x : State). first_refusal (causes b x (map_of (item_at items k)))) (items_state k)
      ∙ refusal_by_lem (lent_causes b (state (tables_at k) st.store) (map_of zero_mapping)) b (tables_at k).list (item_at items k) refl

  items_answered : (k : ℕ) → item_answer b st items k ≡ refusal_by (lent_by (tables_at k)) (mapping_refusal b (tables_at k).list (item_at items k))
  unfolding item_answer
  items_answered k = item_number b (after_items b st items k) (item_at items k) ∙ items_refusal k

  items_next : (k : ℕ) → tables_at (suc k) ≡ taken_by b (item_answer b st items k) (tables_at k) (item_at items k)
  unfolding after_items
  items_next k =
      item_tables b (after_items b st items k) (item_at items k)
      ∙ ap (λ (n : ℕ). taken_by b n (tables_at k) (item_at items k)) (items_refusal k ∙ sym (items_answered k))

  -- where what is lent is refused by nothing, the tables have their lengths and keep their rules, and any others that do are refused by nothing
  lent_parts : (t : Tables) → lent_by t ≡ 0 → WellFormedTables b t × (store_lengths b st.store ≡ true) × (tags_keep_rules b st.store.tags ≡ true)
  unfolding lent_causes
  lent_parts t e =
      let cs = lent_causes b (state t st.store) (map_of zero_mapping) in
      let lengths = and_left (lengths_right b t && store_lengths b st.store) true (not-false _ (cleared_in cs 1 refl e)) in
      let rules = not-false (rules_kept b t && tags_keep_rules b st.store.tags) (cleared_in cs 2 refl e) in (
        (and_left (lengths_right b t) _ lengths, and_left (rules_kept b t) _ rules),
        and_right (lengths_right b t) _ lengths,
        and_right (rules_kept b t) _ rules,
      )

  lent_again : (t u : Tables) → lent_by t ≡ 0 → WellFormedTables b u → lent_by u ≡ 0
  unfolding lent_causes first_refusal
  lent_again t u e w = let p = lent_parts t e in rw (w.0, w.1, p.1, p.2)

-- ---- the call

-- what is answered and left, beside a store
abbrev pub beside : Store → BatchResult → Result
beside s r = result_of (answer r.answer none r.answers) (state r.after s)

module _ (b : Board) (st : State) (items : List Mapping) (answers : List ℕ) where
  listed_items : listed_all b (lent_by b st items st.tables) st.tables items
      ≡ batch_result (accepted 0 no_ops) (tabulate (length items) (item_answer b st items)) (after_items b st items (length items)).tables
  unfolding after_items
  listed_items =
      singly b (lent_by b st items) items (tables_at b st items) (item_answer b st items) (items_answered b st items) (items_next b st items)
      (λ t e. (lent_parts b st items t e).0) (lent_again b st items)

  pub map_all_performed : beside st.store (batch_made b (lent_by b st items st.tables) st.tables items answers) ≡ perform b st (map_all items answers)
  unfolding batch_made perform lent_causes
  map_all_performed =
      ap (λ (x : Bool). beside st.store (whole_result (first_refusal ((1 if x) ∷ batch_cause (length items) (length answers) ∷ [])) answers st.tables all)) whole
      ∙ go (first_refusal ((1 if not (lengths_right b st.tables && store_lengths b st.store)) ∷ batch_cause (length items) (length answers) ∷ []))
    where
      all : BatchResult
      all = listed_all b (lent_by b st items st.tables) st.tables items

      whole : eqb (lent_by b st items st.tables) 1 ≡ not (lengths_right b st.tables && store_lengths b st.store)
      whole =
          lengths_refused (lengths_right b st.tables && store_lengths b st.store && true) (rules_kept b st.tables && tags_keep_rules b st.store.tags)
          ∙ ap not (and-true (lengths_right b st.tables && store_lengths b st.store))

      go : (n : ℕ) → beside st.store (whole_result n answers st.tables all)
          ≡ (elim n as (λ x. Result) [
            | zero ↦ result_of (answer (accepted 0 no_ops) none (tabulate (length items) (item_answer b st items))) (after_items b st items (length items))
            | suc n ↦ result_of (answer (refused (suc n)) none answers) st
          ])
      go zero = ap (beside st.store) listed_items ∙ ap (result_of _) (sym (items_state b st items (length items)))
      go (suc n) = refl
