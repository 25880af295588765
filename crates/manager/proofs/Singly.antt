-- Listing the items of a list at once is mapping them singly: over any sequence of tables of which each is what mapping the next item leaves,
-- whatever else is lent beside the tables.
use mathlib.Core.Path.{◌≡◌, refl, sym, ap, ap₂, subst, subst⁻¹, ◌∙◌}
use mathlib.Core.Bool.{Bool, true, false, not, cond}
use mathlib.Core.List.{List, [], ◌∷◌, ◌++◌}
use Prim.Native.Nat.{ℕ, zero, suc, ◌≤◌}
use native.Mathlib.Omega.{arith}
use lib.Dec.{eqb}
use lib.ListN.{length}
use Rattle.board.specs.declared.Board.{Board}
use Rattle.mapping.specs.declared.Mapping.{Mapping}
use Rattle.mapping.specs.declared.MappingList.{MappingList}
use Rattle.mapping.specs.Change.{insert}
use Rattle.mapping.specs.Lookup.{place_for}
use Rattle.mapping.proofs.Laws.{inserted_count}
use Rattle.manager.specs.Answers.{accepted, number_of}
use Rattle.manager.specs.Scaffold.Inserted.{mapping_refusal, listed_by, list_after_items, refusal_at, relisted, listed_all, batch_made}
use Rattle.manager.specs.Batch.{item_at, BatchResult, batch_result, whole_result, tables_after, answer_at, map_all_call}
use Rattle.manager.specs.Calls.{no_ops, commit_map, planned, list_result}
use Rattle.manager.specs.Refusals.{Cause, ◌if◌, first_refusal, table_causes, map_causes, mapping_causes, batch_cause}
use Rattle.manager.specs.Tables.{Tables, tables, lengths_right, rules_kept, protection_at, tabulate, refill}
use Rattle.manager.specs.Theorems.{WellFormedTables}
use Rattle.manager.proofs.AcceptedLaws.{lengths_known, map_accepted}
use Rattle.manager.proofs.BatchLaws.{relisted_same, relisted_more}
use Rattle.manager.proofs.CauseLaws.{list_rules, tables_clear, numbered, refusal_prefix, refusal_rest}
use Rattle.manager.proofs.KeepsRules.{map_keeps}
use Rattle.manager.proofs.Laws.{length_tabulate}

-- the refusal in what is lent, or else another
abbrev pub refusal_by : ℕ → ℕ → ℕ
refusal_by zero n = n
refusal_by (suc lent) n = suc lent

-- the tables with an item, unless that is refused
abbrev pub taken_by : Board → ℕ → Tables → Mapping → Tables
taken_by b zero t m = commit_map b t (place_for t.list m.space m.page) m
taken_by b (suc n) t m = t

-- ---- the tables with another list

module _ (b : Board) (t : Tables) (l : MappingList) where
  relisted_list : (relisted b t l).list ≡ l
  unfolding refill
  relisted_list = go (eqb l.count t.list.count)
    where
      go : (x : Bool) → (cond x (tables l t.records t.protections) (refill b (tables l t.records t.protections))).list ≡ l
      go true = refl
      go false = refl

  relisted_records : (relisted b t l).records ≡ t.records
  unfolding refill
  relisted_records = go (eqb l.count t.list.count)
    where
      go : (x : Bool) → (cond x (tables l t.records t.protections) (refill b (tables l t.records t.protections))).records ≡ t.records
      go true = refl
      go false = refl

  relisted_length : length (relisted b t l).protections ≡ length t.protections
  unfolding refill
  relisted_length = go (eqb l.count t.list.count)
    where
      go : (x : Bool)
          → length (cond x (tables l t.records t.protections) (refill b (tables l t.records t.protections))).protections ≡ length t.protections
      go true = refl
      go false = length_tabulate _ _

-- what a mapping that the list does not refuse leaves, where the tables keep their rules
module _ (b : Board) (t : Tables) (w : WellFormedTables b t) (m : Mapping) (e : mapping_refusal b t.list m ≡ 0) where
  unrefused : first_refusal (map_causes b t m.space m.page m.frame m.rights) ≡ 0
  unfolding map_causes mapping_refusal first_refusal
  unrefused = rw (w.0, w.1) e

  pub one_keeps : WellFormedTables b (commit_map b t (place_for t.list m.space m.page) m)
  one_keeps = let a = map_accepted b t m unrefused in map_keeps b t w m a.1 a.2 a.3

  pub one_count : (insert t.list m).count ≡ suc t.list.count
  one_count =
      let n = inserted_count t.list m (lengths_known b t w.0).0 (map_accepted b t m unrefused).3 b (list_rules b t w.1) in
      omega arith

-- ---- the sequence

-- `lent` is the refusal in what is lent with the tables: none tells that they keep their rules, and hangs on nothing else of them
module _ (b : Board) (lent : Tables → ℕ) (items : List Mapping) (after : ℕ → Tables) (answer : ℕ → ℕ)
    (answered : (k : ℕ) → answer k ≡ refusal_by (lent (after k)) (mapping_refusal b (after k).list (item_at items k)))
    (next : (k : ℕ) → after (suc k) ≡ taken_by b (answer k) (after k) (item_at items k)) where
  -- where there is one, each item has it, and nothing changes
  module _ (n : ℕ) (broken : lent (after 0) ≡ suc n) where
    answer_by : (k : ℕ) → after k ≡ after 0 → answer k ≡ suc n
    answer_by k e = answered k ∙ ap (λ (x : ℕ). refusal_by x (mapping_refusal b (after k).list (item_at items k))) (ap lent e ∙ broken)

    pub broken_after : (k : ℕ) → after k ≡ after 0
    broken_after zero = refl
    broken_after (suc k) =
        let e = broken_after k in
        next k ∙ ap (λ (x : ℕ). taken_by b x (after k) (item_at items k)) (answer_by k e) ∙ e

    pub broken_answer : (k : ℕ) → answer k ≡ suc n
    broken_answer k = answer_by k (broken_after k)

  -- where there is none, the items are listed
  module _ (kept : (t : Tables) → lent t ≡ 0 → WellFormedTables b t) (again : (t u : Tables) → lent t ≡ 0 → WellFormedTables b u → lent u ≡ 0) where
    module _ (clear : lent (after 0) ≡ 0) where
      -- after k items
      pub record Listed (k : ℕ) : Type 0 where
        pub tables_are : after k ≡ relisted b (after 0) (list_after_items b (after 0).list items k)
        pub still_clear : lent (after k) ≡ 0
        pub no_fewer : (after 0).list.count ≤ (list_after_items b (after 0).list items k).count

      module _ (k : ℕ) (h : Listed k) where
        abbrev list : MappingList
        list = list_after_items b (after 0).list items k

        abbrev item : Mapping
        item = item_at items k

        list_is : (after k).list ≡ list
        list_is = ap (λ (t : Tables). t.list) h.tables_are ∙ relisted_list b (after 0) list

        records_are : (after k).records ≡ (after 0).records
        records_are = ap (λ (t : Tables). t.records) h.tables_are ∙ relisted_records b (after 0) list

        protections_long : length (after k).protections ≡ length (after 0).protections
        protections_long = ap (λ (t : Tables). length t.protections) h.tables_are ∙ relisted_length b (after 0) list

        refusal_is : answer k ≡ mapping_refusal b (after k).list item
        refusal_is = answered k ∙ ap (λ (x : ℕ). refusal_by x (mapping_refusal b (after k).list item)) h.still_clear

        pub answer_is : answer k ≡ refusal_at b (after 0).list items k
        unfolding refusal_at
        answer_is = refusal_is ∙ ap (λ (l : MappingList). mapping_refusal b l item) list_is

        more : (n : ℕ) → answer k ≡ n → Listed (suc k)
        unfolding list_after_items refusal_at refill
        more zero e =
            let taken = next k ∙ ap (λ (x : ℕ). taken_by b x (after k) item) e in
            let w = kept (after k) h.still_clear in
            let free = sym refusal_is ∙ e in
            let list-next : insert list item ≡ list_after_items b (after 0).list items (suc k) = ap (λ (x : ℕ). listed_by x list item) (sym e ∙ answer_is) in
            let count = subst (λ (l : MappingList). (insert l item).count ≡ suc l.count) list_is (one_count b (after k) w item free) in
            let most = h.no_fewer in
            record {
              tables_are =
                  taken
                  ∙ (λ i. tables (insert (list_is i) item) (records_are i) (tabulate (protections_long i) (protection_at b (insert (list_is i) item) (records_are i))))
                  ∙ relisted_more b (after 0) (insert list item) (λ z. omega arith) refl
                  ∙ ap (relisted b (after 0)) list-next;
              still_clear = again (after k) (after (suc k)) h.still_clear (subst⁻¹ (WellFormedTables b) taken (one_keeps b (after k) w item free));
              no_fewer = subst (λ (l : MappingList). (after 0).list.count ≤ l.count) list-next (omega arith);
            }
        more (suc n) e =
            let taken = next k ∙ ap (λ (x : ℕ). taken_by b x (after k) item) e in
            let list-next : list ≡ list_after_items b (after 0).list items (suc k) = ap (λ (x : ℕ). listed_by x list item) (sym e ∙ answer_is) in
            record {
              tables_are = taken ∙ h.tables_are ∙ ap (relisted b (after 0)) list-next;
              still_clear = ap lent taken ∙ h.still_clear;
              no_fewer = subst (λ (l : MappingList). (after 0).list.count ≤ l.count) list-next h.no_fewer;
            }

      pub listed : (k : ℕ) → Listed k
      unfolding list_after_items
      listed zero = record { tables_are = relisted_same b (after 0) (after 0).list refl; still_clear = clear; no_fewer = omega arith }
      listed (suc k) = more k (listed k) (answer k) refl

      -- each item is answered, and the tables are left, as the list has it
      pub listed_answer : (k : ℕ) → answer k ≡ refusal_at b (after 0).list items k
      listed_answer k = answer_is k (listed k)

    -- so the items listed at once are answered, and leave the tables, as singly
    pub singly : listed_all b (lent (after 0)) (after 0) items ≡ batch_result (accepted 0 no_ops) (tabulate (length items) answer) (after (length items))
    unfolding listed_all
    singly = go (lent (after 0)) refl
      where
        go : (n : ℕ) → lent (after 0) ≡ n → listed_all b n (after 0) items ≡ batch_result (accepted 0 no_ops) (tabulate (length items) answer) (after (length items))
        go zero e = sym (λ i. batch_result (accepted 0 no_ops) (tabulate (length items) (λ k. listed_answer e k i)) ((listed e (length items)).tables_are i))
        go (suc n) e = sym (λ i. batch_result (accepted 0 no_ops) (tabulate (length items) (λ k. broken_answer n e k i)) (broken_after n e (length items) i))

-- ---- the manager's calls

-- lengths and rules, as a refusal: it is 1 exactly if the lengths are wrong
pub lengths_refused : (l r : Bool) → eqb (first_refusal ((1 if not l) ∷ (2 if not r) ∷ [])) 1 ≡ not l
unfolding first_refusal
lengths_refused true true = refl
lengths_refused true false = refl
lengths_refused false r = refl

-- the refusal of a mapping is that of what is lent, or else the list's
pub refusal_by_lem : (cs : List Cause) (b : Board) (l : MappingList) (m : Mapping) → numbered cs ≡ true
    → first_refusal (cs ++ mapping_causes b l m.space m.page m.frame m.rights) ≡ refusal_by (first_refusal cs) (mapping_refusal b l m)
unfolding mapping_refusal
refusal_by_lem cs b l m numbers = go (mapping_causes b l m.space m.page m.frame m.rights) (first_refusal cs) refl
  where
    go : (own : List Cause) (n : ℕ) → first_refusal cs ≡ n → first_refusal (cs ++ own) ≡ refusal_by n (first_refusal own)
    go own zero e = sym (refusal_rest cs own numbers e)
    go own (suc n) e = sym (refusal_prefix cs own (λ z. omega arith)) ∙ e

-- tables that have their lengths and keep their rules give none
well_clear : (b : Board) (t : Tables) → WellFormedTables b t → first_refusal (table_causes b t) ≡ 0
unfolding first_refusal table_causes
well_clear b t w = rw (w.0, w.1)

-- what a map by this refusal answers and leaves
mapped_number : (t : Tables) (made : ℕ → Tables) (n place : ℕ) → number_of (list_result t made (planned n place)).answer ≡ n
mapped_number t made zero place = refl
mapped_number t made (suc n) place = refl

mapped_after_lem : (b : Board) (t : Tables) (m : Mapping) (n : ℕ) → let made = list_result t (λ i. commit_map b t i m) (planned n (place_for t.list m.space m.page)) in
    made.after ≡ taken_by b (number_of made.answer) t m
mapped_after_lem b t m zero = refl
mapped_after_lem b t m (suc n) = refl

module _ (b : Board) (t : Tables) (items : List Mapping) where
  answered_singly : (k : ℕ) → answer_at b t items k
      ≡ refusal_by (first_refusal (table_causes b (tables_after b t items k))) (mapping_refusal b (tables_after b t items k).list (item_at items k))
  unfolding answer_at map_causes
  answered_singly k =
      let u = tables_after b t items k in
      mapped_number u _ _ _ ∙ refusal_by_lem (table_causes b u) b u.list (item_at items k) refl

  next_singly : (k : ℕ) → tables_after b t items (suc k) ≡ taken_by b (answer_at b t items k) (tables_after b t items k) (item_at items k)
  unfolding answer_at tables_after
  next_singly k =
      let u = tables_after b t items k in
      let m = item_at items k in
      mapped_after_lem b u m (first_refusal (map_causes b u m.space m.page m.frame m.rights))

  -- the call, made at once, is the items mapped singly
  pub map_all_made : (answers : List ℕ) → batch_made b (first_refusal (table_causes b t)) t items answers ≡ map_all_call b t items answers
  unfolding batch_made map_all_call table_causes tables_after
  map_all_made answers =
      ap₂ (λ (x : Bool) (r : BatchResult). whole_result (first_refusal ((1 if x) ∷ batch_cause (length items) (length answers) ∷ [])) answers t r)
      (lengths_refused (lengths_right b t) (rules_kept b t))
      (singly b (λ u. first_refusal (table_causes b u)) items (tables_after b t items) (answer_at b t items) answered_singly next_singly
      (λ u e. tables_clear b u e) (λ u v e w. well_clear b v w))
