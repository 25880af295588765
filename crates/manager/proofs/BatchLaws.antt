-- Laws of a list of mappings: one more item, and that listing the items at once is mapping them singly.
use mathlib.Core.Path.{◌≡◌, refl, sym, ap, ap₂, ◌∙◌}
use mathlib.Core.Bool.{not, false}
use mathlib.Core.List.{List, [], ◌∷◌}
use Prim.Native.Nat.{ℕ, zero, suc, ◌+◌, ◌≤◌}
use native.Mathlib.Omega.{arith}
use borrow.Author.Tests.{eq-eqb, ne_eqb, eqb-true, ltb-false, not-false}
use lib.Dec.{eqb, ltb}
use lib.ListN.{length}
use Rattle.board.specs.declared.Board.{Board}
use Rattle.mapping.specs.declared.Mapping.{Mapping}
use Rattle.mapping.specs.declared.MappingList.{MappingList}
use Rattle.mapping.specs.Batch.{batch_size}
use Rattle.mapping.specs.Change.{insert}
use Rattle.std.proofs.Common.{Result}
use Rattle.std.proofs.lemmas.Result.{err_from_is_err_and}
use Rattle.std.specs.Result.{IsErrAnd}
use Rattle.manager.specs.declared.refusal.Refusal.{Refusal}
use Rattle.manager.specs.Answers.{refused, accepted, refusal_number}
use Rattle.manager.specs.Scaffold.Inserted.{mapping_refusal, listed_by, list_after_items, refusal_at, relisted, listed_all, whole_refusal, batch_made}
use Rattle.manager.specs.Batch.{item_at, BatchResult, batch_result, whole_result}
use Rattle.manager.specs.Calls.{no_ops, list_outcome, list_left}
use Rattle.manager.specs.Refusals.{◌if◌, batch_cause}
use Rattle.manager.specs.Tables.{Tables, tables, protection_at, tabulate, refill}
use Rattle.manager.proofs.AcceptedLaws.{or_neither}
use Rattle.manager.proofs.CauseLaws.{cleared_in, some_number}

-- ---- one more item

pub listed_accepted : (n : ℕ) (l : MappingList) (m : Mapping) → n ≡ 0 → insert l m ≡ listed_by n l m
listed_accepted zero l m e = refl
listed_accepted (suc n) l m e = absurd (omega arith)

pub listed_refused : (n : ℕ) (l : MappingList) (m : Mapping) → (n ≡ 0 → ⊥) → l ≡ listed_by n l m
listed_refused zero l m h = absurd (h refl)
listed_refused (suc n) l m h = refl

module _ (b : Board) (l : MappingList) (items : List Mapping) (k : ℕ) {before : MappingList} {m : Mapping} {n : ℕ} (list : before ≡ list_after_items b l items k)
    (item : m ≡ item_at items k) (refusal : n ≡ mapping_refusal b before m) where
  -- its refusal
  pub refusal_more : n ≡ refusal_at b l items k
  unfolding refusal_at
  refusal_more = refusal ∙ ap₂ (mapping_refusal b) list item

  -- and the list with it
  pub list_more : {after : MappingList} → after ≡ listed_by n before m → after ≡ list_after_items b l items (k + 1)
  unfolding list_after_items refusal_at
  list_more {after} e =
      let next : k + 1 ≡ suc k = omega arith in
      e ∙ (λ i. listed_by (refusal_more i) (list i) (item i)) ∙ ap (list_after_items b l items) (sym next)

-- ---- the whole

-- no refusal of the whole: no length in what is lent is wrong, the items are not too many, and each has its answer
pub whole_clear : (lent items answers : ℕ) → whole_refusal lent items answers ≡ 0 → (eqb lent 1 ≡ false) × (items ≤ batch_size) × (answers ≡ items)
unfolding whole_refusal
whole_clear lent items answers e =
    let cs = (1 if eqb lent 1) ∷ batch_cause items answers ∷ [] in
    let fits = or_neither (ltb batch_size items) (not (eqb answers items)) (cleared_in cs 12 refl e) in
    (cleared_in cs 1 refl e, ltb-false _ _ fits.0, eqb-true _ _ (not-false _ fits.1))

-- the tables with another list, whose mappings are as many, or more
pub relisted_same : (b : Board) (t : Tables) (l : MappingList) → l.count ≡ t.list.count → tables l t.records t.protections ≡ relisted b t l
relisted_same b t l e = rw (eq-eqb l.count t.list.count e)

pub relisted_more : (b : Board) (t : Tables) (l : MappingList) {ps : List ℕ} → (l.count ≡ t.list.count → ⊥)
    → ps ≡ tabulate (length t.protections) (protection_at b l t.records) → tables l t.records ps ≡ relisted b t l
unfolding refill
relisted_more b t l h e = rw (ne_eqb l.count t.list.count h, e)

module _ (b : Board) (lent : ℕ) (t : Tables) (items : List Mapping) (answers : List ℕ) where
  -- the call is refused
  pub made_refused : (r : Result MappingList Refusal) (e : Refusal) → refusal_number e ≡ whole_refusal lent (length items) (length answers) → IsErrAnd r (λ y. y ≡ e)
      → batch_result (list_outcome r) answers (tables (list_left t.list r) t.records t.protections) ≡ batch_made b lent t items answers
  unfolding batch_made
  made_refused r e told is =
      let p = err_from_is_err_and r is in
      rw (p.1, p.2) (go (refusal_number e) (some_number e) ∙ ap (λ (k : ℕ). whole_result k answers t (listed_all b lent t items)) told)
    where
      go : (n : ℕ) → (n ≡ 0 → ⊥) → batch_result (refused n) answers t ≡ whole_result n answers t (listed_all b lent t items)
      go zero h = absurd (h refl)
      go (suc n) h = refl

  module _ (whole : whole_refusal lent (length items) (length answers) ≡ 0) where
    made_by : {r : BatchResult} → r ≡ listed_all b lent t items → r ≡ batch_made b lent t items answers
    unfolding batch_made
    made_by e = e ∙ ap (λ (k : ℕ). whole_result k answers t (listed_all b lent t items)) (sym whole)

    -- each item has the refusal in what is lent
    pub made_lent : {given : List ℕ} → (lent ≡ 0 → ⊥) → given ≡ tabulate (length items) (λ k. lent)
        → batch_result (accepted 0 no_ops) given t ≡ batch_made b lent t items answers
    unfolding listed_all
    made_lent h eg = ap (λ (l : List ℕ). batch_result (accepted 0 no_ops) l t) eg ∙ made_by (go lent h)
      where
        go : (n : ℕ) → (n ≡ 0 → ⊥) → batch_result (accepted 0 no_ops) (tabulate (length items) (λ k. n)) t ≡ listed_all b n t items
        go zero h = absurd (h refl)
        go (suc n) h = refl

    -- the items are listed
    pub made_listed : {given : List ℕ} {after : Tables} → lent ≡ 0 → given ≡ tabulate (length items) (refusal_at b t.list items)
        → after ≡ relisted b t (list_after_items b t.list items (length items)) → batch_result (accepted 0 no_ops) given after ≡ batch_made b lent t items answers
    unfolding listed_all
    made_listed z eg et = ap₂ (batch_result (accepted 0 no_ops)) eg et ∙ made_by (ap (λ (n : ℕ). listed_all b n t items) (sym z))
