-- The machine's own refusal and the manager's, and the earlier of the two: it is the first of all causes of a call, where those are the causes
-- of both in the order of their places.
use mathlib.Core.Path.{◌≡◌, refl, sym, ap, ap₂, ◌∙◌}
use mathlib.Core.Bool.{Bool, true, false, not, cond, ◌&&◌, and_assoc}
use mathlib.Core.List.{List, [], ◌∷◌, ◌++◌}
use Prim.Native.Nat.{ℕ, zero, suc, ◌≤◌, ◌<◌}
use native.Mathlib.Omega.{arith}
use borrow.Author.Tests.{le-leb, lt-leb, leb-true, leb-false}
use lib.Dec.{leb}
use Rattle.board.specs.declared.Board.{Board}
use Rattle.std.proofs.Common.{Result, Ok, Err}
use Rattle.manager.specs.Calls.{planned}
use Rattle.manager.specs.Refusals.{Cause, first_refusal, refusal_place, in_order, table_causes}
use Rattle.manager.proofs.FirstRefusal.{from_here, rest_in_order, is_numbered}
use Rattle.manager.specs.Tables.{lengths_right, rules_kept}
use Rattle.cache.specs.Tag.{tags_keep_rules}
use Rattle.machine.specs.Scaffold.Plans.{store_causes, earlier, with_own, plan_call}
use Rattle.machine.specs.Refusals.{store_lengths, buffer_right, lent_causes, own_causes, causes}
use Rattle.machine.specs.State.{State, Single}

-- ---- the earlier of two

-- a refusal is none, or stands at a place or later
abbrev pub AtLeast : ℕ → ℕ → Type 0
AtLeast k n = (n ≡ 0 → ⊥) → k ≤ refusal_place n

pub earlier_first : (m n : ℕ) → (m ≡ 0 → ⊥) → AtLeast (refusal_place m) n → m ≡ earlier m n
unfolding earlier
earlier_first zero n h l = absurd (h refl)
earlier_first (suc m) zero h l = refl
earlier_first (suc m) (suc n) h l = rw (le-leb _ _ (l (λ z. omega arith)))

pub earlier_second : (m n : ℕ) → (n ≡ 0 → ⊥) → AtLeast (suc (refusal_place n)) m → n ≡ earlier m n
unfolding earlier
earlier_second zero n h l = refl
earlier_second (suc m) zero h l = absurd (h refl)
earlier_second (suc m) (suc n) h l = rw (lt-leb (refusal_place (suc m)) (refusal_place (suc n)) (l (λ z. omega arith)))

-- of two, by their places
pub earlier_by : (m n : ℕ) {t : Bool} → (m ≡ 0 → ⊥) → (n ≡ 0 → ⊥) → t ≡ leb (refusal_place m) (refusal_place n) → cond t m n ≡ earlier m n
unfolding earlier
earlier_by zero n hm hn e = absurd (hm refl)
earlier_by (suc m) zero hm hn e = absurd (hn refl)
earlier_by (suc m) (suc n) hm hn e = ap (λ (x : Bool). cond x (suc m) (suc n)) e

-- where there is neither, the second is none
pub earlier_neither : (m n : ℕ) → earlier m n ≡ 0 → n ≡ 0
unfolding earlier
earlier_neither zero n e = e
earlier_neither (suc m) zero e = refl
earlier_neither (suc m) (suc n) e = absurd (go (leb (refusal_place (suc m)) (refusal_place (suc n))) e)
  where
    go : (t : Bool) → cond t (suc m) (suc n) ≡ 0 → ⊥
    go true z = omega arith
    go false z = omega arith

pub earlier_none : (m : ℕ) → m ≡ earlier m 0
unfolding earlier
earlier_none zero = refl
earlier_none (suc m) = refl

-- a refusal of the machine's own beside a plan that is none
pub with_own_refused : (own : ℕ) {A : Type 0} (made : A) → (own ≡ 0 → ⊥) → Err own ≡ with_own own (Ok made)
unfolding with_own
with_own_refused zero made h = absurd (h refl)
with_own_refused (suc own) made h = refl

-- no refusal of its own leaves the manager's plan
pub with_none : {A : Type 0} (plan : Result A ℕ) → plan ≡ with_own 0 plan
unfolding with_own earlier
with_none (Ok made) = refl
with_none (Err n) = refl

-- a plan beside a refusal is planned by the earlier
with_own_earlier : (m n : ℕ) {A : Type 0} (made : A) → with_own m (planned n made) ≡ planned (earlier m n) made
unfolding with_own
with_own_earlier zero zero made = refl
with_own_earlier zero (suc n) made = refl
with_own_earlier (suc m) zero made = refl
with_own_earlier (suc m) (suc n) made = go (leb (refusal_place (suc m)) (refusal_place (suc n)))
  where
    go : (t : Bool) → Err (cond t (suc m) (suc n)) ≡ planned (cond t (suc m) (suc n)) made
    go true = refl
    go false = refl

-- ---- causes in the order

at_least : (k n : ℕ) (applies : Bool) (rest : ℕ) → k ≤ refusal_place n → AtLeast k rest → AtLeast k (cond applies n rest)
at_least k n true rest l h = λ z. l
at_least k n false rest l h = h

later : (j k : ℕ) {n : ℕ} → j ≤ k → AtLeast k n → AtLeast j n
later j k l h z = let q = h z in omega arith

in_order_least : (n : ℕ) (cs : List Cause) → in_order n cs ≡ true → AtLeast n (first_refusal cs)
unfolding first_refusal
in_order_least n [] o = λ z. absurd (z refl)
in_order_least n (c ∷ cs) o =
    let l : n ≤ refusal_place c.number = from_here n c cs o in
    at_least n c.number c.applies _ l (later n (suc (refusal_place c.number)) (omega arith) (in_order_least (suc (refusal_place c.number)) cs (rest_in_order n c cs o)))

-- two lists in one, in the order of their places: a cause with those after it among others, then each
abbrev insert : Cause → List Cause → (List Cause → List Cause) → List Cause → List Cause
insert c cs rest [] = c ∷ cs
insert c cs rest (d ∷ ds) = cond (leb (refusal_place c.number) (refusal_place d.number)) (c ∷ rest (d ∷ ds)) (d ∷ insert c cs rest ds)

abbrev pub merge : List Cause → List Cause → List Cause
merge [] ds = ds
merge (c ∷ cs) ds = insert c cs (merge cs) ds

-- a cause of either that stands first
cause_first : (k : ℕ) (applies : Bool) (m n : ℕ) → (k ≡ 0 → ⊥) → AtLeast (refusal_place k) n → cond applies k (earlier m n) ≡ earlier (cond applies k m) n
cause_first k true m n h l = earlier_first k n h l
cause_first k false m n h l = refl

cause_second : (k : ℕ) (applies : Bool) (m n : ℕ) → (k ≡ 0 → ⊥) → AtLeast (suc (refusal_place k)) m → cond applies k (earlier m n) ≡ earlier m (cond applies k n)
cause_second k true m n h l = earlier_second m k h l
cause_second k false m n h l = refl

-- a cause of both
cause_both : (k : ℕ) (a c : Bool) (m n : ℕ) → (k ≡ 0 → ⊥) → AtLeast (suc (refusal_place k)) m → AtLeast (suc (refusal_place k)) n
    → cond (not (a && c)) k (earlier m n) ≡ earlier (cond (not c) k m) (cond (not a) k n)
cause_both k true c m n h hm hn = cause_first k (not c) m n h (later (refusal_place k) _ (omega arith) hn)
cause_both k false true m n h hm hn = earlier_second m k h hm
cause_both k false false m n h hm hn = earlier_first k k h (λ z. omega arith)

inserted : (c : Cause) (cs : List Cause) (rest : List Cause → List Cause) (m : ℕ) → in_order m (c ∷ cs) ≡ true
    → ((k : ℕ) (ds : List Cause) → in_order k ds ≡ true → first_refusal (rest ds) ≡ earlier (first_refusal cs) (first_refusal ds))
    → (n : ℕ) (ds : List Cause) → in_order n ds ≡ true → first_refusal (insert c cs rest ds) ≡ earlier (first_refusal (c ∷ cs)) (first_refusal ds)
unfolding first_refusal
inserted c cs rest m oc ih n [] od = earlier_none (first_refusal (c ∷ cs))
inserted c cs rest m oc ih n (d ∷ ds) od =
    test (leb (refusal_place c.number) (refusal_place d.number)) refl (ih n (d ∷ ds) od) (inserted c cs rest m oc ih (suc (refusal_place d.number)) ds (rest_in_order n d ds od))
  where
    test : (t : Bool) → leb (refusal_place c.number) (refusal_place d.number) ≡ t
        → first_refusal (rest (d ∷ ds)) ≡ earlier (first_refusal cs) (first_refusal (d ∷ ds))
        → first_refusal (insert c cs rest ds) ≡ earlier (first_refusal (c ∷ cs)) (first_refusal ds)
        → first_refusal (cond t (c ∷ rest (d ∷ ds)) (d ∷ insert c cs rest ds)) ≡ earlier (first_refusal (c ∷ cs)) (first_refusal (d ∷ ds))
    test true e first second =
        let l = leb-true (refusal_place c.number) (refusal_place d.number) e in
        let after = later (refusal_place c.number) _ (omega arith) (in_order_least _ ds (rest_in_order n d ds od)) in
        ap (λ (k : ℕ). cond c.applies c.number k) first
        ∙ cause_first c.number c.applies _ _ (is_numbered m c cs oc) (at_least _ d.number d.applies _ l after)
    test false e first second =
        let l : refusal_place d.number < refusal_place c.number = leb-false (refusal_place c.number) (refusal_place d.number) e in
        let after = later (suc (refusal_place d.number)) _ (omega arith) (in_order_least (suc (refusal_place c.number)) cs (rest_in_order m c cs oc)) in
        ap (λ (k : ℕ). cond d.applies d.number k) second
        ∙ cause_second d.number d.applies _ _ (is_numbered n d ds od) (at_least _ c.number c.applies _ l after)

-- the first of the merged causes is the earlier
merged : (m n : ℕ) (cs ds : List Cause) → in_order m cs ≡ true → in_order n ds ≡ true
    → first_refusal (merge cs ds) ≡ earlier (first_refusal cs) (first_refusal ds)
unfolding first_refusal earlier
merged m n [] ds oc od = refl
merged m n (c ∷ cs) ds oc od = inserted c cs (merge cs) m oc (λ k es oe. merged (suc (refusal_place c.number)) k cs es (rest_in_order m c cs oc) oe) n ds od

-- ---- a call's refusal

-- the place after those of the causes in what is lent
abbrev pub own_place : ℕ
own_place = suc (refusal_place 2)

two_later : (t : Bool) {m : ℕ} → AtLeast own_place m → AtLeast (suc (refusal_place 1)) (cond (not t) 2 m)
unfolding refusal_place
two_later t {m} h = at_least _ 2 (not t) m (omega arith) (later _ own_place (omega arith) h)

-- the causes in what is lent, of the lengths and the rules of the tables, and of the store with a buffer, before others
lent : (l r k d t : Bool) (m n o : ℕ) → o ≡ earlier m n → AtLeast own_place m → AtLeast own_place n
    → cond (not (l && k && d)) 1 (cond (not (r && t)) 2 o) ≡ earlier (cond (not (k && d)) 1 (cond (not t) 2 m)) (cond (not l) 1 (cond (not r) 2 n))
lent l r k d t m n o e hm hn =
    ap₂ (λ (x : Bool) (y : ℕ). cond (not x) 1 (cond (not (r && t)) 2 y)) (and_assoc l k d) e
    ∙ ap (λ (y : ℕ). cond (not (l && (k && d))) 1 y) (cause_both 2 r t m n (λ z. omega arith) hm hn)
    ∙ cause_both 1 l (k && d) _ _ (λ z. omega arith) (two_later t hm) (two_later r hn)

-- the refusal in what is lent alone
pub lent_merged : (b : Board) (st : State) (call : Single)
    → first_refusal (lent_causes b st call) ≡ earlier (first_refusal (store_causes b st.store (buffer_right b call))) (first_refusal (table_causes b st.tables))
unfolding first_refusal lent_causes store_causes table_causes
lent_merged b st call =
    lent (lengths_right b st.tables) (rules_kept b st.tables) (store_lengths b st.store) (buffer_right b call) (tags_keep_rules b st.store.tags) 0 0 0
    (earlier_none 0) (λ z. absurd (z refl)) (λ z. absurd (z refl))

-- any call whose own causes are the machine's and the manager's, merged
module _ (b : Board) (st : State) (call : Single) (mine managers : List Cause) (om : in_order own_place mine ≡ true) (on : in_order own_place managers ≡ true)
    (own : own_causes b st call ≡ merge mine managers) where
  pub causes_merged : first_refusal (causes b st call)
      ≡ earlier (first_refusal (store_causes b st.store (buffer_right b call) ++ mine)) (first_refusal (table_causes b st.tables ++ managers))
  unfolding first_refusal causes store_causes table_causes
  causes_merged =
      lent (lengths_right b st.tables) (rules_kept b st.tables) (store_lengths b st.store) (buffer_right b call) (tags_keep_rules b st.store.tags) _ _ _
      (ap first_refusal own ∙ merged own_place own_place mine managers om on) (in_order_least own_place mine om) (in_order_least own_place managers on)

  -- a plan that stands beside the machine's own refusal is the call's
  pub plan_merged : {A : Type 0} (made : A) {refusal : ℕ} {plan with : Result A ℕ} → with ≡ with_own refusal plan
      → refusal ≡ first_refusal (store_causes b st.store (buffer_right b call) ++ mine)
      → plan ≡ planned (first_refusal (table_causes b st.tables ++ managers)) made
      → with ≡ plan_call b st call made
  plan_merged made ew er ep = ew ∙ ap₂ with_own er ep ∙ with_own_earlier _ _ made ∙ ap (λ (k : ℕ). planned k made) (sym causes_merged)
