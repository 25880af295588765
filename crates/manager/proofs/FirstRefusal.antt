-- Of causes that stand in the order of the refusals, the refusal is the first that applies.
use mathlib.Core.Path.{◌≡◌, refl, sym, ap, ap₂, ◌∙◌}
use mathlib.Core.Bool.{Bool, true, false, cond, ◌&&◌, false≢true}
use mathlib.Core.List.Memᴰ
use mathlib.Core.List.{List, [], ◌∷◌, Memᴰ}
use mathlib.Core.Logic.{⊎_elim}
use Prim.Native.Nat.{ℕ, suc, ◌≤◌, ◌<◌}
use native.Mathlib.Omega.{arith}
use borrow.Author.Tests.{leb-true, ltb-true, lt-ltb}
use lib.ListN.{length}
use Rattle.bits.proofs.Tautology.{and_left, and_right}
use Rattle.manager.specs.Refusals.{Cause, first_refusal, refusal_order, refusal_place, in_order}
use Rattle.manager.specs.Theorems.{First, FirstRefusal}
use Rattle.manager.proofs.CauseLaws.{numbered}

-- ---- causes in the order

module _ (n : ℕ) (d : Cause) (ds : List Cause) (o : in_order n (d ∷ ds) ≡ true) where
  pub from_here : n ≤ refusal_place d.number
  unfolding in_order
  from_here = leb-true n (refusal_place d.number) (search (and_left, and_right))

  listed : refusal_place d.number < length refusal_order
  unfolding in_order
  listed = ltb-true (refusal_place d.number) (length refusal_order) (search (and_left, and_right))

  pub rest_in_order : in_order (suc (refusal_place d.number)) ds ≡ true
  unfolding in_order
  rest_in_order = search (and_left, and_right)

  -- 0 is no refusal
  pub is_numbered : d.number ≡ 0 → ⊥
  unfolding refusal_place
  is_numbered e = let z = ap refusal_place e in omega (arith, listed)

-- so no number is 0
pub in_order_numbered : (n : ℕ) (cs : List Cause) → in_order n cs ≡ true → numbered cs ≡ true
in_order_numbered n [] o = refl
in_order_numbered n (c ∷ cs) o =
    let z = is_numbered n c cs o in
    ap₂ ◌&&◌ (lt-ltb 0 c.number (omega arith)) (in_order_numbered (suc (refusal_place c.number)) cs (rest_in_order n c cs o))

-- each stands no earlier than the place that they start from
from_place : (n : ℕ) (cs : List Cause) → in_order n cs ≡ true → (c : Cause) → Memᴰ c cs → n ≤ refusal_place c.number
from_place n [] o c m = absurd (Memᴰ.not-nil m)
from_place n (d ∷ ds) o c m =
    let first = from_here n d ds o in
    ⊎_elim (λ e. let z = ap (λ (x : Cause). refusal_place x.number) e in omega arith)
    (λ k. let more = from_place (suc (refusal_place d.number)) ds (rest_in_order n d ds o) c k in omega arith)
    (Memᴰ.cases_cons m)

-- ---- the refusal, by whether the first applies

refusal_if : (c : Cause) (cs : List Cause) {t : Bool} → c.applies ≡ t → cond t c.number (first_refusal cs) ≡ first_refusal (c ∷ cs)
unfolding first_refusal
refusal_if c cs z = ap (λ (t : Bool). cond t c.number (first_refusal cs)) (sym z)

none_of : (n : ℕ) (cs : List Cause) → in_order n cs ≡ true → first_refusal cs ≡ 0 → (c : Cause) → Memᴰ c cs → c.applies ≡ false
none_of n [] o e c m = absurd (Memᴰ.not-nil m)
none_of n (d ∷ ds) o e c m = go d.applies refl (λ f k. none_of (suc (refusal_place d.number)) ds (rest_in_order n d ds o) f c k)
  where
    go : (t : Bool) → d.applies ≡ t → (first_refusal ds ≡ 0 → Memᴰ c ds → c.applies ≡ false) → c.applies ≡ false
    go true z rest = absurd (is_numbered n d ds o (refusal_if d ds z ∙ e))
    go false z rest = ⊎_elim (λ k. ap (λ (x : Cause). x.applies) k ∙ z) (rest (refusal_if d ds z ∙ e)) (Memᴰ.cases_cons m)

first_of_lem : (m : ℕ) (cs : List Cause) → in_order m cs ≡ true → (n : ℕ) → first_refusal cs ≡ n → (n ≡ 0 → ⊥) → First cs n
unfolding first_refusal
first_of_lem m [] o n e h = absurd (h (sym e))
first_of_lem m (d ∷ ds) o n e h = go d.applies refl (λ f. first_of_lem (suc (refusal_place d.number)) ds (rest_in_order m d ds o) n f h)
  where
    go : (t : Bool) → d.applies ≡ t → (first_refusal ds ≡ n → First ds n) → First (d ∷ ds) n
    go true z rest =
        let given : d.number ≡ n = refusal_if d ds z ∙ e in
        let place = ap refusal_place given in
        record {
          applies = Memᴰ.head {x = d} (rw (sym given, sym z));
          earliest = λ c k a.
              ⊎_elim (λ q. let s = ap (λ (x : Cause). refusal_place x.number) q in omega arith)
              (λ q. let s = from_place (suc (refusal_place d.number)) ds (rest_in_order m d ds o) c q in omega arith)
              (Memᴰ.cases_cons k);
        }
    go false z rest =
        let l = rest (refusal_if d ds z ∙ e) in
        record {
          applies = Memᴰ.tail l.applies;
          earliest = λ c k a.
              ⊎_elim (λ q. absurd (false≢true (sym z ∙ sym (ap (λ (x : Cause). x.applies) q) ∙ a))) (λ q. l.earliest c q a) (Memᴰ.cases_cons k);
        }

pub first_refusal_lem : FirstRefusal
first_refusal_lem cs o = (none_of 0 cs o, first_of_lem 0 cs o (first_refusal cs) refl)
