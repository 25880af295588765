-- The laws of a test over the places below n, for any n: whether it picks every place or some place, how many it picks, and which.
use mathlib.Core.Path.{◌≡◌, refl, sym, ap, ap₂, ◌∙◌}
use mathlib.Core.Bool.{Bool, true, false, cond, ◌&&◌, ◌||◌, or-true, and-true, and-false, false≢true}
use mathlib.Core.List.Memᴰ
use mathlib.Core.List.{List, [], ◌∷◌, map, Memᴰ}
use mathlib.Core.Logic.{⊎_elim}
use Prim.Native.Nat.{ℕ, zero, suc, ◌+◌, ◌≤◌, ◌<◌}
use native.Mathlib.Omega.{arith}
use native.Mathlib.Nat.{suc_inj}
use borrow.Author.Tests.{eqb-true, eq-eqb}
use lib.Dec.{eqb, eqb-zero-suc, eqb-suc-zero, eqb-suc-suc}
use lib.ListN.{length, length-map}
use Rattle.bits.proofs.Tautology.{and_left, and_right}
use Rattle.bits.specs.Mask.{digit, count_of, all, any, first_of, with_zero, places_of}

-- ---- at one place

pub at_place : (p : ℕ → Bool) (j k : ℕ) → (eqb j k && p k) ≡ (p j && eqb j k)
at_place p j k = go (eqb j k) refl
  where
    go : (b : Bool) → eqb j k ≡ b → (b && p k) ≡ (p j && b)
    go true e = ap p (sym (eqb-true j k e)) ∙ sym (and-true (p j))
    go false e = sym (and-false (p j))

-- ---- every place

pub all_at : (n : ℕ) (p : ℕ → Bool) → all n p ≡ true → (k : ℕ) → k < n → p k ≡ true
unfolding all
all_at zero p e k l = absurd (omega arith)
all_at (suc n) p e zero l = and_left (p 0) (all n (λ k. p (suc k))) e
all_at (suc n) p e (suc k) l = all_at n (λ j. p (suc j)) (and_right (p 0) (all n (λ j. p (suc j))) e) k (omega arith)

pub all_of : (n : ℕ) (p : ℕ → Bool) → ((k : ℕ) → k < n → p k ≡ true) → all n p ≡ true
unfolding all
all_of zero p h = refl
all_of (suc n) p h = ap₂ ◌&&◌ (h 0 (omega arith)) (all_of n (λ k. p (suc k)) (λ k l. h (suc k) (omega arith)))

-- ---- some place

pub any_cong : (n : ℕ) (p q : ℕ → Bool) → ((k : ℕ) → k < n → p k ≡ q k) → any n p ≡ any n q
unfolding any
any_cong zero p q h = refl
any_cong (suc n) p q h = ap₂ ◌||◌ (h 0 (omega arith)) (any_cong n (λ k. p (suc k)) (λ k. q (suc k)) (λ k l. h (suc k) (omega arith)))

pub any_none : (n : ℕ) (p : ℕ → Bool) → ((k : ℕ) → k < n → p k ≡ false) → any n p ≡ false
unfolding any
any_none zero p h = refl
any_none (suc n) p h = ap₂ ◌||◌ (h 0 (omega arith)) (any_none n (λ k. p (suc k)) (λ k l. h (suc k) (omega arith)))

pub any_of : (n : ℕ) (p : ℕ → Bool) (k : ℕ) → k < n → p k ≡ true → any n p ≡ true
unfolding any
any_of zero p k l e = absurd (omega arith)
any_of (suc n) p zero l e = ap (λ (b : Bool). b || any n (λ k. p (suc k))) e
any_of (suc n) p (suc k) l e = ap (λ (b : Bool). p 0 || b) (any_of n (λ j. p (suc j)) k (omega arith) e) ∙ or-true (p 0)

pub any_false : (n : ℕ) (p : ℕ → Bool) → any n p ≡ false → (k : ℕ) → k < n → p k ≡ false
any_false n p e k l = go (p k) refl
  where
    go : (b : Bool) → p k ≡ b → b ≡ false
    go true z = sym (any_of n p k l z) ∙ e
    go false z = refl

pub any_at : (n : ℕ) (p : ℕ → Bool) → any n p ≡ true → (k : ℕ) × (k < n) × (p k ≡ true)
unfolding any
any_at zero p e = absurd (false≢true e)
any_at (suc n) p e = go (p 0) refl (any_at n (λ k. p (suc k)))
  where
    go : (b : Bool) → p 0 ≡ b → (any n (λ k. p (suc k)) ≡ true → (k : ℕ) × (k < n) × (p (suc k) ≡ true)) → (k : ℕ) × (k < suc n) × (p k ≡ true)
    go true z rest = (0, omega arith, z)
    go false z rest = let r = rest (ap (λ (b : Bool). b || any n (λ k. p (suc k))) (sym z) ∙ e) in (suc r.0, omega arith, r.2)

-- a test that picks d alone, and that under b
pub any_one : (n d : ℕ) (b : Bool) (p : ℕ → Bool) → (b ≡ true → d < n) → ((k : ℕ) → k < n → p k ≡ (b && eqb d k)) → any n p ≡ b
any_one n d true p l h = any_of n p d (l refl) (h d (l refl) ∙ eq-eqb d d refl)
any_one n d false p l h = any_none n p h

-- ---- the first place

pub first_cong : (n : ℕ) (p q : ℕ → Bool) → ((k : ℕ) → k < n → p k ≡ q k) → first_of n p ≡ first_of n q
unfolding first_of
first_cong zero p q h = refl
first_cong (suc n) p q h =
    ap₂ (λ (b : Bool) (x : ℕ). cond b 0 (suc x)) (h 0 (omega arith)) (first_cong n (λ k. p (suc k)) (λ k. q (suc k)) (λ k l. h (suc k) (omega arith)))

pub first_none : (n : ℕ) (p : ℕ → Bool) → ((k : ℕ) → k < n → p k ≡ false) → first_of n p ≡ n
unfolding first_of
first_none zero p h = refl
first_none (suc n) p h = rw (h 0 (omega arith), first_none n (λ k. p (suc k)) (λ k l. h (suc k) (omega arith)))

-- a place that is picked, and no other
pub first_at : (n : ℕ) (p : ℕ → Bool) (d : ℕ) → d < n → ((k : ℕ) → k < n → p k ≡ true → k ≡ d) → p d ≡ true → first_of n p ≡ d
unfolding first_of
first_at zero p d l h e = absurd (omega arith)
first_at (suc n) p zero l h e = rw e
first_at (suc n) p (suc d) l h e = go (p 0) refl (first_at n (λ k. p (suc k)) d (omega arith) (λ k lk ek. suc_inj (h (suc k) (omega arith) ek)) e)
  where
    go : (b : Bool) → p 0 ≡ b → first_of n (λ k. p (suc k)) ≡ d → cond b 0 (suc (first_of n (λ k. p (suc k)))) ≡ suc d
    go true z ih = absurd (let x = h 0 (omega arith) z in omega arith)
    go false z ih = ap suc ih

-- a test that picks d alone, and that under b
pub first_one : (n d : ℕ) (b : Bool) (p : ℕ → Bool) → (b ≡ true → d < n) → ((k : ℕ) → k < n → p k ≡ (b && eqb d k)) → first_of n p ≡ cond b d n
first_one n d true p l h = first_at n p d (l refl) (λ k lk e. sym (eqb-true d k (sym (h k lk) ∙ e))) (h d (l refl) ∙ eq-eqb d d refl)
first_one n d false p l h = first_none n p h

-- ---- the number of places, and the places

pub count_of_cong : (n : ℕ) (p q : ℕ → Bool) → ((k : ℕ) → k < n → p k ≡ q k) → count_of n p ≡ count_of n q
unfolding count_of
count_of_cong zero p q h = refl
count_of_cong (suc n) p q h = ap₂ (λ (b : Bool) (x : ℕ). digit b + x) (h 0 (omega arith)) (count_of_cong n (λ k. p (suc k)) (λ k. q (suc k)) (λ k l. h (suc k) (omega arith)))

-- a place that is listed is below n, and picked
pub places_at : (n : ℕ) (p : ℕ → Bool) (k : ℕ) → Memᴰ k (places_of n p) → (k < n) × (p k ≡ true)
unfolding places_of
places_at zero p k m = absurd (Memᴰ.not-nil m)
places_at (suc n) p k m = first (p 0) refl m (places_at n (λ j. p (suc j)))
  where
    Picked : Type 0
    Picked = (k < suc n) × (p k ≡ true)

    rest : List ℕ
    rest = places_of n (λ j. p (suc j))

    later : ((j : ℕ) → Memᴰ j rest → (j < n) × (p (suc j) ≡ true)) → Memᴰ k (map suc rest) → Picked
    later ih m =
        let j = Memᴰ.of_map suc rest m in
        let at = ih j.0 j.1 in (omega (arith, j.2), rw (← j.2) at.1)

    first : (b : Bool) → p 0 ≡ b → Memᴰ k (with_zero b (map suc rest)) → ((j : ℕ) → Memᴰ j rest → (j < n) × (p (suc j) ≡ true)) → Picked
    first true z m ih = ⊎_elim (λ e. (omega arith, rw e z)) (later ih) (Memᴰ.cases_cons m)
    first false z m ih = later ih m

pub places_none : (n : ℕ) (p : ℕ → Bool) → ((k : ℕ) → k < n → p k ≡ false) → places_of n p ≡ []
unfolding places_of
places_none zero p h = refl
places_none (suc n) p h = ap₂ with_zero (h 0 (omega arith)) (ap (map suc) (places_none n (λ k. p (suc k)) (λ k l. h (suc k) (omega arith))))

-- a test that picks d alone, and that under b
pub places_one : (n d : ℕ) (b : Bool) (p : ℕ → Bool) → (b ≡ true → d < n) → ((k : ℕ) → k < n → p k ≡ (b && eqb d k)) → places_of n p ≡ cond b (d ∷ []) []
unfolding places_of
places_one n d false p l h = places_none n p h
places_one zero d true p l h = absurd (let x = l refl in omega arith)
places_one (suc n) zero true p l h =
    rw (h 0 (omega arith), places_none n (λ k. p (suc k)) (λ k lk. h (suc k) (omega arith) ∙ eqb-zero-suc k))
places_one (suc n) (suc d) true p l h =
    rw (h 0 (omega arith), eqb-suc-zero d, places_one n d true (λ k. p (suc k)) (λ e. let x = l refl in omega arith) (λ k lk. h (suc k) (omega arith) ∙ eqb-suc-suc d k))

-- places that p picks are few if p picks no two
pub places_few : (n : ℕ) (p : ℕ → Bool) → ((j k : ℕ) → j < n → k < n → p j ≡ true → p k ≡ true → j ≡ k) → length (places_of n p) ≤ 1
unfolding places_of
places_few zero p h = omega arith
places_few (suc n) p h =
    first (p 0) refl (places_few n (λ k. p (suc k)) (λ j k lj lk ej ek. suc_inj (h (suc j) (suc k) (omega arith) (omega arith) ej ek)))
  where
    later : p 0 ≡ true → (k : ℕ) (b : Bool) → k < n → p (suc k) ≡ b → p (suc k) ≡ false
    later z k true l e = absurd (let x = h 0 (suc k) (omega arith) (omega arith) z e in omega arith)
    later z k false l e = e

    first : (b : Bool) → p 0 ≡ b → length (places_of n (λ k. p (suc k))) ≤ 1 → length (with_zero b (map suc (places_of n (λ k. p (suc k))))) ≤ 1
    first true z ih = simp (places_none n (λ k. p (suc k)) (λ k l. later z k (p (suc k)) l refl)) (omega arith)
    first false z ih = omega (arith, length-map (places_of n (λ k. p (suc k))) suc)
