-- The laws of the first place below n that a test picks.
use mathlib.Core.Path.{◌≡◌, refl, ap₂, subst}
use mathlib.Core.Bool.{Bool, true, false, cond}
use mathlib.Core.Logic.{◌⊎◌, inl, inr, ⊎_elim}
use Prim.Native.Nat.{ℕ, zero, suc, ◌<◌, ◌≤◌}
use native.Mathlib.Omega.{arith}
use native.Mathlib.Nat.{eq-or-lt_of_le}
use Rattle.std.specs.Prelude.{Option, Some, None}
use Rattle.std.specs.Option.{option_or}
use Rattle.mapping.specs.Lookup.{first_found}

-- i is the first place below n that p picks
pub record First (n : ℕ) (p : ℕ → Bool) (i : ℕ) : Type 0 where
  pub below : i < n
  pub picked : p i ≡ true
  pub earlier : (k : ℕ) → k < i → p k ≡ false

-- the last place below suc n, or one before it
last_or_below : (k n : ℕ) → k < suc n → (k ≡ n) ⊎ (k < n)
last_or_below k n l = eq-or-lt_of_le (let m : k ≤ n = omega arith in m)

-- one more place: what is found below n, else n itself
step : (n : ℕ) (p : ℕ → Bool) {f : Option ℕ} {t : Bool} → first_found n p ≡ f → p n ≡ t → first_found (suc n) p ≡ option_or f (cond t (Some n) None)
unfolding first_found
step n p e z = ap₂ (λ (f : Option ℕ) (t : Bool). option_or f (cond t (Some n) None)) e z

pub nothing_first_found : (n : ℕ) (p : ℕ → Bool) → ((k : ℕ) → k < n → p k ≡ false) → first_found n p ≡ None
unfolding first_found
nothing_first_found zero p h = refl
nothing_first_found (suc n) p h = step n p (nothing_first_found n p (λ k l. h k (omega arith))) (h n (omega arith))

pub at_first_found : (n : ℕ) (p : ℕ → Bool) (i : ℕ) → First n p i → first_found n p ≡ Some i
at_first_found zero p i f = absurd (omega arith)
at_first_found (suc n) p i f =
    ⊎_elim (λ e. rw e (step n p (nothing_first_found n p (rw e at f.earlier)) (rw e at f.picked)))
    (λ l. step n p (at_first_found n p i (record { below = l; picked = f.picked; earlier = f.earlier })) refl)
    (last_or_below i n f.below)

-- p picks a first place below n, or none
pub first_found_cases : (n : ℕ) (p : ℕ → Bool) → ((i : ℕ) × First n p i) ⊎ ((k : ℕ) → k < n → p k ≡ false)
first_found_cases zero p = inr (λ k l. absurd (omega arith))
first_found_cases (suc n) p = ⊎_elim (λ s. inl (s.0, further s.0 s.1)) (λ h. last (p n) refl h) (first_found_cases n p)
  where
    further : (i : ℕ) → First n p i → First (suc n) p i
    further i f = record { below = omega arith; picked = f.picked; earlier = f.earlier }

    last : (t : Bool) → p n ≡ t → ((k : ℕ) → k < n → p k ≡ false) → ((i : ℕ) × First (suc n) p i) ⊎ ((k : ℕ) → k < suc n → p k ≡ false)
    last true z h = inl (n, record { below = omega arith; picked = z; earlier = h })
    last false z h = inr (λ k l. ⊎_elim (λ e. rw e z) (λ m. h k m) (last_or_below k n l))

pub first_found_at : (n : ℕ) (p : ℕ → Bool) (i : ℕ) → first_found n p ≡ Some i → First n p i
first_found_at n p i e = ⊎_elim found none (first_found_cases n p)
  where
    found : (j : ℕ) × First n p j → First n p i
    found s = let f = at_first_found n p s.0 s.1 in let z : s.0 ≡ i = cc in subst (First n p) z s.1

    none : ((k : ℕ) → k < n → p k ≡ false) → First n p i
    none h = let f = nothing_first_found n p h in let z : ◌≡◌ {A = ℕ} 0 1 = cc in absurd (omega arith)

pub first_found_nothing : (n : ℕ) (p : ℕ → Bool) → first_found n p ≡ None → (k : ℕ) → k < n → p k ≡ false
first_found_nothing n p e = ⊎_elim found (λ h. h) (first_found_cases n p)
  where
    found : (j : ℕ) × First n p j → (k : ℕ) → k < n → p k ≡ false
    found s = let f = at_first_found n p s.0 s.1 in let z : ◌≡◌ {A = ℕ} 0 1 = cc in absurd (omega arith)
