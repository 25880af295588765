-- Tests: a chain of them, the case that one picks, the test of every place, and the order of two numbers.
use mathlib.Core.Path.{◌≡◌, refl, sym, ◌∙◌}
use mathlib.Core.Bool.{Bool, true, false, cond, ◌&&◌, ◌||◌, false≢true}
use mathlib.Core.Logic.{◌⊎◌, inl, inr}
use Prim.Native.Nat.{ℕ, ◌≤◌, ◌<◌}
use lib.Dec.{ltb}
use borrow.Author.Tests.{ltb-true, ltb-false}
use Rattle.bits.specs.Mask.{all}
use Rattle.bits.proofs.Mask.{all_at}

-- a chain of tests that hold comes down to the last
pub chain_last : (a b c d e : Bool) → a ≡ true → b ≡ true → c ≡ true → e ≡ d → e ≡ (a && b && c && d)
chain_last a b c d e p q r s = simp (p, q, r) s

-- both of two hold, one of two holds
pub and_both : (a b : Bool) → (a && b) ≡ true → (a ≡ true) × (b ≡ true)
and_both true b e = (refl, e)
and_both false b e = absurd (false≢true e)

pub or_either : (a b : Bool) → (a || b) ≡ true → (a ≡ true) ⊎ (b ≡ true)
or_either true b e = inl refl
or_either false b e = inr e

-- the case that a test picks
pub cond_true : {A : Type 0} (t : Bool) (x y : A) → t ≡ true → cond t x y ≡ x
cond_true t x y e = simp e

pub cond_false : {A : Type 0} (t : Bool) (x y : A) → t ≡ false → cond t x y ≡ y
cond_false t x y e = simp e

-- one place that fails makes the test of all fail
pub all_not : (n : ℕ) (p : ℕ → Bool) (k : ℕ) → k < n → p k ≡ false → all n p ≡ false
all_not n p k l e = go (all n p) refl
  where
    go : (t : Bool) → all n p ≡ t → t ≡ false
    go true z = sym (all_at n p z k l) ∙ e
    go false z = refl

-- two numbers, by their order
pub lt_or_le : (i j : ℕ) → (i < j) ⊎ (j ≤ i)
lt_or_le i j = go (ltb i j) refl
  where
    go : (t : Bool) → ltb i j ≡ t → (i < j) ⊎ (j ≤ i)
    go true z = inl (ltb-true i j z)
    go false z = inr (ltb-false i j z)
