-- The fewest digits that hold a number are as many as the definition counts.
use mathlib.Core.Bool.{Bool, true, false, cond}
use mathlib.Core.Path.{◌≡◌, refl, sym, ap, subst}
use Prim.Native.Nat.{ℕ, zero, suc, ◌-◌, ◌*◌, ◌/◌, ◌^◌, ◌≤◌, ◌<◌}
use native.Mathlib.Nat.{pow-succ', one-le-pow}
use native.Mathlib.Omega.{arith}
use borrow.Author.Tests.{ltb-true, ltb-false}
use lib.Dec.{ltb}
use Rattle.io.specs.Digits.{last_digits, IsDigitCount}
use Rattle.sheet_codec.specs.Text.{number_bytes, places, decimal}

-- a number that has a digit more than another's fewest
more : (n j : ℕ) → (1 < suc (suc j) → 10 ^ (suc (suc j) - 1) ≤ n) → 10 * 10 ^ j ≤ n
more n j f =
    let e : suc (suc j) - 1 ≡ suc j = omega arith in
    let h : 10 ^ suc j ≤ n = subst (λ (k : ℕ). 10 ^ k ≤ n) e (f (omega arith)) in
    subst (λ (k : ℕ). k ≤ n) (pow-succ' 10 j) h

one_place : (n k : ℕ) → n < 10 → IsDigitCount 10 1 n k → k ≡ 1
one_place n zero h f = absurd (omega (arith, f.0))
one_place n (suc zero) h f = refl
one_place n (suc (suc j)) h f = absurd (omega (arith, more n j f.2, one-le-pow j 10 (omega arith)))

pub fewest : (limit n k : ℕ) → n < 10 ^ suc limit → IsDigitCount 10 1 n k → k ≡ places limit n
unfolding places
fewest zero n k h f = one_place n k h f
fewest (suc limit) n k h f = go (fewest limit) (ltb n 10) refl k f
  where
    go : ((n k : ℕ) → n < 10 ^ suc limit → IsDigitCount 10 1 n k → k ≡ places limit n) → (t : Bool) → ltb n 10 ≡ t → (k : ℕ) → IsDigitCount 10 1 n k
        → k ≡ cond t 1 (suc (places limit (n / 10)))
    go shorter true e k f = one_place n k (ltb-true n 10 e) f
    go shorter false e zero f = absurd (omega (arith, f.0))
    go shorter false e (suc zero) f =
        let b : n < 10 = f.1 in
        absurd (omega (arith, ltb-false n 10 e))
    go shorter false e (suc (suc j)) f =
        let b : n < 10 * 10 ^ suc limit = subst (λ (x : ℕ). n < x) (pow-succ' 10 (suc limit)) h in
        let d : n < 10 * 10 ^ suc j = subst (λ (x : ℕ). n < x) (pow-succ' 10 (suc j)) f.1 in
        let m = more n j f.2 in
        let one : suc j - 1 ≡ j = omega arith in
        ap suc (shorter (n / 10) (suc j) (omega arith) (omega arith, omega arith, λ l. subst (λ (x : ℕ). 10 ^ x ≤ n / 10) (sym one) (omega arith)))

pub decimal_digits : (n k : ℕ) → n < 2 ^ 64 → IsDigitCount 10 1 n k → last_digits 10 k n ≡ decimal n
unfolding decimal
decimal_digits n k h f = ap (λ (x : ℕ). last_digits 10 x n) (fewest 19 n k (omega arith) f)

pub places_le : (limit n : ℕ) → places limit n ≤ suc limit
unfolding places
places_le zero n = omega arith
places_le (suc limit) n = go (ltb n 10) (places_le limit (n / 10))
  where
    go : (t : Bool) → places limit (n / 10) ≤ suc limit → cond t 1 (suc (places limit (n / 10))) ≤ suc (suc limit)
    go true h = omega arith
    go false h = omega arith

-- so a number of 64 bits has room
pub few_digits : (n k : ℕ) → n < 2 ^ 64 → IsDigitCount 10 1 n k → k ≤ number_bytes
few_digits n k h f = omega (arith, fewest 19 n k (omega arith) f, places_le 19 n)
