-- The laws of masks, for any width: what each operation does to bit k, and what the bits tell of the mask. Passes on those of `Places`.
use mathlib.Core.Path.{◌≡◌, refl, sym, ap, ap₂, ◌∙◌, subst}
use mathlib.Core.Bool.{Bool, true, false, not, ◌&&◌, ◌||◌, cond}
use Prim.Native.Nat.{ℕ, zero, suc, ◌+◌, ◌*◌, ◌/◌, ◌%◌, ◌^◌, ◌≤◌, ◌<◌}
use native.Mathlib.Omega.{arith}
use native.Mathlib.Decide.{dec_lt}
use native.Mathlib.Nat.{pow-suc, div-one, div-eq_of_lt, div-add-mod', mod-lt, zero-div, mod-eq_of_lt, add-zero, one-mul}
use native.Mathlib.Numerals.{add-one, one-add}
use borrow.Author.Tests.{eqb-true, eq-eqb, ne_eqb, lt-ltb, le-ltb, not-true}
use lib.Arith.{lt-one}
use lib.Bits.{bit_and, bit_or, bit_xor, and_shr, or_shr, xor_shr, and_mod, or_mod, xor_mod, or_lt, or_add_and, and_le_l, and_le_r}
use lib.Count.{ones, count_trailing_zeros, under, ones_step, ones_cat}
use lib.Dec.{eqb, ltb, lit<, eqb-zero-suc, eqb-suc-zero, eqb-suc-suc}
use lib.Pow.{pow_pos, pow-lt, pow_mono, shr-shr, shr_lt}
use Rattle.bits.proofs.Tautology.{iff}
pub use Rattle.bits.proofs.Places.{at_place, all_at, all_of, any_cong, any_none, any_false, any_of, any_at, any_one, first_cong, first_none, first_one, first_at, count_of_cong, places_at, places_none, places_one, places_few}
use Rattle.bits.specs.Mask.{bit, with_bit, digit, mask_of, count_of, all, first_of}

half_lt : {n : ℕ} (k : ℕ) → n < 2 ^ suc k → n / 2 < 2 ^ k
half_lt {n} k h = shr_lt k 1 (subst (λ (x : ℕ). n < 2 ^ x) (sym (add-one k)) h)

-- ---- a bit, by halving

pub bit_zero : (m : ℕ) → bit m 0 ≡ eqb (m % 2) 1
unfolding bit
bit_zero m = rw div-one

pub bit_suc : (m k : ℕ) → bit m (suc k) ≡ bit (m / 2) k
unfolding bit
bit_suc m k = ap (λ (x : ℕ). eqb (x % 2) 1) (ap (λ (x : ℕ). m / 2 ^ x) (sym (one-add k)) ∙ sym (shr-shr m 1 k))

-- a digit, and the test that it is 1
pub digit_eqb : (x : ℕ) → x < 2 → digit (eqb x 1) ≡ x
digit_eqb zero h = refl
digit_eqb (suc zero) h = refl
digit_eqb (suc (suc x)) h = absurd (omega arith)

pub eqb_digit : (b : Bool) → eqb (digit b) 1 ≡ b
eqb_digit true = refl
eqb_digit false = refl

pub digit_lt : (b : Bool) → digit b < 2
digit_lt true = omega arith
digit_lt false = omega arith

-- the lowest binary digit is bit 0
pub digit_bit : (m : ℕ) → digit (bit m 0) ≡ m % 2
digit_bit m = ap digit (bit_zero m) ∙ digit_eqb (m % 2) (omega arith)

-- ---- a mask and its bits

pub mask_of_cong : (n : ℕ) (p q : ℕ → Bool) → ((k : ℕ) → k < n → p k ≡ q k) → mask_of n p ≡ mask_of n q
unfolding mask_of
mask_of_cong zero p q h = refl
mask_of_cong (suc n) p q h = ap₂ (λ (b : Bool) (x : ℕ). digit b + 2 * x) (h 0 (omega arith)) (mask_of_cong n (λ k. p (suc k)) (λ k. q (suc k)) (λ k l. h (suc k) (omega arith)))

pub mask_of_lt : (n : ℕ) (p : ℕ → Bool) → mask_of n p < 2 ^ n
unfolding mask_of
mask_of_lt zero p = lit< tt
mask_of_lt (suc n) p = rw pow-suc (omega (arith, mask_of_lt n (λ k. p (suc k)), digit_lt (p 0)))

-- the mask of all places below n is one less than the next place's weight
pub mask_ones : (n : ℕ) → suc (mask_of n (λ k. true)) ≡ 2 ^ n
unfolding mask_of
mask_ones zero = refl
mask_ones (suc n) = let e = mask_ones n in omega arith

-- bit k of the mask of p is p's value at k
pub bit_mask_of : (n : ℕ) (p : ℕ → Bool) (k : ℕ) → k < n → bit (mask_of n p) k ≡ p k
unfolding mask_of
bit_mask_of zero p k h = absurd (omega arith)
bit_mask_of (suc n) p zero h =
    let low : (digit (p 0) + 2 * mask_of n (λ j. p (suc j))) % 2 ≡ digit (p 0) = omega (arith, digit_lt (p 0)) in
    rw (bit_zero, low, eqb_digit)
bit_mask_of (suc n) p (suc k) h =
    let rest : (digit (p 0) + 2 * mask_of n (λ j. p (suc j))) / 2 ≡ mask_of n (λ j. p (suc j)) = omega (arith, digit_lt (p 0)) in
    rw (bit_suc, rest) (bit_mask_of n (λ j. p (suc j)) k (omega arith))

-- a mask below 2 ^ n is the mask of its own bits
pub mask_of_bit : (n m : ℕ) → m < 2 ^ n → mask_of n (bit m) ≡ m
unfolding mask_of
mask_of_bit zero m h = sym (lt-one h)
mask_of_bit (suc n) m h =
    ap₂ (λ (x y : ℕ). x + 2 * y) (digit_bit m) (mask_of_cong n (λ k. bit m (suc k)) (bit (m / 2)) (λ k l. bit_suc m k) ∙ mask_of_bit n (m / 2) (half_lt n h))
    ∙ omega arith

-- a mask below 2 ^ n is the mask of a test that says what its bits say
pub mask_of_lem : (n m : ℕ) (p : ℕ → Bool) → m < 2 ^ n → ((k : ℕ) → k < n → bit m k ≡ p k) → m ≡ mask_of n p
mask_of_lem n m p l h = sym (mask_of_bit n m l) ∙ mask_of_cong n (bit m) p h

-- two masks below 2 ^ n with equal bits are equal
pub mask_ext : (n a b : ℕ) → a < 2 ^ n → b < 2 ^ n → ((k : ℕ) → k < n → bit a k ≡ bit b k) → a ≡ b
mask_ext n a b la lb h = mask_of_lem n a (bit b) la h ∙ mask_of_bit n b lb

-- the count of ones is the number of set bits
pub ones_bits : (n m : ℕ) → m < 2 ^ n → ones m ≡ count_of n (bit m)
unfolding count_of ones
ones_bits zero m h = ap ones (lt-one h)
ones_bits (suc n) m h =
    ones_step m ∙ ap₂ (λ (x y : ℕ). x + y) (sym (digit_bit m)) (ones_bits n (m / 2) (half_lt n h) ∙ count_of_cong n (bit (m / 2)) (λ k. bit m (suc k)) (λ k l. sym (bit_suc m k)))

-- ---- bit k of an and, an or, a shift of one

-- an operation that works on each binary digit works on each bit
module _ (op : ℕ → ℕ → ℕ) (f : Bool → Bool → Bool) where
  abbrev Digits : ℕ → ℕ → Type 0
  Digits x y = eqb (op x y) 1 ≡ f (eqb x 1) (eqb y 1)

  two_digits : Digits 0 0 → Digits 0 1 → Digits 1 0 → Digits 1 1 → (x y : ℕ) → x < 2 → y < 2 → Digits x y
  two_digits a b c d zero zero h l = a
  two_digits a b c d zero (suc zero) h l = b
  two_digits a b c d (suc zero) zero h l = c
  two_digits a b c d (suc zero) (suc zero) h l = d
  two_digits a b c d (suc (suc x)) y h l = absurd (omega arith)
  two_digits a b c d zero (suc (suc y)) h l = absurd (omega arith)
  two_digits a b c d (suc zero) (suc (suc y)) h l = absurd (omega arith)

  bit_op : ((a b k : ℕ) → op a b / 2 ^ k ≡ op (a / 2 ^ k) (b / 2 ^ k)) → ((a b k : ℕ) → op a b % 2 ^ k ≡ op (a % 2 ^ k) (b % 2 ^ k))
      → Digits 0 0 → Digits 0 1 → Digits 1 0 → Digits 1 1 → (a b k : ℕ) → bit (op a b) k ≡ f (bit a k) (bit b k)
  unfolding bit
  bit_op shr low none right left both a b k = rw (shr, low _ _ 1) (two_digits none right left both _ _ (omega arith) (omega arith))

pub bit_and_lem : (a b k : ℕ) → bit (bit_and a b) k ≡ (bit a k && bit b k)
bit_and_lem = bit_op bit_and ◌&&◌ and_shr and_mod refl refl refl refl

pub bit_or_lem : (a b k : ℕ) → bit (bit_or a b) k ≡ (bit a k || bit b k)
bit_or_lem = bit_op bit_or ◌||◌ or_shr or_mod refl refl refl refl

pub bit_xor_lem : (a b k : ℕ) → bit (bit_xor a b) k ≡ cond (bit b k) (not (bit a k)) (bit a k)
bit_xor_lem = bit_op bit_xor (λ a b. cond b (not a) a) xor_shr xor_mod refl refl refl refl

pub bit_none : (k : ℕ) → bit 0 k ≡ false
unfolding bit
bit_none k = rw zero-div

-- a shift of one within the width
pub one_shl : (w k : ℕ) → k < w → 1 * 2 ^ k % 2 ^ w ≡ 2 ^ k
one_shl w k h = ap (λ (x : ℕ). x % 2 ^ w) (one-mul (2 ^ k)) ∙ mod-eq_of_lt (pow-lt h)

pub bit_one : (j k : ℕ) → bit (2 ^ j) k ≡ eqb j k
bit_one zero zero = bit_zero 1
bit_one zero (suc k) = rw (bit_suc, bit_none, eqb-zero-suc)
bit_one (suc j) zero =
    let even : 2 ^ suc j % 2 ≡ 0 = omega (arith, pow-suc 2 j) in
    rw (bit_zero, even, eqb-suc-zero)
bit_one (suc j) (suc k) =
    let half : 2 ^ suc j / 2 ≡ 2 ^ j = omega (arith, pow-suc 2 j) in
    rw (bit_suc, half, eqb-suc-suc) (bit_one j k)

pub bit_with : (m j k : ℕ) → bit (with_bit m j) k ≡ (bit m k || eqb j k)
unfolding with_bit
bit_with m j k = rw (bit_or_lem, bit_one)

-- ---- a mask within the first places

-- no bit stands past the first k places exactly if the mask is below 2 ^ k
pub shr_none : (m k : ℕ) → eqb (m / 2 ^ k) 0 ≡ ltb m (2 ^ k)
shr_none m k = go (dec_lt m (2 ^ k))
  where
    go : Dec (m < 2 ^ k) → eqb (m / 2 ^ k) 0 ≡ ltb m (2 ^ k)
    go (yes h) = eq-eqb _ 0 (div-eq_of_lt h) ∙ sym (lt-ltb m (2 ^ k) h)
    go (no h) = ne_eqb (m / 2 ^ k) 0 (λ e. h (omega (arith, div-add-mod' m (2 ^ k), mod-lt m (pow_pos k), ap (λ (x : ℕ). x * 2 ^ k) e))) ∙ sym (le-ltb m (2 ^ k) (omega arith))

-- two masks fit exactly if their or does
pub or_within : (n a b : ℕ) → ltb (bit_or a b) (2 ^ n) ≡ (ltb a (2 ^ n) && ltb b (2 ^ n))
or_within n a b = go (dec_lt a (2 ^ n)) (dec_lt b (2 ^ n))
  where
    go : Dec (a < 2 ^ n) → Dec (b < 2 ^ n) → ltb (bit_or a b) (2 ^ n) ≡ (ltb a (2 ^ n) && ltb b (2 ^ n))
    go (yes h) (yes l) = lt-ltb _ _ (or_lt n a b h l) ∙ sym (ap₂ ◌&&◌ (lt-ltb _ _ h) (lt-ltb _ _ l))
    go (yes h) (no l) = le-ltb (bit_or a b) (2 ^ n) (omega (arith, or_add_and a b, and_le_l a b)) ∙ sym (ap₂ ◌&&◌ (lt-ltb _ _ h) (le-ltb b (2 ^ n) (omega arith)))
    go (no h) l = le-ltb (bit_or a b) (2 ^ n) (omega (arith, or_add_and a b, and_le_r a b)) ∙ sym (ap (λ (x : Bool). x && ltb b (2 ^ n)) (le-ltb a (2 ^ n) (omega arith)))

-- a mask below 2 ^ n has no bit from place n up
pub bit_past : (n m k : ℕ) → m < 2 ^ n → n ≤ k → bit m k ≡ false
unfolding bit
bit_past n m k l h = let z : m / 2 ^ k ≡ 0 = div-eq_of_lt (omega (arith, pow_mono h)) in rw z

-- ---- two masks

-- two masks share no bit exactly if their and is 0
pub disjoint_all : (n a b : ℕ) → a < 2 ^ n → all n (λ k. not (bit a k && bit b k)) ≡ eqb (bit_and a b) 0
disjoint_all n a b l =
    iff _ _
    (λ e. eq-eqb _ 0 (mask_ext n (bit_and a b) 0 (omega (arith, and_le_l a b)) (pow_pos n)
    (λ k lk. bit_and_lem a b k ∙ not-true _ (all_at n _ e k lk) ∙ sym (bit_none k))))
    (λ e. all_of n _ (λ k lk. ap not (sym (bit_and_lem a b k) ∙ ap (λ (m : ℕ). bit m k) (eqb-true (bit_and a b) 0 e) ∙ bit_none k)))

-- ---- the only bit

ones_none : (n m : ℕ) → m < 2 ^ n → ones m ≡ 0 → m ≡ 0
ones_none zero m h e = lt-one h
ones_none (suc n) m h e =
    let step = ones_step m in
    let rest : m / 2 ≡ 0 = ones_none n (m / 2) (half_lt n h) (omega arith) in
    omega arith

-- a lowest digit that is set is the only one, and one that is not leaves the only one to the rest
low_only : (n m d : ℕ) → m % 2 ≡ d → (ones (m / 2) ≡ 0 → m / 2 ≡ 0) → (ones (m / 2) ≡ 1 → (count_trailing_zeros n (m / 2) < n) × (m / 2 ≡ 2 ^ count_trailing_zeros n (m / 2)))
    → ones m ≡ 1 → (under d (count_trailing_zeros n (m / 2)) < suc n) × (m ≡ 2 ^ under d (count_trailing_zeros n (m / 2)))
low_only n m zero z none one e =
    let step = ones_step m in
    let ih = one (omega arith) in
    (omega arith, let up = pow-suc 2 (count_trailing_zeros n (m / 2)) in omega arith)
low_only n m (suc d) z none one e =
    let step = ones_step m in
    let rest = none (omega arith) in
    (omega arith, omega arith)

-- with one bit set, the mask is that bit, and the trailing zeros are its place
pub only_bit : (n m : ℕ) → m < 2 ^ n → ones m ≡ 1 → (count_trailing_zeros n m < n) × (m ≡ 2 ^ count_trailing_zeros n m)
unfolding count_trailing_zeros ones
only_bit zero m h e = absurd (let z : ones m ≡ 0 = ap ones (lt-one h) in omega arith)
only_bit (suc n) m h e = low_only n m (m % 2) refl (ones_none n (m / 2) (half_lt n h)) (only_bit n (m / 2) (half_lt n h)) e

ones_pow : (d : ℕ) → ones (2 ^ d) ≡ 1
unfolding ones
ones_pow d = ap ones (sym (add-zero (2 ^ d)) ∙ ap (λ (x : ℕ). x + 0) (sym (one-mul (2 ^ d)))) ∙ ones_cat d 1 0 (pow_pos d)

-- a test that picks d alone picks one
pub one_count_of : (n d : ℕ) (p : ℕ → Bool) → d < n → ((k : ℕ) → k < n → p k ≡ eqb d k) → count_of n p ≡ 1
one_count_of n d p l h =
    sym (ones_bits n (2 ^ d) (pow-lt l) ∙ count_of_cong n (bit (2 ^ d)) p (λ k j. bit_one d k ∙ sym (h k j))) ∙ ones_pow d

-- the first bit of a mask that has one is the number of its trailing zeros, at any width that has room for it
pub first_zeros : (n w m : ℕ) → n ≤ w → m < 2 ^ n → (m ≡ 0 → ⊥) → count_trailing_zeros w m ≡ first_of n (bit m)
unfolding count_trailing_zeros first_of
first_zeros zero w m l h z = absurd (z (lt-one h))
first_zeros (suc n) zero m l h z = absurd (omega arith)
first_zeros (suc n) (suc w) m l h z =
    go (m % 2) refl (omega arith) (λ nz. first_zeros n w (m / 2) (omega arith) (half_lt n h) nz)
  where
    go : (d : ℕ) → m % 2 ≡ d → d < 2 → ((m / 2 ≡ 0 → ⊥) → count_trailing_zeros w (m / 2) ≡ first_of n (bit (m / 2)))
        → under d (count_trailing_zeros w (m / 2)) ≡ cond (bit m 0) 0 (suc (first_of n (λ k. bit m (suc k))))
    go zero e ld ih =
        let low : bit m 0 ≡ false = bit_zero m ∙ ap (λ (x : ℕ). eqb x 1) e in
        rw low (ap suc (ih (λ q. z (omega arith)) ∙ first_cong n _ _ (λ k l. sym (bit_suc m k))))
    go (suc d) e ld ih =
        let low : bit m 0 ≡ true = bit_zero m ∙ eq-eqb (m % 2) 1 (omega arith) in
        rw low
