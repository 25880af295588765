-- Masks of any width. Bit k of a mask is its binary digit of weight 2 ^ k; a test says of each place whether its bit is set.
use Rattle.std.specs.Prelude.{Bool, true, false, cond, ◌&&◌, ◌||◌, List, [], ◌∷◌, map, ℕ, zero, suc, ◌+◌, ◌*◌, ◌/◌, ◌%◌, ◌^◌, eqb}
use Rattle.std.specs.Int.Bits.{bit_or}

-- the bits of a u32, the mask of the code
abbrev pub width : ℕ
width = 32

-- whether bit k of m is set
unfoldable pub bit : ℕ → ℕ → Bool
bit m k = eqb (m / 2 ^ k % 2) 1

-- m with bit k set
unfoldable pub with_bit : ℕ → ℕ → ℕ
with_bit m k = bit_or m (2 ^ k)

-- a test as a binary digit
abbrev pub digit : Bool → ℕ
digit true = 1
digit false = 0

-- the mask whose set bits are the places below n that p picks
unfoldable pub mask_of : ℕ → (ℕ → Bool) → ℕ
mask_of zero p = 0
mask_of (suc n) p = digit (p 0) + 2 * mask_of n (λ k. p (suc k))

-- how many places below n p picks
unfoldable pub count_of : ℕ → (ℕ → Bool) → ℕ
count_of zero p = 0
count_of (suc n) p = digit (p 0) + count_of n (λ k. p (suc k))

-- whether p picks every place below n
unfoldable pub all : ℕ → (ℕ → Bool) → Bool
all zero p = true
all (suc n) p = p 0 && all n (λ k. p (suc k))

-- whether p picks some place below n
unfoldable pub any : ℕ → (ℕ → Bool) → Bool
any zero p = false
any (suc n) p = p 0 || any n (λ k. p (suc k))

-- the first place below n that p picks, and n if it picks none
unfoldable pub first_of : ℕ → (ℕ → Bool) → ℕ
first_of zero p = 0
first_of (suc n) p = cond (p 0) 0 (suc (first_of n (λ k. p (suc k))))

-- 0 in front of the places, if p picks it
abbrev pub with_zero : Bool → List ℕ → List ℕ
with_zero true l = 0 ∷ l
with_zero false l = l

-- the places below n that p picks, in rising order
unfoldable pub places_of : ℕ → (ℕ → Bool) → List ℕ
places_of zero p = []
places_of (suc n) p = with_zero (p 0) (map suc (places_of n (λ k. p (suc k))))
