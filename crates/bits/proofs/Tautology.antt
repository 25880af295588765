-- A law of up to four tests, proved by computing it at all their values.
use mathlib.Core.Path.{◌≡◌, refl, sym}
use mathlib.Core.Bool.{Bool, true, false, not, ◌&&◌, ◌||◌, beq, false≢true}

pub and_left : (a b : Bool) → (a && b) ≡ true → a ≡ true
and_left true b e = refl
and_left false b e = e

pub and_right : (a b : Bool) → (a && b) ≡ true → b ≡ true
and_right true b e = e
and_right false b e = absurd (false≢true e)

-- two tests that hold together are equal
pub iff : (a b : Bool) → (a ≡ true → b ≡ true) → (b ≡ true → a ≡ true) → a ≡ b
iff true b f g = sym (f refl)
iff false true f g = g refl
iff false false f g = refl

abbrev pub both : (Bool → Bool) → Bool
both p = p true && p false

both_at : (p : Bool → Bool) → both p ≡ true → (a : Bool) → p a ≡ true
both_at p e true = and_left (p true) (p false) e
both_at p e false = and_right (p true) (p false) e

beq_true : (a b : Bool) → beq a b ≡ true → a ≡ b
beq_true true true e = refl
beq_true true false e = sym e
beq_true false true e = e
beq_true false false e = refl

pub beq_of : (a b : Bool) → a ≡ b → beq a b ≡ true
beq_of true true e = refl
beq_of true false e = sym e
beq_of false true e = e
beq_of false false e = refl

-- where given holds, left and right are equal
abbrev pub equal_if : Bool → Bool → Bool → Bool
equal_if given left right = not given || beq left right

equal_if_use : (given left right : Bool) → equal_if given left right ≡ true → given ≡ true → left ≡ right
equal_if_use true left right e g = beq_true left right e
equal_if_use false left right e g = absurd (false≢true g)

-- what `refl` computes of a test of four tests holds of any four
abbrev pub all4 : (Bool → Bool → Bool → Bool → Bool) → Bool
all4 p = both (λ a. both (λ b. both (λ c. both (p a b c))))

all4_at : (p : Bool → Bool → Bool → Bool → Bool) → all4 p ≡ true → (a b c d : Bool) → p a b c d ≡ true
all4_at p e a b c =
    both_at (p a b c)
    (both_at (λ c. both (p a b c)) (both_at (λ b. both (λ c. both (p a b c))) (both_at (λ a. both (λ b. both (λ c. both (p a b c)))) e a) b) c)

pub law4 : (given left right : Bool → Bool → Bool → Bool → Bool) → all4 (λ a b c d. equal_if (given a b c d) (left a b c d) (right a b c d)) ≡ true
    → (a b c d : Bool) → given a b c d ≡ true → left a b c d ≡ right a b c d
law4 given left right e a b c d =
    equal_if_use (given a b c d) (left a b c d) (right a b c d) (all4_at (λ a b c d. equal_if (given a b c d) (left a b c d) (right a b c d)) e a b c d)
