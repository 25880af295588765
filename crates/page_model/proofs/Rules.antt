-- The rules of a frame's record as named facts, and what they tell of its dirty colour.
use mathlib.Core.Path.{◌≡◌, refl, sym, ap, ap₂, ◌∙◌, subst}
use mathlib.Core.Bool.{Bool, true, false, cond, not, ◌&&◌, ◌||◌, false≢true}
use Prim.Native.Nat.{ℕ, ◌^◌, ◌≤◌, ◌<◌}
use native.Mathlib.Omega.{arith}
use borrow.Author.Tests.{leb-true, le-leb, eqb-true, eq-eqb}
use lib.Count.{ones, count_trailing_zeros}
use lib.Dec.{eqb, leb}
use lib.Pow.{pow_pos}
use Rattle.bits.specs.Mask.{bit, digit, count_of, any, first_of}
use Rattle.bits.proofs.Mask.{any_one, first_one, ones_bits, only_bit, first_zeros, bit_one, digit_eqb}
use Rattle.bits.proofs.Tautology.{and_left, and_right}
use Rattle.page_model.specs.declared.FrameRecord.{FrameRecord}
use Rattle.page_model.specs.Busy.{writing}
use Rattle.page_model.specs.Masks.{masks_keep_rules}
use Rattle.page_model.specs.Record.{colours_keep_rules, mark_fits, dirty_colour_of, keeps_rules}
use Rattle.page_model.proofs.Moving.{MasksKeep, masks_keep, masks_kept}

-- the flag as a test
abbrev pub flag : FrameRecord → Bool
flag r = eqb r.dirty 1

-- the parts of `keeps_rules`
pub record Keeps (n : ℕ) (r : FrameRecord) : Type 0 where
  pub masks : MasksKeep n r.masks
  pub flag_le : r.dirty ≤ 1
  pub one_held : (not (flag r) || eqb (count_of n (bit r.masks.held)) 1) ≡ true
  pub mark_fits_holds : mark_fits r.busy r.dirty r.masks.held ≡ true
  pub dirty_colour_is : r.dirty_colour ≡ dirty_colour_of n r
  pub instructions : MasksKeep n r.instructions
  pub beside : (eqb r.instructions.held 0 || not (flag r) && not (eqb r.busy writing)) ≡ true

pub keeps : (n : ℕ) (r : FrameRecord) → keeps_rules n r ≡ true → Keeps n r
unfolding keeps_rules
keeps n r e =
    record {
      masks = masks_keep n r.masks (search (and_left, and_right));
      flag_le = leb-true r.dirty 1 (search (and_left, and_right));
      one_held = search (and_left, and_right);
      mark_fits_holds = search (and_left, and_right);
      dirty_colour_is = eqb-true r.dirty_colour (dirty_colour_of n r) (search (and_left, and_right));
      instructions = masks_keep n r.instructions (search (and_left, and_right));
      beside = search (and_left, and_right);
    }

pub kept : (n : ℕ) (r : FrameRecord) → Keeps n r → keeps_rules n r ≡ true
unfolding keeps_rules
kept n r k =
    ap₂ ◌&&◌
    (ap₂ ◌&&◌ (ap₂ ◌&&◌ (ap₂ ◌&&◌ (ap₂ ◌&&◌ (masks_kept n r.masks k.masks) (le-leb _ _ k.flag_le)) k.one_held) k.mark_fits_holds) (eq-eqb _ _ k.dirty_colour_is))
    (ap₂ ◌&&◌ (masks_kept n r.instructions k.instructions) k.beside)

-- the colours' rules, with the ones of the held mask counted by its number
pub rules_are : (n : ℕ) (r : FrameRecord) → colours_keep_rules n r ≡ (masks_keep_rules n r.masks && (leb r.dirty 1 && (not (flag r) || eqb (ones r.masks.held) 1)))
unfolding colours_keep_rules
rules_are n r = go (masks_keep_rules n r.masks) refl
  where
    go : (b : Bool) → masks_keep_rules n r.masks ≡ b
        → (b && leb r.dirty 1 && (not (flag r) || eqb (count_of n (bit r.masks.held)) 1)) ≡ (b && (leb r.dirty 1 && (not (flag r) || eqb (ones r.masks.held) 1)))
    go true e = ap (λ (m : ℕ). leb r.dirty 1 && (not (flag r) || eqb m 1)) (sym (ones_bits n r.masks.held (masks_keep n r.masks e).held_lt))
    go false e = refl

-- the flag as a digit is the flag
pub flag_digit : {d : ℕ} → d ≤ 1 → d ≡ digit (eqb d 1)
flag_digit h = sym (digit_eqb _ (omega arith))

or_false_left : (a b : Bool) → a ≡ false → (a || b) ≡ true → b ≡ true
or_false_left true b z e = absurd (false≢true (sym z))
or_false_left false b z e = e

-- with the flag set the held mask is one bit, the first, whose place the trailing zeros are at any width that has room for it
module _ (n : ℕ) (r : FrameRecord) (l : r.masks.held < 2 ^ n) (one : (not (flag r) || eqb (count_of n (bit r.masks.held)) 1) ≡ true) (z : flag r ≡ true) where
  only : (first_of n (bit r.masks.held) < n) × (r.masks.held ≡ 2 ^ first_of n (bit r.masks.held))
  only =
      let count = ones_bits n r.masks.held l ∙ eqb-true _ _ (or_false_left (not (flag r)) _ (ap not z) one) in
      let d = only_bit n r.masks.held l count in
      let some : r.masks.held ≡ 0 → ⊥ = λ e. let p = pow_pos (count_trailing_zeros n r.masks.held) in let same = d.1 in omega arith in
      subst (λ (x : ℕ). (x < n) × (r.masks.held ≡ 2 ^ x)) (first_zeros n n r.masks.held (omega arith) l some) d

  first_held : (w : ℕ) → n ≤ w → count_trailing_zeros w r.masks.held ≡ first_of n (bit r.masks.held)
  first_held w few = first_zeros n w r.masks.held few l (λ e. let p = pow_pos (first_of n (bit r.masks.held)) in let same = only.1 in omega arith)

-- so the first held colour is found there
pub told_colour : (n w : ℕ) (r : FrameRecord) → n ≤ w → colours_keep_rules n r ≡ true → cond (flag r) (count_trailing_zeros w r.masks.held) n ≡ dirty_colour_of n r
unfolding colours_keep_rules dirty_colour_of
told_colour n w r few e = go (flag r) refl
  where
    go : (b : Bool) → flag r ≡ b → cond b (count_trailing_zeros w r.masks.held) n ≡ cond b (first_of n (bit r.masks.held)) n
    go true z = first_held n r (masks_keep n r.masks (search (and_left, and_right))).held_lt (search (and_left, and_right)) z w few
    go false z = refl

module _ (n : ℕ) (r : FrameRecord) (k : Keeps n r) where
  -- the dirty colour of a record with the flag set is the only one held
  pub dirty_only : flag r ≡ true → (r.dirty_colour < n) × (r.masks.held ≡ 2 ^ r.dirty_colour)
  unfolding dirty_colour_of
  dirty_only z =
      let told : r.dirty_colour ≡ first_of n (bit r.masks.held) = k.dirty_colour_is ∙ ap (λ (b : Bool). cond b (first_of n (bit r.masks.held)) n) z in
      subst (λ (x : ℕ). (x < n) × (r.masks.held ≡ 2 ^ x)) (sym told) (only n r k.masks.held_lt k.one_held z)

  pub dirty_at : (j : ℕ) → (flag r && bit r.masks.held j) ≡ (flag r && eqb r.dirty_colour j)
  dirty_at j = go (flag r) refl
    where
      go : (b : Bool) → flag r ≡ b → (b && bit r.masks.held j) ≡ (b && eqb r.dirty_colour j)
      go true z = ap (λ (m : ℕ). bit m j) (dirty_only z).1 ∙ bit_one _ j
      go false z = refl

  -- and of one without it there is none
  pub no_dirty_colour : flag r ≡ false → r.dirty_colour ≡ n
  unfolding dirty_colour_of
  no_dirty_colour z = k.dirty_colour_is ∙ ap (λ (b : Bool). cond b (first_of n (bit r.masks.held)) n) z

  -- some colour is dirty if the flag is set, and the first one is the one written
  pub any_dirty : any n (λ j. flag r && bit r.masks.held j) ≡ flag r
  any_dirty = any_one n r.dirty_colour (flag r) _ (λ z. (dirty_only z).0) (λ j l. dirty_at j)

  pub first_dirty : first_of n (λ j. flag r && bit r.masks.held j) ≡ r.dirty_colour
  first_dirty = first_one n r.dirty_colour (flag r) _ (λ z. (dirty_only z).0) (λ j l. dirty_at j) ∙ go (flag r) refl
    where
      go : (b : Bool) → flag r ≡ b → cond b r.dirty_colour n ≡ r.dirty_colour
      go true z = refl
      go false z = sym (no_dirty_colour z)
