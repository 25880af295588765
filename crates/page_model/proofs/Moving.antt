-- The laws of two masks: when they keep the rules, which tests they are the masks of, and that moved class by class, as the code does it, they
-- are those of the states that the colours went to.
use mathlib.Core.Path.{◌≡◌, refl, sym, ap, ap₂, ◌∙◌}
use mathlib.Core.Bool.{Bool, true, false, not, ◌&&◌, ◌||◌, cond, or-false, and-false, and-true}
use Prim.Native.Nat.{ℕ, ◌^◌, ◌<◌}
use native.Mathlib.Omega.{arith}
use borrow.Author.Tests.{ltb-true, lt-ltb, eqb-true}
use lib.Bits.{bit_and, bit_or, bit_xor, or_lt, xor_lt, and_le_l}
use lib.Dec.{eqb, ltb}
use lib.Pow.{pow_pos}
use Rattle.bits.specs.Mask.{bit, with_bit, mask_of, all}
use Rattle.bits.proofs.Mask.{all_at, all_of, mask_of_lem, mask_of_lt, mask_of_cong, bit_mask_of, bit_none, bit_and_lem, bit_or_lem, bit_xor_lem, bit_with, or_within, disjoint_all}
use Rattle.bits.proofs.Tautology.{and_left, and_right}
use Rattle.page_model.specs.declared.masks.Masks.{Masks}
use Rattle.page_model.specs.declared.masks.Classes.{Classes}
use Rattle.page_model.specs.declared.masks.MaskState.{MaskState}
use Rattle.page_model.specs.Masks.{no_masks, masks_of, masks_keep_rules, in_held, in_stale, with_class, state_at, moved}

-- ---- the rules

-- the parts of `masks_keep_rules`
pub record MasksKeep (n : ℕ) (m : Masks) : Type 0 where
  pub held_lt : m.held < 2 ^ n
  pub stale_lt : m.stale < 2 ^ n
  pub apart : (k : ℕ) → k < n → not (bit m.held k && bit m.stale k) ≡ true

pub masks_keep : (n : ℕ) (m : Masks) → masks_keep_rules n m ≡ true → MasksKeep n m
masks_keep n m e =
    record {
      held_lt = ltb-true m.held (2 ^ n) (search (and_left, and_right));
      stale_lt = ltb-true m.stale (2 ^ n) (search (and_left, and_right));
      apart = all_at n (λ k. not (bit m.held k && bit m.stale k)) (search (and_left, and_right));
    }

pub masks_kept : (n : ℕ) (m : Masks) → MasksKeep n m → masks_keep_rules n m ≡ true
masks_kept n m k = ap₂ ◌&&◌ (ap₂ ◌&&◌ (lt-ltb _ _ k.held_lt) (lt-ltb _ _ k.stale_lt)) (all_of n _ k.apart)

-- the rules by operations on whole masks
pub masks_are : (n : ℕ) (m : Masks) → masks_keep_rules n m ≡ (ltb (bit_or m.held m.stale) (2 ^ n) && eqb (bit_and m.held m.stale) 0)
masks_are n m = go (ltb m.held (2 ^ n)) (ltb m.stale (2 ^ n)) refl ∙ ap (λ (b : Bool). b && eqb (bit_and m.held m.stale) 0) (sym (or_within n m.held m.stale))
  where
    go : (h s : Bool) → ltb m.held (2 ^ n) ≡ h → (h && s && all n (λ k. not (bit m.held k && bit m.stale k))) ≡ ((h && s) && eqb (bit_and m.held m.stale) 0)
    go true true e = disjoint_all n m.held m.stale (ltb-true _ _ e)
    go true false e = refl
    go false s e = refl

pub no_masks_keep : (n : ℕ) → MasksKeep n no_masks
no_masks_keep n = record { held_lt = pow_pos n; stale_lt = pow_pos n; apart = λ k l. ap not (ap₂ ◌&&◌ (bit_none k) (bit_none k)) }

-- ---- the masks of two tests

module _ (n : ℕ) (h s : ℕ → Bool) where
  pub masks_of_keep : ((k : ℕ) → k < n → not (h k && s k) ≡ true) → MasksKeep n (masks_of n h s)
  masks_of_keep e =
      record { held_lt = mask_of_lt n h; stale_lt = mask_of_lt n s; apart = λ k l. ap not (ap₂ ◌&&◌ (bit_mask_of n h k l) (bit_mask_of n s k l)) ∙ e k l }

  pub masks_of_is : (m : Masks) → MasksKeep n m → ((k : ℕ) → k < n → bit m.held k ≡ h k) → ((k : ℕ) → k < n → bit m.stale k ≡ s k) → m ≡ masks_of n h s
  masks_of_is m k eh es = λ i. record { held = mask_of_lem n m.held h k.held_lt eh i; stale = mask_of_lem n m.stale s k.stale_lt es i }

  pub masks_of_cong : (h' s' : ℕ → Bool) → ((k : ℕ) → k < n → h k ≡ h' k) → ((k : ℕ) → k < n → s k ≡ s' k) → masks_of n h s ≡ masks_of n h' s'
  masks_of_cong h' s' eh es = λ i. record { held = mask_of_cong n h h' eh i; stale = mask_of_cong n s s' es i }

-- ---- the classes of colours

-- the state that each class goes to, where one is given for a colour by whether it is the own one, its stale bit and its held bit
abbrev pub classes_of : (Bool → Bool → Bool → MaskState) → ℕ → Masks → Classes
classes_of state c m =
    record {
      own = state true (bit m.stale c) (bit m.held c);
      held = state false false true;
      stale = state false true false;
      empty = state false false false;
    }

-- it is the one that is given for each colour, if a stale bit hides a held one
module _ (state : Bool → Bool → Bool → MaskState) (hides : state false true true ≡ state false true false) (c : ℕ) (m : Masks) where
  state_at_lem : (k : ℕ) → state_at c (classes_of state c m) m k ≡ state (eqb c k) (bit m.stale k) (bit m.held k)
  state_at_lem k = go (eqb c k) refl
    where
      others : (t h : Bool) → cond t (state false true false) (cond h (state false false true) (state false false false)) ≡ state false t h
      others true true = sym hides
      others true false = refl
      others false true = refl
      others false false = refl

      go : (o : Bool) → eqb c k ≡ o
          → cond o (state true (bit m.stale c) (bit m.held c)) (cond (bit m.stale k) (state false true false) (cond (bit m.held k) (state false false true) (state false false false)))
          ≡ state o (bit m.stale k) (bit m.held k)
      go true q = ap (λ (j : ℕ). state true (bit m.stale j) (bit m.held j)) (eqb-true c k q)
      go false q = others (bit m.stale k) (bit m.held k)

  -- so the masks moved by these classes are those of the states that the colours go to
  pub moved_of : (n : ℕ) (h s : ℕ → Bool)
      → ((k : ℕ) → in_held (state (eqb c k) (bit m.stale k) (bit m.held k)) ≡ h k)
      → ((k : ℕ) → in_stale (state (eqb c k) (bit m.stale k) (bit m.held k)) ≡ s k)
      → moved n c (classes_of state c m) m ≡ masks_of n h s
  unfolding moved
  moved_of n h s eh es = masks_of_cong n _ _ h s (λ k l. ap in_held (state_at_lem k) ∙ eh k) (λ k l. ap in_stale (state_at_lem k) ∙ es k)

-- ---- masks that are moved

-- a mask if a test holds, and else the empty one
bit_if : (b : Bool) (m k : ℕ) → bit (cond b m 0) k ≡ (bit m k && b)
bit_if true m k = sym (and-true (bit m k))
bit_if false m k = bit_none k ∙ sym (and-false (bit m k))

if_lt : (n : ℕ) (b : Bool) (m : ℕ) → m < 2 ^ n → cond b m 0 < 2 ^ n
if_lt n true m l = l
if_lt n false m l = pow_pos n

-- what is left of a class when some of it are taken out, as the code's xor says it
abbrev left : Bool → Bool → Bool
left class taken = cond taken (not class) class

-- a colour is in one of the four classes: own, else stale, else held, else empty
one_class : (p : MaskState → Bool) (to : Classes) (o s h : Bool)
    → (left (left (left true o) (left true o && s)) (left (left true o) (left true o && s) && h) && p to.empty
    || (left (left true o) (left true o && s) && h && p to.held || (left true o && s && p to.stale || (o && p to.own || false))))
    ≡ p (cond o to.own (cond s to.stale (cond h to.held to.empty)))
one_class p to true s h = or-false (p to.own)
one_class p to false true h = or-false (p to.stale)
one_class p to false false true = or-false (p to.held)
one_class p to false false false = or-false (p to.empty)

module _ (n c : ℕ) (to : Classes) (m : Masks) where
  -- the classes
  abbrev every : ℕ
  every = mask_of n (λ k. true)

  abbrev own : ℕ
  own = bit_and every (with_bit 0 c)

  abbrev others : ℕ
  others = bit_xor every own

  abbrev stale : ℕ
  stale = bit_and others m.stale

  abbrev rest : ℕ
  rest = bit_xor others stale

  abbrev held : ℕ
  held = bit_and rest m.held

  abbrev empty : ℕ
  empty = bit_xor rest held

  -- the mask of those that go to a state of which a test holds
  gathered : (p : MaskState → Bool)
      → bit_or (cond (p to.empty) empty 0) (bit_or (cond (p to.held) held 0) (bit_or (cond (p to.stale) stale 0) (bit_or (cond (p to.own) own 0) 0)))
      ≡ mask_of n (λ k. p (state_at c to m k))
  gathered p =
      let every-lt = mask_of_lt n (λ k. true) in
      let own-lt : own < 2 ^ n = omega (arith, and_le_l every (with_bit 0 c)) in
      let others-lt = xor_lt n every own every-lt own-lt in
      let stale_lt : stale < 2 ^ n = omega (arith, and_le_l others m.stale) in
      let rest_lt = xor_lt n others stale others-lt stale_lt in
      let held_lt : held < 2 ^ n = omega (arith, and_le_l rest m.held) in
      mask_of_lem n _ (λ k. p (state_at c to m k))
      (or_lt n _ _ (if_lt n (p to.empty) empty (xor_lt n rest held rest_lt held_lt))
      (or_lt n _ _ (if_lt n (p to.held) held held_lt)
      (or_lt n _ _ (if_lt n (p to.stale) stale stale_lt)
      (or_lt n _ _ (if_lt n (p to.own) own own-lt) (pow_pos n)))))
      (λ k l. simp (bit_or_lem, bit_if, bit_and_lem, bit_xor_lem, bit_with, bit_none) (rw (bit_mask_of n (λ j. true) k l) (one_class p to (eqb c k) (bit m.stale k) (bit m.held k))))

  pub moved_is : with_class (with_class (with_class (with_class no_masks own to.own) stale to.stale) held to.held) empty to.empty ≡ moved n c to m
  unfolding moved
  moved_is = λ i. record { held = gathered in_held i; stale = gathered in_stale i }
