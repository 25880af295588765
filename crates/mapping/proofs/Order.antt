-- The order of mappings by space, then page: what its test says, its laws, a number that rises as it does, and what it means for neighbours.
use mathlib.Core.Path.{◌≡◌, refl, sym, subst, ◌∙◌}
use mathlib.Core.Bool.{Bool, true, false, or-true, false≢true}
use mathlib.Core.Logic.{◌⊎◌, inl, inr, ⊎_elim}
use Prim.Native.Nat.{ℕ, zero, suc, ◌+◌, ◌*◌, ◌≤◌, ◌<◌}
use native.Mathlib.Omega.{arith}
use native.Mathlib.Nat.{eq-or-lt_of_le}
use borrow.Author.Tests.{ltb-true, lt-ltb, eqb-true, eq-eqb}
use Rattle.bits.proofs.Mask.{all_at, all_of}
use Rattle.mapping.specs.declared.Mapping.{Mapping}
use Rattle.mapping.specs.declared.MappingList.{MappingList}
use Rattle.mapping.specs.Entry.{is_before, mapping_at}
use Rattle.mapping.specs.Rules.{rises_at, rising}
use Rattle.mapping.specs.Facts.{MapsTo, Before, Ordered}
use Rattle.mapping.specs.Theorems.{NeighboursOrder, OrderedDistinct}
use Rattle.mapping.proofs.Tests.{and_both, or_either, lt_or_le}

-- ---- the test

module _ (m : Mapping) (s p : ℕ) where
  pub is_before_true : is_before m s p ≡ true → Before m s p
  unfolding is_before
  is_before_true e =
      ⊎_elim (λ h. inl (ltb-true _ _ h)) (λ h. let b = and_both _ _ h in inr (eqb-true _ _ b.0, ltb-true _ _ b.1)) (or_either _ _ e)

  pub before_is_before : Before m s p → is_before m s p ≡ true
  unfolding is_before
  before_is_before = ⊎_elim (λ h. rw (lt-ltb _ _ h)) (λ h. rw (eq-eqb _ _ h.0, lt-ltb _ _ h.1, or-true))

  pub is_before_false : is_before m s p ≡ false → Before m s p → ⊥
  is_before_false e h = false≢true (sym e ∙ before_is_before h)

  pub not_is_before : (Before m s p → ⊥) → is_before m s p ≡ false
  not_is_before h = go (is_before m s p) refl
    where
      go : (t : Bool) → is_before m s p ≡ t → t ≡ false
      go true z = absurd (h (is_before_true z))
      go false z = refl

  -- ---- the laws of an order

  pub before_not_at : Before m s p → MapsTo m s p → ⊥
  before_not_at b e = ⊎_elim (λ h. omega arith) (λ h. omega arith) b

  -- what is neither the page nor before it stands behind it
  pub behind : (Before m s p → ⊥) → (MapsTo m s p → ⊥) → (s < m.space) ⊎ ((s ≡ m.space) × (p < m.page))
  behind b e = ⊎_elim (λ h. absurd (b (inl h))) (λ h. ⊎_elim same (λ k. inl k) (eq-or-lt_of_le h)) (lt_or_le m.space s)
    where
      same : s ≡ m.space → (s < m.space) ⊎ ((s ≡ m.space) × (p < m.page))
      same z = ⊎_elim (λ h. absurd (b (inr (sym z, h)))) (λ h. ⊎_elim (λ q. absurd (e (sym z, sym q))) (λ k. inr (z, k)) (eq-or-lt_of_le h)) (lt_or_le m.page p)

pub before_trans : (m n : Mapping) (s p : ℕ) → Before m n.space n.page → Before n s p → Before m s p
before_trans m n s p =
    ⊎_elim (λ h. ⊎_elim (λ k. inl (omega arith)) (λ k. inl (omega arith))) (λ h. ⊎_elim (λ k. inl (omega arith)) (λ k. inr (omega arith, omega arith)))

-- mappings for others that they equal
pub before_cong₂ : {m m' n n' : Mapping} → m ≡ m' → n ≡ n' → Before m n.space n.page → Before m' n'.space n'.page
before_cong₂ {m} {m'} {n} {n'} e f h = subst (λ (x : Mapping). Before x n'.space n'.page) e (subst (λ (x : Mapping). Before m x.space x.page) f h)

pub before_page : (m n : Mapping) (s p : ℕ) → MapsTo n s p → Before m n.space n.page → Before m s p
before_page m n s p e h = subst (λ (x : ℕ). Before m x p) e.0 (subst (λ (y : ℕ). Before m n.space y) e.1 h)

-- ---- a number that rises with the space, and in a space with the page; a page's field has 16 bits

abbrev pub page_numbers : ℕ
page_numbers = 65536

abbrev pub key_of : ℕ → ℕ → ℕ
key_of space page = space * page_numbers + page

module _ (m : Mapping) (s p : ℕ) (own : m.page < page_numbers) (other : p < page_numbers) where
  pub before_key : Before m s p → key_of m.space m.page < key_of s p
  before_key = ⊎_elim (λ h. omega arith) (λ h. omega arith)

  pub key_before : key_of m.space m.page < key_of s p → Before m s p
  key_before h = ⊎_elim (λ k. inl k) (λ k. inr (omega arith, omega arith)) (lt_or_le m.space s)

-- ---- neighbours

-- each of a list in order stands before the next
pub rises : (l : MappingList) → rising l ≡ true → (k : ℕ) → suc k < l.count → Before (mapping_at l k) (mapping_at l (suc k)).space (mapping_at l (suc k)).page
unfolding rising rises_at
rises l e k h = is_before_true _ _ _ (all_at _ _ e k (omega arith))

pub neighbours_order : NeighboursOrder
unfolding rising rises_at
neighbours_order l = (all_earlier, λ o. all_of _ _ (λ k h. before_is_before _ _ _ (o k (suc k) (omega arith) (omega arith))))
  where
    all_earlier : rising l ≡ true → Ordered l
    all_earlier e i zero h k = absurd (omega arith)
    all_earlier e i (suc j) h k = ⊎_elim (λ z. subst (λ (n : ℕ). Before (mapping_at l n) (mapping_at l (suc j)).space (mapping_at l (suc j)).page) (sym z) (rises l e j k))
        (λ o. before_trans (mapping_at l i) (mapping_at l j) _ _ (all_earlier e i j o (omega arith)) (rises l e j k)) (eq-or-lt_of_le (let n : i ≤ j = omega arith in n))

pub ordered_distinct : OrderedDistinct
ordered_distinct l o i j h k e =
    ⊎_elim (λ b. absurd (before_not_at (mapping_at l i) _ _ (o i j b k) e))
    (λ b. ⊎_elim sym (λ c. absurd (before_not_at (mapping_at l j) _ _ (o j i c h) (sym e.0, sym e.1))) (eq-or-lt_of_le b))
    (lt_or_le i j)
