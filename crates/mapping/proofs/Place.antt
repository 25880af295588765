-- The laws of the place where a mapping of a page of a space goes, and how halving finds it.
use mathlib.Core.Path.{◌≡◌, sym, ap, ap₂, subst⁻¹, ◌∙◌}
use mathlib.Core.Bool.{Bool, true, false, not}
use mathlib.Core.Logic.{⊎_elim}
use Prim.Native.Nat.{ℕ, zero, suc, ◌+◌, ◌≤◌, ◌<◌}
use native.Mathlib.Omega.{arith}
use native.Mathlib.Nat.{eq-or-lt_of_le}
use borrow.Author.Tests.{not-true, not-false}
use lib.ListN.{length, get_or, take}
use lib.Seq.{length-take-le, get_or-take}
use Rattle.std.proofs.lemmas.List.{get_or_default}
use Rattle.std.specs.List.Sorted.{IsPartitionedBy, IsPartitionPoint}
use Rattle.bits.specs.Mask.{digit, count_of}
use Rattle.board.specs.declared.Board.{Board}
use Rattle.mapping.specs.declared.Mapping.{Mapping}
use Rattle.mapping.specs.declared.MappingList.{MappingList}
use Rattle.std.specs.Prelude.{Some, None}
use Rattle.mapping.specs.Entry.{zero_mapping, is_before, mapping_at}
use Rattle.mapping.specs.Lookup.{lookup, place_for}
use Rattle.mapping.specs.Facts.{MapsTo, Before, Ordered, Rules, FoundAt, Unlisted, GoesTo}
use Rattle.mapping.proofs.Tests.{lt_or_le}
use Rattle.mapping.proofs.Rules.{count_length}
use Rattle.mapping.proofs.First.{First, first_found_cases}
use Rattle.mapping.proofs.Lookups.{at_lookup, none_lookup, listed_found}
use Rattle.mapping.proofs.Order.{is_before_true, before_is_before, is_before_false, not_is_before, before_not_at, before_trans, before_page}

-- a test that holds of the first i places and of none from there on counts i
count_split : (n : ℕ) (p : ℕ → Bool) (i : ℕ) → i ≤ n → ((k : ℕ) → k < i → p k ≡ true) → ((k : ℕ) → i ≤ k → k < n → p k ≡ false) → count_of n p ≡ i
unfolding count_of
count_split zero p i h t f = omega arith
count_split (suc n) p zero h t f =
    ap₂ (λ (x : Bool) (y : ℕ). digit x + y) (f 0 (omega arith) (omega arith))
    (count_split n (λ k. p (suc k)) zero (omega arith) (λ k l. absurd (omega arith)) (λ k l m. f (suc k) (omega arith) (omega arith)))
count_split (suc n) p (suc i) h t f =
    ap₂ (λ (x : Bool) (y : ℕ). digit x + y) (t 0 (omega arith))
    (count_split n (λ k. p (suc k)) i (omega arith) (λ k l. t (suc k) (omega arith)) (λ k l m. f (suc k) (omega arith) (omega arith)))
    ∙ (let e : 1 + i ≡ suc i = omega arith in e)

module _ (l : MappingList) (s p : ℕ) where
  pub goes_place : (i : ℕ) → GoesTo l s p i → place_for l s p ≡ i
  unfolding place_for
  goes_place i g = count_split _ _ i g.within (λ k h. before_is_before _ _ _ (g.earlier k h)) (λ k h j. not_is_before _ _ _ (g.later k h j))

  -- in a list in order there is such a place
  pub place_goes : Ordered l → GoesTo l s p (place_for l s p)
  place_goes o = ⊎_elim (λ f. at f.0 (goes_first f.0 f.1)) (λ h. at l.count (goes_last h)) (first_found_cases l.count (λ k. not (is_before (mapping_at l k) s p)))
    where
      at : (i : ℕ) → GoesTo l s p i → GoesTo l s p (place_for l s p)
      at i g = subst⁻¹ (GoesTo l s p) (goes_place i g) g

      goes_first : (i : ℕ) → First l.count (λ k. not (is_before (mapping_at l k) s p)) i → GoesTo l s p i
      goes_first i f =
          record {
            within = omega arith;
            earlier = λ k h. is_before_true _ _ _ (not-false _ (f.earlier k h));
            later = λ k h j b.
                is_before_false _ _ _ (not-true _ f.picked)
                (⊎_elim (λ e. subst⁻¹ (λ (n : ℕ). Before (mapping_at l n) s p) e b) (λ q. before_trans (mapping_at l i) (mapping_at l k) _ _ (o i k q j) b) (eq-or-lt_of_le h));
          }

      goes_last : ((k : ℕ) → k < l.count → not (is_before (mapping_at l k) s p) ≡ false) → GoesTo l s p l.count
      goes_last h = record { within = omega arith; earlier = λ k j. is_before_true _ _ _ (not-false _ (h k j)); later = λ k i j b. absurd (omega arith) }

module _ (b : Board) (l : MappingList) (rules : Rules b l) (s p : ℕ) where
  -- a page that is listed goes to its own place
  pub found_place : (i : ℕ) → FoundAt l s p i → place_for l s p ≡ i
  found_place i f =
      goes_place l s p i (record {
        within = let h = f.listed in omega arith;
        earlier = λ k h. before_page (mapping_at l k) (mapping_at l i) s p f.maps (rules.ordered k i h f.listed);
        later = λ k h j c. before_not_at (mapping_at l i) _ _ (⊎_elim (λ e. subst⁻¹ (λ (n : ℕ). Before (mapping_at l n) s p) e c) (λ q. before_trans (mapping_at l i) (mapping_at l k) _ _ (rules.ordered i k q j) c) (eq-or-lt_of_le h)) f.maps;
      })

  module _ (i : ℕ) (g : GoesTo l s p i) where
    -- one that stands at the place where it would go is found there
    pub goes_found : i < l.count → MapsTo (mapping_at l i) s p → lookup l s p ≡ Some i
    goes_found h e = at_lookup l s p i (listed_found b l rules i s p h e)

    -- and one that does not is not listed
    pub goes_unlisted : (i < l.count → MapsTo (mapping_at l i) s p → ⊥) → Unlisted l s p
    goes_unlisted h k j inside e =
        ⊎_elim (λ o. before_not_at (mapping_at l k) _ _ (g.earlier k o) e)
        (λ o. ⊎_elim (λ z. h (omega arith) (subst⁻¹ (λ (n : ℕ). MapsTo (mapping_at l n) s p) z e))
        (λ q. g.later i (omega arith) (omega arith) (before_page (mapping_at l i) (mapping_at l k) s p e (rules.ordered i k q j))) (eq-or-lt_of_le o))
        (lt_or_le k i)

    pub goes_nothing : (i < l.count → MapsTo (mapping_at l i) s p → ⊥) → lookup l s p ≡ None
    goes_nothing h = none_lookup l s p (goes_unlisted h)

-- ---- by halving

module _ (b : Board) (l : MappingList) (rules : Rules b l) (s p : ℕ) where
  stands : (k : ℕ) → k < l.count → (d : Mapping) → get_or (take l.count l.items) k d ≡ mapping_at l k
  stands k h d =
      let n = count_length b l rules in
      get_or-take l.count l.items k d h ∙ get_or_default l.items k d zero_mapping (omega arith)

  listed : length (take l.count l.items) ≡ l.count
  listed = length-take-le l.count l.items (count_length b l rules)

  -- the listed mappings that stand before the page are the first
  pub parted : IsPartitionedBy (λ m. is_before m s p) (take l.count l.items)
  parted i j d h k e =
      let o : j < l.count = omega (arith, listed) in
      let before = is_before_true _ _ _ (ap (λ (m : Mapping). is_before m s p) (sym (stands j o d)) ∙ e) in
      ap (λ (m : Mapping). is_before m s p) (stands i (omega arith) d)
      ∙ before_is_before _ _ _ (⊎_elim (λ z. subst⁻¹ (λ (n : ℕ). Before (mapping_at l n) s p) z before) (λ q. before_trans (mapping_at l i) (mapping_at l j) s p (rules.ordered i j q o) before) (eq-or-lt_of_le h))

  -- and a mapping of the page goes behind them
  pub parted_goes : (i : ℕ) → i ≤ l.count → IsPartitionPoint (λ m. is_before m s p ≡ true) (λ m. is_before m s p ≡ false) (take l.count l.items) i → GoesTo l s p i
  parted_goes i h part =
      record {
        within = h;
        earlier = λ k o. is_before_true _ _ _ (ap (λ (m : Mapping). is_before m s p) (sym (stands k (omega arith) zero_mapping)) ∙ part.0 k zero_mapping (omega arith) o);
        later = λ k o u. is_before_false _ _ _ (ap (λ (m : Mapping). is_before m s p) (sym (stands k u zero_mapping)) ∙ part.1 k zero_mapping o (omega (arith, listed)));
      }
