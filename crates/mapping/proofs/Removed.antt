-- The list after a remove: it keeps its rules, the removed pair is not found, and any other has the mapping that it had.
use mathlib.Core.Path.{◌≡◌, sym, ap, subst, ◌∙◌}
use mathlib.Core.Bool.{cond}
use mathlib.Core.Logic.{◌⊎◌, inl, inr, ⊎_elim}
use mathlib.Core.Option.{none, some}
use Prim.Native.Nat.{ℕ, suc, ◌-◌, ◌≤◌, ◌<◌}
use native.Mathlib.Omega.{arith}
use native.Mathlib.Nat.{eq-or-lt_of_le}
use lib.Dec.{ltb}
use lib.ListN.{length}
use borrow.Author.Tests.{lt-ltb, le-ltb}
use Rattle.board.specs.declared.Board.{Board}
use Rattle.mapping.specs.declared.MappingList.{MappingList}
use Rattle.std.specs.Prelude.{None}
use Rattle.mapping.specs.Entry.{mapping_at}
use Rattle.mapping.specs.Lookup.{lookup, mapping_of}
use Rattle.mapping.specs.Change.{remove}
use Rattle.mapping.specs.Facts.{InRange, MapsTo, Rules, FoundAt, Unlisted}
use Rattle.mapping.proofs.Tests.{cond_true, cond_false, lt_or_le}
use Rattle.mapping.proofs.Entry.{maps_cong}
use Rattle.mapping.proofs.Order.{ordered_distinct, before_cong₂}
use Rattle.mapping.proofs.Rules.{count_length}
use Rattle.mapping.proofs.Lookups.{at_lookup, none_lookup, lookup_cases, mapping_of_at, mapping_of_nothing, mapping_of_listed, mapping_of_unlisted}
use Rattle.mapping.proofs.Change.{remove_count, remove_at_earlier, remove_at_later}

-- the place in the list before a remove at i of what stands at place j after it
source : ℕ → ℕ → ℕ
source i j = cond (ltb j i) j (suc j)

source_of : (i j : ℕ) → ((j < i) × (source i j ≡ j)) ⊎ ((i ≤ j) × (source i j ≡ suc j))
unfolding source
source_of i j = ⊎_elim (λ h. inl (h, cond_true (ltb j i) j (suc j) (lt-ltb j i h))) (λ h. inr (h, cond_false (ltb j i) j (suc j) (le-ltb j i h))) (lt_or_le j i)

-- every place but i is the source of one
source_to : (i k : ℕ) → (k ≡ i → ⊥) → (j : ℕ) × (source i j ≡ k)
source_to i k h =
    ⊎_elim (λ o. (k, ⊎_elim (λ p. p.1) (λ p. absurd (omega arith)) (source_of i k)))
    (λ o. ⊎_elim (λ e. absurd (h (sym e))) (λ q. (k - 1, ⊎_elim (λ p. absurd (omega arith)) (λ p. omega arith) (source_of i (k - 1)))) (eq-or-lt_of_le o))
    (lt_or_le k i)

source_rises : (i j k : ℕ) → j < k → source i j < source i k
source_rises i j k h =
    ⊎_elim (λ p. ⊎_elim (λ q. omega arith) (λ q. omega arith) (source_of i k))
    (λ p. ⊎_elim (λ q. omega arith) (λ q. omega arith) (source_of i k))
    (source_of i j)

source_not : (i j : ℕ) → source i j ≡ i → ⊥
source_not i j e = ⊎_elim (λ p. omega arith) (λ p. omega arith) (source_of i j)

module _ (b : Board) (l : MappingList) (i : ℕ) (rules : Rules b l) (listed : i < l.count) where
  inside : i < length l.items
  inside = let n = count_length b l rules in omega arith

  counted : (remove l i).count ≡ l.count - 1
  counted = remove_count l i listed rules.count_le

  moved : (j : ℕ) → mapping_at (remove l i) j ≡ mapping_at l (source i j)
  moved j =
      ⊎_elim (λ p. remove_at_earlier l i listed rules.count_le inside j p.0 ∙ ap (mapping_at l) (sym p.1))
      (λ p. remove_at_later l i listed rules.count_le inside j p.0 ∙ ap (mapping_at l) (sym p.1))
      (source_of i j)

  source_listed : (j : ℕ) → j < (remove l i).count → source i j < l.count
  source_listed j h = let n = counted in ⊎_elim (λ p. omega arith) (λ p. omega arith) (source_of i j)

  listed_source : (j : ℕ) → source i j < l.count → j < (remove l i).count
  listed_source j h = let n = counted in ⊎_elim (λ p. omega arith) (λ p. omega arith) (source_of i j)

  pub remove_rules : Rules b (remove l i)
  remove_rules = record {
    count_le = let n = counted in omega arith;
    in_range_holds = λ j h. subst (InRange b) (sym (moved j)) (rules.in_range_holds (source i j) (source_listed j h));
    ordered = λ j k h o. before_cong₂ (sym (moved j)) (sym (moved k)) (rules.ordered (source i j) (source i k) (source_rises i j k h) (source_listed k o));
    rest_zero_holds = λ j h. moved j ∙ rules.rest_zero_holds (source i j) (rest j h);
  }
    where
      rest : (j : ℕ) → (remove l i).count ≤ j → l.count ≤ source i j
      rest j h = let n = counted in ⊎_elim (λ p. omega arith) (λ p. omega arith) (source_of i j)

  -- the removed pair is no longer found
  pub lookup_remove_same : lookup (remove l i) (mapping_at l i).space (mapping_at l i).page ≡ None
  lookup_remove_same =
      none_lookup (remove l i) _ _ (λ j h k e. source_not i j (ordered_distinct l rules.ordered (source i j) i (source_listed j h) listed (maps_cong (moved j) e)))

  pub mapping_of_remove_same : mapping_of (remove l i) (mapping_at l i).space (mapping_at l i).page ≡ none
  mapping_of_remove_same = mapping_of_nothing (remove l i) _ _ lookup_remove_same

  -- another pair has the mapping that it had
  pub mapping_of_remove_other : (s p : ℕ) → (MapsTo (mapping_at l i) s p → ⊥) → mapping_of (remove l i) s p ≡ mapping_of l s p
  mapping_of_remove_other s p h = ⊎_elim (λ f. kept f.0 f.1) none_still (lookup_cases l s p)
    where
      kept : (k : ℕ) → FoundAt l s p k → mapping_of (remove l i) s p ≡ mapping_of l s p
      kept k f =
          let o = source_to i k (λ e. h (maps_cong (ap (mapping_at l) e) f.maps)) in
          let e : mapping_at (remove l i) o.0 ≡ mapping_at l k = moved o.0 ∙ ap (mapping_at l) o.1 in
          mapping_of_listed b (remove l i) remove_rules o.0 s p (listed_source o.0 (subst (λ (x : ℕ). x < l.count) (sym o.1) f.listed)) (maps_cong (sym e) f.maps)
          ∙ ap some e ∙ sym (mapping_of_at l s p k (at_lookup l s p k f))

      none_still : Unlisted l s p → mapping_of (remove l i) s p ≡ mapping_of l s p
      none_still u =
          let n = count_length b l rules in
          mapping_of_unlisted b (remove l i) remove_rules s p (λ j o e. let q = source_listed j o in u (source i j) q (omega arith) (maps_cong (moved j) e))
          ∙ sym (mapping_of_nothing l s p (none_lookup l s p u))
