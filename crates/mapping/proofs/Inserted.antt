-- The list with a new mapping at its place: it keeps its rules, the new pair has that mapping, and any other the one that it had.
use mathlib.Core.Path.{◌≡◌, refl, sym, ap, subst⁻¹, ◌∙◌}
use mathlib.Core.Logic.{◌⊎◌, inl, inr, ⊎_elim}
use mathlib.Core.Option.{some}
use Prim.Native.Nat.{ℕ, zero, suc, ◌+◌, ◌≤◌, ◌<◌}
use native.Mathlib.Omega.{arith}
use native.Mathlib.Nat.{eq-or-lt_of_le}
use lib.ListN.{length, get_or-eq_default}
use Rattle.board.specs.declared.Board.{Board}
use Rattle.mapping.specs.declared.Mapping.{Mapping}
use Rattle.mapping.specs.declared.MappingList.{MappingList}
use Rattle.std.specs.Prelude.{None}
use Rattle.mapping.specs.Entry.{capacity, zero_mapping, mapping_at}
use Rattle.mapping.specs.Lookup.{lookup, mapping_of, place_for}
use Rattle.mapping.specs.Change.{insert}
use Rattle.mapping.specs.Facts.{InRange, MapsTo, Before, Rules, FoundAt, Unlisted, GoesTo}
use Rattle.mapping.proofs.Tests.{lt_or_le}
use Rattle.mapping.proofs.Entry.{maps_cong}
use Rattle.mapping.proofs.Order.{behind, before_cong₂}
use Rattle.mapping.proofs.Place.{place_goes}
use Rattle.mapping.proofs.Lookups.{at_lookup, lookup_none, none_lookup, lookup_cases, mapping_of_at, mapping_of_nothing, mapping_of_listed, mapping_of_unlisted}
use Rattle.mapping.proofs.Change.{insert_at_count, insert_at_length, insert_at_at_earlier, insert_at_at_same, insert_at_at_later}

module _ (l : MappingList) (m : Mapping) (long : length l.items ≡ capacity) (room : l.count < capacity) (b : Board) (rules : Rules b l) where
  abbrev place : ℕ
  place = place_for l m.space m.page

  goes : GoesTo l m.space m.page place
  goes = place_goes l m.space m.page rules.ordered

  within : place ≤ l.count
  within = goes.within

  inside : place < length l.items
  inside = let h = within in omega arith

  pub inserted_count : (insert l m).count ≡ l.count + 1
  inserted_count = insert_at_count l place m room within

  pub inserted_length : length (insert l m).items ≡ length l.items
  inserted_length = insert_at_length l place m room within inside

  at_earlier : (j : ℕ) → j < place → mapping_at (insert l m) j ≡ mapping_at l j
  at_earlier = insert_at_at_earlier l place m room within inside

  at_place : mapping_at (insert l m) place ≡ m
  at_place = insert_at_at_same l place m room within inside

  at_later : (j : ℕ) → place ≤ j → suc j < capacity → mapping_at (insert l m) (suc j) ≡ mapping_at l j
  at_later j h k = insert_at_at_later l place m room within inside j h (omega arith)

  -- what stands at place j after it: the new mapping, or that of a place from before
  pub data Source (j : ℕ) : Type 0 where
    new : j ≡ place → Source j
    old : (k : ℕ) → k < l.count → ((j ≡ k) × (k < place)) ⊎ ((j ≡ suc k) × (place ≤ k)) → mapping_at (insert l m) j ≡ mapping_at l k → Source j

  source : (j : ℕ) → j < (insert l m).count → Source j
  source j h =
      let n = inserted_count in
      let w = within in
      ⊎_elim (λ o. old j (omega arith) (inl (refl, o)) (at_earlier j o)) (λ o. ⊎_elim (λ e. new (sym e)) (λ o. later j o h) (eq-or-lt_of_le o)) (lt_or_le j place)
    where
      later : (j : ℕ) → place < j → j < (insert l m).count → Source j
      later zero o h = absurd (omega arith)
      later (suc k) o h = let n = inserted_count in old k (omega arith) (inr (refl, omega arith)) (at_later k (omega arith) (omega arith))

  module _ (range : InRange b m) (fresh : lookup l m.space m.page ≡ None) where
    -- a listed mapping from the place on stands behind the new one
    new_before : (k : ℕ) → place ≤ k → k < l.count → Before m (mapping_at l k).space (mapping_at l k).page
    new_before k h j = behind (mapping_at l k) _ _ (goes.later k h j) (λ e. lookup_none l m.space m.page fresh k j (omega arith) e)

    in_range_holds : (j : ℕ) → j < (insert l m).count → InRange b (mapping_at (insert l m) j)
    in_range_holds j h = go (source j h)
      where
        go : Source j → InRange b (mapping_at (insert l m) j)
        go (new e) = subst⁻¹ (λ (x : Mapping). InRange b x) (ap (mapping_at (insert l m)) e ∙ at_place) range
        go (old k i o e) = subst⁻¹ (λ (x : Mapping). InRange b x) e (rules.in_range_holds k i)

    ordered : (i j : ℕ) → i < j → j < (insert l m).count → Before (mapping_at (insert l m) i) (mapping_at (insert l m) j).space (mapping_at (insert l m) j).page
    ordered i j h k = go (source i (omega arith)) (source j k)
      where
        go : Source i → Source j → Before (mapping_at (insert l m) i) (mapping_at (insert l m) j).space (mapping_at (insert l m) j).page
        go (new e) (new f) = absurd (omega arith)
        go (new e) (old k p o f) = before_cong₂ (sym (ap (mapping_at (insert l m)) e ∙ at_place)) (sym f) (new_before k (⊎_elim (λ q. absurd (omega arith)) (λ q. q.1) o) p)
        go (old k p o e) (new f) = before_cong₂ (sym e) (sym (ap (mapping_at (insert l m)) f ∙ at_place)) (goes.earlier k (⊎_elim (λ q. q.1) (λ q. absurd (omega arith)) o))
        go (old k p o e) (old n q r f) = before_cong₂ (sym e) (sym f) (rules.ordered k n (⊎_elim (λ x. ⊎_elim (λ y. omega arith) (λ y. omega arith) r) (λ x. ⊎_elim (λ y. omega arith) (λ y. omega arith) r) o) q)

    pub inserted_rules : Rules b (insert l m)
    inserted_rules = record { count_le = let n = inserted_count in omega arith; in_range_holds = in_range_holds; ordered = ordered; rest_zero_holds = rest }
      where
        later : (j : ℕ) → place < j → (insert l m).count ≤ j → j < capacity → mapping_at (insert l m) j ≡ zero_mapping
        later zero o h k = absurd (omega arith)
        later (suc j) o h k = let n = inserted_count in at_later j (omega arith) k ∙ rules.rest_zero_holds j (omega arith)

        rest : (j : ℕ) → (insert l m).count ≤ j → mapping_at (insert l m) j ≡ zero_mapping
        rest j h =
            let n = inserted_count in
            let w = within in
            let e = inserted_length in
            ⊎_elim (λ k. later j (omega arith) h k) (λ k. get_or-eq_default (insert l m).items zero_mapping {n = j} (omega arith)) (lt_or_le j capacity)

    pub mapping_of_inserted_same : mapping_of (insert l m) m.space m.page ≡ some m
    mapping_of_inserted_same =
        let n = inserted_count in
        let w = within in
        mapping_of_listed b (insert l m) inserted_rules place m.space m.page (omega arith) (maps_cong (sym at_place) (refl, refl)) ∙ ap some at_place

    -- another pair has the mapping that it had
    pub mapping_of_inserted_other : (s p : ℕ) → (MapsTo m s p → ⊥) → mapping_of (insert l m) s p ≡ mapping_of l s p
    mapping_of_inserted_other s p h = ⊎_elim (λ f. kept f.0 f.1) none_still (lookup_cases l s p)
      where
        moved : (k : ℕ) → k < l.count → (j : ℕ) × (j < (insert l m).count) × (mapping_at (insert l m) j ≡ mapping_at l k)
        moved k o =
            let n = inserted_count in
            ⊎_elim (λ q. (k, omega arith, at_earlier k q)) (λ q. (suc k, omega arith, at_later k q (omega arith))) (lt_or_le k place)

        kept : (k : ℕ) → FoundAt l s p k → mapping_of (insert l m) s p ≡ mapping_of l s p
        kept k f =
            let j = moved k f.listed in
            mapping_of_listed b (insert l m) inserted_rules j.0 s p j.1 (maps_cong (sym j.2) f.maps) ∙ ap some j.2 ∙ sym (mapping_of_at l s p k (at_lookup l s p k f))

        none_still : Unlisted l s p → mapping_of (insert l m) s p ≡ mapping_of l s p
        none_still u = mapping_of_unlisted b (insert l m) inserted_rules s p (λ j o. go (source j o)) ∙ sym (mapping_of_nothing l s p (none_lookup l s p u))
          where
            go : {j : ℕ} → Source j → MapsTo (mapping_at (insert l m) j) s p → ⊥
            go (new e) q = h (maps_cong (ap (mapping_at (insert l m)) e ∙ at_place) q)
            go (old k i o e) q = u k i (omega arith) (maps_cong e q)
