-- The laws of lookup: what it says of the list, and what it finds in a list that keeps its rules.
use mathlib.Core.Path.{◌≡◌, refl, sym, ap, ap₂, ◌∙◌}
use mathlib.Core.Bool.{true, false, cond}
use mathlib.Core.List.{List}
use mathlib.Core.Logic.{◌⊎◌, inl, inr, ⊎_elim}
use mathlib.Core.Option.{none, some, some-injective, none-ne-some}
use Prim.Native.Nat.{ℕ, min, ◌<◌}
use native.Mathlib.Omega.{arith}
use lib.Dec.{ltb}
use lib.ListN.{length, get_or, take, length-take}
use lib.Seq.{get_or-take}
use borrow.Author.Tests.{lt-ltb, le-ltb}
use Rattle.std.specs.List.{position, position_or_len}
use Rattle.std.proofs.lemmas.List.Sums.{position_or_len_is}
use Rattle.mapping.specs.Lent.{lent}
use Rattle.board.specs.declared.Board.{Board}
use Rattle.mapping.specs.declared.Mapping.{Mapping}
use Rattle.mapping.specs.declared.MappingList.{MappingList}
use Rattle.std.specs.Prelude.{Option, Some, None, is_some}
use Rattle.mapping.specs.Entry.{zero_mapping, is_at, mapping_at}
use Rattle.mapping.specs.Lookup.{lookup, mapping_found, mapping_of, is_mapped, place_of, listed_mapping}
use Rattle.mapping.specs.Facts.{MapsTo, Rules, FoundAt, Unlisted}
use Rattle.mapping.proofs.Entry.{is_at_true, maps_is_at, is_at_false, not_is_at}
use Rattle.mapping.proofs.Order.{ordered_distinct}
use Rattle.mapping.proofs.Rules.{count_length}
use Rattle.mapping.proofs.First.{First, at_first_found, nothing_first_found, first_found_cases, first_found_at, first_found_nothing}

-- ---- any list

module _ (l : MappingList) (s p : ℕ) where
  found : (i : ℕ) → First (min l.count (length l.items)) (λ k. is_at (mapping_at l k) s p) i → FoundAt l s p i
  found i f = record { listed = omega arith; inside = omega arith; maps = is_at_true _ _ _ f.picked; first = λ k h. is_at_false _ _ _ (f.earlier k h) }

  pub lookup_at : (i : ℕ) → lookup l s p ≡ Some i → FoundAt l s p i
  unfolding lookup
  lookup_at i e = found i (first_found_at _ _ i e)

  pub at_lookup : (i : ℕ) → FoundAt l s p i → lookup l s p ≡ Some i
  unfolding lookup
  at_lookup i f = at_first_found _ _ i (record { below = omega arith; picked = maps_is_at _ _ _ f.maps; earlier = λ k h. not_is_at _ _ _ (f.first k h) })

  pub lookup_none : lookup l s p ≡ None → Unlisted l s p
  unfolding lookup
  lookup_none e i h k = is_at_false _ _ _ (first_found_nothing _ _ e i (omega arith))

  pub none_lookup : Unlisted l s p → lookup l s p ≡ None
  unfolding lookup
  none_lookup h = nothing_first_found _ _ (λ k j. not_is_at _ _ _ (h k (omega arith) (omega arith)))

  -- a page of a space is found at a first place, or is not listed
  pub lookup_cases : ((i : ℕ) × FoundAt l s p i) ⊎ Unlisted l s p
  lookup_cases =
      ⊎_elim (λ f. inl (f.0, found f.0 f.1)) (λ h. inr (λ k i j. is_at_false _ _ _ (h k (omega arith))))
      (first_found_cases (min l.count (length l.items)) (λ k. is_at (mapping_at l k) s p))

  -- the mapping that is found
  pub mapping_of_at : (i : ℕ) → lookup l s p ≡ Some i → mapping_of l s p ≡ some (mapping_at l i)
  unfolding mapping_of
  mapping_of_at i e = ap (mapping_found l) e

  pub mapping_of_nothing : lookup l s p ≡ None → mapping_of l s p ≡ none
  unfolding mapping_of
  mapping_of_nothing e = ap (mapping_found l) e

  -- and what is found if the mapping is known, or that there is none
  pub found_listed : (m : Mapping) → mapping_of l s p ≡ some m → (is_mapped l s p ≡ true) × (listed_mapping l s p ≡ m)
  unfolding mapping_of
  found_listed m e = go (lookup l s p) e
    where
      go : (x : Option ℕ) → mapping_found l x ≡ some m → (is_some x ≡ true) × (mapping_at l (place_of x) ≡ m)
      go (Some i) q = (refl, some-injective _ _ q)
      go None q = absurd (none-ne-some _ q)

  pub none_found : mapping_of l s p ≡ none → lookup l s p ≡ None
  unfolding mapping_of
  none_found e = go (lookup l s p) e
    where
      go : (x : Option ℕ) → mapping_found l x ≡ none → x ≡ None
      go (Some i) q = absurd (none-ne-some _ (sym q))
      go None q = refl

-- ---- the first of the listed records that passes, as `position` gives it

module _ (xs : List Mapping) (n s p : ℕ) where
  listed : (k : ℕ) → k < n → is_at (get_or (take n xs) k zero_mapping) s p ≡ is_at (get_or xs k zero_mapping) s p
  listed k h = ap (λ (m : Mapping). is_at m s p) (get_or-take n xs k zero_mapping h)

  counted : length (take n xs) ≡ min n (length xs)
  counted = length-take n xs

  place : ℕ
  place = position_or_len (λ m. is_at m s p) (take n xs)

  answer : (i : ℕ) → place ≡ i → position (λ m. is_at m s p) (take n xs) ≡ cond (ltb i (min n (length xs))) (Some i) None
  unfolding place
  answer i e = ap₂ (λ (x y : ℕ). cond (ltb x y) (Some x) None) e counted

  pub position_lookup : position (λ m. is_at m s p) (take n xs) ≡ lookup (lent xs n) s p
  unfolding lookup place
  position_lookup = ⊎_elim (λ f. there f.0 f.1) nowhere (first_found_cases (min n (length xs)) (λ k. is_at (get_or xs k zero_mapping) s p))
    where
      there : (i : ℕ) → First (min n (length xs)) (λ k. is_at (get_or xs k zero_mapping) s p) i → position (λ m. is_at m s p) (take n xs) ≡ lookup (lent xs n) s p
      there i f =
          let e = position_or_len_is (λ m. is_at m s p) (take n xs) i zero_mapping (omega (arith, counted)) (λ k h. listed k (omega arith) ∙ f.earlier k h) (λ h. listed i (omega arith) ∙ f.picked) in
          answer i e ∙ rw (lt-ltb i (min n (length xs)) f.below) (sym (at_first_found _ _ i f))

      nowhere : ((k : ℕ) → k < min n (length xs) → is_at (get_or xs k zero_mapping) s p ≡ false) → position (λ m. is_at m s p) (take n xs) ≡ lookup (lent xs n) s p
      nowhere h =
          let e = position_or_len_is (λ m. is_at m s p) (take n xs) (min n (length xs)) zero_mapping (omega (arith, counted)) (λ k l. listed k (omega arith) ∙ h k l) (λ l. absurd (omega (arith, counted))) in
          answer (min n (length xs)) e ∙ rw (le-ltb (min n (length xs)) (min n (length xs)) (omega arith)) (sym (nothing_first_found _ _ h))

-- ---- a list that keeps its rules

module _ (b : Board) (l : MappingList) (rules : Rules b l) where
  -- a listed mapping is found at its own place
  pub listed_found : (i s p : ℕ) → i < l.count → MapsTo (mapping_at l i) s p → FoundAt l s p i
  listed_found i s p h m =
      let n = count_length b l rules in
      record {
        listed = h;
        inside = omega arith;
        maps = m;
        first = λ k j e. let f = ordered_distinct l rules.ordered k i (omega arith) h (e.0 ∙ sym m.0, e.1 ∙ sym m.1) in omega arith;
      }

  pub mapping_of_listed : (i s p : ℕ) → i < l.count → MapsTo (mapping_at l i) s p → mapping_of l s p ≡ some (mapping_at l i)
  mapping_of_listed i s p h m = mapping_of_at l s p i (at_lookup l s p i (listed_found i s p h m))

  -- where no listed mapping has the space and page there is none
  pub mapping_of_unlisted : (s p : ℕ) → ((i : ℕ) → i < l.count → MapsTo (mapping_at l i) s p → ⊥) → mapping_of l s p ≡ none
  mapping_of_unlisted s p h = mapping_of_nothing l s p (none_lookup l s p (λ i j k. h i j))
