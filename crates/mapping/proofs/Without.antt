-- The laws of a list of records without the one at a place, and what a copy of the later ones makes of it.
use mathlib.Core.Path.{◌≡◌, refl, sym, ap, ◌∙◌}
use mathlib.Core.List.{List, [], ◌∷◌, ◌++◌}
use mathlib.Core.Logic.{⊎_elim}
use Prim.Native.Nat.{ℕ, zero, suc, ◌+◌, ◌-◌, ◌≤◌, ◌<◌}
use native.Mathlib.Omega.{arith}
use borrow.Author.Count.{below_more}
use lib.ListN.{length, get_or, take, drop, set, length-append, length-take, length-drop, length-set, get_or-append, get_or-eq_default}
use lib.Seq.{length-take-le, get_or-append-add, get_or-take, get_or-drop, get_or-set_same, get_or-set_other, ext_get_or}
use Rattle.std.specs.List.{CopiedTo, SameBelow}
use Rattle.mapping.specs.declared.Mapping.{Mapping}
use Rattle.mapping.specs.Entry.{zero_mapping}
use Rattle.mapping.specs.Change.{without}
use Rattle.mapping.proofs.Tests.{lt_or_le}

-- a default put last changes no element
get_or_pad : (xs : List Mapping) (z : Mapping) (n : ℕ) → get_or (xs ++ (z ∷ [])) n z ≡ get_or xs n z
get_or_pad [] z zero = refl
get_or_pad [] z (suc n) = refl
get_or_pad (x ∷ xs) z zero = refl
get_or_pad (x ∷ xs) z (suc n) = get_or_pad xs z n

module _ (items : List Mapping) (i : ℕ) (inside : i < length items) where
  pub without_length : length (without items i) ≡ length items
  unfolding without
  without_length = simp (length-append, length-take, length-drop) (omega arith)

  taken : length (take i items) ≡ i
  taken = length-take-le i items (omega arith)

  -- the earlier records stay
  pub without_earlier : (j : ℕ) → j < i → get_or (without items i) j zero_mapping ≡ get_or items j zero_mapping
  unfolding without
  without_earlier j l = get_or-append (take i items) _ zero_mapping j (let t = taken in omega arith) ∙ get_or-take i items j zero_mapping l

  -- the later ones move down by one
  pub without_later : (j : ℕ) → i ≤ j → get_or (without items i) j zero_mapping ≡ get_or items (suc j) zero_mapping
  unfolding without
  without_later j l =
      let t = taken in
      let e : j ≡ length (take i items) + (j - i) = omega arith in
      let f : suc i + (j - i) ≡ suc j = omega arith in
      ap (λ (n : ℕ). get_or (without items i) n zero_mapping) e
      ∙ get_or-append-add (take i items) (drop (suc i) items ++ (zero_mapping ∷ [])) (j - i) zero_mapping
      ∙ get_or_pad (drop (suc i) items) zero_mapping (j - i)
      ∙ get_or-drop (suc i) items (j - i) zero_mapping
      ∙ ap (λ (n : ℕ). get_or items n zero_mapping) f

  -- the later ones are copied down by one, and the last is zeroed
  pub copied_down : (next : List Mapping) (n : ℕ) → length items ≡ suc n → length next ≡ length items
      → CopiedTo items next (i + 1) i (length items - (i + 1)) → SameBelow items next i → set next n zero_mapping ≡ without items i
  copied_down next n long same copied below =
      ext_get_or zero_mapping (set next n zero_mapping) (without items i) (length-set next n zero_mapping ∙ same ∙ sym without_length)
      (λ k l. each k (omega (arith, length-set next n zero_mapping)))
    where
      moved : (k : ℕ) → k < n → get_or next k zero_mapping ≡ get_or (without items i) k zero_mapping
      moved k h =
          ⊎_elim (λ o. below k zero_mapping o ∙ sym (without_earlier k o))
          (λ o. let e : i + 1 + (k - i) ≡ suc k = omega arith in
          copied k zero_mapping o (omega arith) ∙ ap (λ (n : ℕ). get_or items n zero_mapping) e ∙ sym (without_later k o))
          (lt_or_le k i)

      each : (k : ℕ) → k < n + 1 → get_or (set next n zero_mapping) k zero_mapping ≡ get_or (without items i) k zero_mapping
      each =
          below_more _ n (λ k m. get_or-set_other next n k zero_mapping zero_mapping (λ e. omega arith) ∙ moved k m)
          (get_or-set_same next n zero_mapping zero_mapping (omega arith) ∙ sym (without_later n (omega arith) ∙ get_or-eq_default items zero_mapping (omega arith)))
