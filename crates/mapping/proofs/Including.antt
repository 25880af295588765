-- The laws of a list of records with one more at a place, and what a copy of the later ones makes of it.
use mathlib.Core.Path.{◌≡◌, refl, sym, ap, ◌∙◌}
use mathlib.Core.Bool.{Bool, true, false}
use mathlib.Core.List.{List, ◌∷◌, ◌++◌}
use mathlib.Core.Logic.{⊎_elim}
use Prim.Native.Nat.{ℕ, zero, suc, ◌+◌, ◌-◌, ◌≤◌, ◌<◌}
use native.Mathlib.Omega.{arith}
use borrow.Author.Tests.{eqb-true, eqb-false}
use lib.Dec.{eqb}
use lib.ListN.{length, get_or, take, drop, set, length-append, length-take, length-drop, length-set, get_or-append}
use lib.Seq.{length-take-le, get_or-append-add, get_or_at, get_or-take, get_or-drop, get_or-set_same, get_or-set_other, ext_get_or}
use Rattle.std.specs.List.{CopiedTo, SameBelow}
use Rattle.mapping.specs.declared.Mapping.{Mapping}
use Rattle.mapping.specs.Entry.{zero_mapping}
use Rattle.mapping.specs.Change.{including}
use Rattle.mapping.proofs.Tests.{lt_or_le}

module _ (items : List Mapping) (i : ℕ) (m : Mapping) (inside : i < length items) where
  joined : length (take i items ++ (m ∷ drop i items)) ≡ suc (length items)
  joined = simp (length-append, length-take, length-drop) (omega arith)

  pub including_length : length (including items i m) ≡ length items
  unfolding including
  including_length = length-take-le (length items) _ (let n = joined in omega arith)

  taken : length (take i items) ≡ i
  taken = length-take-le i items (omega arith)

  -- the earlier records stay
  pub including_earlier : (j : ℕ) → j < i → get_or (including items i m) j zero_mapping ≡ get_or items j zero_mapping
  unfolding including
  including_earlier j l =
      get_or-take (length items) _ j zero_mapping (omega arith)
      ∙ get_or-append (take i items) _ zero_mapping j (let t = taken in omega arith)
      ∙ get_or-take i items j zero_mapping l

  pub including_same : get_or (including items i m) i zero_mapping ≡ m
  unfolding including
  including_same = get_or-take (length items) _ i zero_mapping inside ∙ get_or_at (take i items) m (drop i items) zero_mapping i taken

  -- the later ones move up by one
  pub including_later : (j : ℕ) → i ≤ j → suc j < length items → get_or (including items i m) (suc j) zero_mapping ≡ get_or items j zero_mapping
  unfolding including
  including_later j l h =
      let t = taken in
      let e : suc j ≡ length (take i items) + suc (j - i) = omega arith in
      let f : i + (j - i) ≡ j = omega arith in
      get_or-take (length items) _ (suc j) zero_mapping h
      ∙ ap (λ (n : ℕ). get_or (take i items ++ (m ∷ drop i items)) n zero_mapping) e
      ∙ get_or-append-add (take i items) (m ∷ drop i items) (suc (j - i)) zero_mapping
      ∙ get_or-drop i items (j - i) zero_mapping
      ∙ ap (λ (n : ℕ). get_or items n zero_mapping) f

  -- the later ones are copied up by one, and m is put at its place
  pub copied_up : (next : List Mapping) (n : ℕ) → length items ≡ suc n → length next ≡ length items
      → CopiedTo items next i (i + 1) (n - i) → SameBelow items next (i + 1) → set next i m ≡ including items i m
  copied_up next n long same copied below =
      ext_get_or zero_mapping (set next i m) (including items i m) (length-set next i m ∙ same ∙ sym including_length) (λ k l. each k (eqb k i) refl (omega (arith, length-set next i m)))
    where
      earlier : (k : ℕ) → k < i → get_or next k zero_mapping ≡ get_or (including items i m) k zero_mapping
      earlier k h = below k zero_mapping (omega arith) ∙ sym (including_earlier k h)

      later : (k : ℕ) → i < k → k < length items → get_or next k zero_mapping ≡ get_or (including items i m) k zero_mapping
      later zero h l = absurd (omega arith)
      later (suc j) h l =
          let e : i + (suc j - (i + 1)) ≡ j = omega arith in
          copied (suc j) zero_mapping (omega arith) (omega arith) ∙ ap (λ (n : ℕ). get_or items n zero_mapping) e ∙ sym (including_later j (omega arith) l)

      each : (k : ℕ) (t : Bool) → eqb k i ≡ t → k < length items → get_or (set next i m) k zero_mapping ≡ get_or (including items i m) k zero_mapping
      each k true z l =
          let e = eqb-true k i z in
          ap (λ (n : ℕ). get_or (set next i m) n zero_mapping) e ∙ get_or-set_same next i m zero_mapping (omega arith)
          ∙ sym (ap (λ (n : ℕ). get_or (including items i m) n zero_mapping) e ∙ including_same)
      each k false z l = get_or-set_other next i k m zero_mapping (eqb-false k i z) ∙ ⊎_elim (earlier k) (λ h. later k (let ne = eqb-false k i z in omega arith) l) (lt_or_le k i)
