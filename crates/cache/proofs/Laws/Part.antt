-- The laws of parts: what a part holds, and what a list holds inside and outside the part that was put over it.
use mathlib.Core.Path.{◌≡◌, refl, sym, ap, ◌∙◌}
use mathlib.Core.List.{List, ◌++◌}
use Prim.Native.Nat.{ℕ, ◌+◌, ◌-◌, ◌≤◌, ◌<◌}
use native.Mathlib.Omega.{arith}
use native.Mathlib.Decide.{dec_lt}
use lib.ListN.{length, take, drop, get_or, length-append, length-take, length-drop, get_or-append}
use lib.Seq.{get_or-take, get_or-drop, get_or-append-add, length-take-le}
use Rattle.cache.specs.Part.{part, overlay}

pub length_part : (l : List ℕ) (at n : ℕ) → at + n ≤ length l → length (part l at n) ≡ n
unfolding part
length_part l at n fits = simp (length-take, length-drop) (omega arith)

pub part_at : (l : List ℕ) (at n i : ℕ) → i < n → get_or (part l at n) i 0 ≡ get_or l (at + i) 0
unfolding part
part_at l at n i h = rw (get_or-take, get_or-drop)

-- ---- the forms in which the code's parts come

-- a part that is lent from at to at + n
pub part_lent : (l : List ℕ) {at at' : ℕ} (n : ℕ) → at ≡ at' → take (at + n - at) (drop at l) ≡ part l at' n
unfolding part
part_lent l {at} {at'} n e = let k : at + n - at ≡ n = omega arith in cc

-- a list whose part from at to at + n came back as p
pub part_back : (l : List ℕ) {at at' : ℕ} (n : ℕ) {p q : List ℕ} → at ≡ at' → p ≡ q → length q ≡ n → take at l ++ (p ++ drop (at + n - at) (drop at l)) ≡ overlay l at' q
unfolding overlay
part_back l {at} {at'} n {p} {q} e d h = let k : at + n - at ≡ length q = omega arith in cc

-- ---- what is inside and outside

-- the element of an appended list, past the first
get_d_past : (l m : List ℕ) (k n : ℕ) → length l + n ≡ k → get_or (l ++ m) k 0 ≡ get_or m n 0
get_d_past l m k n e = ap (λ (x : ℕ). get_or (l ++ m) x 0) (sym e) ∙ get_or-append-add l m n 0

module _ (l : List ℕ) (at : ℕ) (p : List ℕ) (fits : at + length p ≤ length l) where
  head_length : length (take at l) ≡ at
  head_length = length-take-le at l (omega arith)

  pub length_overlay : length (overlay l at p) ≡ length l
  unfolding overlay
  length_overlay = simp (length-append, length-take, length-drop) (omega arith)

  pub overlay_inside : (i : ℕ) → i < length p → get_or (overlay l at p) (at + i) 0 ≡ get_or p i 0
  unfolding overlay
  overlay_inside i h =
      let e = head_length in
      get_d_past (take at l) (p ++ drop (length p) (drop at l)) (at + i) i (omega arith) ∙ get_or-append p (drop (length p) (drop at l)) 0 i h

  overlay_before : (k : ℕ) → k < at → get_or (overlay l at p) k 0 ≡ get_or l k 0
  unfolding overlay
  overlay_before k h =
      let e = head_length in
      get_or-append (take at l) (p ++ drop (length p) (drop at l)) 0 k (omega arith) ∙ get_or-take at l k 0 h

  overlay_after : (k : ℕ) → at + length p ≤ k → get_or (overlay l at p) k 0 ≡ get_or l k 0
  unfolding overlay
  overlay_after k h =
      let e = head_length in
      let i : ℕ = k - (at + length p) in
      get_d_past (take at l) (p ++ drop (length p) (drop at l)) k (length p + i) (omega arith)
      ∙ get_d_past p (drop (length p) (drop at l)) (length p + i) i refl
      ∙ get_or-drop (length p) (drop at l) i 0
      ∙ get_or-drop at l (length p + i) 0
      ∙ ap (λ (x : ℕ). get_or l x 0) (omega arith)

  pub overlay_outside : (k : ℕ) → (at ≤ k → k < at + length p → ⊥) → get_or (overlay l at p) k 0 ≡ get_or l k 0
  overlay_outside k out = before (dec_lt k at)
    where
      after : at ≤ k → Dec (k < at + length p) → get_or (overlay l at p) k 0 ≡ get_or l k 0
      after h (yes g) = absurd (out h g)
      after h (no g) = overlay_after k (omega arith)

      before : Dec (k < at) → get_or (overlay l at p) k 0 ≡ get_or l k 0
      before (yes h) = overlay_before k h
      before (no h) = after (omega arith) (dec_lt k (at + length p))
