-- Records copied into a part of others: what was copied stands there, and the others stay.
use mathlib.Core.Path.{◌≡◌, ap, ◌∙◌}
use mathlib.Core.List.{List, ◌++◌}
use Prim.Native.Nat.{ℕ, ◌+◌, ◌-◌, ◌≤◌}
use native.Mathlib.Omega.{arith}
use lib.ListN.{length, get_or, take, drop}
use borrow.Rule.Slice.PartMut.{put_mid, post_of}
use Rattle.std.specs.List.{CopiedTo, SameBelow}
use Rattle.std.proofs.lemmas.List.{length-append, length-take, length-drop, get_or_append_left, get_or-append_right, get_or-take, get_or-drop}
use Rattle.mapping.specs.declared.Mapping.{Mapping}

module _ (items : List Mapping) (a k from : ℕ) {n : ℕ} {ys : List Mapping} (e : ys ≡ take n (drop from items)) (same : n ≡ k) (room : a + k ≤ length items) (there : from + k ≤ length items) where
  front : length (take a items) ≡ a
  front = length-take a items ∙ omega arith

  copied : length ys ≡ k
  copied = ap (λ (l : List Mapping). length l) e ∙ length-take n (drop from items) ∙ omega (arith, length-drop from items)

  pub part_length : length (put_mid a k items ys) ≡ length items
  part_length =
      length-append (take a items) (ys ++ post_of a k items) ∙ omega (arith, front, copied, length-append ys (post_of a k items), length-drop k (drop a items), length-drop a items)

  pub part_copied : CopiedTo items (put_mid a k items ys) from a k
  part_copied j d le lt =
      get_or-append_right (take a items) (ys ++ post_of a k items) a j d front le
      ∙ get_or_append_left ys (post_of a k items) d (j - a) (omega (arith, copied))
      ∙ ap (λ (l : List Mapping). get_or l (j - a) d) e
      ∙ get_or-take n (drop from items) (j - a) d (omega arith)
      ∙ get_or-drop from items (j - a) d

  pub part_below : SameBelow items (put_mid a k items ys) a
  part_below j d lt = get_or_append_left (take a items) (ys ++ post_of a k items) d j (omega (arith, front)) ∙ get_or-take a items j d lt
