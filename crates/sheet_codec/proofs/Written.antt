-- The laws of bytes written into a buffer of text: one after the other, they are their concatenation.
use mathlib.Core.List.{List, [], ◌∷◌, ◌++◌, append_assoc, append-nil}
use mathlib.Core.Logic.{⊎_elim}
use mathlib.Core.Path.{◌≡◌, refl, sym, ap, ap₂, subst⁻¹, ◌∙◌}
use Prim.Native.Nat.{ℕ, zero, suc, ◌+◌, ◌≤◌, ◌<◌}
use native.Mathlib.Numerals.{add-one}
use native.Mathlib.Omega.{arith}
use lib.ListN.{length, take, drop, set, length-append, length-take, take-append-drop}
use lib.Seq.{take_all, take_at, drop-nil, drop_at, drop-drop, set_split, paste}
use Rattle.mapping.proofs.Tests.{lt_or_le}
use Rattle.cache.specs.Part.{overlay}
use Rattle.sheet_codec.specs.Put.{Put}
use Rattle.sheet_codec.specs.Wrote.{Wrote}
use Rattle.sheet_codec.specs.declared.text.Line.{Line}

pub overlay_nil : (l : List ℕ) (at : ℕ) → overlay l at [] ≡ l
unfolding overlay
overlay_nil l at = take-append-drop at l

pub set_overlay : (l : List ℕ) (i x : ℕ) → i < length l → set l i x ≡ overlay l i (x ∷ [])
unfolding overlay
set_overlay l i x h =
    set_split l i x h
    ∙ ap (λ (r : List ℕ). take i l ++ x ∷ r) (sym (drop-drop 1 i l ∙ ap (λ (k : ℕ). drop k l) (add-one i)))

module _ (l : List ℕ) (at : ℕ) (p q : List ℕ) (h : at ≤ length l) where
  before : List ℕ
  before = take at l

  rest : List ℕ
  rest = drop (length p) (drop at l)

  head_length : length (before ++ p) ≡ at + length p
  unfolding before
  head_length = simp (length-append, length-take) (omega arith)

  regroup : overlay l at p ≡ (before ++ p) ++ rest
  unfolding overlay before rest
  regroup = sym (append_assoc (take at l) p (drop (length p) (drop at l)))

  rest_drop : drop (length q) rest ≡ drop (length (p ++ q)) (drop at l)
  unfolding rest
  rest_drop = drop-drop (length q) (length p) (drop at l) ∙ ap (λ (k : ℕ). drop k (drop at l)) (sym (length-append p q))

  overlay_within : overlay (overlay l at p) (at + length p) q ≡ overlay l at (p ++ q)
  unfolding overlay before rest
  overlay_within =
      ap (λ (x : List ℕ). overlay x (at + length p) q) regroup
      ∙ ap₂ (λ (u v : List ℕ). u ++ (q ++ drop (length q) v)) (take_at (before ++ p) rest _ head_length) (drop_at (before ++ p) rest _ head_length)
      ∙ append_assoc before p (q ++ drop (length q) rest)
      ∙ ap (λ (x : List ℕ). before ++ x) (sym (append_assoc p q (drop (length q) rest)) ∙ ap (λ (x : List ℕ). (p ++ q) ++ x) rest_drop)

-- past the end, they come behind it
drop_past : (l : List ℕ) (n : ℕ) → length l ≤ n → drop n l ≡ []
drop_past [] n h = drop-nil n
drop_past (x ∷ l) zero h = absurd (omega arith)
drop_past (x ∷ l) (suc n) h = drop_past l n (omega arith)

overlay_past : (l : List ℕ) (at : ℕ) (p : List ℕ) → length l ≤ at → overlay l at p ≡ l ++ p
unfolding overlay
overlay_past l at p h =
    ap₂ (λ (u v : List ℕ). u ++ (p ++ drop (length p) v)) (take_all at l h) (drop_past l at h)
    ∙ ap (λ (x : List ℕ). l ++ (p ++ x)) (drop-nil (length p))
    ∙ ap (λ (x : List ℕ). l ++ x) (append-nil p)

pub overlay_overlay : (l : List ℕ) (at : ℕ) (p q : List ℕ) → overlay (overlay l at p) (at + length p) q ≡ overlay l at (p ++ q)
overlay_overlay l at p q =
    ⊎_elim
    (λ h.
    ap (λ (x : List ℕ). overlay x (at + length p) q) (overlay_past l at p (omega arith))
    ∙ overlay_past (l ++ p) (at + length p) q (omega (arith, length-append l p))
    ∙ append_assoc l p q
    ∙ sym (overlay_past l at (p ++ q) (omega arith)))
    (λ h. overlay_within l at p q h)
    (lt_or_le (length l) at)

pub put_both : {l m n p q : List ℕ} {at k j a b : ℕ} → Put l at p a m k → Put m k q b n j → Put l at (p ++ q) (a + b) n j
put_both {l} {m} {n} {p} {q} {at} {k} {j} x y =
    record {
      written = y.written ∙ ap₂ (λ (u : List ℕ) (v : ℕ). overlay u v q) x.written x.next_is ∙ overlay_overlay l at p q;
      next_is = omega (arith, length-append p q);
      short = omega (arith, length-append p q);
    }

pub put_byte : {l : List ℕ} {at : ℕ} (x : ℕ) → at < length l → Put l at (x ∷ []) 1 (set l at x) (at + 1)
put_byte {l} {at} x h = record { written = set_overlay l at x h; next_is = refl; short = omega arith }

-- the same bytes, by another name
pub put_as : {l m p q : List ℕ} {at k a b : ℕ} → p ≡ q → a ≤ b → Put l at p a m k → Put l at q b m k
put_as {l} {m} {p} {q} {at} e h x =
    record {
      written = x.written ∙ ap (overlay l at) e;
      next_is = x.next_is ∙ ap (λ (s : List ℕ). at + length s) e;
      short = omega (arith, ap length e);
    }

-- the same bytes in more room
pub put_within : {l m p : List ℕ} {at k a b : ℕ} → a ≤ b → Put l at p a m k → Put l at p b m k
put_within h x = put_as refl h x

-- a slice that was copied to its end
pub pasted : (l : List ℕ) (at : ℕ) (s : List ℕ) (n : ℕ) → length s ≡ n → paste l at s n ≡ overlay l at s
unfolding overlay
pasted l at s n e =
    append_assoc (take at l) (take n s) (drop (at + n) l)
    ∙ ap₂ (λ (u v : List ℕ). take at l ++ (u ++ v)) (take_all n s (omega arith)) (sym (drop-drop (length s) at l ∙ ap (λ (k : ℕ). drop (at + k) l) e))

-- ---- the same of a line, which has the buffer and the place

pub wrote_both : {l m n : Line} {p q : List ℕ} {a b : ℕ} → Wrote l p a m → Wrote m q b n → Wrote l (p ++ q) (a + b) n
wrote_both x y = record { same = y.same ∙ x.same; long = y.long ∙ x.long; put = put_both x.put y.put }

pub wrote_as : {l m : Line} {p q : List ℕ} {a b : ℕ} → p ≡ q → a ≤ b → Wrote l p a m → Wrote l q b m
wrote_as e h x = record { same = x.same; long = x.long; put = put_as e h x.put }

-- once a line is given back, its buffer holds what it held
pub put_back : {l m n s q : List ℕ} {at k a b : ℕ} → n ≡ m → s ≡ q → a ≤ b → Put l at s a m k → Put l at q b n k
put_back {l} {s = s} {q = q} {at = at} {k = k} {a = a} {b = b} e d h x = subst⁻¹ (λ (n : List ℕ). Put l at q b n k) e (put_as d h x)
