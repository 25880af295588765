-- The format, in the numbers that the code has in hand: the two counts, and the place of the first step.
use mathlib.Core.Bool.{Bool, true, false, not, ◌&&◌, ◌||◌, false≢true}
use mathlib.Core.List.{List}
use mathlib.Core.Logic.{⊎_elim, ◌≢◌}
use mathlib.Core.Path.{◌≡◌, refl, sym, ap, ap₂, subst, ◌∙◌}
use Prim.Native.Nat.{ℕ, zero, suc, ◌+◌, ◌*◌, ◌≤◌, ◌<◌}
use lib.Dec.{ltb}
use lib.ListN.{length}
use native.Mathlib.Omega.{arith}
use Rattle.std.specs.Prelude.{Option, Some, None, unwrap_or, Result, MatchResult, ok_or}
use Rattle.std.specs.Result.{result_unwrap_or}
use Rattle.std.specs.List.{list_all, range_with_len}
use Rattle.bits.specs.Mask.{all}
use Rattle.board.specs.Board.{board01}
use Rattle.mapping.proofs.Tests.{lt_or_le}
use borrow.Author.Tests.{lt-ltb, le-ltb, ltb-false}
use Rattle.sheet_codec.specs.declared.Fields.{Fields}
use Rattle.sheet_codec.specs.declared.Kind.{Kind}
use Rattle.sheet_codec.specs.declared.Kind.TheVariants.{Unmap}
use Rattle.sheet_codec.specs.declared.UnknownKind.{UnknownKind}
use Rattle.sheet_codec.specs.Format.{most_mappings, most_steps, count_bytes, step_bytes, two_bytes, mapping_count, mapping_place, step_count, step_place, sheet_length, fields_at, kind_of, keeps, keeps_as, step_keeps, is_broken, kind_or_unmap, call_of, step_call}

-- ---- places

module _ (s : List ℕ) (m : ℕ) (e : m ≡ mapping_count s) where
  pub step_count_lem : (n : ℕ) → n ≡ two_bytes s (mapping_place m) → n ≡ step_count s
  unfolding step_count
  step_count_lem n d = d ∙ ap (λ (k : ℕ). two_bytes s (mapping_place k)) e

  pub first_place : mapping_place m + count_bytes ≡ step_place s 0
  unfolding step_place
  first_place = omega (arith, ap mapping_place e)

module _ (s : List ℕ) (first i : ℕ) (e : first ≡ step_place s 0) where
  pub step_place_lem : first + step_bytes * i ≡ step_place s i
  unfolding step_place
  step_place_lem = omega arith

  module _ (f : Fields) (d : f ≡ fields_at s (first + step_bytes * i)) where
    there : f ≡ fields_at s (step_place s i)
    there = d ∙ ap (fields_at s) step_place_lem

    pub keeps_at : keeps_as (kind_of f.kind) f ≡ step_keeps s i
    unfolding step_keeps
    keeps_at = ap (λ (x : Fields). keeps_as (kind_of x.kind) x) there

    pub call_at : call_of board01 (kind_or_unmap f.kind) f ≡ step_call board01 s i
    unfolding step_call
    call_at = ap (λ (x : Fields). call_of board01 (kind_or_unmap x.kind) x) there

-- the length that the counts say, from the numbers that the code has
pub length_said : (s : List ℕ) (m n first : ℕ) → m ≡ mapping_count s → n ≡ step_count s → first ≡ mapping_place m + count_bytes
    → first + step_bytes * n ≡ sheet_length s
unfolding sheet_length
length_said s m n first e d f = step_place_lem s first n (f ∙ first_place s m e) ∙ ap (step_place s) d

-- a kind's test, where there is a kind
pub tested : {P : Kind → Type 0} (o : Option Kind) (f : Fields) (e : UnknownKind) (r : Result Kind UnknownKind) (b : Bool) → r ≡ ok_or o e
    → MatchResult r P (λ _. b ≡ false)
    → ((k : Kind) → P k → b ≡ keeps k f)
    → b ≡ keeps_as o f
tested {P = P} None f e r b d h g = subst (λ (x : Result Kind UnknownKind). MatchResult x P (λ _. b ≡ false)) d h
tested {P = P} (Some k) f e r b d h g = g k (subst (λ (x : Result Kind UnknownKind). MatchResult x P (λ _. b ≡ false)) d h)

-- the kind of a step that is made, where the sheet may be broken
pub kind_or : (o : Option Kind) (e : UnknownKind) (r : Result Kind UnknownKind) → r ≡ ok_or o e → result_unwrap_or r Unmap ≡ unwrap_or o Unmap
kind_or None e r d = ap (λ (x : Result Kind UnknownKind). result_unwrap_or x Unmap) d
kind_or (Some k) e r d = ap (λ (x : Result Kind UnknownKind). result_unwrap_or x Unmap) d

-- ---- a test of every place below n, one place after the other

all_from : (p q : ℕ → Bool) (a n : ℕ) → ((k : ℕ) → q k ≡ p (a + k)) → list_all p (range_with_len a n) ≡ all n q
unfolding all
all_from p q a zero e = refl
all_from p q a (suc n) e =
    ap₂ ◌&&◌ (ap p (omega arith) ∙ sym (e 0)) (all_from p (λ k. q (suc k)) (a + 1) n (λ k. e (suc k) ∙ ap p (omega arith)))

pub all_range : (p : ℕ → Bool) (n : ℕ) → list_all p (range_with_len 0 n) ≡ all n p
all_range p n = all_from p p 0 n (λ k. ap p (omega arith))

-- ---- the ways of being broken, in the order of the tests

module _ (s : List ℕ) where
  pub many_mappings : most_mappings < mapping_count s → true ≡ is_broken s
  unfolding is_broken
  many_mappings h = sym (rw (lt-ltb most_mappings (mapping_count s) h))

  module _ (a : mapping_count s ≤ most_mappings) where
    pub many_steps : most_steps < step_count s → true ≡ is_broken s
    unfolding is_broken
    many_steps h = sym (rw (le-ltb most_mappings (mapping_count s) a, lt-ltb most_steps (step_count s) h))

    module _ (b : step_count s ≤ most_steps) where
      ends_early : length s < sheet_length s → true ≡ is_broken s
      unfolding is_broken
      ends_early h =
          sym (rw (le-ltb most_mappings (mapping_count s) a, le-ltb most_steps (step_count s) b, lt-ltb (length s) (sheet_length s) h))

      goes_on : sheet_length s < length s → true ≡ is_broken s
      unfolding is_broken
      goes_on h =
          let early = le-ltb (length s) (sheet_length s) (omega arith) in
          sym (rw (le-ltb most_mappings (mapping_count s) a, le-ltb most_steps (step_count s) b, early, lt-ltb (sheet_length s) (length s) h))

      pub wrong_length : (length s ≢ sheet_length s) → true ≡ is_broken s
      wrong_length h = ⊎_elim ends_early (λ l. goes_on (omega (arith, h, l))) (lt_or_le (length s) (sheet_length s))

      pub step_breaks : length s ≡ sheet_length s → not (all (step_count s) (step_keeps s)) ≡ is_broken s
      unfolding is_broken
      step_breaks h =
          let early = le-ltb (length s) (sheet_length s) (omega arith) in
          let late = le-ltb (sheet_length s) (length s) (omega arith) in
          sym (rw (le-ltb most_mappings (mapping_count s) a, le-ltb most_steps (step_count s) b, early, late))

-- ---- an unbroken sheet

none_of : (a b c d e : Bool) → (a || b || c || d || e) ≡ false → (a ≡ false) × (b ≡ false) × (c ≡ false) × (d ≡ false)
none_of true b c d e h = absurd (false≢true (sym h))
none_of false true c d e h = absurd (false≢true (sym h))
none_of false false true d e h = absurd (false≢true (sym h))
none_of false false false true e h = absurd (false≢true (sym h))
none_of false false false false e h = (refl, refl, refl, refl)

module _ (s : List ℕ) (e : is_broken s ≡ false) where
  tests : (ltb most_mappings (mapping_count s) ≡ false) × (ltb most_steps (step_count s) ≡ false) × (ltb (length s) (sheet_length s) ≡ false) × (ltb (sheet_length s) (length s) ≡ false)
  unfolding is_broken
  tests = none_of _ _ _ _ (not (all (step_count s) (step_keeps s))) e

  pub counts_fit : (mapping_count s ≤ most_mappings) × (step_count s ≤ most_steps)
  counts_fit = (ltb-false _ _ tests.0, ltb-false _ _ tests.1)

  pub length_is : length s ≡ sheet_length s
  length_is = omega (arith, ltb-false (length s) (sheet_length s) tests.2, ltb-false (sheet_length s) (length s) tests.3)
