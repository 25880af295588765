-- The test of the list's rules and the facts that it says, for any board and any list.
use mathlib.Core.Path.{◌≡◌, refl, sym, ap, ap₂, ◌∙◌, fun_ext}
use mathlib.Core.Bool.{Bool, true, false, ◌&&◌, ◌||◌, or-true, and-true, and-false, and_assoc}
use mathlib.Core.List.{List, [], ◌∷◌}
use mathlib.Core.Logic.{⊎_elim}
use Prim.Native.Nat.{ℕ, zero, suc, ◌+◌, ◌≤◌, ◌<◌}
use native.Mathlib.Numerals.{add-one}
use native.Mathlib.Omega.{arith}
use native.Mathlib.Nat.{le_refl}
use lib.Dec.{eqb, ltb}
use lib.ListN.{length, get_or, take, drop, get_or-eq_default}
use Rattle.std.specs.List.{list_all, IsAllAdjacentAnswer}
use borrow.Author.Tests.{leb-true, le-leb, lt-leb, lt-ltb, le-ltb}
use Rattle.bits.specs.Mask.{all}
use Rattle.bits.proofs.Mask.{all_at, all_of, or_within}
use Rattle.std.proofs.Common.{bit_or}
use Rattle.std.proofs.lemmas.Bool.Decides.{nat_tests}
use Rattle.board.specs.declared.Board.{Board}
use Rattle.mapping.specs.declared.Mapping.{Mapping}
use Rattle.mapping.specs.declared.MappingList.{MappingList}
use Rattle.mapping.specs.Entry.{capacity, zero_mapping, in_range, is_zero, is_before, mapping_at}
use Rattle.mapping.specs.Rules.{all_in_range, rising, every_zero, rest_zero, keeps_rules}
use Rattle.mapping.specs.Facts.{Rules}
use Rattle.mapping.proofs.Tests.{chain_last, and_both, all_not, lt_or_le}
use Rattle.mapping.proofs.Entry.{in_range_true, range_in_range, is_zero_true, is_zero_zero}
use Rattle.mapping.proofs.Order.{neighbours_order}
use Rattle.mapping.proofs.InOrder.{listed_length, stands_next}

-- ---- the places past the count, one by one

at_each : (ms : List Mapping) → every_zero ms ≡ all (length ms) (λ i. is_zero (get_or ms i zero_mapping))
unfolding every_zero all
at_each [] = refl
at_each (m ∷ ms) = ap (λ (t : Bool). is_zero m && t) (at_each ms)

-- two tests that agree at each place
all_same : (n : ℕ) (p q : ℕ → Bool) → ((i : ℕ) → p i ≡ q i) → all n p ≡ all n q
all_same n p q e = ap (all n) (fun_ext e)

suc_ltb : (i c : ℕ) → ltb i c ≡ ltb (suc i) (suc c)
suc_ltb i c = ⊎_elim (λ h. lt-ltb i c h ∙ sym (lt-ltb (suc i) (suc c) (omega arith))) (λ h. le-ltb i c h ∙ sym (le-ltb (suc i) (suc c) (omega arith))) (lt_or_le i c)

past_each : (ms : List Mapping) (c : ℕ) → every_zero (drop c ms) ≡ all (length ms) (λ i. ltb i c || is_zero (get_or ms i zero_mapping))
unfolding every_zero all
past_each [] zero = refl
past_each [] (suc c) = refl
past_each (m ∷ ms) zero =
    at_each (m ∷ ms) ∙ all_same (length (m ∷ ms)) _ _ (λ i. ap (λ (t : Bool). t || is_zero (get_or (m ∷ ms) i zero_mapping)) (sym (le-ltb i 0 (omega arith))))
past_each (m ∷ ms) (suc c) =
    past_each ms c
    ∙ all_same (length ms) _ _ (λ i. ap (λ (t : Bool). t || is_zero (get_or ms i zero_mapping)) (suc_ltb i c))
    ∙ ap (λ (t : Bool). (t || is_zero m) && all (length ms) (λ i. ltb (suc i) (suc c) || is_zero (get_or ms i zero_mapping))) (sym (lt-ltb 0 (suc c) (omega arith)))

pub rest_at_each : (l : MappingList) → rest_zero l ≡ all (length l.items) (λ i. ltb i l.count || is_zero (mapping_at l i))
unfolding rest_zero
rest_at_each l = past_each l.items l.count

-- one place more
more_zero : (ms : List Mapping) (i : ℕ) → i < length ms → every_zero (take (suc i) ms) ≡ (every_zero (take i ms) && is_zero (get_or ms i zero_mapping))
unfolding every_zero
more_zero [] i h = absurd (omega arith)
more_zero (m ∷ ms) zero h = and-true (is_zero m)
more_zero (m ∷ ms) (suc i) h = ap (λ (t : Bool). is_zero m && t) (more_zero ms i (omega arith)) ∙ sym (and_assoc (is_zero m) _ _)

pub every_zero_more : (ms : List Mapping) (i : ℕ) → i < length ms → every_zero (take (i + 1) ms) ≡ (every_zero (take i ms) && is_zero (get_or ms i zero_mapping))
every_zero_more ms i h = ap (λ (n : ℕ). every_zero (take n ms)) (add-one i) ∙ more_zero ms i h

-- an `|` is 0 if both parts are
pub or_zero : (a b : ℕ) → eqb (bit_or a b) 0 ≡ (eqb a 0 && eqb b 0)
or_zero a b = small (bit_or a b) ∙ or_within 0 a b ∙ ap₂ ◌&&◌ (sym (small a)) (sym (small b))
  where
    small : (n : ℕ) → eqb n 0 ≡ ltb n 1
    small n = grind (arith, nat_tests)

pub rest_zeros : (l : MappingList) {rest : List Mapping} → rest ≡ drop l.count l.items → every_zero rest ≡ rest_zero l
unfolding rest_zero
rest_zeros l e = ap (λ (ms : List Mapping). every_zero ms) e

-- ---- the same tests of a part of the records, as `all` and `is_sorted_by` give them: for a caller who tests a list by these

taken : (t : Mapping → Bool) (ms : List Mapping) (n : ℕ) → n ≤ length ms → list_all t (take n ms) ≡ all n (λ i. t (get_or ms i zero_mapping))
unfolding all
taken t ms zero h = refl
taken t [] (suc n) h = absurd (omega arith)
taken t (m ∷ ms) (suc n) h = ap (λ (r : Bool). t m && r) (taken t ms n (omega arith))

every_is_zero : (ms : List Mapping) → list_all is_zero ms ≡ every_zero ms
unfolding every_zero
every_is_zero [] = refl
every_is_zero (m ∷ ms) = ap (λ (r : Bool). is_zero m && r) (every_is_zero ms)

module _ (b : Board) (l : MappingList) (inside : l.count ≤ length l.items) where
  pub listed_in_range : list_all (in_range b) (take l.count l.items) ≡ all_in_range b l
  unfolding all_in_range
  listed_in_range = taken (in_range b) l.items l.count inside

  pub rest_is_zero : list_all is_zero (drop l.count l.items) ≡ rest_zero l
  unfolding rest_zero
  rest_is_zero = every_is_zero (drop l.count l.items)

  pub listed_rising : (r : Bool) → IsAllAdjacentAnswer (λ m n t. t ≡ is_before m n.space n.page) (take l.count l.items) r → r ≡ rising l
  unfolding rising
  listed_rising true h = sym (all_of _ _ (λ k o. sym (h k zero_mapping (omega (arith, listed_length b _ l refl inside)) ∙ stands_next b _ l refl inside k (omega arith))))
  listed_rising false h =
      let k = h.0 in
      let o : suc k < l.count = omega (arith, h.1, listed_length b _ l refl inside) in
      sym (all_not _ _ k (omega arith) (sym (h.2 zero_mapping ∙ stands_next b _ l refl inside k o)))

module _ (b : Board) (l : MappingList) where
  -- ---- from the test to the facts

  zero_past : rest_zero l ≡ true → (i : ℕ) → l.count ≤ i → mapping_at l i ≡ zero_mapping
  zero_past e i h = ⊎_elim inside (λ k. get_or-eq_default l.items zero_mapping k) (lt_or_le i (length l.items))
    where
      inside : i < length l.items → mapping_at l i ≡ zero_mapping
      inside k = is_zero_true _ (ap (λ (t : Bool). t || is_zero (mapping_at l i)) (sym (le-ltb _ _ h)) ∙ all_at _ _ (sym (rest_at_each l) ∙ e) i k)

  -- what a list that passes the test keeps
  pub keeps_rules_true : keeps_rules b l ≡ true → Rules b l
  unfolding keeps_rules all_in_range
  keeps_rules_true e =
      let s = and_both _ _ e in
      let t = and_both _ _ s.0 in
      let u = and_both _ _ t.0 in
      record {
        count_le = leb-true _ _ u.0;
        in_range_holds = λ i h. in_range_true b _ (all_at _ _ u.1 i h);
        ordered = (neighbours_order l).0 t.1;
        rest_zero_holds = zero_past s.1;
      }

  -- ---- the test, part by part

  pub keeps_over : capacity < l.count → keeps_rules b l ≡ false
  unfolding keeps_rules
  keeps_over h = rw (lt-leb _ _ h)

  pub keeps_unranged : all_in_range b l ≡ false → keeps_rules b l ≡ false
  unfolding keeps_rules
  keeps_unranged e = rw (e, and-false)

  pub keeps_unordered : rising l ≡ false → keeps_rules b l ≡ false
  unfolding keeps_rules
  keeps_unordered e = rw (e, and-false)

  pub keeps_rest : l.count ≤ capacity → all_in_range b l ≡ true → rising l ≡ true → rest_zero l ≡ keeps_rules b l
  unfolding keeps_rules
  keeps_rest h r o = chain_last _ _ _ _ _ (le-leb _ _ h) r o refl

  pub keeps_tested : l.count ≤ capacity → keeps_rules b l ≡ (all_in_range b l && rising l && rest_zero l)
  unfolding keeps_rules
  keeps_tested h = rw (le-leb _ _ h)

  -- ---- from the facts to the test

  all_zero_lem : Rules b l → rest_zero l ≡ true
  all_zero_lem r = rest_at_each l ∙ all_of _ _ (λ i h. ⊎_elim listed rest (lt_or_le i l.count))
    where
      test : ℕ → Bool
      test i = ltb i l.count || is_zero (mapping_at l i)

      listed : {i : ℕ} → i < l.count → test i ≡ true
      listed {i} k = ap (λ (t : Bool). t || is_zero (mapping_at l i)) (lt-ltb _ _ k)

      rest : {i : ℕ} → l.count ≤ i → test i ≡ true
      rest {i} k = ap (λ (t : Bool). ltb i l.count || t) (ap is_zero (r.rest_zero_holds i k) ∙ is_zero_zero) ∙ or-true (ltb i l.count)

  pub rules_keeps_rules : Rules b l → keeps_rules b l ≡ true
  unfolding all_in_range
  rules_keeps_rules r = sym (keeps_rest r.count_le (all_of _ _ (λ i h. range_in_range b _ (r.in_range_holds i h))) ((neighbours_order l).1 r.ordered)) ∙ all_zero_lem r

  -- ---- the count and the number of records

  -- past the last record there is no mapping, so none is listed there
  pub count_length : Rules b l → l.count ≤ length l.items
  count_length r = ⊎_elim past (λ h. h) (lt_or_le (length l.items) l.count)
    where
      past : length l.items < l.count → l.count ≤ length l.items
      past h =
          let e = ap (λ (m : Mapping). m.rights) (get_or-eq_default l.items zero_mapping (le_refl (length l.items))) in
          let f = (r.in_range_holds (length l.items) h).rights_of_holds in absurd (omega arith)
