-- The one pass over the listed records: each in range, and none with a key below the least that it may have.
use mathlib.Core.Path.{◌≡◌, refl, sym, ap, ap₂, ◌∙◌}
use mathlib.Core.Bool.{Bool, true, false, ◌&&◌, and-false}
use mathlib.Core.List.{List}
use mathlib.Core.Logic.{⊎_elim}
use Prim.Native.Nat.{ℕ, zero, suc, ◌+◌, ◌≤◌, ◌<◌}
use native.Mathlib.Nat.{eq-or-lt_of_le}
use native.Mathlib.Numerals.{add-one}
use native.Mathlib.Omega.{arith}
use lib.ListN.{length, get_or, take}
use lib.Seq.{length-take-le, get_or-take}
use Rattle.bits.proofs.Mask.{all_of}
use Rattle.board.specs.declared.Board.{Board}
use Rattle.mapping.specs.declared.Mapping.{Mapping}
use Rattle.mapping.specs.declared.MappingList.{MappingList}
use Rattle.mapping.specs.Entry.{zero_mapping, in_range, is_before, mapping_at}
use Rattle.mapping.specs.Rules.{all_in_range, rises_at, rising}
use Rattle.mapping.proofs.Entry.{in_range_true}
use Rattle.mapping.proofs.Order.{key_of, before_key, key_before, before_is_before, not_is_before}
use Rattle.mapping.proofs.Tests.{all_not}

abbrev pub record_at : List Mapping → ℕ → Mapping
record_at rs k = get_or rs k zero_mapping

abbrev pub key_at : List Mapping → ℕ → ℕ
key_at rs k = key_of (record_at rs k).space (record_at rs k).page

abbrev pub stands : List Mapping → ℕ → Bool
stands rs k = is_before (record_at rs k) (record_at rs (suc k)).space (record_at rs (suc k)).page

-- the records below i are in range, each stands before the next, and the least key that the next may have
abbrev pub Ranged : Board → List Mapping → ℕ → Type 0
Ranged b rs i = (k : ℕ) → k < i → in_range b (record_at rs k) ≡ true

abbrev pub Rising : List Mapping → ℕ → Type 0
Rising rs i = (k : ℕ) → suc k < i → stands rs k ≡ true

abbrev pub Least : List Mapping → ℕ → ℕ → Type 0
Least rs i least = (i ≡ 0 → least ≡ 0) × ((k : ℕ) → suc k ≡ i → least ≡ key_at rs k + 1)

-- one record more
pub ranged_more : (b : Board) (rs : List Mapping) (i : ℕ) → Ranged b rs i → in_range b (record_at rs i) ≡ true → Ranged b rs (i + 1)
ranged_more b rs i r e k h =
    ⊎_elim (λ z. ap (λ (n : ℕ). in_range b (record_at rs n)) z ∙ e) (r k) (eq-or-lt_of_le (let n : k ≤ i = omega arith in n))

pub rising_more : (rs : List Mapping) (i : ℕ) → Rising rs i → ((k : ℕ) → suc k ≡ i → stands rs k ≡ true) → Rising rs (i + 1)
rising_more rs i r e k h = ⊎_elim (e k) (r k) (eq-or-lt_of_le (let n : suc k ≤ i = omega arith in n))

pub least_more : (rs : List Mapping) (i : ℕ) {least : ℕ} → least ≡ key_at rs i + 1 → Least rs (i + 1) least
least_more rs i e = (λ z. absurd (omega arith), λ k z. e ∙ ap (λ (n : ℕ). key_at rs n + 1) (let n : i ≡ k = omega arith in n))

module _ (b : Board) (rs : List Mapping) (i least : ℕ) (ranged : Ranged b rs (i + 1)) (told : Least rs i least) where
  -- the record at i has a key that it may have: so it stands behind the one before it
  pub stands_behind : least ≤ key_at rs i → (k : ℕ) → suc k ≡ i → stands rs k ≡ true
  stands_behind h k z =
      let same = ap (key_at rs) z in
      let own = (in_range_true b _ (ranged k (omega arith))).page_lt in
      let next = (in_range_true b _ (ranged (suc k) (omega arith))).page_lt in
      before_is_before _ _ _ (key_before (record_at rs k) _ _ (omega arith) (omega arith) (omega (arith, told.1 k z, same)))

  -- or it has not: then there is one before it, which does not stand before it
  pub stands_wrong : {A : Type 0} → key_at rs i < least → ((k : ℕ) → suc k ≡ i → stands rs k ≡ false → A) → A
  stands_wrong {A} h found = go i refl
    where
      go : (n : ℕ) → n ≡ i → A
      go zero z = absurd (omega (arith, told.0 (sym z)))
      go (suc k) z =
          let same = ap (key_at rs) z in
          let own = (in_range_true b _ (ranged k (omega arith))).page_lt in
          let next = (in_range_true b _ (ranged (suc k) (omega arith))).page_lt in
          found k z (not_is_before _ _ _ (λ p. let n = before_key (record_at rs k) _ _ (omega arith) (omega arith) p in omega (arith, told.1 k z, same)))

-- of the listed records of a list
module _ (b : Board) (rs : List Mapping) (l : MappingList) (e : rs ≡ take l.count l.items) (inside : l.count ≤ length l.items) where
  pub listed_length : length rs ≡ l.count
  listed_length = ap (λ (ms : List Mapping). length ms) e ∙ length-take-le l.count l.items inside

  at_place : (k : ℕ) → k < l.count → record_at rs k ≡ mapping_at l k
  at_place k h = ap (λ (ms : List Mapping). get_or ms k zero_mapping) e ∙ get_or-take l.count l.items k zero_mapping h

  stands_at : (k : ℕ) → suc k < l.count → stands rs k ≡ rises_at l k
  unfolding rises_at
  stands_at k h = ap₂ (λ (m n : Mapping). is_before m n.space n.page) (at_place k (omega arith)) (at_place (suc k) h)

  -- the next one's place as a sum
  pub stands_next : (k : ℕ) → suc k < l.count → is_before (record_at rs k) (record_at rs (k + 1)).space (record_at rs (k + 1)).page ≡ rises_at l k
  stands_next k h = ap (λ (n : ℕ). is_before (record_at rs k) (record_at rs n).space (record_at rs n).page) (add-one k) ∙ stands_at k h

  pub unranged : (i : ℕ) → i < length rs → in_range b (record_at rs i) ≡ false → false ≡ (all_in_range b l && rising l)
  unfolding all_in_range
  unranged i h f =
      let o : i < l.count = omega (arith, listed_length) in
      sym (ap (λ (t : Bool). t && rising l) (all_not _ _ i o (ap (in_range b) (sym (at_place i o)) ∙ f)))

  pub unordered : (k : ℕ) → suc k < length rs → stands rs k ≡ false → false ≡ (all_in_range b l && rising l)
  unfolding rising
  unordered k h f =
      let o : suc k < l.count = omega (arith, listed_length) in
      sym (ap (λ (t : Bool). all_in_range b l && t) (all_not _ _ k (omega arith) (sym (stands_at k o) ∙ f)) ∙ and-false (all_in_range b l))

  pub ordered : (i : ℕ) → length rs ≤ i → Ranged b rs i → Rising rs i → true ≡ (all_in_range b l && rising l)
  unfolding all_in_range rising
  ordered i h r s =
      sym (ap₂ ◌&&◌ (all_of _ _ (λ k o. ap (in_range b) (sym (at_place k o)) ∙ r k (omega (arith, listed_length))))
      (all_of _ _ (λ k o. let p : suc k < l.count = omega arith in sym (stands_at k p) ∙ s k (omega (arith, listed_length)))))
