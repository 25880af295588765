-- A record that keeps the rules is determined by its mark and its states; and what its states are beside a dirty one.
use mathlib.Core.Path.{◌≡◌, refl, sym, ap, ◌∙◌}
use mathlib.Core.Bool.{Bool, true, false, true≢false, false≢true}
use mathlib.Core.Logic.{◌≢◌}
use Prim.Native.Nat.{ℕ, zero, suc, ◌<◌}
use native.Mathlib.Omega.{arith}
use lib.Dec.{eqb}
use Rattle.bits.specs.Mask.{bit, digit}
use Rattle.bits.proofs.Mask.{any_cong, first_cong}
use Rattle.page_model.specs.declared.FrameRecord.{FrameRecord}
use Rattle.page_model.specs.Busy.{free}
use Rattle.page_model.specs.Instructions.{InstructionState, fetched}
use Rattle.page_model.specs.Record.{state_from, state_of, instruction_state_of, keeps_rules, encode, is_held, is_dirty, is_stale, is_fetched, is_outdated}
use Rattle.page_model.specs.Table.{ColourState, present, dirty}
use Rattle.page_model.proofs.Encoding.{encode_is, encode_decode, dirty_colour, kept_mark}
use Rattle.page_model.proofs.Moving.{masks_of_cong}

-- states that agree below n encode to one record
pub encode_cong : (n mark : ℕ) (states others : ℕ → ColourState) (instructions elses : ℕ → InstructionState) → ((k : ℕ) → k < n → states k ≡ others k)
    → ((k : ℕ) → k < n → instructions k ≡ elses k) → encode n mark states instructions ≡ encode n mark others elses
unfolding encode
encode_cong n mark states others instructions elses e i =
    encode_is n mark others elses (encode n mark states instructions)
    (masks_of_cong n _ _ _ _ (λ k l. ap is_held (e k l)) (λ k l. ap is_stale (e k l)))
    (ap digit (any_cong n _ _ (λ k l. ap is_dirty (e k l))))
    refl
    (first_cong n _ _ (λ k l. ap is_dirty (e k l)))
    (masks_of_cong n _ _ _ _ (λ k l. ap is_fetched (i k l)) (λ k l. ap is_outdated (i k l)))

-- so two records that keep the rules are equal if their marks and their states are
pub same_record : (n : ℕ) (r s : FrameRecord) → keeps_rules n r ≡ true → keeps_rules n s ≡ true → s.busy ≡ r.busy → ((k : ℕ) → k < n → state_of s k ≡ state_of r k)
    → ((k : ℕ) → k < n → instruction_state_of s k ≡ instruction_state_of r k) → s ≡ r
same_record n r s kr ks mark e i =
    sym (encode_decode n s ks)
    ∙ encode_cong n s.busy (state_of s) (state_of r) (instruction_state_of s) (instruction_state_of r) e i
    ∙ ap (λ (x : ℕ). encode n x (state_of r) (instruction_state_of r)) mark
    ∙ encode_decode n r kr

-- ---- a record with a dirty colour

-- the flag of a held colour says whether it is dirty
held_flag : (s h f : Bool) → is_held (state_from s h f) ≡ true → f ≡ is_dirty (state_from s h f)
held_flag true h f e = absurd (false≢true e)
held_flag false true true e = refl
held_flag false true false e = refl
held_flag false false f e = absurd (false≢true e)

module _ (n : ℕ) (r : FrameRecord) (rules : keeps_rules n r ≡ true) (d : ℕ) (hd : d < n) (dirties : state_of r d ≡ dirty) where
  -- no colour beside it is dirty or present, none is held for instructions, and the frame is free
  pub dirty_alone : (k : ℕ) → k < n → state_of r k ≡ dirty → k ≡ d
  dirty_alone k hk e = let c = (dirty_colour n r rules).1 in sym ((c k hk).0 e) ∙ (c d hd).0 dirties

  pub dirty_none_present : (k : ℕ) → state_of r k ≢ present
  unfolding state_of
  dirty_none_present k e =
      let flag : (j : ℕ) → is_held (state_of r j) ≡ true → eqb r.dirty 1 ≡ is_dirty (state_of r j) = λ j. held_flag (bit r.masks.stale j) (bit r.masks.held j) (eqb r.dirty 1) in
      true≢false (sym (ap is_dirty dirties) ∙ sym (flag d (ap is_held dirties)) ∙ flag k (ap is_held e) ∙ ap is_dirty e)

  pub dirty_none_fetched : (k : ℕ) → k < n → instruction_state_of r k ≢ fetched
  dirty_none_fetched k hk e = true≢false (sym (ap is_dirty dirties) ∙ (kept_mark n r rules).beside_fetched k d hk hd (ap is_fetched e))

  pub dirty_free : r.busy ≡ free
  dirty_free = go r.busy refl
    where
      go : (mark : ℕ) → r.busy ≡ mark → r.busy ≡ free
      go zero e = e
      go (suc zero) e = absurd (true≢false (sym (ap is_dirty dirties) ∙ (kept_mark n r rules).none_dirty e d hd))
      go (suc (suc zero)) e = absurd (true≢false (sym (ap is_held dirties) ∙ (kept_mark n r rules).none_held e d hd))
      go (suc (suc (suc mark))) e = absurd (let h = (kept_mark n r rules).is_mark in omega arith)
