-- A record that keeps the rules is determined by its mark and the states of the pages of the caches; and what these are beside a dirty one.
use mathlib.Core.Path.{◌≡◌, sym, ap, ◌∙◌}
use mathlib.Core.Bool.{true, true≢false}
use mathlib.Core.Logic.{◌≢◌}
use Prim.Native.Nat.{ℕ, ◌+◌, ◌-◌, ◌*◌, ◌<◌}
use native.Mathlib.Omega.{arith}
use borrow.Author.Tests.{lt-ltb, le-ltb}
use Rattle.page_model.specs.declared.FrameRecord.{FrameRecord}
use Rattle.page_model.specs.Busy.{reading}
use Rattle.page_model.specs.Instructions.{InstructionState, fetched}
use Rattle.page_model.specs.Record.{state_of, instruction_state_of, keeps_rules, is_dirty}
use Rattle.page_model.specs.Table.{present, dirty}
use Rattle.page_model.proofs.Records.{same_record, dirty_alone, dirty_none_present, dirty_none_fetched}
use Rattle.page_model.proofs.Theorems.{kept_mark}
use Rattle.consistency.proofs.Pages.{as_page, never_dirty, page_states, page_cases}
use Rattle.necessity.proofs.PageCells.{as_instruction, as_instruction_as_page}

pub page_data : (n : ℕ) (r : FrameRecord) (k : ℕ) → k < n → page_states n r k ≡ state_of r k
page_data n r k h = rw (lt-ltb k n h)

page_instruction : (n : ℕ) (r : FrameRecord) (k : ℕ) → page_states n r (n + k) ≡ as_page (instruction_state_of r k)
page_instruction n r k = let back : n + k - n ≡ k = omega arith in rw (le-ltb (n + k) n (omega arith), back)

as_page_injective : (x y : InstructionState) → as_page x ≡ as_page y → x ≡ y
as_page_injective x y e = sym (as_instruction_as_page x) ∙ ap as_instruction e ∙ as_instruction_as_page y

as_page_present : (x : InstructionState) → as_page x ≡ present → x ≡ fetched
as_page_present x e = as_page_injective x fetched e

-- a dirty page is a colour's
pub dirty_data : (n : ℕ) (r : FrameRecord) (k : ℕ) → page_states n r k ≡ dirty → (k < n) × (state_of r k ≡ dirty)
dirty_data n r k = page_cases (λ z. z ≡ dirty → (k < n) × (state_of r k ≡ dirty)) n k (λ h e. (h, e)) (λ _ e. absurd (never_dirty (instruction_state_of r (k - n)) e))

-- so none is dirty if no colour is
pub none_dirty : (n : ℕ) (r : FrameRecord) → ((k : ℕ) → k < n → state_of r k ≢ dirty) → (k : ℕ) → page_states n r k ≢ dirty
none_dirty n r clean k e = let d = dirty_data n r k e in clean k d.0 d.1

module _ (n : ℕ) (r : FrameRecord) (rules : keeps_rules n r ≡ true) where
  pub same_pages : (s : FrameRecord) → keeps_rules n s ≡ true → s.busy ≡ r.busy → ((k : ℕ) → k < 2 * n → page_states n s k ≡ page_states n r k) → s ≡ r
  same_pages s ks mark e =
      same_record n r s rules ks mark (λ k h. sym (page_data n s k h) ∙ e k (omega arith) ∙ page_data n r k h)
      (λ k h. as_page_injective _ _ (sym (page_instruction n s k) ∙ e (n + k) (omega arith) ∙ page_instruction n r k))

  -- no page is dirty where a device reads
  pub reading_clean : r.busy ≡ reading → (k : ℕ) → page_states n r k ≢ dirty
  reading_clean e = none_dirty n r (λ k h q. true≢false (sym (ap is_dirty q) ∙ (kept_mark n r rules).none_dirty e k h))

  module _ (d : ℕ) (hd : d < n) (dirties : state_of r d ≡ dirty) where
    pub one_dirty : (k : ℕ) → page_states n r k ≡ dirty → k ≡ d
    one_dirty k = page_cases (λ z. z ≡ dirty → k ≡ d) n k (λ h. dirty_alone n r rules d hd dirties k h) (λ _ e. absurd (never_dirty (instruction_state_of r (k - n)) e))

    pub none_present : (k : ℕ) → k < 2 * n → page_states n r k ≢ present
    none_present k h =
        page_cases (λ z. z ≢ present) n k (λ _. dirty_none_present n r rules d hd dirties k)
        (λ past e. dirty_none_fetched n r rules d hd dirties (k - n) (omega arith) (as_page_present (instruction_state_of r (k - n)) e))
