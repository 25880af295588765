-- What the record after a step says: it keeps the rules, if its mark did not bar the step, and each colour's state is its cell's.
use mathlib.Core.Path.{◌≡◌, refl, sym, ap, ap₂, ◌∙◌}
use mathlib.Core.Bool.{Bool, true, false, not, ◌&&◌, ◌||◌, false≢true, and-false}
use Prim.Native.Nat.{ℕ, ◌<◌}
use native.Mathlib.Omega.{arith}
use borrow.Author.Tests.{eqb-true, eqb-false, not-false}
use lib.Dec.{eqb}
use Rattle.bits.specs.Mask.{bit}
use Rattle.bits.proofs.Tautology.{and_left, and_right}
use Rattle.page_model.specs.declared.FrameRecord.{FrameRecord}
use Rattle.page_model.specs.Record.{state_of, instruction_state_of, keeps_rules, is_held, is_dirty, is_fetched}
use Rattle.page_model.specs.Busy.{free, bars, mark_after}
use Rattle.page_model.specs.Step.{cell_of, instruction_cell_of, record_after}
use Rattle.page_model.specs.Table.{ColourState, Step, read, write, device_read, device_write, device_write_part, begin_read, begin_write, fetch}
use Rattle.page_model.specs.Instructions.{InstructionState, InstructionCell}
use Rattle.page_model.specs.Theorems.{StepKeepsRules, StateAfter, InstructionStateAfter, OneDirty, MarkFits}
use Rattle.page_model.proofs.Rules.{Keeps, keeps, flag, dirty_at}
use Rattle.page_model.proofs.Cells.{Agree, apart, state_test, next_test, at_law, kept_next}
use Rattle.page_model.proofs.Instructions.{left_stays, never_held, beside_held}
use Rattle.page_model.proofs.Encoding.{kept_mark, decode_encode}

-- of two colours the dirty one, and another that is the own one or held
own_or_held : (n : ℕ) (r : FrameRecord) → Keeps n r → (c k : ℕ) → (flag r && bit r.masks.held c) ≡ true → (eqb c k || bit r.masks.held k) ≡ true → c ≡ k
own_or_held n r kr c k d e = go (eqb c k) refl e
  where
    go : (o : Bool) → eqb c k ≡ o → (o || bit r.masks.held k) ≡ true → c ≡ k
    go true q e = eqb-true c k q
    go false q e =
        let is : (j : ℕ) → (flag r && bit r.masks.held j) ≡ true → r.dirty_colour ≡ j = λ j h. eqb-true r.dirty_colour j (and_right (flag r) _ (sym (dirty_at n r kr j) ∙ h)) in
        sym (is c d) ∙ is k (ap₂ ◌&&◌ (and_left (flag r) _ d) e)

-- a step that leaves no colour dirty
no_dirty : (n : ℕ) (step : Step) (r : FrameRecord) → Keeps n r → Agree apart (λ o s h d. false) (next_test step is_dirty) → OneDirty n (λ k. (cell_of step r k).next)
no_dirty n step r kr e j k lj lk ej ek = absurd (false≢true (kept_next n r kr step is_dirty (λ o s h d. false) e j lj ∙ ap is_dirty ej))

-- after a step of a record that keeps the rules, a dirty colour is the only one held
one_dirty : (n : ℕ) (step : Step) (r : FrameRecord) → Keeps n r → OneDirty n (λ k. (cell_of step r k).next)
one_dirty n (read c) r kr j k lj lk ej ek =
    let next = kept_next n r kr (read c) in
    let dj : (eqb c j && (flag r && bit r.masks.held j)) ≡ true = next is_dirty (λ o s h d. o && (d && h)) refl j lj ∙ ap is_dirty ej in
    let hk : (eqb c k || bit r.masks.held k) ≡ true = next is_held (λ o s h d. o || h) refl k lk ∙ ek in
    let own : c ≡ j = eqb-true c j (and_left _ _ dj) in
    sym own ∙ own_or_held n r kr c k (ap (λ (x : ℕ). flag r && bit r.masks.held x) own ∙ and_right (eqb c j) _ dj) hk
one_dirty n (write c) r kr j k lj lk ej ek =
    let next = kept_next n r kr (write c) in
    sym (eqb-true c j (next is_dirty (λ o s h d. o) refl j lj ∙ ap is_dirty ej)) ∙ eqb-true c k (next is_held (λ o s h d. o) refl k lk ∙ ek)
one_dirty n device_read r kr j k lj lk ej ek = no_dirty n device_read r kr refl j k lj lk ej ek
one_dirty n device_write r kr j k lj lk ej ek = no_dirty n device_write r kr refl j k lj lk ej ek
one_dirty n device_write_part r kr j k lj lk ej ek = no_dirty n device_write_part r kr refl j k lj lk ej ek
one_dirty n begin_read r kr j k lj lk ej ek = no_dirty n begin_read r kr refl j k lj lk ej ek
one_dirty n begin_write r kr j k lj lk ej ek = no_dirty n begin_write r kr refl j k lj lk ej ek
one_dirty n (fetch c) r kr j k lj lk ej ek = no_dirty n (fetch c) r kr refl j k lj lk ej ek

-- ---- the mark after a step

-- no colour is dirty beside one that is held for instructions
abbrev Beside : (n : ℕ) → (ℕ → ColourState) → (ℕ → InstructionState) → Type 0
Beside n states instructions = (j k : ℕ) → j < n → k < n → is_fetched (instructions j) ≡ true → is_dirty (states k) ≡ false

none_beside : (n : ℕ) (step : Step) (r : FrameRecord) → Keeps n r → Agree apart (λ o s h d. false) (next_test step is_dirty)
    → Beside n (λ k. (cell_of step r k).next) (λ k. (instruction_cell_of step r k).next)
none_beside n step r kr e j k lj lk _ = sym (kept_next n r kr step is_dirty (λ o s h d. false) e k lk)

beside_after : (n : ℕ) (step : Step) (r : FrameRecord) → Keeps n r → Beside n (λ k. (cell_of step r k).next) (λ k. (instruction_cell_of step r k).next)
unfolding instruction_cell_of
beside_after n (read c) r kr j k lj lk e =
    let held = ap (λ (x : InstructionCell). is_fetched x.next) (sym (left_stays (instruction_state_of r j))) ∙ e in
    sym (kept_next n r kr (read c) is_dirty (λ o s h d. d && (h && o)) refl k lk) ∙ ap (λ (b : Bool). b && (bit r.masks.held k && eqb c k)) (beside_held n r kr j lj held).0
beside_after n (write c) r kr j k lj lk e = absurd (false≢true (sym (never_held (instruction_state_of r j)) ∙ e))
beside_after n device_read r kr j k lj lk e = none_beside n device_read r kr refl j k lj lk e
beside_after n device_write r kr j k lj lk e = none_beside n device_write r kr refl j k lj lk e
beside_after n device_write_part r kr j k lj lk e = none_beside n device_write_part r kr refl j k lj lk e
beside_after n begin_read r kr j k lj lk e = none_beside n begin_read r kr refl j k lj lk e
beside_after n begin_write r kr j k lj lk e = none_beside n begin_write r kr refl j k lj lk e
beside_after n (fetch c) r kr j k lj lk e = none_beside n (fetch c) r kr refl j k lj lk e

-- a frame that is not busy
free_fits : (n mark : ℕ) (states : ℕ → ColourState) (instructions : ℕ → InstructionState) → Beside n states instructions → not (eqb mark free) ≡ false
    → MarkFits n mark states instructions
free_fits n mark states instructions beside e =
    let z = eqb-true mark free (not-false _ e) in
    record {
      is_mark = omega arith;
      none_dirty = λ m. absurd (omega arith);
      none_held = λ m. absurd (omega arith);
      none_fetched = λ m. absurd (omega arith);
      beside_fetched = beside;
    }

-- the mark after a step that it did not bar goes with the states after it
mark_after_lem : (n : ℕ) (step : Step) (r : FrameRecord) → keeps_rules n r ≡ true → bars r.busy step ≡ false
    → MarkFits n (mark_after step r.busy) (λ k. (cell_of step r k).next) (λ k. (instruction_cell_of step r k).next)
unfolding state_of instruction_cell_of
mark_after_lem n (read c) r e f =
    let before = kept_mark n r e in
    let writes = eqb-false r.busy _ f in
    record {
      is_mark = before.is_mark;
      none_dirty = λ m k l.
          sym (kept_next n r (keeps n r e) (read c) is_dirty (λ o s h d. o && (h && d)) refl k l)
          ∙ ap (λ (b : Bool). eqb c k && b)
          (at_law r 0 k apart (λ o s h d. h && d) (state_test is_dirty) refl ((keeps n r e).masks.apart k l) ∙ before.none_dirty m k l)
          ∙ and-false (eqb c k);
      none_held = λ m. absurd (writes m);
      none_fetched = λ m. absurd (writes m);
      beside_fetched = beside_after n (read c) r (keeps n r e);
    }
mark_after_lem n (write c) r e f = free_fits n r.busy _ _ (beside_after n (write c) r (keeps n r e)) f
mark_after_lem n device_read r e f = free_fits n r.busy _ _ (beside_after n device_read r (keeps n r e)) f
mark_after_lem n device_write r e f = free_fits n r.busy _ _ (beside_after n device_write r (keeps n r e)) f
mark_after_lem n device_write_part r e f = free_fits n r.busy _ _ (beside_after n device_write_part r (keeps n r e)) f
mark_after_lem n begin_read r e f =
    record {
      is_mark = omega arith;
      none_dirty = λ m k l. sym (kept_next n r (keeps n r e) begin_read is_dirty (λ o s h d. false) refl k l);
      none_held = λ m. absurd (omega arith);
      none_fetched = λ m. absurd (omega arith);
      beside_fetched = beside_after n begin_read r (keeps n r e);
    }
mark_after_lem n begin_write r e f =
    record {
      is_mark = omega arith;
      none_dirty = λ m. absurd (omega arith);
      none_held = λ m k l. sym (kept_next n r (keeps n r e) begin_write is_held (λ o s h d. false) refl k l);
      none_fetched = λ m k l. never_held (instruction_state_of r k);
      beside_fetched = beside_after n begin_write r (keeps n r e);
    }
mark_after_lem n (fetch c) r e f =
    let writes = eqb-false r.busy _ f in
    record {
      is_mark = (kept_mark n r e).is_mark;
      none_dirty = λ m k l. sym (kept_next n r (keeps n r e) (fetch c) is_dirty (λ o s h d. false) refl k l);
      none_held = λ m. absurd (writes m);
      none_fetched = λ m. absurd (writes m);
      beside_fetched = beside_after n (fetch c) r (keeps n r e);
    }

-- ---- the record after a step

pub step_keeps_rules : StepKeepsRules
unfolding record_after
step_keeps_rules n step r e f =
    (decode_encode n (mark_after step r.busy) (λ k. (cell_of step r k).next) (λ k. (instruction_cell_of step r k).next) (one_dirty n step r (keeps n r e))).0 (mark_after_lem n step r e f)

pub state_after_lem : StateAfter
unfolding record_after
state_after_lem n step r e =
    (decode_encode n (mark_after step r.busy) (λ k. (cell_of step r k).next) (λ k. (instruction_cell_of step r k).next) (one_dirty n step r (keeps n r e))).1

pub instruction_state_after : InstructionStateAfter
unfolding record_after
instruction_state_after n step r e =
    (decode_encode n (mark_after step r.busy) (λ k. (cell_of step r k).next) (λ k. (instruction_cell_of step r k).next) (one_dirty n step r (keeps n r e))).2
