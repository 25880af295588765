-- What the masks for instructions tell of each colour's state, and of the cell that a step takes there.
use mathlib.Core.Path.{◌≡◌, refl, sym, ap, ◌∙◌}
use mathlib.Core.Bool.{Bool, true, false, not, ◌&&◌, ◌||◌, false≢true}
use Prim.Native.Nat.{ℕ, ◌<◌}
use borrow.Author.Tests.{eqb-true, not-true}
use lib.Dec.{eqb}
use Rattle.bits.specs.Mask.{bit}
use Rattle.bits.proofs.Mask.{bit_none}
use Rattle.bits.proofs.Tautology.{and_left, and_right}
use Rattle.page_model.specs.declared.FrameRecord.{FrameRecord}
use Rattle.page_model.specs.Busy.{writing}
use Rattle.page_model.specs.Cases.{instruction_row_of}
use Rattle.page_model.specs.Instructions.{InstructionState, unfetched, fetched, outdated, InstructionCell, ◌⇛◌, left_cell, outdated_cell, fetched_cell}
use Rattle.page_model.specs.Masks.{masks_of}
use Rattle.page_model.specs.Record.{instruction_state_from, instruction_state_of, is_fetched, is_outdated}
use Rattle.page_model.specs.Step.{is_purge, instruction_cell_of}
use Rattle.page_model.specs.Table.{none, own, other, Step, read, write, device_read, device_write, device_write_part, begin_read, begin_write, fetch, role_if, own_of}
use Rattle.page_model.proofs.Moving.{masks_of_is}
use Rattle.page_model.proofs.Rules.{Keeps, flag}

-- what computes to true at the three states holds of each
pub each_instruction : (p : InstructionState → Bool) → (p unfetched && p fetched && p outdated) ≡ true → (s : InstructionState) → p s ≡ true
each_instruction p e unfetched = search (and_left, and_right)
each_instruction p e fetched = search (and_left, and_right)
each_instruction p e outdated = search (and_left, and_right)

-- the cell that a step takes by its row; only a fetch's looks at the role
pub instruction_row_lem : (s : Step) (r : FrameRecord) (k : ℕ) → instruction_cell_of s r k ≡ instruction_row_of s (role_if (eqb (own_of s) k)) (instruction_state_of r k)
unfolding instruction_cell_of
instruction_row_lem (read c) r k = refl
instruction_row_lem (write c) r k = refl
instruction_row_lem device_read r k = refl
instruction_row_lem device_write r k = refl
instruction_row_lem device_write_part r k = refl
instruction_row_lem begin_read r k = refl
instruction_row_lem begin_write r k = refl
instruction_row_lem (fetch c) r k = refl

-- the cells without operation that leave a state as it is
pub left_stays : (s : InstructionState) → left_cell s ≡ none ⇛ s
left_stays unfetched = refl
left_stays fetched = refl
left_stays outdated = refl

pub outdated_stays : (s : InstructionState) → is_fetched s ≡ false → outdated_cell s ≡ none ⇛ s
outdated_stays unfetched e = refl
outdated_stays fetched e = absurd (false≢true (sym e))
outdated_stays outdated e = refl

pub own_stays : (s : InstructionState) → is_fetched s ≡ true → fetched_cell own s ≡ none ⇛ s
own_stays unfetched e = absurd (false≢true e)
own_stays fetched e = refl
own_stays outdated e = absurd (false≢true e)

pub other_stays : (s : InstructionState) → fetched_cell other s ≡ none ⇛ s
other_stays unfetched = refl
other_stays fetched = refl
other_stays outdated = refl

-- nothing is held for instructions where the frame was written
pub never_held : (s : InstructionState) → is_fetched (outdated_cell s).next ≡ false
never_held unfetched = refl
never_held fetched = refl
never_held outdated = refl

-- ---- purges in the instruction cache

pub no_purge : (cell : InstructionState → InstructionCell)
    → (not (is_purge (cell unfetched).operation) && not (is_purge (cell fetched).operation) && not (is_purge (cell outdated).operation)) ≡ true
    → (s : InstructionState) → is_purge (cell s).operation ≡ false
no_purge cell e s = not-true _ (each_instruction (λ s. not (is_purge (cell s).operation)) e s)

-- only a fetch purges, and only its own colour
pub purged_by_fetch : (s : Step) (r : FrameRecord) (k : ℕ) → is_purge (instruction_cell_of s r k).operation ≡ true → s ≡ fetch k
unfolding instruction_cell_of
purged_by_fetch (read c) r k e = absurd (false≢true (sym (no_purge left_cell refl (instruction_state_of r k)) ∙ e))
purged_by_fetch (write c) r k e = absurd (false≢true (sym (no_purge outdated_cell refl (instruction_state_of r k)) ∙ e))
purged_by_fetch device_read r k e = absurd (false≢true (sym (no_purge left_cell refl (instruction_state_of r k)) ∙ e))
purged_by_fetch device_write r k e = absurd (false≢true (sym (no_purge outdated_cell refl (instruction_state_of r k)) ∙ e))
purged_by_fetch device_write_part r k e = absurd (false≢true (sym (no_purge outdated_cell refl (instruction_state_of r k)) ∙ e))
purged_by_fetch begin_read r k e = absurd (false≢true (sym (no_purge left_cell refl (instruction_state_of r k)) ∙ e))
purged_by_fetch begin_write r k e = absurd (false≢true (sym (no_purge outdated_cell refl (instruction_state_of r k)) ∙ e))
purged_by_fetch (fetch c) r k e = go (eqb c k) refl e
  where
    go : (o : Bool) → eqb c k ≡ o → is_purge (fetched_cell (role_if o) (instruction_state_of r k)).operation ≡ true → fetch c ≡ fetch k
    go true q p = ap fetch (eqb-true c k q)
    go false q p = absurd (false≢true (sym (no_purge (fetched_cell other) refl (instruction_state_of r k)) ∙ p))

-- ---- what a colour's bits say

held_says : (s h : Bool) → not (h && s) ≡ true → h ≡ is_fetched (instruction_state_from s h)
held_says true true e = absurd (false≢true e)
held_says true false e = refl
held_says false true e = refl
held_says false false e = refl

stale_says : (s h : Bool) → s ≡ is_outdated (instruction_state_from s h)
stale_says true h = refl
stale_says false true = refl
stale_says false false = refl

-- and a test that cannot hold fails
pub not_held : (b : Bool) → (b ≡ true → ⊥) → b ≡ false
not_held true h = absurd (h refl)
not_held false h = refl

module _ (n : ℕ) (r : FrameRecord) (kr : Keeps n r) where
  pub fetched_bit : (k : ℕ) → k < n → bit r.instructions.held k ≡ is_fetched (instruction_state_of r k)
  unfolding instruction_state_of
  fetched_bit k l = held_says (bit r.instructions.stale k) (bit r.instructions.held k) (kr.instructions.apart k l)

  outdated_bit : (k : ℕ) → bit r.instructions.stale k ≡ is_outdated (instruction_state_of r k)
  unfolding instruction_state_of
  outdated_bit k = stale_says (bit r.instructions.stale k) (bit r.instructions.held k)

  -- the masks of the states that the record says are its own
  pub instructions_are : (states : ℕ → InstructionState) → ((k : ℕ) → k < n → instruction_state_of r k ≡ states k)
      → r.instructions ≡ masks_of n (λ k. is_fetched (states k)) (λ k. is_outdated (states k))
  instructions_are states same =
      masks_of_is n _ _ r.instructions kr.instructions (λ k l. fetched_bit k l ∙ ap is_fetched (same k l)) (λ k l. outdated_bit k ∙ ap is_outdated (same k l))

  -- beside a colour that is held for instructions the flag is not set, and no device writes
  pub beside_held : (j : ℕ) → j < n → is_fetched (instruction_state_of r j) ≡ true → (flag r ≡ false) × (eqb r.busy writing ≡ false)
  beside_held j l e = go (eqb r.instructions.held 0) refl kr.beside
    where
      go : (b : Bool) → eqb r.instructions.held 0 ≡ b → (b || not (flag r) && not (eqb r.busy writing)) ≡ true → (flag r ≡ false) × (eqb r.busy writing ≡ false)
      go true z h = absurd (false≢true (sym (bit_none j) ∙ ap (λ (m : ℕ). bit m j) (sym (eqb-true r.instructions.held 0 z)) ∙ fetched_bit j l ∙ e))
      go false z h = (not-true _ (and_left (not (flag r)) _ h), not-true _ (and_right (not (flag r)) _ h))
