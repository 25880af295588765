-- The cell of a step at each page of the caches, a colour's below the number n of colours and an instruction colour's from n on; and laws of it, each
-- of which is computed at every cell of the step's rows.
use mathlib.Core.Path.{◌≡◌, refl, sym, ap, ◌∙◌}
use mathlib.Core.Bool.{Bool, true, false, cond, ◌&&◌}
use Prim.Native.Nat.{ℕ, ◌+◌, ◌-◌, ◌≤◌, ◌<◌}
use native.Mathlib.Omega.{arith}
use native.Mathlib.Decide.{ℕ_discrete}
use borrow.Author.Tests.{eq-eqb, ne_eqb, eqb-true, ltb-true, ltb-false, lt-ltb, le-ltb}
use lib.Dec.{eqb, ltb}
use Rattle.bits.proofs.Tautology.{and_left, and_right}
use Rattle.page_model.specs.declared.FrameRecord.{FrameRecord}
use Rattle.page_model.specs.Cases.{instruction_row_of}
use Rattle.page_model.specs.Instructions.{InstructionState, unfetched, fetched, outdated, InstructionCell, fetched_cell, instruction_cell_at}
use Rattle.page_model.specs.Record.{state_of, instruction_state_of}
use Rattle.page_model.specs.Step.{cell_of, instruction_cell_of}
use Rattle.page_model.specs.Table.{ColourState, empty, present, dirty, stale, Cell, ◌⇒◌, Role, role_if, Step, read, write, device_read, device_write, device_write_part, begin_read, begin_write, fetch, cell_at, reach}
use Rattle.page_model.proofs.Cells.{row_of, Law, every_cell, row_law}
use Rattle.consistency.proofs.Pages.{as_page, page_states, pages_after}

-- ---- the cell of a page

-- the instruction state that a page's is; no page of instructions is dirty
abbrev pub as_instruction : ColourState → InstructionState
as_instruction empty = unfetched
as_instruction present = fetched
as_instruction dirty = fetched
as_instruction stale = outdated

pub as_instruction_as_page : (s : InstructionState) → as_instruction (as_page s) ≡ s
as_instruction_as_page unfetched = refl
as_instruction_as_page fetched = refl
as_instruction_as_page outdated = refl

abbrev pub as_cell : InstructionCell → Cell
as_cell x = x.operation ⇒ as_page x.next

abbrev pub page_cell : ℕ → Step → ℕ → ColourState → Cell
page_cell n s k z = cond (ltb k n) (cell_at s k z) (as_cell (instruction_cell_at s (k - n) (as_instruction z)))

-- of a record: below n the data's, and from n on that for instructions
module _ (n : ℕ) (s : Step) (r : FrameRecord) where
  abbrev cell_if : ℕ → Bool → Cell
  cell_if k t =
      let z : ColourState = cond t (state_of r k) (as_page (instruction_state_of r (k - n))) in
      cond t (cell_at s k z) (as_cell (instruction_cell_at s (k - n) (as_instruction z)))

  pub data_cell : (k : ℕ) → k < n → page_cell n s k (page_states n r k) ≡ cell_of s r k
  unfolding cell_of
  data_cell k h = ap (cell_if k) (lt-ltb k n h)

  past_cell : (k : ℕ) → n ≤ k → page_cell n s k (page_states n r k) ≡ as_cell (instruction_cell_of s r (k - n))
  unfolding instruction_cell_of
  past_cell k h = ap (cell_if k) (le-ltb k n h) ∙ ap (λ (i : InstructionState). as_cell (instruction_cell_at s (k - n) i)) (as_instruction_as_page (instruction_state_of r (k - n)))

  pub instruction_cell : (k : ℕ) → page_cell n s (n + k) (page_states n r (n + k)) ≡ as_cell (instruction_cell_of s r k)
  instruction_cell k = past_cell (n + k) (omega arith) ∙ ap (λ (i : ℕ). as_cell (instruction_cell_of s r i)) (omega arith)

  -- the states after a step are the cells'
  pub page_next : (k : ℕ) → pages_after n s r k ≡ (page_cell n s k (page_states n r k)).next
  page_next k = go (ltb k n) refl
    where
      go : (t : Bool) → ltb k n ≡ t → cond t (cell_of s r k).next (as_page (instruction_cell_of s r (k - n)).next) ≡ (page_cell n s k (page_states n r k)).next
      go true e = ap (λ (x : Cell). x.next) (sym (data_cell k (ltb-true k n e)))
      go false e = ap (λ (x : Cell). x.next) (sym (past_cell k (ltb-false k n e)))

-- ---- its row

-- whether page k is the one that a step goes through; a transfer goes through none
abbrev pub is_own : ℕ → Step → ℕ → Bool
is_own n (read c) k = eqb c k
is_own n (write c) k = eqb c k
is_own n device_read k = false
is_own n device_write k = false
is_own n device_write_part k = false
is_own n begin_read k = false
is_own n begin_write k = false
is_own n (fetch c) k = eqb (n + c) k

-- whether that is a page of the data cache, and of the instruction cache
abbrev in_data : Step → Bool
in_data (read c) = true
in_data (write c) = true
in_data device_read = false
in_data device_write = false
in_data device_write_part = false
in_data begin_read = false
in_data begin_write = false
in_data (fetch c) = false

abbrev in_instructions : Step → Bool
in_instructions (read c) = false
in_instructions (write c) = false
in_instructions device_read = false
in_instructions device_write = false
in_instructions device_write_part = false
in_instructions begin_read = false
in_instructions begin_write = false
in_instructions (fetch c) = true

abbrev instruction_row : Step → Role → ColourState → Cell
instruction_row s role z = as_cell (instruction_row_of s role (as_instruction z))

module _ (n : ℕ) where
  data_in_row : (s : Step) (k : ℕ) (z : ColourState) → k < n → (cell_at s k z ≡ row_of s (role_if (is_own n s k)) z) × (is_own n s k ≡ true → in_data s ≡ true)
  data_in_row (read c) k z h = (refl, λ e. refl)
  data_in_row (write c) k z h = (refl, λ e. refl)
  data_in_row device_read k z h = (refl, λ e. e)
  data_in_row device_write k z h = (refl, λ e. e)
  data_in_row device_write_part k z h = (refl, λ e. e)
  data_in_row begin_read k z h = (refl, λ e. e)
  data_in_row begin_write k z h = (refl, λ e. e)
  data_in_row (fetch c) k z h = (refl, λ e. absurd (let q = eqb-true (n + c) k e in omega arith))

  past : (c k : ℕ) → n ≤ k → eqb c (k - n) ≡ eqb (n + c) k
  past c k h = go (ℕ_discrete (n + c) k)
    where
      go : Dec (n + c ≡ k) → eqb c (k - n) ≡ eqb (n + c) k
      go (yes e) = eq-eqb c (k - n) (omega arith) ∙ sym (eq-eqb (n + c) k e)
      go (no ne) = ne_eqb c (k - n) (λ e. ne (omega arith)) ∙ sym (ne_eqb (n + c) k ne)

  instruction_in_row : (s : Step) → reach s ≤ n → (k : ℕ) (z : ColourState) → n ≤ k
      → (as_cell (instruction_cell_at s (k - n) (as_instruction z)) ≡ instruction_row s (role_if (is_own n s k)) z) × (is_own n s k ≡ true → in_instructions s ≡ true)
  instruction_in_row (read c) l k z h = (refl, λ e. absurd (let q = eqb-true c k e in omega arith))
  instruction_in_row (write c) l k z h = (refl, λ e. absurd (let q = eqb-true c k e in omega arith))
  instruction_in_row device_read l k z h = (refl, λ e. e)
  instruction_in_row device_write l k z h = (refl, λ e. e)
  instruction_in_row device_write_part l k z h = (refl, λ e. e)
  instruction_in_row begin_read l k z h = (refl, λ e. e)
  instruction_in_row begin_write l k z h = (refl, λ e. e)
  instruction_in_row (fetch c) l k z h = (ap (λ (t : Bool). as_cell (fetched_cell (role_if t) (as_instruction z))) (past c k h), λ e. refl)

-- ---- a law of a step's rows

abbrev pub Every : Law → Step → Type 0
Every p s = (every_cell (in_data s) p (row_of s) && every_cell (in_instructions s) p (instruction_row s)) ≡ true

pub page_law : (n : ℕ) (p : Law) (s : Step) → reach s ≤ n → Every p s → (k : ℕ) (z : ColourState) → p (is_own n s k) z (page_cell n s k z) ≡ true
page_law n p s l e k z = go (ltb k n) refl
  where
    go : (t : Bool) → ltb k n ≡ t → p (is_own n s k) z (cond t (cell_at s k z) (as_cell (instruction_cell_at s (k - n) (as_instruction z)))) ≡ true
    go true q =
        let x = data_in_row n s k z (ltb-true k n q) in
        ap (p (is_own n s k) z) x.0 ∙ row_law (in_data s) p (row_of s) (and_left _ (every_cell (in_instructions s) p (instruction_row s)) e) (is_own n s k) x.1 z
    go false q =
        let x = instruction_in_row n s l k z (ltb-false k n q) in
        ap (p (is_own n s k) z) x.0 ∙ row_law (in_instructions s) p (instruction_row s) (and_right (every_cell (in_data s) p (row_of s)) _ e) (is_own n s k) x.1 z
