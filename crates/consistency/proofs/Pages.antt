-- A frame's states by page of the caches: below the number n of colours the data cache's, from n on the instruction cache's (request N8).
use mathlib.Core.Path.{◌≡◌, refl, sym, ap, ◌∙◌}
use mathlib.Core.Bool.{Bool, true, false, cond, true≢false, false≢true}
use mathlib.Core.Logic.{◌≢◌}
use Prim.Native.Nat.{ℕ, ◌+◌, ◌-◌, ◌*◌, ◌≤◌, ◌<◌}
use native.Mathlib.Omega.{arith}
use lib.Dec.{eqb, ltb}
use borrow.Author.Tests.{ltb-true, ltb-false, lt-ltb, le-ltb, eq-eqb}
use Rattle.page_model.specs.declared.FrameRecord.{FrameRecord}
use Rattle.page_model.specs.Instructions.{InstructionState, unfetched, fetched, outdated, left_cell, outdated_cell, fetched_cell, instruction_cell_at}
use Rattle.page_model.specs.Record.{state_of, instruction_state_of, is_held, is_dirty, is_fetched, keeps_rules}
use Rattle.page_model.specs.Step.{is_purge, cell_of, instruction_cell_of, record_after}
use Rattle.page_model.specs.Table.{ColourState, empty, present, dirty, stale, Role, own, other, role_if, Step, read, write, device_read, device_write, device_write_part, begin_read, begin_write, fetch}
use Rattle.page_model.proofs.Instructions.{each_instruction, never_held}
use Rattle.page_model.proofs.Theorems.{state_after_lem, instruction_state_after}
use Rattle.consistency.proofs.Table as table
use Rattle.consistency.proofs.Weaker.{weaker}

-- the state of an instruction colour as that of a page
abbrev pub as_page : InstructionState → ColourState
as_page unfetched = empty
as_page fetched = present
as_page outdated = stale

pub as_page_clean : (s : InstructionState) → is_dirty (as_page s) ≡ false
as_page_clean unfetched = refl
as_page_clean fetched = refl
as_page_clean outdated = refl

pub as_page_held : (s : InstructionState) → is_held (as_page s) ≡ is_fetched s
as_page_held unfetched = refl
as_page_held fetched = refl
as_page_held outdated = refl

pub never_dirty : (s : InstructionState) → as_page s ≢ dirty
never_dirty s e = false≢true (rw as_page_clean at (ap is_dirty e))

abbrev pub page_states : ℕ → FrameRecord → ℕ → ColourState
page_states n r k = cond (ltb k n) (state_of r k) (as_page (instruction_state_of r (k - n)))

abbrev pub pages_after : ℕ → Step → FrameRecord → ℕ → ColourState
pages_after n step r k = cond (ltb k n) (cell_of step r k).next (as_page (instruction_cell_of step r (k - n)).next)

-- what holds of the data cache's state and of the instruction cache's holds of the page's
pub page_cases : (P : ColourState → Type 0) (n k : ℕ) {d i : ColourState} → (k < n → P d) → (n ≤ k → P i) → P (cond (ltb k n) d i)
page_cases P n k {d} {i} data-has instruction-has = go (ltb k n) refl
  where
    go : (t : Bool) → ltb k n ≡ t → P (cond t d i)
    go true e = data-has (ltb-true k n e)
    go false e = instruction-has (ltb-false k n e)

-- ---- the cells of an instruction colour

-- a cell without a purge says no more after the step than the state did before it
left_weaker : (s : InstructionState) → weaker (as_page s) (as_page (left_cell s).next) ≡ true
left_weaker = each_instruction (λ s. weaker (as_page s) (as_page (left_cell s).next)) refl

outdated_weaker : (s : InstructionState) → weaker (as_page s) (as_page (outdated_cell s).next) ≡ true
outdated_weaker = each_instruction (λ s. weaker (as_page s) (as_page (outdated_cell s).next)) refl

fetched_weaker : (role : Role) (s : InstructionState) → is_purge (fetched_cell role s).operation ≡ false → weaker (as_page s) (as_page (fetched_cell role s).next) ≡ true
fetched_weaker own unfetched e = refl
fetched_weaker own fetched e = refl
fetched_weaker own outdated e = absurd (true≢false e)
fetched_weaker other unfetched e = refl
fetched_weaker other fetched e = refl
fetched_weaker other outdated e = refl

pub instruction_weaker : (step : Step) (k : ℕ) (s : InstructionState) → is_purge (instruction_cell_at step k s).operation ≡ false
    → weaker (as_page s) (as_page (instruction_cell_at step k s).next) ≡ true
instruction_weaker (read c) k s e = left_weaker s
instruction_weaker (write c) k s e = outdated_weaker s
instruction_weaker device_read k s e = left_weaker s
instruction_weaker device_write k s e = outdated_weaker s
instruction_weaker device_write_part k s e = outdated_weaker s
instruction_weaker begin_read k s e = left_weaker s
instruction_weaker begin_write k s e = outdated_weaker s
instruction_weaker (fetch c) k s e = fetched_weaker (role_if (eqb c k)) s e

-- what writes the frame leaves no instruction colour held
outdated_held : (s : InstructionState) → is_held (as_page (outdated_cell s).next) ≡ false
outdated_held s = as_page_held (outdated_cell s).next ∙ never_held s

-- a fetch holds its own
fetched_own : (s : InstructionState) → is_held (as_page (fetched_cell own s).next) ≡ true
fetched_own = each_instruction (λ s. is_held (as_page (fetched_cell own s).next)) refl

-- ---- a step by pages

-- a step after which no page of the frame is held: no colour by its cells, and no instruction colour
pub record HoldsNone (step : Step) : Type 0 where
  pub colours_none : table.HoldsNone step
  pub instructions_none : (k : ℕ) (s : InstructionState) → is_held (as_page (instruction_cell_at step k s).next) ≡ false

pub write_holds_none : HoldsNone device_write
write_holds_none = record { colours_none = refl; instructions_none = λ k s. outdated_held s }

pub part_holds_none : HoldsNone device_write_part
part_holds_none = record { colours_none = refl; instructions_none = λ k s. outdated_held s }

module _ (n : ℕ) (r : FrameRecord) where
  -- the states of the record after a step are those after the step
  pub pages_after_lem : (step : Step) → keeps_rules n r ≡ true → (k : ℕ) → k < 2 * n → page_states n (record_after n step r) k ≡ pages_after n step r k
  pages_after_lem step rules k h = go (ltb k n) refl
    where
      go : (t : Bool) → ltb k n ≡ t
          → cond t (state_of (record_after n step r) k) (as_page (instruction_state_of (record_after n step r) (k - n)))
          ≡ cond t (cell_of step r k).next (as_page (instruction_cell_of step r (k - n)).next)
      go true e = state_after_lem n step r rules k (ltb-true k n e)
      go false e = let past = ltb-false k n e in ap as_page (instruction_state_after n step r rules (k - n) (omega arith))

  -- ---- after each step

  pub read_held : (c : ℕ) → c < n → is_held (pages_after n (read c) r c) ≡ true
  read_held c h = rw (lt-ltb c n h) (table.read_held r c)

  pub read_alone : (c d : ℕ) → d ≢ c → pages_after n (read c) r d ≢ dirty
  read_alone c d ne = page_cases (λ s. s ≢ dirty) n d (λ _. table.read_alone r c d ne) (λ _. never_dirty (instruction_cell_of (read c) r (d - n)).next)

  pub write_dirty : (c : ℕ) → c < n → pages_after n (write c) r c ≡ dirty
  write_dirty c h = rw (lt-ltb c n h) (table.write_dirty r c)

  pub write_alone : (c d : ℕ) → is_held (pages_after n (write c) r d) ≡ true → d ≡ c
  unfolding instruction_cell_of
  write_alone c d =
      page_cases (λ s. is_held s ≡ true → d ≡ c) n d (λ _. table.write_alone r c d) (λ _ h. absurd (true≢false (sym (rw outdated_held at h))))

  pub device_read_clean : (k : ℕ) → pages_after n device_read r k ≢ dirty
  device_read_clean k = page_cases (λ s. s ≢ dirty) n k (λ _. table.device_read_clean r k) (λ _. never_dirty (instruction_cell_of device_read r (k - n)).next)

  pub holds_none : (step : Step) → HoldsNone step → (k : ℕ) → is_held (pages_after n step r k) ≡ true → ⊥
  unfolding instruction_cell_of
  holds_none step e k =
      page_cases (λ s. is_held s ≡ true → ⊥) n k (λ _. table.holds_none step e.colours_none r k)
      (λ _ h. true≢false (sym h ∙ e.instructions_none (k - n) (instruction_state_of r (k - n))))

  -- after a fetch through colour c its instruction page is held, and no page is dirty
  pub fetch_held : (c : ℕ) → is_held (pages_after n (fetch c) r (n + c)) ≡ true
  unfolding instruction_cell_of
  fetch_held c =
      let past : n + c - n ≡ c = omega arith in
      rw (le-ltb (n + c) n (omega arith), past, eq-eqb c c refl) (fetched_own (instruction_state_of r c))

  pub fetch_clean : (c k : ℕ) → pages_after n (fetch c) r k ≢ dirty
  fetch_clean c k = page_cases (λ s. s ≢ dirty) n k (λ _. table.fetch_clean r c k) (λ _. never_dirty (instruction_cell_of (fetch c) r (k - n)).next)

  -- ---- an instruction page of the record is not dirty

  pub instruction_clean : (c : ℕ) → page_states n r (n + c) ≢ dirty
  instruction_clean c = rw (le-ltb (n + c) n (omega arith)) (never_dirty (instruction_state_of r (n + c - n)))
