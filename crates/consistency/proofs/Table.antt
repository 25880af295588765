-- What the tables' cells say of the states before and after a step: each law is computed at every cell of the step's row.
use mathlib.Core.Path.{◌≡◌, refl, sym, ap, subst, subst⁻¹}
use mathlib.Core.Bool.{Bool, true, false, not, ◌||◌, false≢true}
use mathlib.Core.Logic.{◌≢◌}
use Prim.Native.Nat.{ℕ}
use native.Mathlib.Decide.{ℕ_discrete}
use lib.Dec.{eqb}
use borrow.Author.Tests.{eq-eqb, ne_eqb}
use Rattle.page_model.specs.declared.FrameRecord.{FrameRecord}
use Rattle.page_model.specs.Record.{state_of, is_held, is_dirty}
use Rattle.page_model.specs.Step.{is_purge, cell_of}
use Rattle.page_model.specs.Table.{ColourState, empty, dirty, Operation, none, flush, purge, Cell, Step, read, write, device_read, device_write, device_write_part, begin_read, begin_write, fetch, own_of}
use Rattle.page_model.proofs.Cells.{row_of, row_cell, Law, every_cell, row_law}
use Rattle.consistency.proofs.Weaker.{clean_state, weaker, is_dirty_lem}

-- ---- a law of a step's row

abbrev Every : Law → Step → Type 0
Every p step = every_cell true p (row_of step) ≡ true

cell_law : (p : Law) (step : Step) → Every p step → (r : FrameRecord) (k : ℕ) → p (eqb (own_of step) k) (state_of r k) (cell_of step r k) ≡ true
cell_law p step e r k =
    subst⁻¹ (λ (x : Cell). p (eqb (own_of step) k) (state_of r k) x ≡ true) (row_cell step r k) (row_law true p (row_of step) e (eqb (own_of step) k) (λ _. refl) (state_of r k))

-- ---- operations

-- what an operation leaves of a colour's state: a flush no dirty line, a purge no line
abbrev pub left_by : Operation → ColourState → ColourState
left_by none s = s
left_by flush s = clean_state s
left_by purge s = empty

-- a cell's next state says no more than what its operation leaves
abbrev next_weaker : Law
next_weaker o s cell = weaker (left_by cell.operation s) cell.next

every_next : (step : Step) → Every next_weaker step
every_next (read c) = refl
every_next (write c) = refl
every_next device_read = refl
every_next device_write = refl
every_next device_write_part = refl
every_next begin_read = refl
every_next begin_write = refl
every_next (fetch c) = refl

pub next_weaker_lem : (step : Step) (r : FrameRecord) (k : ℕ) {op : Operation} → (cell_of step r k).operation ≡ op
    → weaker (left_by op (state_of r k)) (cell_of step r k).next ≡ true
next_weaker_lem step r k e = subst (λ (x : Operation). weaker (left_by x (state_of r k)) (cell_of step r k).next ≡ true) e (cell_law next_weaker step (every_next step) r k)

-- no dirty colour is purged
abbrev purges_clean : Law
purges_clean o s cell = not (is_purge cell.operation) || not (is_dirty s)

-- by a step; `refl` shows it of each but a device's write of a page
abbrev pub Spares : Step → Type 0
Spares step = Every purges_clean step

clean_from : (op : Operation) {s : ColourState} → is_purge op ≡ true → (not (is_purge op) || not (is_dirty s)) ≡ true → s ≢ dirty
clean_from op p h e = let z : false ≡ true = rw (p, e) at h in false≢true z

pub purge_clean : (step : Step) → Spares step → (r : FrameRecord) (k : ℕ) → is_purge (cell_of step r k).operation ≡ true → state_of r k ≢ dirty
purge_clean step e r k p = clean_from (cell_of step r k).operation p (cell_law purges_clean step e r k)

-- ---- states after a step

-- an empty state is not dirty
pub empty_clean : empty ≢ dirty
empty_clean e = false≢true (ap is_dirty e)

not_dirty : {s : ColourState} (t : Bool) → t ≡ false → (t || not (is_dirty s)) ≡ true → s ≢ dirty
not_dirty t q h e = let z : false ≡ true = rw (q, e) at h in false≢true z

not_held : (s : ColourState) (t : Bool) → t ≡ false → (t || not (is_held s)) ≡ true → is_held s ≡ true → ⊥
not_held s t q h e = let z : false ≡ true = rw (q, e) at h in false≢true z

module _ (r : FrameRecord) (c : ℕ) where
  -- after a read its colour is present or dirty, and no other is dirty
  pub read_held : is_held (cell_of (read c) r c).next ≡ true
  read_held = rw (eq-eqb c c refl) at (cell_law (λ o s cell. not o || is_held cell.next) (read c) refl r c)

  pub read_alone : (d : ℕ) → d ≢ c → (cell_of (read c) r d).next ≢ dirty
  read_alone d ne = not_dirty (eqb c d) (ne_eqb c d (λ q. ne (sym q))) (cell_law (λ o s cell. o || not (is_dirty cell.next)) (read c) refl r d)

  -- after a write its colour is dirty, and no other is present or dirty
  pub write_dirty : (cell_of (write c) r c).next ≡ dirty
  write_dirty = is_dirty_lem (cell_of (write c) r c).next (rw (eq-eqb c c refl) at (cell_law (λ o s cell. not o || is_dirty cell.next) (write c) refl r c))

  pub write_alone : (d : ℕ) → is_held (cell_of (write c) r d).next ≡ true → d ≡ c
  write_alone d h = go (ℕ_discrete d c)
    where
      go : Dec (d ≡ c) → d ≡ c
      go (yes e) = e
      go (no ne) = absurd (not_held (cell_of (write c) r d).next (eqb c d) (ne_eqb c d (λ q. ne (sym q))) (cell_law (λ o s cell. o || not (is_held cell.next)) (write c) refl r d) h)

-- after a device's read no colour is dirty
pub device_read_clean : (r : FrameRecord) (k : ℕ) → (cell_of device_read r k).next ≢ dirty
device_read_clean r k = not_dirty false refl (cell_law (λ o s cell. not (is_dirty cell.next)) device_read refl r k)

-- and after a fetch
pub fetch_clean : (r : FrameRecord) (c k : ℕ) → (cell_of (fetch c) r k).next ≢ dirty
fetch_clean r c k = not_dirty false refl (cell_law (λ o s cell. not (is_dirty cell.next)) (fetch c) refl r k)

-- after a step none is present or dirty; `refl` shows it of a device's writes, of a page and of a part
abbrev leaves_none : Law
leaves_none o s cell = not (is_held cell.next)

abbrev pub HoldsNone : Step → Type 0
HoldsNone step = Every leaves_none step

pub holds_none : (step : Step) → HoldsNone step → (r : FrameRecord) (k : ℕ) → is_held (cell_of step r k).next ≡ true → ⊥
holds_none step e r k = not_held (cell_of step r k).next false refl (cell_law leaves_none step e r k)
