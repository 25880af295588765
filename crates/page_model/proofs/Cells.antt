-- What a colour's bits and the flag tell of its state, and of the table's cell that a step takes there. Each law is a test of four bits
-- that the checker computes at all sixteen values.
use mathlib.Core.Path.{◌≡◌, refl, sym, ap, ◌∙◌}
use mathlib.Core.Bool.{Bool, true, false, not, ◌&&◌, ◌||◌, false≢true}
use Prim.Native.Nat.{ℕ, ◌<◌}
use lib.Dec.{eqb}
use Rattle.bits.specs.Mask.{bit}
use Rattle.bits.proofs.Tautology.{all4, equal_if, law4, and_left, and_right}
use Rattle.page_model.specs.declared.FrameRecord.{FrameRecord}
pub use Rattle.page_model.specs.Cases.{row_of}
use Rattle.page_model.specs.Record.{state_from, state_of}
use Rattle.page_model.specs.Step.{cell_of}
use Rattle.page_model.specs.Table.{ColourState, empty, present, dirty, stale, Operation, Role, own, other, Cell, Step, read, write, device_read, device_write, device_write_part, begin_read, begin_write, fetch, role_if, own_of}
use Rattle.page_model.proofs.Rules.{Keeps, flag}

-- a test of whether a colour is the step's own, its stale bit, its held bit and the flag
abbrev pub Test : Type 0
Test = Bool → Bool → Bool → Bool → Bool

-- two tests are equal where given holds
abbrev pub Agree : (given p q : Test) → Type 0
Agree given p q = all4 (λ o s h d. equal_if (given o s h d) (p o s h d) (q o s h d)) ≡ true

-- no bit is in both masks
abbrev pub apart : Test
apart o s h d = not (h && s)

-- ---- tests of a state, of the state after a step and of its operation

abbrev pub state_test : (ColourState → Bool) → Test
state_test f o s h d = f (state_from s h d)

-- the cell that a step takes, by its row
pub row_cell : (s : Step) (r : FrameRecord) (k : ℕ) → cell_of s r k ≡ row_of s (role_if (eqb (own_of s) k)) (state_of r k)
unfolding cell_of
row_cell (read c) r k = refl
row_cell (write c) r k = refl
row_cell device_read r k = refl
row_cell device_write r k = refl
row_cell device_write_part r k = refl
row_cell begin_read r k = refl
row_cell begin_write r k = refl
row_cell (fetch c) r k = refl

abbrev pub next_test : Step → (ColourState → Bool) → Test
next_test step f o s h d = f (row_of step (role_if o) (state_from s h d)).next

abbrev pub operation_test : Step → (Operation → Bool) → Test
operation_test step f o s h d = f (row_of step (role_if o) (state_from s h d)).operation

-- ---- the laws

-- a test at colour k, where the step goes through c
abbrev pub at : FrameRecord → ℕ → ℕ → Test → Bool
at r c k p = p (eqb c k) (bit r.masks.stale k) (bit r.masks.held k) (flag r)

pub at_law : (r : FrameRecord) (c k : ℕ) (given p q : Test) → Agree given p q → at r c k given ≡ true → at r c k p ≡ at r c k q
at_law r c k given p q e = law4 given p q e _ _ _ _

pub state_law : (r : FrameRecord) (k : ℕ) (given : Test) (f : ColourState → Bool) (p : Test) → Agree given p (state_test f) → at r 0 k given ≡ true → at r 0 k p ≡ f (state_of r k)
unfolding state_of
state_law r k given f p = at_law r 0 k given p (state_test f)

module _ (n : ℕ) (r : FrameRecord) (step : Step) (given : Test) (holds : (k : ℕ) → k < n → at r (own_of step) k given ≡ true) where
  pub next_law : (f : ColourState → Bool) (p : Test) → Agree given p (next_test step f) → (k : ℕ) → k < n → at r (own_of step) k p ≡ f (cell_of step r k).next
  unfolding state_of
  next_law f p e k l = at_law r _ k given p (next_test step f) e (holds k l) ∙ sym (ap (λ (x : Cell). f x.next) (row_cell step r k))

  pub operation_law : (f : Operation → Bool) (p : Test) → Agree given p (operation_test step f) → (k : ℕ) → k < n → at r (own_of step) k p ≡ f (cell_of step r k).operation
  unfolding state_of
  operation_law f p e k l = at_law r _ k given p (operation_test step f) e (holds k l) ∙ sym (ap (λ (x : Cell). f x.operation) (row_cell step r k))

-- the same of a record that keeps the rules
module _ (n : ℕ) (r : FrameRecord) (kr : Keeps n r) where
  pub kept_state : (f : ColourState → Bool) (p : Test) → Agree apart p (state_test f) → (k : ℕ) → k < n → at r 0 k p ≡ f (state_of r k)
  kept_state f p e k l = state_law r k apart f p e (kr.masks.apart k l)

  pub kept_next : (step : Step) (f : ColourState → Bool) (p : Test) → Agree apart p (next_test step f) → (k : ℕ) → k < n → at r (own_of step) k p ≡ f (cell_of step r k).next
  kept_next step = next_law n r step apart kr.masks.apart

  pub kept_operation : (step : Step) (f : Operation → Bool) (p : Test) → Agree apart p (operation_test step f) → (k : ℕ) → k < n
      → at r (own_of step) k p ≡ f (cell_of step r k).operation
  kept_operation step = operation_law n r step apart kr.masks.apart

-- what computes to true at the four states holds of each
pub each_state : (p : ColourState → Bool) → (p empty && p present && p dirty && p stale) ≡ true → (s : ColourState) → p s ≡ true
each_state p e empty = search (and_left, and_right)
each_state p e present = search (and_left, and_right)
each_state p e dirty = search (and_left, and_right)
each_state p e stale = search (and_left, and_right)

-- ---- a law of a row

-- of whether a colour is the step's own, its state and its cell
abbrev pub Law : Type 0
Law = Bool → ColourState → Cell → Bool

abbrev every_state : (ColourState → Bool) → Bool
every_state p = p empty && p present && p dirty && p stale

-- at every state of a row, and of its own colour where there may be one
abbrev pub every_cell : Bool → Law → (Role → ColourState → Cell) → Bool
every_cell owns p row = (not owns || every_state (λ s. p true s (row own s))) && every_state (λ s. p false s (row other s))

pub row_law : (owns : Bool) (p : Law) (row : Role → ColourState → Cell) → every_cell owns p row ≡ true → (o : Bool) → (o ≡ true → owns ≡ true) → (s : ColourState)
    → p o s (row (role_if o) s) ≡ true
row_law true p row e true has s = each_state (λ s. p true s (row own s)) (and_left _ (every_state (λ s. p false s (row other s))) e) s
row_law false p row e true has s = absurd (false≢true (has refl))
row_law owns p row e false has s = each_state (λ s. p false s (row other s)) (and_right (not owns || every_state (λ s. p true s (row own s))) _ e) s
