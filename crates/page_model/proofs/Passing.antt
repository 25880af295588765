-- An access has no operation and alters nothing exactly if its colour's state lets it pass, and then no mark bars it.
use mathlib.Core.Path.{◌≡◌, refl, sym, ap, ◌∙◌}
use mathlib.Core.Bool.{Bool, true, false, not, false≢true}
use Prim.Native.Nat.{ℕ, ◌≤◌, ◌<◌}
use native.Mathlib.Omega.{arith}
use borrow.Author.Tests.{eq-eqb, ne_eqb}
use lib.Dec.{eqb}
use Rattle.page_model.specs.declared.FrameRecord.{FrameRecord}
use Rattle.page_model.specs.Record.{state_of, instruction_state_of, keeps_rules, is_held, is_dirty, is_fetched}
use Rattle.page_model.specs.Instructions.{fetched_cell}
use Rattle.page_model.specs.Busy.{free, reading, writing}
use Rattle.page_model.specs.Step.{instruction_cell_of, record_after}
use Rattle.page_model.specs.Table.{ColourState, own, Cell, Step, read, write, fetch, role_if, own_of}
use Rattle.page_model.specs.Theorems.{passes_read, passes_write, ReadPasses, WritePasses, FetchPasses, IdleNotBarred}
use Rattle.page_model.proofs.Rules.{keeps}
use Rattle.page_model.proofs.Cells.{state_test, row_of, row_cell, at_law, each_state}
use Rattle.page_model.proofs.Idle.{read_idle, write_idle, fetch_idle}
use Rattle.page_model.proofs.Instructions.{each_instruction, beside_held}
use Rattle.page_model.proofs.Encoding.{kept_mark}
use Rattle.page_model.proofs.After.{state_after_lem, instruction_state_after}

-- an access that alters nothing passes, if what it makes of its own colour lets it pass
idle_passes : (n : ℕ) (step : Step) (r : FrameRecord) (passes : ColourState → Bool) → own_of step < n → keeps_rules n r ≡ true
    → ((s : ColourState) → passes (row_of step own s).next ≡ true) → record_after n step r ≡ r → passes (state_of r (own_of step)) ≡ true
idle_passes n step r passes l e own-next same =
    let c = own_of step in
    let cell = row_cell step r c ∙ ap (λ (b : Bool). row_of step (role_if b) (state_of r c)) (eq-eqb c c refl) in
    ap passes (sym (ap (λ (x : FrameRecord). state_of x c) same) ∙ state_after_lem n step r e c l ∙ ap (λ (x : Cell). x.next) cell) ∙ own-next (state_of r c)

pub read_passes : ReadPasses
unfolding state_of
read_passes n c r lc e = (
  λ z. read_idle n r (keeps n r e) c lc (at_law r 0 c (state_test passes_read) (λ o s h d. h) (λ o s h d. true) refl z),
  λ idle. idle_passes n (read c) r passes_read lc e (each_state _ refl) idle.1,
)

pub write_passes : WritePasses
unfolding state_of
write_passes n c r lc e = (
  λ z. write_idle n r (keeps n r e) c lc (at_law r 0 c (state_test passes_write) (state_test is_dirty) (λ o s h d. true) refl z),
  λ idle. idle_passes n (write c) r passes_write lc e (each_state _ refl) idle.1,
)

pub fetch_passes : FetchPasses
unfolding instruction_cell_of
fetch_passes n c r lc e = (
  λ z. fetch_idle n r (keeps n r e) c lc z,
  λ idle.
      let after = instruction_state_after n (fetch c) r e c lc ∙ ap (λ (b : Bool). (fetched_cell (role_if b) (instruction_state_of r c)).next) (eq-eqb c c refl) in
      ap is_fetched (sym (ap (λ (x : FrameRecord). instruction_state_of x c) idle.1) ∙ after) ∙ each_instruction (λ s. is_fetched (fetched_cell own s).next) refl (instruction_state_of r c),
)

-- where a colour is present or dirty no device writes, and where one is dirty none reads either
not_busy : (mark : ℕ) → mark ≤ writing → (mark ≡ reading → ⊥) → (mark ≡ writing → ⊥) → not (eqb mark free) ≡ false
not_busy mark l nr nw = ap not (eq-eqb mark free (omega arith))

pub idle_not_barred : IdleNotBarred
unfolding state_of
idle_not_barred n c r lc e =
    let mark = kept_mark n r e in (
      λ idle.
          let held = at_law r 0 c (state_test passes_read) (state_test is_held) (λ o s h d. true) refl ((read_passes n c r lc e).1 idle) in
          ne_eqb r.busy writing (λ m. false≢true (sym (mark.none_held m c lc) ∙ held)),
      λ idle.
          let passes = (write_passes n c r lc e).1 idle in
          let is_dirty_lem = at_law r 0 c (state_test passes_write) (state_test is_dirty) (λ o s h d. true) refl passes in
          let held = at_law r 0 c (state_test passes_write) (state_test is_held) (λ o s h d. true) refl passes in
          not_busy r.busy mark.is_mark (λ m. false≢true (sym (mark.none_dirty m c lc) ∙ is_dirty_lem)) (λ m. false≢true (sym (mark.none_held m c lc) ∙ held)),
      λ idle. (beside_held n r (keeps n r e) c lc ((fetch_passes n c r lc e).1 idle)).1,
    )
