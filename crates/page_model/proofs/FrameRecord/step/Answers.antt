-- `page_model::FrameRecord::step` meets its contract.
use mathlib.Core.Path.{◌≡◌, refl, sym, ap, ◌∙◌}
use mathlib.Core.Bool.{Bool, cond}
use Prim.Native.Nat.{ℕ}
use lib.Dec.{eqb}
use Rattle.bits.specs.Mask.{digit}
use Rattle.page_model.specs.declared.masks.MaskState.{MaskState}
use Rattle.page_model.specs.declared.masks.MaskState.TheVariants.{Empty, Held, Stale}
use Rattle.page_model.specs.declared.Op.{Op}
use Rattle.page_model.specs.declared.Op.TheVariants.{None, Flush, Purge, PurgeInstructions}
use Rattle.page_model.specs.Cases.{step_of, mask_state_of, row_of, instruction_of_code, code_instruction, instruction_row_of, instruction_classes, operation_at, instruction_operation_at}
use Rattle.page_model.specs.Instructions.{InstructionCell}
use Rattle.page_model.specs.Record.{state_of, instruction_state_of, is_dirty}
use Rattle.page_model.specs.Step.{op_list, first_two}
use Rattle.page_model.specs.Masks.{moved}
use Rattle.page_model.specs.Table.{Cell, own, other, own_of}
use Rattle.page_model.proofs.Rules.{keeps}
use Rattle.page_model.proofs.Colours.{step_record, step_is}
use Rattle.page_model.proofs.FrameRecord.step.Goals as goal
use Rattle.page_model.proofs.FrameRecord.step.Goals.{then-dirty, else-dirty}

-- the operation that stands last
last_one : (o : Op) → record { first = o; second = None } ≡ first_two (op_list o)
last_one None = refl
last_one (Flush c) = refl
last_one (Purge c) = refl
last_one (PurgeInstructions c) = refl

-- what the masks say, from the state for instructions that it is
from_instruction : (m : MaskState) → m ≡ code_instruction (instruction_of_code m)
from_instruction Empty = refl
from_instruction Held = refl
from_instruction Stale = refl

pub returns : goal.returns
unfolding state_of instruction_state_of
returns c rules_hold =
    let a = c.args in
    let r = a.self in
    let s = step_of a.step in
    let kr = keeps _ _ rules_hold in
    let reaches = c.requires.1 in
    let colour = c.colour-colour.ensures in
    let own-cell = c.cell-own.ensures ∙ (λ i. row_of s own ((c.state.ensures ∙ ap (λ (k : ℕ). state_of r k) colour) i)) in
    let held-cell = c.cell-held.ensures ∙ ap (row_of s other) c.held_state.ensures in
    let fetched-cell = c.instruction_cell-fetched.ensures ∙ (λ i. instruction_row_of s own ((c.state-2.ensures ∙ ap (λ (k : ℕ). instruction_state_of r k) colour) i)) in
    let masks = c.moved.ensures
    ∙ (λ i.
    moved a.colours (colour i)
    (record {
      own = (c.in_masks.ensures ∙ ap (λ (x : Cell). mask_state_of x.next) own-cell) i;
      held = (c.in_masks-2.ensures ∙ ap (λ (x : Cell). mask_state_of x.next) held-cell) i;
      stale = (c.in_masks-3.ensures ∙ ap (λ (x : Cell). mask_state_of x.next) c.cell-stale.ensures) i;
      empty = (c.in_masks-4.ensures ∙ ap (λ (x : Cell). mask_state_of x.next) c.cell-empty.ensures) i;
    })
    r.masks) in
    let dirty = c.is_dirty-dirty.ensures ∙ ap (λ (x : Cell). is_dirty x.next) own-cell in
    let flag = c.from.ensures ∙ ap digit dirty in
    let dirty_colour : c.if-dirty.next ≡ cond (is_dirty (row_of s own (state_of r (own_of s))).next) (own_of s) a.colours = elim c.if-dirty.branch [
      | then-dirty w ↦ w.next-is ∙ colour ∙ ap (λ (b : Bool). cond b (own_of s) a.colours) (sym w.if-dirty.true ∙ dirty)
      | else-dirty w ↦ w.next-is ∙ ap (λ (b : Bool). cond b (own_of s) a.colours) (sym w.if-dirty.false ∙ dirty)
    ] in
    let instructions = c.instructions_after.ensures
    ∙ (λ i. moved a.colours (colour i) (instruction_classes s ((from_instruction _ ∙ ap (λ (x : InstructionCell). code_instruction x.next) fetched-cell) i)) r.instructions) in
    step_is a.colours r kr s reaches
    (step_record a.colours r kr s reaches _ masks flag c.mark_after.ensures dirty_colour instructions)
    (c.put_first-ops.ensures _ (c.put_first.ensures _ (last_one _)))
    (c.elsewhere-first.ensures ∙ (λ i. cond (eqb r.dirty_colour (colour i)) None (operation_at (held-cell i).operation r.dirty_colour)))
    (c.operation-second.ensures ∙ (λ i. operation_at (own-cell i).operation (colour i)))
    (c.instruction_operation.ensures ∙ (λ i. instruction_operation_at (fetched-cell i).operation (colour i)))
