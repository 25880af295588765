-- `manager::plans::plan_device_write_part` meets its contract.
use mathlib.Core.Path.{◌≡◌, refl, sym, ap, ◌∙◌}
use mathlib.Core.Bool.{Bool, true, false, cond}
use Prim.Native.Nat.{ℕ}
use borrow.Author.Tests.{lt-ltb, le-ltb}
use lib.Dec.{ltb}
use Rattle.board.specs.declared.Board.{Board}
use Rattle.page_model.specs.Busy.{bars}
use Rattle.page_model.specs.Cases.{step_of}
use Rattle.page_model.specs.Table.{Step, device_write, device_write_part}
use mathlib.Core.List.{[], ◌∷◌, ◌++◌}
use Rattle.mapping.proofs.Laws.{items_length}
use Rattle.manager.specs.Calls.{planned, change_of, write_step}
use Rattle.manager.specs.Refusals.{table_causes, frame_cause, part_cause, part_causes}
use Rattle.manager.specs.Tables.{tables, record_at}
use Rattle.manager.proofs.CauseLaws.{told_own, transfer_rules}
use Rattle.manager.proofs.PlanLaws.{planned_first, planned_then}
use Rattle.manager.proofs.plans.plan_device_write_part.Goals as goal
use Rattle.manager.proofs.plans.plan_device_write_part.Goals.{then-number-board, else-number-board}

pub returns-in_err-part_refusal : goal.returns-in_err-part_refusal
unfolding part_causes table_causes
returns-in_err-part_refusal c =
    let a = c.args in
    let t = tables a.list a.records.now a.protections.now in
    planned_first (table_causes a.board t ++ frame_cause a.board a.frame ∷ part_cause a.board a.first a.number ∷ []) _ _ _ _
    (c.in_err-part_refusal.ensures ∙ told_own _ a.list _ _ _ (items_length a.list _ c.well_formed.1.0) c.keeps_rules-kept.ensures) c.from_residual.ensures.1

-- a mark bars both steps alike
alike : (b : Board) (number mark : ℕ) → bars mark (write_step b number) ≡ bars mark device_write_part
alike b number mark = go (ltb number b.page)
  where
    go : (t : Bool) → bars mark (cond t device_write_part device_write) ≡ bars mark device_write_part
    go true = refl
    go false = refl

pub returns : goal.returns
unfolding part_causes table_causes
returns c =
    let a = c.args in
    let t = tables a.list a.records.now a.protections.now in
    let none = c.in_ok-part_refusal.ensures ∙ told_own _ a.list _ _ _ (items_length a.list _ c.well_formed.1.0) c.keeps_rules-kept.ensures in
    let step : step_of c.if-number-board.step ≡ write_step a.board a.number = elim c.if-number-board.branch [
      | then-number-board w ↦ ap step_of w.step-is ∙ ap (λ (x : Bool). cond x device_write_part device_write) (sym (lt-ltb _ _ w.if-number-board.true))
      | else-number-board w ↦ ap step_of w.step-is ∙ ap (λ (x : Bool). cond x device_write_part device_write) (sym (le-ltb _ _ w.if-number-board.false))
    ] in
    planned_then t (table_causes a.board t ++ frame_cause a.board a.frame ∷ part_cause a.board a.first a.number ∷ []) a.frame device_write_part _ refl none
    (c.plan_step.ensures a.list a.protections.now (transfer_rules _ t _ (part_cause a.board a.first a.number ∷ []) refl (sym none))
    ∙ ap (λ (s : Step). planned (cond (bars (record_at a.records.now a.frame).busy s) 15 0) (change_of a.board t a.frame s)) step
    ∙ ap (λ (x : Bool). planned (cond x 15 0) (change_of a.board t a.frame (write_step a.board a.number))) (alike a.board a.number _))
