-- `manager::plans::plan_transfer` meets its contract.
use mathlib.Core.Path.{refl, sym, ◌∙◌}
use mathlib.Core.List.{[], ◌∷◌, ◌++◌}
use Rattle.mapping.proofs.Laws.{items_length}
use Rattle.manager.specs.Refusals.{table_causes, frame_cause, transfer_causes}
use Rattle.manager.specs.Tables.{tables}
use Rattle.manager.proofs.CauseLaws.{told_own, transfer_rules}
use Rattle.manager.proofs.PlanLaws.{planned_first, planned_then}
use Rattle.manager.proofs.plans.plan_transfer.Goals as goal

pub returns-in_err-transfer_refusal : goal.returns-in_err-transfer_refusal
unfolding transfer_causes table_causes
returns-in_err-transfer_refusal c =
    let a = c.args in
    let t = tables a.list a.records.now a.protections.now in
    planned_first (table_causes a.board t ++ frame_cause a.board a.frame ∷ []) _ _ _ _
    (c.in_err-transfer_refusal.ensures ∙ told_own _ a.list _ _ _ (items_length a.list _ c.well_formed.1.0) c.keeps_rules-kept.ensures) c.from_residual.ensures.1

pub returns : goal.returns
unfolding transfer_causes table_causes
returns c =
    let a = c.args in
    let t = tables a.list a.records.now a.protections.now in
    let none = c.in_ok-transfer_refusal.ensures ∙ told_own _ a.list _ _ _ (items_length a.list _ c.well_formed.1.0) c.keeps_rules-kept.ensures in
    planned_then t (table_causes a.board t ++ frame_cause a.board a.frame ∷ []) a.frame _ _ refl none
    (c.plan_step.ensures a.list a.protections.now (transfer_rules _ t _ [] refl (sym none)))
