-- `manager::plans::plan_unmap` meets its contract.
use mathlib.Core.Path.{refl, sym, ap, ap₂, ◌∙◌}
use mathlib.Core.List.{[], ◌∷◌}
use Rattle.mapping.specs.declared.Seen.{Seen}
use Rattle.mapping.proofs.Laws.{items_length}
use Rattle.manager.specs.Calls.{planned}
use Rattle.manager.specs.Refusals.{first_refusal, table_causes, space_cause, unmapped_cause, page_causes}
use Rattle.manager.specs.Tables.{tables}
use Rattle.manager.proofs.CauseLaws.{refused_then, tables_told, looked_found, page_told, page_place}
use Rattle.manager.proofs.PlanLaws.{planned_exit, planned_first}
use Rattle.manager.proofs.plans.plan_unmap.Goals as goal

pub returns-in_err-seen : goal.returns-in_err-seen
unfolding page_causes
returns-in_err-seen c =
    let a = c.args in
    planned_first (table_causes a.board (tables a.list a.records.now a.protections.now)) (space_cause a.space a.page ∷ unmapped_cause a.list a.space a.page ∷ []) _ _ _
    (tables_told a.board a.list _ _ a.space a.page (items_length a.list _ c.well_formed.1.0) c.look-looked.ensures c.in_err-seen.ensures.refusal) c.from_residual.ensures.1

pub returns-in_err-mapping_at : goal.returns-in_err-mapping_at
unfolding page_causes table_causes
returns-in_err-mapping_at c =
    let a = c.args in
    let seen = (looked_found a.board a.list a.space a.page (sym c.look-looked.ensures ∙ c.in_ok-seen.ensures.seen)).1 in
    planned_exit _ _ _
    (refused_then (table_causes a.board (tables a.list a.records.now a.protections.now)) (space_cause a.space a.page ∷ unmapped_cause a.list a.space a.page ∷ []) refl
    (tables_told a.board a.list _ _ a.space a.page (items_length a.list _ c.well_formed.1.0) c.look-looked.ensures c.in_ok-seen.ensures.refusal)
    (c.in_err-mapping_at.ensures.refusal ∙ ap first_refusal (page_told a.list a.space a.page seen))) c.from_residual-in_err-mapping_at.ensures.1

pub returns : goal.returns
unfolding page_causes table_causes
returns c =
    let a = c.args in
    let t = tables a.list a.records.now a.protections.now in
    let seen = (looked_found a.board a.list a.space a.page (sym c.look-looked.ensures ∙ c.in_ok-seen.ensures.seen)).1 in
    let none =
    refused_then (table_causes a.board t) (space_cause a.space a.page ∷ unmapped_cause a.list a.space a.page ∷ []) refl
    (tables_told a.board a.list _ _ a.space a.page (items_length a.list _ c.well_formed.1.0) c.look-looked.ensures c.in_ok-seen.ensures.refusal)
    (c.in_ok-mapping_at.ensures.refusal ∙ ap first_refusal (page_told a.list a.space a.page seen)) in
    ap₂ planned none (ap (λ (x : Seen). x.place) seen ∙ page_place _ t a.space a.page (sym none))
