-- `manager::plans::plan_map` meets its contract.
use mathlib.Core.Path.{refl, sym, ap, ap₂, ◌∙◌}
use Rattle.mapping.specs.declared.Seen.{Seen}
use Rattle.mapping.proofs.Laws.{items_length}
use Rattle.manager.specs.Calls.{planned}
use Rattle.manager.specs.Refusals.{first_refusal, table_causes, mapping_causes, map_causes}
use Rattle.manager.specs.Tables.{tables}
use Rattle.manager.proofs.CauseLaws.{refused_then, tables_told, looked_found, mapping_told}
use Rattle.manager.proofs.PlanLaws.{planned_exit, planned_first}
use Rattle.manager.proofs.plans.plan_map.Goals as goal

pub returns-in_err-seen : goal.returns-in_err-seen
unfolding map_causes
returns-in_err-seen c =
    let a = c.args in
    planned_first (table_causes a.board (tables a.list a.records.now a.protections.now)) (mapping_causes a.board a.list a.m.space a.m.page a.m.frame a.m.rights) _ _ _
    (tables_told a.board a.list _ _ a.m.space a.m.page (items_length a.list _ c.well_formed.1.0) c.look-looked.ensures c.in_err-seen.ensures.refusal) c.from_residual.ensures.1

pub returns-in_err-mapping_refusal : goal.returns-in_err-mapping_refusal
unfolding map_causes table_causes
returns-in_err-mapping_refusal c =
    let a = c.args in
    let seen = (looked_found a.board a.list a.m.space a.m.page (sym c.look-looked.ensures ∙ c.in_ok-seen.ensures.seen)).1 in
    planned_exit _ _ _
    (refused_then (table_causes a.board (tables a.list a.records.now a.protections.now)) (mapping_causes a.board a.list a.m.space a.m.page a.m.frame a.m.rights) refl
    (tables_told a.board a.list _ _ a.m.space a.m.page (items_length a.list _ c.well_formed.1.0) c.look-looked.ensures c.in_ok-seen.ensures.refusal)
    (c.in_err-mapping_refusal.ensures ∙ ap first_refusal (mapping_told a.board a.list a.m.space a.m.page a.m.frame a.m.rights seen))) c.from_residual-in_err-mapping_refusal.ensures.1

pub returns : goal.returns
unfolding map_causes table_causes
returns c =
    let a = c.args in
    let seen = (looked_found a.board a.list a.m.space a.m.page (sym c.look-looked.ensures ∙ c.in_ok-seen.ensures.seen)).1 in
    let none =
    refused_then (table_causes a.board (tables a.list a.records.now a.protections.now)) (mapping_causes a.board a.list a.m.space a.m.page a.m.frame a.m.rights) refl
    (tables_told a.board a.list _ _ a.m.space a.m.page (items_length a.list _ c.well_formed.1.0) c.look-looked.ensures c.in_ok-seen.ensures.refusal)
    (c.in_ok-mapping_refusal.ensures ∙ ap first_refusal (mapping_told a.board a.list a.m.space a.m.page a.m.frame a.m.rights seen)) in
    ap₂ planned none (ap (λ (x : Seen). x.place) seen)
