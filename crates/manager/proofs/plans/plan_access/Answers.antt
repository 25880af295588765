-- `manager::plans::plan_access` meets its contract.
use mathlib.Core.Path.{◌≡◌, refl, sym, ap, ap₂, ◌∙◌}
use mathlib.Core.List.{List, [], ◌∷◌, ◌++◌}
use Prim.Native.Nat.{ℕ}
use lib.ListN.{length}
use Rattle.std.specs.Prelude.{Option, Some, is_some}
use Rattle.board.specs.declared.Board.{Board}
use Rattle.board.specs.Board.{colour_of}
use Rattle.page_model.specs.Cases.{step_of}
use Rattle.mapping.specs.declared.Mapping.{Mapping}
use Rattle.mapping.specs.declared.MappingList.{MappingList}
use Rattle.mapping.specs.declared.Seen.{Seen}
use Rattle.mapping.specs.Entry.{capacity}
use Rattle.mapping.specs.Look.{find, look}
use Rattle.mapping.specs.Lookup.{listed_mapping}
use Rattle.manager.specs.declared.AccessKind.{AccessKind}
use Rattle.manager.specs.Refusals.{first_refusal, table_causes, space_cause, unmapped_cause, page_causes}
use Rattle.manager.specs.Scaffold.Told.{told_tables, told_page, told_rights}
use Rattle.manager.specs.Tables.{tables}
use Rattle.manager.proofs.CauseLaws.{refusal_prefix, refused_then, some_number, tables_told, looked_found, page_told, mapping_listed}
use Rattle.manager.proofs.PlanLaws.{access_step, access_refused, access_rules, access_planned}
use Rattle.manager.proofs.plans.plan_access.Goals as goal
use Rattle.manager.proofs.plans.plan_access.Goals.{in-Read, in-Write, in-Fetch}

pub returns-in_err-seen : goal.returns-in_err-seen
unfolding page_causes table_causes
returns-in_err-seen c l long looked =
    let a = c.args in
    let t = tables l a.records.now a.protections.now in
    let told = tables_told a.board l _ _ a.space a.page long looked c.in_err-seen.ensures.refusal in
    access_refused a.board t a.space a.page a.kind _ _
    (told ∙ refusal_prefix (table_causes a.board t) (space_cause a.space a.page ∷ unmapped_cause l a.space a.page ∷ told_rights a.kind (listed_mapping l a.space a.page).rights) (λ z. some_number _ (told ∙ z)))
    c.from_residual.ensures.1

-- past what is lent: the page, and the rights of its mapping
module _ (b : Board) (l : MappingList) (rs ps : List ℕ) (space page : ℕ) (long : length l.items ≡ capacity) {looked : Option Seen} (is : looked ≡ look b l space page) {seen : Seen}
    (told : 0 ≡ first_refusal (told_tables b (is_some looked) rs ps)) (found : looked ≡ Some seen) where
  seen_is : seen ≡ find l space page
  seen_is = (looked_found b l space page (sym is ∙ found)).1

  page_refused : {n : ℕ} → n ≡ first_refusal (told_page space page seen) → n ≡ first_refusal (page_causes b (tables l rs ps) space page)
  unfolding page_causes table_causes
  page_refused e =
      refused_then (table_causes b (tables l rs ps)) (space_cause space page ∷ unmapped_cause l space page ∷ []) refl (tables_told b l rs ps space page long is told)
      (e ∙ ap first_refusal (page_told l space page seen_is))

  rights_refused : {m : Mapping} {n : ℕ} (kind : AccessKind) → 0 ≡ first_refusal (told_page space page seen) → seen.mapping ≡ Some m → n ≡ first_refusal (told_rights kind m.rights)
      → n ≡ first_refusal (page_causes b (tables l rs ps) space page ++ told_rights kind (listed_mapping l space page).rights)
  unfolding page_causes table_causes
  rights_refused kind none at e =
      refused_then (table_causes b (tables l rs ps) ++ space_cause space page ∷ unmapped_cause l space page ∷ []) (told_rights kind (listed_mapping l space page).rights) refl (page_refused none)
      (e ∙ ap (λ (x : Mapping). first_refusal (told_rights kind x.rights)) (mapping_listed l space page long seen_is at))

pub returns-in_err-mapping : goal.returns-in_err-mapping
returns-in_err-mapping c l long looked =
    let a = c.args in
    let t = tables l a.records.now a.protections.now in
    let e = c.in_err-mapping.field-0.0 in
    let told = page_refused a.board l _ _ a.space a.page long looked c.in_ok-seen.ensures.refusal c.in_ok-seen.ensures.seen c.in_err-mapping.ensures.refusal in
    access_refused a.board t a.space a.page a.kind _ e
    (told ∙ refusal_prefix (page_causes a.board t a.space a.page) (told_rights a.kind (listed_mapping l a.space a.page).rights) (λ z. some_number e (told ∙ z)))
    c.from_residual-in_err-mapping.ensures.1

pub returns-in_err-rights_refusal : goal.returns-in_err-rights_refusal
returns-in_err-rights_refusal c l long looked =
    let a = c.args in
    access_refused a.board (tables l a.records.now a.protections.now) a.space a.page a.kind _ _
    (rights_refused a.board l _ _ a.space a.page long looked c.in_ok-seen.ensures.refusal c.in_ok-seen.ensures.seen a.kind c.in_ok-mapping.ensures.refusal c.in_ok-mapping.ensures.mapping c.in_err-rights_refusal.ensures)
    c.from_residual-in_err-rights_refusal.ensures.1

pub returns : goal.returns
returns c l long looked =
    let a = c.args in
    let t = tables l a.records.now a.protections.now in
    let none = rights_refused a.board l _ _ a.space a.page long looked c.in_ok-seen.ensures.refusal c.in_ok-seen.ensures.seen a.kind c.in_ok-mapping.ensures.refusal c.in_ok-mapping.ensures.mapping c.in_ok-rights_refusal.ensures in
    let found = (looked_found a.board l a.space a.page (sym looked ∙ c.in_ok-seen.ensures.seen)).1 in
    let frame = ap (λ (m : Mapping). m.frame) (mapping_listed l a.space a.page long found c.in_ok-mapping.ensures.mapping) in
    let colour = c.colour_of-colour.ensures.value ∙ ap (colour_of a.board) c.from.ensures in
    access_planned a.board t a.space a.page a.kind none frame
    (elim c.match-kind.branch [
      | in-Read w ↦ ap step_of w.step-is ∙ ap₂ access_step (sym w.in-Read.is) colour
      | in-Write w ↦ ap step_of w.step-is ∙ ap₂ access_step (sym w.in-Write.is) colour
      | in-Fetch w ↦ ap step_of w.step-is ∙ ap₂ access_step (sym w.in-Fetch.is) colour
    ])
    (c.plan_step.ensures l a.protections.now (access_rules a.board t a.space a.page a.kind none frame))
