-- `machine::map_all` meets its contract.
use mathlib.Core.Path.{◌≡◌, sym, ap, ◌∙◌}
use mathlib.Core.Bool.{true}
use Prim.Native.Nat.{ℕ}
use Rattle.board.specs.Board.{board01}
use Rattle.board.proofs.Geometry.{board01_regular}
use Rattle.mapping.specs.Batch.{items_of}
use Rattle.mapping.specs.Entry.{zero_mapping}
use Rattle.mapping.proofs.Laws.{items_length}
use Rattle.manager.specs.Answers.{refusal_in}
use Rattle.manager.specs.Scaffold.Inserted.{batch_made}
use Rattle.manager.specs.Refusals.{first_refusal, table_causes}
use Rattle.manager.specs.Tables.{tables}
use Rattle.manager.proofs.CauseLaws.{list_keeps, tables_clear}
use Rattle.machine.specs.Call.{map_of}
use Rattle.machine.specs.Scaffold.Plans.{store_causes, earlier}
use Rattle.machine.specs.State.{machine_of}
use Rattle.machine.proofs.ItemLaws.{beside, map_all_performed}
use Rattle.machine.proofs.MergeLaws.{earlier_neither, lent_merged}
use Rattle.machine.proofs.PlanLaws.{lent_refused}
use Rattle.machine.proofs.map_all.Goals as goal

-- the refusal in all that is lent
told : (c : goal.After-number_in) → let st = (let a = c.args in machine_of a.list a.records.now a.protections.now a.memory.now a.words.now a.tags.now) in refusal_in c.earlier-lent.result ≡ earlier (first_refusal (store_causes board01 st.store true)) (first_refusal (table_causes board01 st.tables))
told c =
    lent_refused board01 ((let a = c.args in machine_of a.list a.records.now a.protections.now a.memory.now a.words.now a.tags.now)) (items_length c.args.list _ c.well_formed.0) c.keeps_rules-kept.ensures c.earlier-lent.ensures.refusal c.store_refusal-own.ensures c.tables_refusal-managers.ensures

pub map_batch-requires : goal.map_batch-requires
map_batch-requires c =
    let a = c.args in
    let t = tables a.list a.records.now a.protections.now in
    (board01_regular, λ z. list_keeps board01 t (tables_clear board01 t (earlier_neither _ _ (sym (told c) ∙ sym c.number_in.ensures ∙ z))).1)

pub returns : goal.returns
returns c =
    let a = c.args in
    let st = (let a = c.args in machine_of a.list a.records.now a.protections.now a.memory.now a.words.now a.tags.now) in
    let items = items_of a.batch in
    ap (beside st.store) (c.map_batch.ensures
    ∙ ap (λ (lent : ℕ). batch_made board01 lent st.tables items a.answers.now) (c.number_in.ensures ∙ lent_refused board01 (let a = c.args in machine_of a.list a.records.now a.protections.now a.memory.now a.words.now a.tags.now) (items_length c.args.list _ c.well_formed.0) c.keeps_rules-kept.ensures c.earlier-lent.ensures.refusal c.store_refusal-own.ensures c.tables_refusal-managers.ensures ∙ sym (lent_merged board01 st (map_of zero_mapping))))
    ∙ map_all_performed board01 st items a.answers.now
