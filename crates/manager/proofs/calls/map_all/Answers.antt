-- `manager::map_all` meets its contract.
use mathlib.Core.Path.{◌≡◌, sym, ap, ◌∙◌}
use Prim.Native.Nat.{ℕ}
use Rattle.board.specs.Board.{board01}
use Rattle.board.proofs.Geometry.{board01_regular}
use Rattle.mapping.specs.Batch.{items_of}
use Rattle.mapping.proofs.Laws.{items_length}
use Rattle.manager.specs.Answers.{refusal_in}
use Rattle.manager.specs.Scaffold.Inserted.{batch_made}
use Rattle.manager.specs.Refusals.{first_refusal, table_causes}
use Rattle.manager.specs.Tables.{tables}
use Rattle.manager.proofs.CauseLaws.{list_keeps, told_tables_lem, tables_clear}
use Rattle.manager.proofs.Singly.{map_all_made}
use Rattle.manager.proofs.calls.map_all.Goals as goal

pub map_batch-requires : goal.map_batch-requires
map_batch-requires c =
    let t = tables c.args.list c.args.records.now c.args.protections.now in
    let lent : refusal_in c.tables_refusal-lent.result ≡ first_refusal (table_causes board01 (tables c.args.list c.args.records.now c.args.protections.now)) = c.tables_refusal-lent.ensures ∙ told_tables_lem _ c.args.list _ _ (items_length c.args.list _ c.well_formed.0) c.keeps_rules-kept.ensures in
    (board01_regular, λ z. list_keeps board01 t (tables_clear board01 t (sym lent ∙ sym c.number_in.ensures ∙ z)).1)

pub returns : goal.returns
returns c =
    let a = c.args in
    let lent : refusal_in c.tables_refusal-lent.result ≡ first_refusal (table_causes board01 (tables c.args.list c.args.records.now c.args.protections.now)) = c.tables_refusal-lent.ensures ∙ told_tables_lem _ c.args.list _ _ (items_length c.args.list _ c.well_formed.0) c.keeps_rules-kept.ensures in
    c.map_batch.ensures
    ∙ ap (λ (n : ℕ). batch_made board01 n (tables c.args.list c.args.records.now c.args.protections.now) (items_of a.batch) a.answers.now) (c.number_in.ensures ∙ lent)
    ∙ map_all_made board01 (tables c.args.list c.args.records.now c.args.protections.now) (items_of a.batch) a.answers.now
