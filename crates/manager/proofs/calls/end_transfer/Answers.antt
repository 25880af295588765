-- `manager::end_transfer` meets its contract.
use mathlib.Core.Path.{refl, ap, ◌∙◌}
use Rattle.board.specs.Board.{board01}
use Rattle.page_model.specs.Record.{freed}
use Rattle.mapping.proofs.Laws.{items_length}
use Rattle.manager.specs.Calls.{commit_change}
use Rattle.manager.specs.Refusals.{end_causes}
use Rattle.manager.specs.Tables.{tables}
use Rattle.manager.proofs.CauseLaws.{told_own}
use Rattle.manager.proofs.PlanLaws.{plain_refused, plain_made}
use Rattle.manager.proofs.calls.end_transfer.Goals as goal

pub returns-in_err-end_refusal : goal.returns-in_err-end_refusal
unfolding end_causes
returns-in_err-end_refusal c =
    let a = c.args in
    plain_refused _ _ _ _ _ (c.in_err-end_refusal.ensures ∙ told_own _ a.list _ _ _ (items_length a.list _ c.well_formed.0) c.keeps_rules-kept.ensures) c.from_residual.ensures.1

pub returns : goal.returns
unfolding end_causes
returns c =
    let a = c.args in
    plain_made _ _ _ (c.in_ok-end_refusal.ensures ∙ told_own _ a.list _ _ _ (items_length a.list _ c.well_formed.0) c.keeps_rules-kept.ensures) c.nothing.ensures
    (c.commit_change.ensures board01 refl
    ∙ ap (commit_change board01 (tables a.list a.records.now a.protections.now) a.frame) (c.end-next.ensures ∙ ap freed c.record_at.ensures))
