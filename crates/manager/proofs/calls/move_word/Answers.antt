-- `manager::move_word` meets its contract.
use mathlib.Core.Path.{refl, ap, ◌∙◌}
use Rattle.board.specs.Board.{board01}
use Rattle.mapping.proofs.Laws.{items_length}
use Rattle.manager.specs.Refusals.{word_causes}
use Rattle.manager.specs.Tables.{tables, refill}
use Rattle.manager.proofs.CauseLaws.{told_own}
use Rattle.manager.proofs.PlanLaws.{plain_refused, plain_made}
use Rattle.manager.proofs.calls.move_word.Goals as goal

pub returns-in_err-word_refusal : goal.returns-in_err-word_refusal
unfolding word_causes
returns-in_err-word_refusal c =
    let a = c.args in
    plain_refused _ _ _ _ _ (c.in_err-word_refusal.ensures ∙ told_own _ a.list _ _ _ (items_length a.list _ c.well_formed.0) c.keeps_rules-kept.ensures) c.from_residual.ensures.1

pub returns : goal.returns
unfolding word_causes refill
returns c =
    let a = c.args in
    plain_made _ _ _ (c.in_ok-word_refusal.ensures ∙ told_own _ a.list _ _ _ (items_length a.list _ c.well_formed.0) c.keeps_rules-kept.ensures) c.nothing.ensures
    (ap (tables a.list a.records.now) (c.refill.ensures board01 refl))
