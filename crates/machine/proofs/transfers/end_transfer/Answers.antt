-- `machine::end_transfer` meets its contract.
use mathlib.Core.Path.{refl, sym, ap, ◌∙◌}
use Rattle.board.specs.Board.{board01}
use Rattle.page_model.specs.Record.{freed}
use Rattle.mapping.proofs.Laws.{items_length}
use Rattle.manager.specs.declared.FrameOps.{FrameOps}
use Rattle.manager.specs.Answers.{accepted}
use Rattle.manager.specs.Calls.{commit_change}
use Rattle.manager.specs.Tables.{tables, refill}
use Rattle.machine.specs.State.{machine_of, end_transfer}
use Rattle.machine.proofs.PlanLaws.{end_refused}
use Rattle.machine.proofs.StepLaws.{call_refused, plain_made}
use Rattle.machine.proofs.transfers.end_transfer.Goals as goal

pub returns-in_err-earlier : goal.returns-in_err-earlier
returns-in_err-earlier c =
    let a = c.args in
    let st = (machine_of a.list a.records.now a.protections.now a.memory.now a.words.now a.tags.now) in
    call_refused board01 st (end_transfer a.frame) _ _ refl
    (end_refused board01 st (items_length a.list _ c.well_formed.0) c.keeps_rules-kept.ensures a.frame c.in_err-earlier.ensures.refusal c.store_refusal-own.ensures c.end_refusal-managers.ensures)
    c.from_residual.ensures.1

pub returns : goal.returns
unfolding refill
returns c =
    let a = c.args in
    let st = (machine_of a.list a.records.now a.protections.now a.memory.now a.words.now a.tags.now) in
    plain_made board01 st (end_transfer a.frame) (sym (end_refused board01 st (items_length a.list _ c.well_formed.0) c.keeps_rules-kept.ensures a.frame c.in_ok-earlier.ensures.refusal c.store_refusal-own.ensures c.end_refusal-managers.ensures))
    refl (ap (λ (o : FrameOps). accepted o.frame o.ops) c.nothing.ensures)
    refl refl
    (c.commit_change.ensures board01 refl
    ∙ ap (commit_change board01 (tables a.list a.records.now a.protections.now) a.frame) (c.end-next.ensures ∙ ap freed c.record_at.ensures)) refl
