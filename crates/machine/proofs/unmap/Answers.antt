-- `machine::unmap` meets its contract.
use mathlib.Core.Path.{refl, sym}
use Rattle.board.specs.Board.{board01}
use Rattle.manager.specs.Calls.{commit_unmap}
use Rattle.manager.specs.Tables.{tables}
use Rattle.machine.specs.State.{machine_of, unmap}
use Rattle.machine.proofs.PlanLaws.{unmap_planned}
use Rattle.machine.proofs.StepLaws.{plan_refused, listed_refused, placed_made}
use Rattle.machine.proofs.unmap.Goals as goal

pub returns-in_err-place : goal.returns-in_err-place
returns-in_err-place c =
    let a = c.args in
    let call = unmap a.space a.page in
    let st = (machine_of a.list a.records.now a.protections.now a.memory.now a.words.now a.tags.now) in
    listed_refused board01 st call _ _ refl
    (plan_refused board01 st call _ _ (unmap_planned board01 st a.space a.page c.in_err-place.ensures.plan c.store_refusal-own.ensures c.plan_unmap-managers.ensures)) c.from_residual.ensures.1

pub returns : goal.returns
returns c =
    let a = c.args in
    let call = unmap a.space a.page in
    let st = (machine_of a.list a.records.now a.protections.now a.memory.now a.words.now a.tags.now) in
    placed_made board01 st call _ (sym (unmap_planned board01 st a.space a.page c.in_ok-place.ensures.plan c.store_refusal-own.ensures c.plan_unmap-managers.ensures))
    (commit_unmap board01 (tables a.list a.records.now a.protections.now)) refl refl refl (c.commit_unmap.ensures board01 refl)
