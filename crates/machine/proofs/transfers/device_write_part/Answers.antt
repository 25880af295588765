-- `machine::device_write_part` meets its contract.
use mathlib.Core.Path.{refl, sym}
use mathlib.Core.List.{[]}
use mathlib.Core.Option.{none}
use Rattle.board.specs.Board.{board01}
use Rattle.board.proofs.Geometry.{board01_regular}
use Rattle.cache.specs.Cache as hardware
use Rattle.machine.specs.State.{device_write_part}
use Rattle.machine.specs.Step.{accept}
use Rattle.machine.proofs.PlanLaws.{part_planned}
use Rattle.machine.proofs.StepLaws.{part_requires, plan_refused, call_refused, stepped_made}
use Rattle.machine.proofs.transfers.device_write_part.Goals as goal

pub returns-in_err-change : goal.returns-in_err-change
returns-in_err-change c =
    let a = c.args in
    let call = device_write_part a.frame a.first a.number a.buffer.now in
    call_refused board01 _ call _ _ refl
    (plan_refused board01 _ call _ _ (part_planned board01 _ a.frame a.first a.number a.buffer.now c.in_err-change.ensures.plan c.transfer_refusal-own.ensures c.plan_device_write_part-managers.ensures))
    c.from_residual.ensures.1

pub receive-requires : goal.receive-requires
receive-requires c =
    let a = c.args in
    part_requires board01 _ a.frame a.first a.number a.buffer.now board01_regular c.carry_out-operations.ensures.operations
    (sym (part_planned board01 _ a.frame a.first a.number a.buffer.now c.in_ok-change.ensures.plan c.transfer_refusal-own.ensures c.plan_device_write_part-managers.ensures))

pub returns : goal.returns
unfolding accept
returns c =
    let a = c.args in
    stepped_made board01 _ _ _ (sym (part_planned board01 _ a.frame a.first a.number a.buffer.now c.in_ok-change.ensures.plan c.transfer_refusal-own.ensures c.plan_device_write_part-managers.ensures))
    c.carry_out-operations.ensures.operations (λ f x. none) (λ f x. []) (λ f. hardware.device_write board01 f a.first a.buffer.now) refl
    refl refl (c.carry_out-operations.ensures.tables board01 refl) c.receive.ensures
