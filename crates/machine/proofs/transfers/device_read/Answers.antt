-- `machine::device_read` meets its contract.
use mathlib.Core.Path.{refl, sym}
use mathlib.Core.Option.{none}
use native.Mathlib.Omega.{arith}
use Rattle.board.specs.Board.{board01}
use Rattle.board.proofs.Geometry.{board01_regular}
use Rattle.cache.specs.Cache as hardware
use Rattle.machine.specs.State.{device_read}
use Rattle.machine.specs.Step.{accept}
use Rattle.machine.proofs.PlanLaws.{device_read_planned}
use Rattle.machine.proofs.StepLaws.{transfer_requires, plan_refused, transfer_refused, stepped_made}
use Rattle.machine.proofs.transfers.device_read.Goals as goal

pub plan_transfer-managers-requires : goal.plan_transfer-managers-requires
plan_transfer-managers-requires c = (board01_regular, omega arith)

pub returns-in_err-change : goal.returns-in_err-change
returns-in_err-change c =
    let a = c.args in
    let call = device_read a.frame a.buffer.now in
    transfer_refused board01 _ call _ _
    (plan_refused board01 _ call _ _ (device_read_planned board01 _ a.frame a.buffer.now c.in_err-change.ensures.plan c.transfer_refusal-own.ensures c.plan_transfer-managers.ensures))
    c.from_residual.ensures.1

pub send-requires : goal.send-requires
send-requires c =
    let a = c.args in
    transfer_requires board01 _ _ a.frame _ refl a.buffer.now board01_regular c.carry_out-operations.ensures.operations
    (sym (device_read_planned board01 _ a.frame a.buffer.now c.in_ok-change.ensures.plan c.transfer_refusal-own.ensures c.plan_transfer-managers.ensures)) refl

pub returns : goal.returns
unfolding accept
returns c =
    let a = c.args in
    stepped_made board01 _ _ _ (sym (device_read_planned board01 _ a.frame a.buffer.now c.in_ok-change.ensures.plan c.transfer_refusal-own.ensures c.plan_transfer-managers.ensures))
    c.carry_out-operations.ensures.operations (λ f x. none) (hardware.device_read board01) (λ f x. x) refl
    refl c.send.ensures.filled (c.carry_out-operations.ensures.tables board01 refl) c.send.ensures.state
