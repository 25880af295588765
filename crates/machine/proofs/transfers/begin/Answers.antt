-- `machine::begin` meets its contract.
use mathlib.Core.Path.{◌≡◌, refl, sym, ap, subst⁻¹, ◌∙◌}
use mathlib.Core.Bool.{Bool, true, false}
use mathlib.Core.List.{[]}
use mathlib.Core.Option.{none}
use native.Mathlib.Omega.{arith}
use Prim.Native.Nat.{ℕ, ◌≤◌}
use Rattle.board.specs.declared.Board.{Board}
use Rattle.board.specs.Board.{board01}
use Rattle.board.proofs.Geometry.{board01_regular}
use Rattle.page_model.specs.declared.table.Step as code
use Rattle.page_model.specs.Cases.{step_of}
use Rattle.page_model.specs.Table.{reach}
use Rattle.mapping.specs.declared.MappingList.{MappingList}
use Rattle.manager.specs.Calls.{change_of, plan_transfer}
use Rattle.manager.specs.Tables.{tables}
use Rattle.machine.specs.Parts.{steps, effect_in}
use Rattle.machine.specs.Scaffold.Plans.{begins, begin_step}
use Rattle.machine.specs.State.{State, lent_buffer}
use Rattle.machine.specs.Step.{accept}
use Rattle.machine.proofs.PlanLaws.{begin_planned}
use Rattle.machine.proofs.StepLaws.{step_requires, plan_refused, call_refused, stepped_call, stepped_made}
use Rattle.machine.proofs.transfers.begin.Goals as goal
use Rattle.machine.proofs.transfers.begin.Goals.{then-writes, else-writes}

-- the call that begins a write or a read: its step, what it is where it is accepted, and that it is lent no buffer
steps_of : (b : Board) (l : MappingList) (frame : ℕ) (writes : Bool) → effect_in b l (begins writes frame) ≡ steps frame (begin_step writes)
steps_of b l frame true = refl
steps_of b l frame false = refl

begun : (b : Board) (st : State) (frame : ℕ) (writes : Bool) → accept b st (begins writes frame) ≡ stepped_call b st (change_of b st.tables frame (begin_step writes)) (λ s. none) (λ s. []) (λ s. s)
unfolding accept
begun b st frame true = refl
begun b st frame false = refl

unlent : (frame : ℕ) (writes : Bool) → lent_buffer (begins writes frame) ≡ []
unlent frame true = refl
unlent frame false = refl

pub plan_transfer-managers-requires : goal.plan_transfer-managers-requires
plan_transfer-managers-requires c =
    (board01_regular, elim c.if-writes.branch [ then-writes w ↦ subst⁻¹ (λ (s : code.Step). reach (step_of s) ≤ 8) w.step-is (omega arith) | else-writes w ↦ subst⁻¹ (λ (s : code.Step). reach (step_of s) ≤ 8) w.step-is (omega arith) ])

pub returns-in_err-change : goal.returns-in_err-change
returns-in_err-change c =
    let a = c.args in
    let call = begins a.writes a.frame in
    let step : step_of c.if-writes.step ≡ begin_step a.writes = elim c.if-writes.branch [
      | then-writes w ↦ ap step_of w.step-is ∙ ap begin_step (sym w.if-writes.true)
      | else-writes w ↦ ap step_of w.step-is ∙ ap begin_step (sym w.if-writes.false)
    ] in
    call_refused board01 _ call _ _ (unlent a.frame a.writes)
    (plan_refused board01 _ call _ _ (begin_planned board01 _ a.frame a.writes c.in_err-change.ensures.plan c.store_refusal-own.ensures
    (c.plan_transfer-managers.ensures ∙ ap (plan_transfer board01 (tables a.list a.records.now a.protections.now) a.frame) step)))
    c.from_residual.ensures.1

pub carry_out-requires : goal.carry_out-requires
carry_out-requires c =
    let a = c.args in
    let step : step_of c.if-writes.step ≡ begin_step a.writes = elim c.if-writes.branch [
      | then-writes w ↦ ap step_of w.step-is ∙ ap begin_step (sym w.if-writes.true)
      | else-writes w ↦ ap step_of w.step-is ∙ ap begin_step (sym w.if-writes.false)
    ] in
    step_requires board01 _ _ a.frame _ (steps_of board01 _ a.frame a.writes) board01_regular c.carry_out-operations.ensures.operations
    (sym (begin_planned board01 _ a.frame a.writes c.in_ok-change.ensures.plan c.store_refusal-own.ensures
    (c.plan_transfer-managers.ensures ∙ ap (plan_transfer board01 (tables a.list a.records.now a.protections.now) a.frame) step)))

pub returns : goal.returns
returns c =
    let a = c.args in
    let step : step_of c.if-writes.step ≡ begin_step a.writes = elim c.if-writes.branch [
      | then-writes w ↦ ap step_of w.step-is ∙ ap begin_step (sym w.if-writes.true)
      | else-writes w ↦ ap step_of w.step-is ∙ ap begin_step (sym w.if-writes.false)
    ] in
    stepped_made board01 _ _ _ (sym (begin_planned board01 _ a.frame a.writes c.in_ok-change.ensures.plan c.store_refusal-own.ensures
    (c.plan_transfer-managers.ensures ∙ ap (plan_transfer board01 (tables a.list a.records.now a.protections.now) a.frame) step)))
    c.carry_out-operations.ensures.operations (λ f x. none) (λ f x. []) (λ f x. x) (begun board01 _ a.frame a.writes)
    refl refl (c.carry_out-operations.ensures.tables board01 refl) c.carry_out.ensures
