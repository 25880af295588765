-- `machine::write` meets its contract.
use mathlib.Core.Path.{refl, sym, ap, ◌∙◌}
use mathlib.Core.Option.{none}
use Rattle.board.specs.Board.{board01, colour_of}
use Rattle.board.proofs.Geometry.{board01_regular, data_page}
use Rattle.mapping.proofs.Laws.{items_length}
use Rattle.cache.specs.Cache as hardware
use Rattle.machine.specs.Refusals.{causes}
use Rattle.machine.specs.State.{write}
use Rattle.machine.specs.Step.{accept}
use Rattle.machine.proofs.PlanLaws.{write_planned}
use Rattle.machine.proofs.StepLaws.{access_requires, plan_refused, call_refused, access_made}
use Rattle.machine.proofs.accesses.write.Goals as goal

pub returns-in_err-change : goal.returns-in_err-change
returns-in_err-change c =
    let a = c.args in
    let call = write a.space a.page a.offset a.word in
    call_refused board01 _ call _ _ refl
    (plan_refused board01 _ call _ _ (write_planned board01 _ a.space a.page a.offset a.word c.in_err-change.ensures.plan c.access_refusal-own.ensures
    (c.plan_access-managers.ensures a.list (items_length a.list _ c.well_formed.0) c.look-looked.ensures)))
    c.from_residual.ensures.1

pub put-requires : goal.put-requires
unfolding causes
put-requires c =
    let a = c.args in (
      access_requires board01 _ (write a.space a.page a.offset a.word) _ _ refl a.offset board01_regular c.carry_out-operations.ensures.operations
          (sym (write_planned board01 _ a.space a.page a.offset a.word c.in_ok-change.ensures.plan c.access_refusal-own.ensures (c.plan_access-managers.ensures a.list (items_length a.list _ c.well_formed.0) c.look-looked.ensures))) refl (data_page board01 board01_regular _ c.colour_of-colour.ensures.within),
      c.colour_of-colour.ensures.within,
    )

pub returns : goal.returns
unfolding accept
returns c =
    let a = c.args in
    access_made board01 _ (write a.space a.page a.offset a.word) _ (sym (write_planned board01 _ a.space a.page a.offset a.word c.in_ok-change.ensures.plan c.access_refusal-own.ensures (c.plan_access-managers.ensures a.list (items_length a.list _ c.well_formed.0) c.look-looked.ensures)))
    c.carry_out-operations.ensures.operations
    (colour_of board01 a.page) (λ f k x. none) (λ f k. hardware.write_word board01 f k a.offset a.word) refl
    (c.colour_of-colour.ensures.value ∙ ap (colour_of board01) c.from.ensures) refl (c.carry_out-operations.ensures.tables board01 refl) c.put.ensures
