-- `machine::take_word` meets its contract.
use mathlib.Core.Path.{refl, sym, ap, ◌∙◌}
use mathlib.Core.Option.{Option, some}
use Prim.Native.Nat.{ℕ}
use borrow.Author.Tests.{leb-false}
use Rattle.board.specs.Board.{board01}
use Rattle.board.proofs.Geometry.{board01_regular}
use Rattle.mapping.proofs.Laws.{items_length}
use Rattle.manager.specs.declared.FrameOps.{FrameOps}
use Rattle.manager.specs.Answers.{accepted}
use Rattle.manager.specs.Tables.{tables, refill}
use Rattle.cache.specs.Store.{memory_word}
use Rattle.machine.specs.Refusals.{causes}
use Rattle.machine.specs.State.{machine_of, take_word}
use Rattle.machine.proofs.PlanLaws.{take_refused}
use Rattle.machine.proofs.StepLaws.{loaded_refused, cleared, store_clear, plain_made}
use Rattle.machine.proofs.transfers.take_word.Goals as goal

pub returns-in_err-earlier : goal.returns-in_err-earlier
returns-in_err-earlier c =
    let a = c.args in
    let st = (machine_of a.list a.records.now a.protections.now a.memory.now a.words.now a.tags.now) in
    loaded_refused board01 st (take_word a.frame a.offset) _ _ refl
    (take_refused board01 st (items_length a.list _ c.well_formed.0) c.keeps_rules-kept.ensures a.frame a.offset c.in_err-earlier.ensures.refusal c.store_refusal-own.ensures c.word_refusal-managers.ensures)
    c.from_residual.ensures.1

pub take_word-word-requires : goal.take_word-word-requires
unfolding causes
take_word-word-requires c =
    let a = c.args in
    let st = (machine_of a.list a.records.now a.protections.now a.memory.now a.words.now a.tags.now) in
    let call = take_word a.frame a.offset in
    let e = sym (take_refused board01 st (items_length a.list _ c.well_formed.0) c.keeps_rules-kept.ensures a.frame a.offset c.in_ok-earlier.ensures.refusal c.store_refusal-own.ensures c.word_refusal-managers.ensures) in
    rw c.from.ensures ((store_clear board01 st call e).memory_length, leb-false _ a.frame (cleared board01 st call 4 e), leb-false _ a.offset (cleared board01 st call 6 e), board01_regular)

pub returns : goal.returns
unfolding refill
returns c =
    let a = c.args in
    let st = (machine_of a.list a.records.now a.protections.now a.memory.now a.words.now a.tags.now) in
    plain_made board01 st (take_word a.frame a.offset) (sym (take_refused board01 st (items_length a.list _ c.well_formed.0) c.keeps_rules-kept.ensures a.frame a.offset c.in_ok-earlier.ensures.refusal c.store_refusal-own.ensures c.word_refusal-managers.ensures))
    refl (ap (λ (o : FrameOps). accepted o.frame o.ops) c.nothing-operations.ensures)
    (ap {B = Option ℕ} some (c.take_word-word.ensures a.words.now a.tags.now ∙ ap (λ (f : ℕ). memory_word board01 st.store f a.offset) c.from.ensures)) refl
    (ap (tables a.list a.records.now) (c.refill.ensures board01 refl)) refl
