-- `machine::bring_word` meets its contract.
use mathlib.Core.Path.{refl, sym, ap, ◌∙◌}
use Prim.Native.Nat.{ℕ}
use borrow.Author.Tests.{leb-false}
use Rattle.board.specs.Board.{board01}
use Rattle.board.proofs.Geometry.{board01_regular}
use Rattle.mapping.proofs.Laws.{items_length}
use Rattle.manager.specs.declared.FrameOps.{FrameOps}
use Rattle.manager.specs.Answers.{accepted}
use Rattle.manager.specs.Tables.{tables, refill}
use Rattle.cache.specs.Cache as hardware
use Rattle.machine.specs.Refusals.{causes}
use Rattle.machine.specs.State.{machine_of, bring_word}
use Rattle.machine.proofs.PlanLaws.{bring_refused}
use Rattle.machine.proofs.StepLaws.{call_refused, cleared, store_clear, plain_made}
use Rattle.machine.proofs.transfers.bring_word.Goals as goal

pub returns-in_err-earlier : goal.returns-in_err-earlier
returns-in_err-earlier c =
    let a = c.args in
    let st = (machine_of a.list a.records.now a.protections.now a.memory.now a.words.now a.tags.now) in
    call_refused board01 st (bring_word a.frame a.offset a.word) _ _ refl
    (bring_refused board01 st (items_length a.list _ c.well_formed.0) c.keeps_rules-kept.ensures a.frame a.offset a.word c.in_err-earlier.ensures.refusal c.store_refusal-own.ensures c.word_refusal-managers.ensures)
    c.from_residual.ensures.1

pub bring_word-requires : goal.bring_word-requires
unfolding causes
bring_word-requires c =
    let a = c.args in
    let st = (machine_of a.list a.records.now a.protections.now a.memory.now a.words.now a.tags.now) in
    let call = bring_word a.frame a.offset a.word in
    let e = sym (bring_refused board01 st (items_length a.list _ c.well_formed.0) c.keeps_rules-kept.ensures a.frame a.offset a.word c.in_ok-earlier.ensures.refusal c.store_refusal-own.ensures c.word_refusal-managers.ensures) in
    rw c.from.ensures ((store_clear board01 st call e).memory_length, leb-false _ a.frame (cleared board01 st call 4 e), leb-false _ a.offset (cleared board01 st call 6 e), board01_regular)

pub returns : goal.returns
unfolding refill
returns c =
    let a = c.args in
    let st = (machine_of a.list a.records.now a.protections.now a.memory.now a.words.now a.tags.now) in
    plain_made board01 st (bring_word a.frame a.offset a.word) (sym (bring_refused board01 st (items_length a.list _ c.well_formed.0) c.keeps_rules-kept.ensures a.frame a.offset a.word c.in_ok-earlier.ensures.refusal c.store_refusal-own.ensures c.word_refusal-managers.ensures))
    refl (ap (λ (o : FrameOps). accepted o.frame o.ops) c.nothing.ensures)
    refl refl (ap (tables a.list a.records.now) (c.refill.ensures board01 refl))
    (c.bring_word.ensures _ _ ∙ ap (λ (f : ℕ). hardware.bring_word board01 f a.offset a.word st.store) c.from.ensures)
