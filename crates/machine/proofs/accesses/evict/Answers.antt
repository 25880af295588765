-- `machine::evict` meets its contract.
use mathlib.Core.Path.{refl, sym, ap, ◌∙◌}
use Prim.Native.Nat.{ℕ}
use Rattle.board.specs.Board.{board01}
use Rattle.board.proofs.Geometry.{board01_regular}
use Rattle.mapping.proofs.Laws.{items_length}
use Rattle.manager.specs.declared.FrameOps.{FrameOps}
use Rattle.manager.specs.Answers.{accepted}
use Rattle.manager.specs.Refusals.{first_refusal}
use Rattle.manager.specs.Tables.{tables, refill}
use Rattle.machine.specs.Scaffold.Plans.{access_causes}
use Rattle.machine.specs.State.{machine_of, evict}
use Rattle.machine.proofs.PlanLaws.{evict_refused}
use Rattle.machine.proofs.StepLaws.{call_refused, evict_ready, plain_made}
use Rattle.machine.proofs.accesses.evict.Goals as goal

pub returns-in_err-earlier : goal.returns-in_err-earlier
returns-in_err-earlier c =
    let a = c.args in
    let st = (machine_of a.list a.records.now a.protections.now a.memory.now a.words.now a.tags.now) in
    call_refused board01 st (evict a.line) _ _ refl
    (evict_refused board01 st (items_length a.list _ c.well_formed.0) c.keeps_rules-kept.ensures a.line c.in_err-earlier.ensures.refusal
    (c.access_refusal-own.ensures ∙ ap (λ (l : ℕ). first_refusal (access_causes board01 st.store l a.line)) c.lines.ensures) c.tables_refusal-managers.ensures)
    c.from_residual.ensures.1

pub evict-requires : goal.evict-requires
evict-requires c =
    let a = c.args in
    let st = (machine_of a.list a.records.now a.protections.now a.memory.now a.words.now a.tags.now) in
    let r = evict_ready board01 _ a.line (sym (evict_refused board01 st (items_length a.list _ c.well_formed.0) c.keeps_rules-kept.ensures a.line c.in_ok-earlier.ensures.refusal
    (c.access_refusal-own.ensures ∙ ap (λ (l : ℕ). first_refusal (access_causes board01 st.store l a.line)) c.lines.ensures) c.tables_refusal-managers.ensures)) in
    (r.0, r.1, board01_regular)

pub returns : goal.returns
unfolding refill
returns c =
    let a = c.args in
    let st = (machine_of a.list a.records.now a.protections.now a.memory.now a.words.now a.tags.now) in
    plain_made board01 st (evict a.line) (sym (evict_refused board01 st (items_length a.list _ c.well_formed.0) c.keeps_rules-kept.ensures a.line c.in_ok-earlier.ensures.refusal
    (c.access_refusal-own.ensures ∙ ap (λ (l : ℕ). first_refusal (access_causes board01 st.store l a.line)) c.lines.ensures) c.tables_refusal-managers.ensures))
    refl (ap (λ (o : FrameOps). accepted o.frame o.ops) c.nothing.ensures) refl refl
    (ap (tables a.list a.records.now) (c.refill.ensures board01 refl)) c.evict.ensures
