-- `mapping::in_order` meets its contract.
use mathlib.Core.Path.{refl, sym, ap, ◌∙◌}
use Prim.Native.Nat.{ℕ, ◌+◌}
use native.Mathlib.Omega.{arith}
use Rattle.mapping.proofs.Entry.{in_range_true}
use Rattle.mapping.proofs.InOrder.{ranged_more, rising_more, least_more, stands_behind, stands_wrong, unranged, unordered, ordered}
use Rattle.mapping.proofs.in_order.Goals as goal

pub loop-m-init : goal.loop-m-init
loop-m-init c = (λ k h. absurd (omega arith), λ k h. absurd (omega arith), (λ z. refl, λ k z. absurd (omega arith)))

pub returns-then-not-in_range : goal.returns-then-not-in_range
returns-then-not-in_range c l e inside =
    unranged c.args.board c.args.records.now l e inside c.loop-m.m-index c.loop-m-test.true (sym c.in_range.ensures ∙ c.if-not-in_range.true)

pub returns-then-key-least : goal.returns-then-key-least
returns-then-key-least c l e inside =
    let i = c.loop-m.m-index in
    let ranged = ranged_more c.args.board c.args.records.now i c.loop-m.invariant.0 (sym c.in_range.ensures ∙ c.if-not-in_range.false) in
    stands_wrong c.args.board c.args.records.now i c.loop-m.least ranged c.loop-m.invariant.2 (omega (arith, c.key-key.ensures))
    (λ k z f. unordered c.args.board c.args.records.now l e inside k (omega arith) f)

pub overflow_add-least : goal.overflow_add-least
overflow_add-least c =
    let range = in_range_true _ _ (sym c.in_range.ensures ∙ c.if-not-in_range.false) in
    record { fits = omega (arith, range.space_lt, range.page_lt, c.key-key.ensures) }

pub loop-m-preserved : goal.loop-m-preserved
loop-m-preserved c =
    let rs = c.args.records.now in
    let i = c.loop-m.m-index in
    let ranged = ranged_more c.args.board rs i c.loop-m.invariant.0 (sym c.in_range.ensures ∙ c.if-not-in_range.false) in (
      ranged,
      rising_more rs i c.loop-m.invariant.1 (stands_behind c.args.board rs i c.loop-m.least ranged c.loop-m.invariant.2 (omega (arith, c.key-key.ensures))),
      least_more rs i (ap (λ (n : ℕ). n + 1) c.key-key.ensures),
    )

pub returns : goal.returns
returns c l e inside =
    ordered c.args.board c.args.records.now l e inside c.loop-m.m-index (omega arith) c.loop-m.invariant.0 c.loop-m.invariant.1
