-- `machine::carry_out` meets its contract.
use mathlib.Core.Path.{ap, subst⁻¹, ◌∙◌}
use Prim.Native.Nat.{ℕ}
use Rattle.manager.specs.Answers.{operation_on}
use Rattle.cache.specs.Store.{WellFormedStore, store}
use Rattle.cache.specs.Cache.{leaving}
use Rattle.machine.specs.Step.{operate, carry_out_by}
use Rattle.machine.proofs.StoreLaws.{operate_kept}
use Rattle.machine.proofs.operations.carry_out.Goals as goal

pub operate-requires : goal.operate-requires
operate-requires c = rw c.from-frame.ensures (c.requires.0, c.requires.1, c.requires.2, c.requires.4)

pub operate-requires-2 : goal.operate-requires-2
operate-requires-2 c =
    let a = c.args in
    let first = c.operate.ensures ∙ ap (λ (f : ℕ). operate a.board (operation_on f a.operations.ops.first) (store a.memory.now a.words.now a.tags.now)) c.from-frame.ensures in
    let kept = operate_kept _ c.requires.4 leaving _ c.requires.1 a.operations.ops.first c.requires.2 _ c.requires.0 in
    rw c.from-frame.ensures (subst⁻¹ (WellFormedStore a.board) first kept, c.requires.1, c.requires.3, c.requires.4)

pub returns : goal.returns
unfolding carry_out_by
returns c =
    let a = c.args in
    c.operate-2.ensures
    ∙ ap (operate a.board (operation_on c.from-frame.result a.operations.ops.second)) c.operate.ensures
    ∙ ap (λ (f : ℕ). operate a.board (operation_on f a.operations.ops.second) (operate a.board (operation_on f a.operations.ops.first) (store a.memory.now a.words.now a.tags.now))) c.from-frame.ensures
