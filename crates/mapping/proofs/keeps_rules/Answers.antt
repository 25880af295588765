-- `mapping::keeps_rules` meets its contract.
use mathlib.Core.Path.{sym, ap, ◌∙◌}
use mathlib.Core.Bool.{Bool, ◌&&◌}
use native.Mathlib.Omega.{arith}
use Rattle.mapping.specs.Rules.{rest_zero}
use Rattle.mapping.proofs.Records.{items_length}
use Rattle.mapping.proofs.Rules.{rest_zeros, keeps_over, keeps_tested}
use Rattle.mapping.proofs.keeps_rules.Goals as goal

pub returns-then-list-gt-CAPACITY : goal.returns-then-list-gt-CAPACITY
returns-then-list-gt-CAPACITY c = sym (keeps_over _ _ c.if-list-gt-CAPACITY.true)

pub returns-then-in_order : goal.returns-then-in_order
returns-then-in_order c =
    let l = c.args.list in
    let t = sym (c.in_order.ensures l c.split_at.ensures.front (omega (arith, items_length l _ c.well_formed.1.0))) ∙ c.if-in_order.true in
    c.all_zero.ensures ∙ rest_zeros l c.split_at.ensures.back ∙ sym (keeps_tested c.args.board l (omega arith) ∙ ap (λ (r : Bool). r && rest_zero l) t)

pub returns-else-in_order : goal.returns-else-in_order
returns-else-in_order c =
    let l = c.args.list in
    let t = sym (c.in_order.ensures l c.split_at.ensures.front (omega (arith, items_length l _ c.well_formed.1.0))) ∙ c.if-in_order.false in
    c.if-in_order.false ∙ sym (keeps_tested c.args.board l (omega arith) ∙ ap (λ (r : Bool). r && rest_zero l) t)
