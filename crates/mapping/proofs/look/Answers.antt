-- `mapping::look` meets its contract.
use Rattle.std.proofs.Common.{sym, ap, ◌∙◌, Some}
use Rattle.mapping.specs.declared.Seen.{Seen}
use Rattle.mapping.proofs.Looks.{look_kept, look_broken}
use Rattle.mapping.proofs.look.Goals as goal

pub returns-then-keeps_rules : goal.returns-then-keeps_rules
returns-then-keeps_rules c =
    let kept = sym c.keeps_rules.ensures ∙ c.if-keeps_rules.true in
    ap (λ (x : Seen). Some x) (c.find.ensures.told _ kept) ∙ sym (look_kept _ _ _ _ kept)

pub returns-else-keeps_rules : goal.returns-else-keeps_rules
returns-else-keeps_rules c = sym (look_broken _ _ _ _ (sym c.keeps_rules.ensures ∙ c.if-keeps_rules.false))
