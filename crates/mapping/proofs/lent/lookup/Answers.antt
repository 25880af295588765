-- `mapping::lent::lookup` meets its contract.
use Rattle.std.proofs.Common.{rules, tests, ◌∙◌}
use Rattle.std.proofs.lemmas.Iterator.{YieldsList-from_slice, YieldsList-from_take}
use Rattle.std.proofs.lemmas.Iterator.Search.{position_from_yields_List}
use Rattle.mapping.specs.Entry.{is_at}
use Rattle.mapping.proofs.Lookups.{position_lookup}
use Rattle.mapping.proofs.lent.lookup.Goals as goal

pub returns : goal.returns
returns c =
    let a = c.args in
    position_from_yields_List (λ m. is_at m a.space a.page) _ _ _ c.position.ensures.ran
    (YieldsList-from_take a.count (YieldsList-from_slice a.list.now (cc)) (cc)) (λ x b q k. search (rules, tests))
    ∙ position_lookup a.list.now a.count a.space a.page
