-- `cache::tag::tags_keep_rules` meets its contract.
use mathlib.Core.Path.{◌∙◌}
use borrow.Author.Rules.{rules}
use Rattle.std.proofs.lemmas.Iterator.{YieldsList-from_slice}
use Rattle.std.proofs.lemmas.Iterator.Consumers.{YieldsList-from_enumerate}
use Rattle.std.proofs.lemmas.Iterator.Search.{all_from_yields_List}
use Rattle.cache.specs.Tag.{line_keeps_rules}
use Rattle.cache.proofs.Laws.Tag.{rules_in_turn}
use Rattle.cache.proofs.tag.tags_keep_rules.Goals as goal

pub returns : goal.returns
returns c =
    all_from_yields_List (λ p. line_keeps_rules c.args.board p.0 p.1) _ _ _ c.all.ensures.ran
    (YieldsList-from_enumerate (YieldsList-from_slice c.args.tags.now cc) cc) (λ x b q k. search rules)
    ∙ rules_in_turn _ c.requires _
