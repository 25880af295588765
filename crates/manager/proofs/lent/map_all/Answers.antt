-- `manager::lent::map_all` meets its contract.
use mathlib.Core.Path.{ap, ◌∙◌}
use Rattle.board.specs.Board.{board01}
use Rattle.mapping.specs.declared.Batch.{Batch}
use Rattle.mapping.specs.Batch.{items_of}
use Rattle.manager.specs.Batch.{map_all_call}
use Rattle.manager.specs.Tables.{tables}
use Rattle.manager.proofs.LentItems.{lent_items}
use Rattle.manager.proofs.lent.map_all.Goals as goal

pub returns : goal.returns
returns c =
    let a = c.args in
    c.map_all.ensures
    ∙ ap (λ (b : Batch). map_all_call board01 (tables a.list a.records.now a.protections.now) (items_of b) a.answers.now) c.batch-batch.ensures
    ∙ lent_items board01 _ _ _
