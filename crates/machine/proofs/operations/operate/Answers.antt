-- `machine::operate` meets its contract.
use mathlib.Core.Path.{ap, subst, ◌∙◌}
use Prim.Native.Nat.{ℕ}
use Rattle.board.proofs.Geometry.{data_page}
use Rattle.page_model.specs.Step.{OpBelow}
use Rattle.cache.specs.Cache.{purge}
use Rattle.cache.specs.Store.{store}
use Rattle.machine.specs.Step.{operate_by}
use Rattle.machine.proofs.operations.operate.Goals as goal

pub flush-requires : goal.flush-requires
flush-requires c =
    (c.requires.0, c.requires.1, data_page _ c.requires.3 _ (subst (OpBelow c.args.board.colours) c.in-Flush.is c.requires.2), c.requires.3)

pub purge-requires : goal.purge-requires
purge-requires c =
    (c.requires.0.tags_length, c.requires.1, data_page _ c.requires.3 _ (subst (OpBelow c.args.board.colours) c.in-Purge.is c.requires.2), c.requires.3)

pub instruction_page-page-requires : goal.instruction_page-page-requires
instruction_page-page-requires c =
    (c.requires.3, subst (OpBelow c.args.board.colours) c.in-PurgeInstructions.is c.requires.2)

pub purge-requires-in-PurgeInstructions : goal.purge-requires-in-PurgeInstructions
purge-requires-in-PurgeInstructions c =
    (c.requires.0.tags_length, c.requires.1, c.instruction_page-page.ensures.within, c.requires.3)

pub returns-in-None : goal.returns-in-None
unfolding operate_by
returns-in-None c = rw c.in-None.is

pub returns-in-Flush : goal.returns-in-Flush
unfolding operate_by
returns-in-Flush c =
    rw c.in-Flush.is c.flush.ensures

pub returns-in-Purge : goal.returns-in-Purge
unfolding operate_by
returns-in-Purge c =
    rw c.in-Purge.is (c.purge.ensures _ _)

pub returns-in-PurgeInstructions : goal.returns-in-PurgeInstructions
unfolding operate_by
returns-in-PurgeInstructions c =
    rw c.in-PurgeInstructions.is
    (c.purge-in-PurgeInstructions.ensures _ _ ∙ ap (λ (k : ℕ). purge c.args.board c.args.frame k (store c.args.memory.now c.args.words.now c.args.tags.now)) c.instruction_page-page.ensures.value)
