-- `machine::plans::access_refusal` meets its contract.
use borrow.Author.Rules.{rules}
use mathlib.Core.Path.{refl}
use mathlib.Core.Bool.{true}
use mathlib.Core.List.{[], ◌∷◌}
use Rattle.manager.specs.Refusals.{first_refusal, offset_cause}
use Rattle.manager.proofs.CauseLaws.{refused_first, refused_then}
use Rattle.cache.specs.Store.{store}
use Rattle.machine.specs.Scaffold.Plans.{store_causes, access_causes}
use Rattle.machine.proofs.plans.access_refusal.Goals as goal

pub returns-in_err-store_refusal : goal.returns-in_err-store_refusal
unfolding access_causes
returns-in_err-store_refusal c =
    let a = c.args in
    refused_first (store_causes a.board (store a.memory.now a.words.now a.tags.now) true) (offset_cause a.limit a.offset ∷ []) _ _ c.in_err-store_refusal.ensures c.from_residual.ensures.1

pub returns-then-offset-limit : goal.returns-then-offset-limit
unfolding first_refusal access_causes
returns-then-offset-limit c =
    let a = c.args in
    refused_then (store_causes a.board (store a.memory.now a.words.now a.tags.now) true) (offset_cause a.limit a.offset ∷ []) refl c.in_ok-store_refusal.ensures (search rules)

pub returns : goal.returns
unfolding first_refusal access_causes
returns c =
    let a = c.args in
    refused_then (store_causes a.board (store a.memory.now a.words.now a.tags.now) true) (offset_cause a.limit a.offset ∷ []) refl c.in_ok-store_refusal.ensures (search rules)
