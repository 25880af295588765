-- `machine::accesses::load` meets its contract.
use mathlib.Core.Path.{◌≡◌, refl, sym, ap, ◌∙◌}
use mathlib.Core.List.{List, []}
use mathlib.Core.Option.{some}
use Prim.Native.Nat.{ℕ}
use lib.Dec.{leb}
use Rattle.board.specs.declared.Board.{Board}
use Rattle.board.specs.Board.{board01, colour_of}
use Rattle.board.proofs.Geometry.{board01_regular}
use Rattle.mapping.specs.declared.MappingList.{MappingList}
use Rattle.mapping.proofs.Laws.{items_length}
use Rattle.manager.specs.declared.AccessKind.{AccessKind}
use Rattle.manager.specs.Calls.{Plan, change_of, plan_access}
use Rattle.manager.specs.Tables.{tables}
use Rattle.manager.proofs.CauseLaws.{applies_in}
use Rattle.cache.specs.Cache as hardware
use Rattle.machine.specs.declared.accesses.Cache.{Cache}
use Rattle.machine.specs.declared.accesses.Cache.TheVariants.{Data, Instructions}
use Rattle.machine.specs.Parts.{steps, effect_of}
use Rattle.machine.specs.Refusals.{causes}
use Rattle.machine.specs.Scaffold.Loads.{load_step, page_through, loads}
use Rattle.machine.specs.State.{State, machine_of, page_frame, lent_buffer}
use Rattle.machine.specs.Step.{accept}
use Rattle.machine.proofs.PlanLaws.{load_planned}
use Rattle.machine.proofs.StepLaws.{access_requires, plan_refused, loaded_refused, stepped_call, access_made}
use Rattle.machine.proofs.accesses.load.Goals as goal

-- what a read and a fetch have alike
effect : (b : Board) (st : State) (cache : Cache) (space page offset : ℕ)
    → effect_of b st (loads cache space page offset) ≡ steps (page_frame st space page) (load_step cache (colour_of b page))
effect b st Data space page offset = refl
effect b st Instructions space page offset = refl

unlent : (cache : Cache) (space page offset : ℕ) → lent_buffer (loads cache space page offset) ≡ []
unlent Data space page offset = refl
unlent Instructions space page offset = refl

tested : (b : Board) (st : State) (cache : Cache) (space page offset : ℕ) → applies_in 6 (causes b st (loads cache space page offset)) ≡ leb b.page offset
unfolding causes
tested b st Data space page offset = refl
tested b st Instructions space page offset = refl

accepted-call : (b : Board) (st : State) (cache : Cache) (space page offset : ℕ)
    → let change = change_of b st.tables (page_frame st space page) (load_step cache (colour_of b page)) in
    accept b st (loads cache space page offset)
    ≡ stepped_call b st change (λ x. some (hardware.read_word b change.frame (page_through b cache (colour_of b page)) offset x)) (λ s. [])
    (hardware.access b change.frame (page_through b cache (colour_of b page)) offset)
unfolding accept
accepted-call b st Data space page offset = refl
accepted-call b st Instructions space page offset = refl

-- the manager's plan is that of the access through the cache
managers : (l : MappingList) (rs ps : List ℕ) (space page : ℕ) {kind other : AccessKind} {plan : Plan} → kind ≡ other
    → plan ≡ plan_access board01 (tables l rs ps) space page kind → plan ≡ plan_access board01 (tables l rs ps) space page other
managers l rs ps space page e told = told ∙ ap (plan_access board01 (tables l rs ps) space page) e

pub returns-in_err-change : goal.returns-in_err-change
returns-in_err-change c =
    let a = c.args in
    let call = loads a.cache a.space a.page a.offset in
    loaded_refused board01 _ call _ _ (unlent a.cache a.space a.page a.offset)
    (plan_refused board01 _ call _ _ (load_planned board01 _ a.cache a.space a.page a.offset c.in_err-change.ensures.plan c.access_refusal-own.ensures
    (managers a.list _ _ a.space a.page c.access-kind.ensures (c.plan_access-managers.ensures a.list (items_length a.list _ c.well_formed.0) c.look-looked.ensures))))
    c.from_residual.ensures.1

pub load-word-requires : goal.load-word-requires
load-word-requires c =
    let a = c.args in
    let st = machine_of a.list a.records.now a.protections.now a.memory.now a.words.now a.tags.now in
    access_requires board01 st (loads a.cache a.space a.page a.offset) _ _ (effect board01 st a.cache a.space a.page a.offset) a.offset board01_regular c.carry_out-operations.ensures.operations
    (sym (load_planned board01 st a.cache a.space a.page a.offset c.in_ok-change.ensures.plan c.access_refusal-own.ensures
    (managers a.list _ _ a.space a.page c.access-kind.ensures (c.plan_access-managers.ensures a.list (items_length a.list _ c.well_formed.0) c.look-looked.ensures))))
    (tested board01 st a.cache a.space a.page a.offset) c.page-through.ensures.within

pub returns : goal.returns
returns c =
    let a = c.args in
    access_made board01 _ (loads a.cache a.space a.page a.offset) _
    (sym (load_planned board01 _ a.cache a.space a.page a.offset c.in_ok-change.ensures.plan c.access_refusal-own.ensures
    (managers a.list _ _ a.space a.page c.access-kind.ensures (c.plan_access-managers.ensures a.list (items_length a.list _ c.well_formed.0) c.look-looked.ensures))))
    c.carry_out-operations.ensures.operations
    (page_through board01 a.cache (colour_of board01 a.page)) (λ f k x. some (hardware.read_word board01 f k a.offset x)) (λ f k. hardware.access board01 f k a.offset)
    (accepted-call board01 _ a.cache a.space a.page a.offset)
    (c.page-through.ensures.value ∙ ap (page_through board01 a.cache) (c.colour_of.ensures.value ∙ ap (colour_of board01) c.from.ensures))
    (ap some c.load-word.ensures.word) (c.carry_out-operations.ensures.tables board01 refl) c.load-word.ensures.state
