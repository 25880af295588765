-- Request N10: each single order of an accepted step is needed.
use Rattle.std.specs.Prelude.{◌≡◌, true, false, List, [], ℕ, ◌≤◌, ◌<◌, length, get_or}
use Rattle.board.specs.declared.Board.{Board}
use Rattle.board.specs.Board.{Regular, board01, memory_words, cache_words}
use Rattle.page_model.specs.declared.FrameRecord.{FrameRecord}
use Rattle.page_model.specs.declared.Op.{Op}
use Rattle.page_model.specs.declared.Op.TheVariants.{None, Flush, Purge, PurgeInstructions}
use Rattle.page_model.specs.Busy.{bars}
use Rattle.page_model.specs.Instructions.{InstructionState, instruction_cell_at}
use Rattle.page_model.specs.Record.{state_of, instruction_state_of, keeps_rules}
use Rattle.page_model.specs.Step.{operations}
use Rattle.page_model.specs.Table.{ColourState, flush, purge, cell_at}
use Rattle.mapping.specs.declared.Mapping.{Mapping}
use Rattle.mapping.specs.Entry.{capacity}
use Rattle.manager.specs.Answers.{first_operation, second_operation}
use Rattle.manager.specs.Tables.{record_at}
use Rattle.machine.specs.Call.{perform}
use Rattle.machine.specs.Parts.{steps, effect_of}
use Rattle.machine.specs.State.{State, Single, Call, map_all}
use Rattle.machine.specs.Step.{step, operate, accept_after}
use Rattle.consistency.specs.Cacheless.{Cacheless, start_cacheless, is_refused}
use Rattle.consistency.specs.Demand3.{start_state, state_after, cacheless_after, AllFind, Holds, Demand3}
use Rattle.necessity.specs.Action.{Action, step_of, InRange, call_of}
use Rattle.necessity.specs.Without.{orders_in, without_order, Sends, FindsWrong, WrongWithout}

-- From st, with the cacheless memory m beside it, some calls reach a state in which frame f's record is r; there the call of the step is accepted, and is
-- that step of f; and without its order at place j it, or one of some later calls, finds a wrong word. What the calls send are words of 32 bits.
pub record Needed (b : Board) (st : State) (m : Cacheless) (f : ℕ) (r : FrameRecord) (a : Action) (j : ℕ) : Type 0 where
  pub before : List Call
  pub space : ℕ
  pub page : ℕ
  pub later : List Call
  pub words : Sends before × Sends later
  pub reached : record_at (state_after (perform b) st before).tables.records f ≡ r
  pub makes : effect_of b (state_after (perform b) st before) (call_of f space page a) ≡ steps f (step_of b a)
  pub accepted : is_refused (step b (state_after (perform b) st before) (call_of f space page a)).answer ≡ false
  pub wrong : WrongWithout b j (state_after (perform b) st before) (cacheless_after (perform b) st m before) (call_of f space page a) later

-- from the start, whatever words memory, caches and protections hold
abbrev pub FromStart : Board → (State → Cacheless → Type 0) → Type 0
FromStart b P =
    (memory words protections : List ℕ) → length memory ≡ memory_words b → length words ≡ cache_words b → length protections ≡ capacity
    → P (start_state b memory words protections) (start_cacheless b memory)

-- of every frame, every record that keeps the rules, every step in its ranges that the record's mark does not bar, and each of its orders
abbrev pub Necessary : Board → Type 0
Necessary b =
    FromStart b (λ st m.
    (f : ℕ) (r : FrameRecord) (a : Action) (j : ℕ) → f < b.frames → keeps_rules b.colours r ≡ true → InRange b a → bars r.busy (step_of b a) ≡ false
    → j < length (operations b.colours (step_of b a) r) → Needed b st m f r a j)

-- on every regular board whose pages have two words or more
abbrev pub NoOrderWithoutNeed : Type 0
NoOrderWithoutNeed = (b : Board) → Regular b → 2 ≤ b.page → Necessary b

-- and so on document 01's
abbrev pub Board01 : Type 0
Board01 = Necessary board01

-- ---- the same of calls: the claim misses no order of any accepted call, in whatever state

-- the call is a step of a frame with all its numbers, and its order at place j is needed on the record that the frame has
pub record OrderNeeded (b : Board) (start : State) (m : Cacheless) (st : State) (call : Single) (j : ℕ) : Type 0 where
  pub frame : ℕ
  pub action : Action
  pub space : ℕ
  pub page : ℕ
  pub is_call : call ≡ call_of frame space page action
  pub is_step : effect_of b st call ≡ steps frame (step_of b action)
  pub needed : Needed b start m frame (record_at st.tables.records frame) action j

abbrev pub EveryOrder : Board → Type 0
EveryOrder b = FromStart b (λ start m. (st : State) (call : Single) (j : ℕ) → j < length (orders_in (step b st call).answer) → OrderNeeded b start m st call j)

-- a list of mappings orders nothing
abbrev pub MapsOrderNothing : Type 0
MapsOrderNothing = (b : Board) (st : State) (items : List Mapping) (answers : List ℕ) → orders_in (perform b st (map_all items answers)).answer ≡ []

-- ---- it says something

-- leaving out an order that there is not leaves the call as it is
abbrev pub WithoutNone : Type 0
WithoutNone = (b : Board) (st : State) (call : Single) (j : ℕ) → length (orders_in (step b st call).answer) ≤ j → without_order b j st call ≡ step b st call

-- and with all orders carried out no list of calls finds a wrong word (demand 3)
abbrev pub NothingWrong : Type 0
NothingWrong = (b : Board) → Regular b → FromStart b (λ st m. (calls : List Call) → FindsWrong b st m calls → ⊥)

-- what is left out is this order and nothing else: the access is made in the store that the other order leaves
abbrev pub LeavesOutOne : Type 0
LeavesOutOne =
    (b : Board) (st : State) (call : Single) → is_refused (step b st call).answer ≡ false
    → (without_order b 0 st call ≡ accept_after b st call (operate b (second_operation (step b st call).answer.outcome) st.store))
    × (without_order b 1 st call ≡ accept_after b st call (operate b (first_operation (step b st call).answer.outcome) st.store))

-- what finds a wrong word is against demand 3, in whatever state it begins
abbrev pub WrongIsWrong : Type 0
WrongIsWrong = (b : Board) (st : State) (m : Cacheless) (calls : List Call) → FindsWrong b st m calls → AllFind b (perform b) st m calls → ⊥

-- the start is demand 3's
abbrev pub SameStart : Type 0
SameStart = (b : Board) → FromStart b (λ st m. (calls : List Call) → Holds b (perform b) st m calls) → Demand3 b

-- and only where there is an order can it be needed
abbrev pub OnlyOrders : Type 0
OnlyOrders =
    (b : Board) → Regular b
    → FromStart b (λ st m.
    (f : ℕ) (r : FrameRecord) (a : Action) (j : ℕ) → keeps_rules b.colours r ≡ true → Needed b st m f r a j → j < length (operations b.colours (step_of b a) r))

-- and two words in a page are no more than it takes: with one a write through a stale colour overwrites all that is old, and its purge is not needed
abbrev pub one_word : Board
one_word = record { page = 1; line = 1; colours = 1; frames = 1 }

abbrev pub NotOnOneWord : Type 0
NotOnOneWord = Necessary one_word → ⊥

-- ---- the same of the tables: they are exactly right

-- some record that keeps the rules and of which P holds has an operation among the step's orders, at some place, and there it is needed
pub record CellNeeded (b : Board) (st : State) (m : Cacheless) (f : ℕ) (a : Action) (op : Op) (P : FrameRecord → Type 0) : Type 0 where
  pub on : FrameRecord
  pub rules : keeps_rules b.colours on ≡ true
  pub in_state : P on
  pub place : ℕ
  pub ordered : get_or (operations b.colours (step_of b a) on) place None ≡ op
  pub needed : Needed b st m f on a place

-- for each cell with an order, for data and for instructions, some record has the cell's colour in the cell's state, and the step's order there is needed
abbrev pub EachCell : Board → Type 0
EachCell b =
    FromStart b (λ st m.
    (f : ℕ) (a : Action) (k : ℕ) → f < b.frames → InRange b a → k < b.colours
    → ((z : ColourState) → (cell_at (step_of b a) k z).operation ≡ flush → CellNeeded b st m f a (Flush k) (λ r. state_of r k ≡ z))
    × ((z : ColourState) → (cell_at (step_of b a) k z).operation ≡ purge → CellNeeded b st m f a (Purge k) (λ r. state_of r k ≡ z))
    × ((i : InstructionState) → (instruction_cell_at (step_of b a) k i).operation ≡ purge → CellNeeded b st m f a (PurgeInstructions k) (λ r. instruction_state_of r k ≡ i)))

-- With every order that the tables give no read finds a wrong word; each of them is needed, on every record, of every call, and in each cell that has one.
pub record Exact (b : Board) : Type 0 where
  pub enough : Demand3 b
  pub needed : Necessary b
  pub every_order : EveryOrder b
  pub each_cell : EachCell b

abbrev pub TablesExact : Type 0
TablesExact = (b : Board) → Regular b → 2 ≤ b.page → Exact b
