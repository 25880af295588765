-- The three demands, over the machine's `perform` at every call, with any numbers and any content of what is lent.
use Rattle.std.specs.Prelude.{true, false, ◌↔◌, ◌⊎◌, ◌≢◌, ◌≡◌, ℕ, suc, ◌≤◌, ◌<◌, length, get_or}
use mathlib.Core.List.{List, [], Memᴰ}
use Rattle.std.proofs.Math.Option.{none}
use Rattle.board.specs.declared.Board.{Board}
use Rattle.board.specs.Board.{Regular, board01, data_lines, lines, colour_of, instruction_page, line_of, line_colour}
use Rattle.page_model.specs.Busy.{mark_after}
use Rattle.page_model.specs.Instructions.{instruction_cell_at}
use Rattle.page_model.specs.Record.{state_of, instruction_state_of, freed}
use Rattle.page_model.specs.Step.{operations, first_two}
use Rattle.page_model.specs.Table as table
use Rattle.page_model.specs.Table.{cell_at}
use Rattle.page_model.specs.Theorems.{Idle}
use Rattle.mapping.specs.declared.Mapping.{Mapping}
use Rattle.mapping.specs.Entry.{capacity, is_rights, read_write, read_fetch, mapping_at}
use Rattle.manager.specs.Answers.{Outcome, refused, accepted}
use Rattle.manager.specs.Batch.{item_at}
use Rattle.manager.specs.Calls.{no_ops}
use Rattle.manager.specs.Refusals.{Cause}
use Rattle.manager.specs.Tables.{Tables, tables, record_at, protection_at, data_part, tabulate}
use Rattle.manager.specs.Theorems.{First, WellFormedTables}
use Rattle.cache.specs.Store as hardware_store
use Rattle.cache.specs.Store.{tag_at, word_at}
use Rattle.cache.specs.Tag.{empty_tag, clean_tag, names}
use Rattle.machine.specs.Call.{map_of, call_causes, call_buffer, perform}
use Rattle.machine.specs.Refusals.{causes}
use Rattle.machine.specs.State.{State, page_frame, state, Single, evict, fetch, Call, single, map_all, Answer}
use Rattle.machine.specs.Parts.{Effect, steps, ends, nothing, effect_of, list_after, accessed, access_of}
use Rattle.machine.specs.Step.{answer, result_of, carry_out, step}
use Rattle.consistency.specs.Cacheless.{is_refused}
use Rattle.consistency.specs.Demand3.{Demand3}

-- ---- 1. The answer to each call is a result, or the one refusal that the listed conditions and their order give; a refusal orders nothing
-- and changes nothing.

-- no cause applies
abbrev pub Clear : List Cause → Type 0
Clear cs = (c : Cause) → Memᴰ c cs → c.applies ≡ false

-- so the call is accepted
abbrev pub NoCause : Board → State → Call → Type 0
NoCause b st call = Clear (call_causes b st call) × (is_refused (perform b st call).answer ≡ false)

-- n is the first cause that applies; the answer is this number, with no order and no word, and everything lent is as it was
abbrev pub FirstCause : Board → State → Call → ℕ → Type 0
FirstCause b st call n = First (call_causes b st call) n × (perform b st call ≡ result_of (answer (refused n) none (call_buffer call)) st)

abbrev pub Demand1 : Board → Type 0
Demand1 b = (st : State) (call : Call) → NoCause b st call ⊎ ((n : ℕ) × FirstCause b st call n)

-- The refusals of the items of a list are in `ItemLeft` below.

-- ---- 2. Orders, page states and protections are those of the page model; list, memory, cache words and tags after each call are what the
-- board's rules leave. An access passes without a stop exactly if its right allows it and the model would order nothing and alter nothing.

-- the orders are the tables', in order and on this frame; each of its colours is in the state of its cell, for its words and for instructions, its
-- mark is the step's, and other frames are as they were (its dirty colour is then the one that is dirty, since the tables keep their rules:
-- `DirtyColour`)
pub record ByTable (b : Board) (before after : Tables) (o : Outcome) (f : ℕ) (s : table.Step) : Type 0 where
  pub few : length (operations b.colours s (record_at before.records f)) ≤ 2
  pub ordered : o ≡ accepted f (first_two (operations b.colours s (record_at before.records f)))
  pub states : (k : ℕ) → k < b.colours → state_of (record_at after.records f) k ≡ (cell_at s k (state_of (record_at before.records f) k)).next
  pub instructions :
      (k : ℕ) → k < b.colours
      → instruction_state_of (record_at after.records f) k ≡ (instruction_cell_at s k (instruction_state_of (record_at before.records f) k)).next
  pub mark : (record_at after.records f).busy ≡ mark_after s (record_at before.records f).busy
  pub others : (g : ℕ) → g ≢ f → record_at after.records g ≡ record_at before.records g

-- no order; this frame's record has its mark taken off, and is else as it was, and so are other frames
pub record ByEnd (before after : Tables) (o : Outcome) (f : ℕ) : Type 0 where
  pub ordered : o ≡ accepted 0 no_ops
  pub unmarked : record_at after.records f ≡ freed (record_at before.records f)
  pub others : (g : ℕ) → g ≢ f → record_at after.records g ≡ record_at before.records g

-- a call that does neither orders nothing and leaves every record
abbrev pub Modelled : Board → Tables → Tables → Outcome → Effect → Type 0
Modelled b before after o (steps f s) = ByTable b before after o f s
Modelled b before after o (ends f) = ByEnd before after o f
Modelled b before after o nothing = (o ≡ accepted 0 no_ops) × (after.records ≡ before.records)

-- The instruction cache (request N8). No call but a fetch and a line's own eviction changes a line of it; an eviction only empties the line, and
-- writes nothing to memory. A fetch's orders empty at most the lines there of its frame and colour, and its access changes nothing but its own line,
-- which then is its frame's.
pub record InstructionCache (b : Board) (st : State) (call : Single) (after : State) (o : Outcome) : Type 0 where
  pub tags_left :
      ((space page offset : ℕ) → call ≢ fetch space page offset)
      → (n : ℕ) → data_lines b ≤ n → call ≢ evict n → tag_at after.store n ≡ tag_at st.store n
  pub words_left :
      ((space page offset : ℕ) → call ≢ fetch space page offset)
      → (c p : ℕ) → word_at b after.store (instruction_page b c) p ≡ word_at b st.store (instruction_page b c) p
  pub evicted : (n : ℕ) → data_lines b ≤ n → call ≡ evict n → (tag_at after.store n ≡ empty_tag) × (after.store.memory ≡ st.store.memory)
  pub purged :
      (space page offset : ℕ) → call ≡ fetch space page offset
      → (n : ℕ) → data_lines b ≤ n → n < lines b
      → let s = carry_out b o st.store in
      (tag_at s n ≡ tag_at st.store n)
      ⊎ ((line_colour b n ≡ instruction_page b (colour_of b page)) × (names (tag_at st.store n) (page_frame st space page) ≡ true) × (tag_at s n ≡ empty_tag))
  pub fetched :
      (space page offset : ℕ) → call ≡ fetch space page offset
      → let s = carry_out b o st.store in
      let line = line_of b (instruction_page b (colour_of b page)) offset in
      (after.store.memory ≡ s.memory)
      × ((n : ℕ) → n ≢ line → tag_at after.store n ≡ tag_at s n)
      × ((c p : ℕ) → line_of b c p ≢ line → word_at b after.store c p ≡ word_at b s c p)
      × (tag_at after.store line ≡ clean_tag (page_frame st space page))

-- what an accepted single call leaves, and answers
pub record Left (b : Board) (st : State) (call : Single) (after : State) (a : Answer) : Type 0 where
  pub tables_kept : WellFormedTables b after.tables
  pub store_kept : hardware_store.WellFormedStore b after.store
  pub modelled : Modelled b st.tables after.tables a.outcome (effect_of b st call)
  pub list_left : after.tables.list ≡ list_after st.tables.list call
  pub made : accessed a.word a.buffer after.store ≡ access_of b st call (carry_out b a.outcome st.store)
  pub instruction_cache : InstructionCache b st call after a.outcome
  -- the whole buffer of protections is what list and records give, whatever it held before
  pub protections : after.tables.protections ≡ tabulate capacity (protection_at b after.tables.list after.tables.records)
  pub unread :
      (ps : List ℕ) → length ps ≡ length st.tables.protections
      → step b (state (tables st.tables.list st.tables.records ps) st.store) call ≡ step b st call
  -- and of the byte that lies there for a listed mapping:
  pub read_passes :
      (i : ℕ) → i < after.tables.list.count
      → let m = mapping_at after.tables.list i in
      (1 ≤ data_part (get_or after.tables.protections i 0))
      ↔ ((is_rights m.rights ≡ true) × Idle b.colours (table.read (colour_of b m.page)) (record_at after.tables.records m.frame))
  pub write_passes :
      (i : ℕ) → i < after.tables.list.count
      → let m = mapping_at after.tables.list i in
      (2 ≤ data_part (get_or after.tables.protections i 0))
      ↔ ((m.rights ≡ read_write) × Idle b.colours (table.write (colour_of b m.page)) (record_at after.tables.records m.frame))
  pub fetch_passes :
      (i : ℕ) → i < after.tables.list.count
      → let m = mapping_at after.tables.list i in
      (4 ≤ get_or after.tables.protections i 0)
      ↔ ((m.rights ≡ read_fetch) × Idle b.colours (table.fetch (colour_of b m.page)) (record_at after.tables.records m.frame))

-- no order, no word
abbrev pub mapped : List ℕ → Answer
mapped buffer = answer (accepted 0 no_ops) none buffer

-- an item of a list, and its answer: no cause applies, it is mapped and answers 0; or the first cause's refusal, which is not 0 and changes nothing
abbrev pub ItemLeft : Board → State → Mapping → State → ℕ → Type 0
ItemLeft b st m after n =
    (Clear (causes b st (map_of m)) × (n ≡ 0) × Left b st (map_of m) after (mapped [])) ⊎ ((n ≢ 0) × First (causes b st (map_of m)) n × (after ≡ st))

-- what an accepted list of mappings leaves, and answers: its items in order, from st to the state after, with what stands between them
pub record EachMapped (b : Board) (st : State) (items : List Mapping) (after : State) (a : Answer) : Type 0 where
  pub answered : a ≡ mapped a.buffer
  pub counted : length a.buffer ≡ length items
  pub between : ℕ → State
  pub begun : between 0 ≡ st
  pub each : (k : ℕ) → k < length items → ItemLeft b (between k) (item_at items k) (between (suc k)) (get_or a.buffer k 0)
  pub ended : between (length items) ≡ after
  -- so where an item was accepted, all at the end is as an accepted one left it, rules and protections too; where none was, all is as it was
  pub last :
      (k : ℕ) → k < length items → get_or a.buffer k 0 ≡ 0
      → (j : ℕ) × (j < length items) × Left b (between j) (map_of (item_at items j)) after (mapped [])
  pub unchanged : ((k : ℕ) → k < length items → get_or a.buffer k 0 ≢ 0) → after ≡ st

abbrev pub CallLeft : Board → State → Call → State → Answer → Type 0
CallLeft b st (single call) after a = Left b st call after a
CallLeft b st (map_all items answers) after a = EachMapped b st items after a

abbrev pub Demand2 : Board → Type 0
Demand2 b =
    (st : State) (call : Call) → is_refused (perform b st call).answer ≡ false → CallLeft b st call (perform b st call).after (perform b st call).answer

-- ---- 3. Over any list of calls from the start, every accepted read and fetch finds what memory without a cache would give, and once every line of the data
-- cache has been evicted, instruction lines allowed among them, memory equals that memory word for word: `Demand3`. A look at the position, which is no call of the machine, joins demands 1 and 3
-- in the crate `position_hold`: `LookRefusals` in its specs/Refusals, and `Demand3` over lists of calls and looks in its specs/Demand3.

-- ---- all three, of every regular board, and so of document 01's

abbrev pub Demands : Board → Type 0
Demands b = Demand1 b × Demand2 b × Demand3 b

abbrev pub EveryBoard : Type 0
EveryBoard = (b : Board) → Regular b → Demands b

abbrev pub Board01 : Type 0
Board01 = Demands board01
