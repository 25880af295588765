-- What is proved of the page model, for any number n of colours and every record that keeps the rules.
use Rattle.std.specs.Prelude.{Bool, true, false, ◌↔◌, ◌≡◌, ℕ, ◌≤◌, ◌<◌, length}
use mathlib.Core.List.{List, [], ◌++◌, map, Memᴰ}
use Rattle.page_model.specs.declared.FrameRecord.{FrameRecord}
use Rattle.page_model.specs.declared.Op.{Op}
use Rattle.page_model.specs.declared.Op.TheVariants.{Flush, Purge, PurgeInstructions}
use Rattle.page_model.specs.Busy.{free, reading, writing, bars}
use Rattle.page_model.specs.Record.{state_of, instruction_state_of, keeps_rules, encode, is_held, is_dirty, is_fetched, start_record, freed}
use Rattle.page_model.specs.Step.{cell_of, instruction_cell_of, record_after, operations, op_list, OpBelow, stepped}
use Rattle.page_model.specs.Table.{ColourState, empty, present, dirty, stale, Step, read, write, fetch}
use Rattle.page_model.specs.Instructions.{InstructionState, unfetched}

-- ---- records and states

-- the start record keeps the rules, every colour is empty in it, for data and for instructions, and the frame is free
abbrev pub StartRecord : Type 0
StartRecord =
    (n : ℕ)
    → (keeps_rules n (start_record n) ≡ true)
    × ((k : ℕ) → state_of (start_record n) k ≡ empty)
    × ((k : ℕ) → instruction_state_of (start_record n) k ≡ unfetched)
    × ((start_record n).busy ≡ free)

-- encoding what a record says gives the record
abbrev pub EncodeDecode : Type 0
EncodeDecode = (n : ℕ) (r : FrameRecord) → keeps_rules n r ≡ true → encode n r.busy (state_of r) (instruction_state_of r) ≡ r

-- states of which a dirty one is the only one held
abbrev pub OneDirty : ℕ → (ℕ → ColourState) → Type 0
OneDirty n states = (j k : ℕ) → j < n → k < n → states j ≡ dirty → is_held (states k) ≡ true → j ≡ k

-- A mark that goes with states: free, or a device reads and none is dirty, or it writes and none is present or dirty, nor held for instructions; and
-- by request N8 none is dirty beside one that is held for instructions.
pub record MarkFits (n mark : ℕ) (states : ℕ → ColourState) (instructions : ℕ → InstructionState) : Type 0 where
  pub is_mark : mark ≤ writing
  pub none_dirty : mark ≡ reading → (k : ℕ) → k < n → is_dirty (states k) ≡ false
  pub none_held : mark ≡ writing → (k : ℕ) → k < n → is_held (states k) ≡ false
  pub none_fetched : mark ≡ writing → (k : ℕ) → k < n → is_fetched (instructions k) ≡ false
  pub beside_fetched : (j k : ℕ) → j < n → k < n → is_fetched (instructions j) ≡ true → is_dirty (states k) ≡ false

-- decoding what a mark and states encode to gives the states, and the record keeps the rules if the mark goes with the states
abbrev pub DecodeEncode : Type 0
DecodeEncode =
    (n mark : ℕ) (states : ℕ → ColourState) (instructions : ℕ → InstructionState) → OneDirty n states
    → (MarkFits n mark states instructions → keeps_rules n (encode n mark states instructions) ≡ true)
    × ((k : ℕ) → k < n → state_of (encode n mark states instructions) k ≡ states k)
    × ((k : ℕ) → k < n → instruction_state_of (encode n mark states instructions) k ≡ instructions k)

-- and of a record that keeps the rules the mark goes with the states
abbrev pub KeptMark : Type 0
KeptMark = (n : ℕ) (r : FrameRecord) → keeps_rules n r ≡ true → MarkFits n r.busy (state_of r) (instruction_state_of r)

-- a record whose transfer has ended keeps the rules, each colour's state is as it was, and the frame is free
abbrev pub FreedRecord : Type 0
FreedRecord =
    (n : ℕ) (r : FrameRecord) → keeps_rules n r ≡ true
    → (keeps_rules n (freed r) ≡ true)
    × ((k : ℕ) → state_of (freed r) k ≡ state_of r k)
    × ((k : ℕ) → instruction_state_of (freed r) k ≡ instruction_state_of r k)
    × ((freed r).busy ≡ free)

-- the dirty colour that a record keeps by the rules is the one that is dirty, or n if none is
abbrev pub DirtyColour : Type 0
DirtyColour = (n : ℕ) (r : FrameRecord) → keeps_rules n r ≡ true → (r.dirty_colour ≤ n) × ((k : ℕ) → k < n → (state_of r k ≡ dirty) ↔ (r.dirty_colour ≡ k))

-- the other fields alone say each state, the operations of a step and the record after it: another dirty colour changes none
abbrev pub with_dirty_colour : FrameRecord → ℕ → FrameRecord
with_dirty_colour r c = record { masks = r.masks; dirty = r.dirty; busy = r.busy; dirty_colour = c; instructions = r.instructions }

abbrev pub DirtyColourAside : Type 0
DirtyColourAside =
    (n c : ℕ) (s : Step) (r : FrameRecord)
    → ((with_dirty_colour r c).dirty_colour ≡ c)
    × ((k : ℕ) → state_of (with_dirty_colour r c) k ≡ state_of r k)
    × ((k : ℕ) → instruction_state_of (with_dirty_colour r c) k ≡ instruction_state_of r k)
    × (operations n s (with_dirty_colour r c) ≡ operations n s r)
    × (record_after n s (with_dirty_colour r c) ≡ record_after n s r)

-- ---- a step

-- a step of a record that keeps the rules keeps them, if the record's mark does not bar it
abbrev pub StepKeepsRules : Type 0
StepKeepsRules =
    (n : ℕ) (s : Step) (r : FrameRecord) → keeps_rules n r ≡ true → bars r.busy s ≡ false → keeps_rules n (record_after n s r) ≡ true

-- the state of a colour after a step is its cell's, for data and for instructions
abbrev pub StateAfter : Type 0
StateAfter = (n : ℕ) (s : Step) (r : FrameRecord) → keeps_rules n r ≡ true → (k : ℕ) → k < n → state_of (record_after n s r) k ≡ (cell_of s r k).next

abbrev pub InstructionStateAfter : Type 0
InstructionStateAfter =
    (n : ℕ) (s : Step) (r : FrameRecord) → keeps_rules n r ≡ true → (k : ℕ) → k < n → instruction_state_of (record_after n s r) k ≡ (instruction_cell_of s r k).next

-- a step has no more than two operations; no purge stands before a flush, and none in the instruction cache before one in the data cache
abbrev pub FewOperations : Type 0
FewOperations =
    (n : ℕ) (s : Step) (r : FrameRecord) → keeps_rules n r ≡ true
    → (length (operations n s r) ≤ 2)
    × (flushes : List ℕ) × (purges : List ℕ) × (instructions : List ℕ)
    × (operations n s r ≡ (map Flush flushes ++ map Purge purges) ++ map PurgeInstructions instructions)

-- the two operations that a step answers with are all that it has, in order
abbrev pub OpsComplete : Type 0
OpsComplete =
    (n : ℕ) (s : Step) (r : FrameRecord) → keeps_rules n r ≡ true
    → op_list (stepped n s r).ops.first ++ op_list (stepped n s r).ops.second ≡ operations n s r

-- every operation of a step is on a colour below n, and so are the two that it answers with
abbrev pub OperationsBelow : Type 0
OperationsBelow =
    (n : ℕ) (s : Step) (r : FrameRecord)
    → ((o : Op) → Memᴰ o (operations n s r) → OpBelow n o) × OpBelow n (stepped n s r).ops.first × OpBelow n (stepped n s r).ops.second

-- ---- an access that passes

-- the states of its colour that an access leaves as they are, with no operation: a read present and dirty, a write dirty
abbrev pub passes_read : ColourState → Bool
passes_read empty = false
passes_read present = true
passes_read dirty = true
passes_read stale = false

abbrev pub passes_write : ColourState → Bool
passes_write empty = false
passes_write present = false
passes_write dirty = true
passes_write stale = false

-- a step has no operation and alters nothing
abbrev pub Idle : ℕ → Step → FrameRecord → Type 0
Idle n s r = (operations n s r ≡ []) × (record_after n s r ≡ r)

-- an access is idle exactly if its colour's state lets it pass
abbrev pub ReadPasses : Type 0
ReadPasses = (n c : ℕ) (r : FrameRecord) → c < n → keeps_rules n r ≡ true → (passes_read (state_of r c) ≡ true) ↔ Idle n (read c) r

abbrev pub WritePasses : Type 0
WritePasses = (n c : ℕ) (r : FrameRecord) → c < n → keeps_rules n r ≡ true → (passes_write (state_of r c) ≡ true) ↔ Idle n (write c) r

-- a fetch is idle exactly if its colour is held for instructions
abbrev pub FetchPasses : Type 0
FetchPasses = (n c : ℕ) (r : FrameRecord) → c < n → keeps_rules n r ≡ true → (is_fetched (instruction_state_of r c) ≡ true) ↔ Idle n (fetch c) r

-- and no mark bars an access that is idle
abbrev pub IdleNotBarred : Type 0
IdleNotBarred =
    (n c : ℕ) (r : FrameRecord) → c < n → keeps_rules n r ≡ true
    → (Idle n (read c) r → bars r.busy (read c) ≡ false)
    × (Idle n (write c) r → bars r.busy (write c) ≡ false)
    × (Idle n (fetch c) r → bars r.busy (fetch c) ≡ false)
