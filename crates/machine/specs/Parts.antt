-- The parts of an accepted single call, each once and by its own cases: what becomes of a frame's record, the list after it, and the access that
-- it makes. Of the state each asks the list alone, for the frame of a page. `accept` puts them together.
use Rattle.std.specs.Prelude.{List, [], ℕ}
use Rattle.std.proofs.Math.Option.{Option, none, some}
use Rattle.board.specs.declared.Board.{Board}
use Rattle.board.specs.Board.{colour_of, instruction_page}
use Rattle.page_model.specs.Record.{freed}
use Rattle.page_model.specs.Step.{stepped}
use Rattle.page_model.specs.Table as table
use Rattle.mapping.specs.declared.MappingList.{MappingList}
use Rattle.mapping.specs.Change.{insert, remove}
use Rattle.mapping.specs.Lookup.{lookup, place_of}
use Rattle.manager.specs.Answers.{Outcome, accepted}
use Rattle.manager.specs.Calls.{no_ops, write_step}
use Rattle.manager.specs.Tables.{record_at, put_record}
use Rattle.cache.specs.Cache as hardware
use Rattle.cache.specs.Store.{Store, memory_word}
use Rattle.machine.specs.State.{State, listed_frame, Single, map, unmap, read, write, device_read, device_write, device_write_part, evict, begin_read, begin_write, bring_word, take_word, end_transfer, fetch}

-- what a call makes of the record of a frame: a step of the page model, the end of a transfer, or nothing
pub data Effect : Type 0 where
  steps : ℕ → table.Step → Effect
  ends : ℕ → Effect
  nothing : Effect

abbrev pub effect_in : Board → MappingList → Single → Effect
effect_in b l (map space page frame rights) = nothing
effect_in b l (unmap space page) = nothing
effect_in b l (read space page offset) = steps (listed_frame l space page) (table.read (colour_of b page))
effect_in b l (write space page offset word) = steps (listed_frame l space page) (table.write (colour_of b page))
effect_in b l (device_read frame buffer) = steps frame table.device_read
effect_in b l (device_write frame buffer) = steps frame table.device_write
effect_in b l (device_write_part frame first number buffer) = steps frame (write_step b number)
effect_in b l (evict line) = nothing
effect_in b l (begin_read frame) = steps frame table.begin_read
effect_in b l (begin_write frame) = steps frame table.begin_write
effect_in b l (bring_word frame offset word) = nothing
effect_in b l (take_word frame offset) = nothing
effect_in b l (end_transfer frame) = ends frame
effect_in b l (fetch space page offset) = steps (listed_frame l space page) (table.fetch (colour_of b page))

abbrev pub effect_of : Board → State → Single → Effect
effect_of b st = effect_in b st.tables.list

-- its answer's orders, and the records after it
abbrev pub outcome_of : Board → List ℕ → Effect → Outcome
outcome_of b rs (steps f s) = accepted f (stepped b.colours s (record_at rs f)).ops
outcome_of b rs (ends f) = accepted 0 no_ops
outcome_of b rs nothing = accepted 0 no_ops

abbrev pub records_after : Board → List ℕ → Effect → List ℕ
records_after b rs (steps f s) = put_record rs f (stepped b.colours s (record_at rs f)).next
records_after b rs (ends f) = put_record rs f (freed (record_at rs f))
records_after b rs nothing = rs

-- the list after a single call
abbrev pub list_after : MappingList → Single → MappingList
list_after l (map space page frame rights) = insert l (record { space = space; page = page; frame = frame; rights = rights })
list_after l (unmap space page) = remove l (place_of (lookup l space page))
list_after l (read space page offset) = l
list_after l (write space page offset word) = l
list_after l (device_read frame buffer) = l
list_after l (device_write frame buffer) = l
list_after l (device_write_part frame first number buffer) = l
list_after l (evict line) = l
list_after l (begin_read frame) = l
list_after l (begin_write frame) = l
list_after l (bring_word frame offset word) = l
list_after l (take_word frame offset) = l
list_after l (end_transfer frame) = l
list_after l (fetch space page offset) = l

-- what a call answers besides its orders, and the memory and cache that it leaves, where its orders leave s
pub record Access : Type 0 where
  pub word : Option ℕ
  pub buffer : List ℕ
  pub store : Store

abbrev pub accessed : Option ℕ → List ℕ → Store → Access
accessed word buffer s = record { word = word; buffer = buffer; store = s }

abbrev pub access_in : Board → MappingList → Single → Store → Access
access_in b l (map space page frame rights) s = accessed none [] s
access_in b l (unmap space page) s = accessed none [] s
access_in b l (read space page offset) s =
    accessed (some (hardware.read_word b (listed_frame l space page) (colour_of b page) offset s)) []
    (hardware.access b (listed_frame l space page) (colour_of b page) offset s)
access_in b l (write space page offset word) s = accessed none [] (hardware.write_word b (listed_frame l space page) (colour_of b page) offset word s)
access_in b l (device_read frame buffer) s = accessed none (hardware.device_read b frame s) s
access_in b l (device_write frame buffer) s = accessed none [] (hardware.device_write b frame 0 buffer s)
access_in b l (device_write_part frame first number buffer) s = accessed none [] (hardware.device_write b frame first buffer s)
access_in b l (evict line) s = accessed none [] (hardware.evict b line s)
access_in b l (begin_read frame) s = accessed none [] s
access_in b l (begin_write frame) s = accessed none [] s
access_in b l (bring_word frame offset word) s = accessed none [] (hardware.bring_word b frame offset word s)
access_in b l (take_word frame offset) s = accessed (some (memory_word b s frame offset)) [] s
access_in b l (end_transfer frame) s = accessed none [] s
-- a fetch is a read through the instruction cache
access_in b l (fetch space page offset) s =
    accessed (some (hardware.read_word b (listed_frame l space page) (instruction_page b (colour_of b page)) offset s)) []
    (hardware.access b (listed_frame l space page) (instruction_page b (colour_of b page)) offset s)

abbrev pub access_of : Board → State → Single → Store → Access
access_of b st = access_in b st.tables.list
