-- How a case is asked: calls one after the other, the answers that they must give, and the states from which they are made.
use Rattle.std.specs.Prelude.{cond, List, [], ◌∷◌, ◌++◌, ℕ, zero, suc, ◌-◌, ltb, length, replicate, set}
use Rattle.std.proofs.Math.Option.{Option, none, some}
use Rattle.board.specs.Board.{board01}
use Rattle.mapping.specs.declared.Mapping.{Mapping}
use Rattle.mapping.specs.declared.MappingList.{MappingList}
use Rattle.mapping.specs.Entry.{capacity, zero_mapping}
use Rattle.page_model.specs.declared.Op.{Op}
use Rattle.page_model.specs.declared.Op.TheVariants.{None}
use Rattle.page_model.specs.declared.Ops.{Ops}
use Rattle.manager.specs.Answers.{refused, accepted}
use Rattle.manager.specs.Calls.{no_ops}
use Rattle.manager.specs.Tables.{tables, start_records}
use Rattle.cache.specs.Store.{store}
use Rattle.machine.specs.Call.{perform}
use Rattle.machine.specs.State as machine
use Rattle.machine.specs.State.{State, state, Call, single, map_all, Answer, Result}
use Rattle.machine.specs.Step.{answer}
use Rattle.run_sheet.specs.Run.{sheet_start}
use Rattle.edges.specs.Rows as seen
use Rattle.edges.specs.Rows.{Seen}

-- ---- mappings

abbrev pub mapping : ℕ → ℕ → ℕ → ℕ → Mapping
mapping space page frame rights = record { space = space; page = page; frame = frame; rights = rights }

-- the list of these
abbrev pub list_of : List Mapping → MappingList
list_of mappings = record { items = mappings ++ replicate (capacity - length mappings) zero_mapping; count = length mappings }

-- ---- calls

-- the state after calls
unfoldable pub after : State → List Call → State
unfolding perform
after st [] = st
after st (call ∷ calls) = after (perform board01 st call).after calls

-- the answers of calls, one after the other, the state of each from the one before it
unfoldable pub ask_from : Result → List Call → List Answer
unfolding perform
ask_from got [] = got.answer ∷ []
ask_from got (call ∷ calls) = got.answer ∷ ask_from (perform board01 got.after call) calls

unfoldable pub ask : State → List Call → List Answer
unfolding ask_from
ask st [] = []
ask st (call ∷ calls) = ask_from (perform board01 st call) calls

-- the single calls by their names, with their numbers and words as in `Single`
abbrev pub map : ℕ → ℕ → ℕ → ℕ → Call
map space page frame rights = single (machine.map space page frame rights)

abbrev pub unmap : ℕ → ℕ → Call
unmap space page = single (machine.unmap space page)

abbrev pub read : ℕ → ℕ → ℕ → Call
read space page offset = single (machine.read space page offset)

abbrev pub write : ℕ → ℕ → ℕ → ℕ → Call
write space page offset word = single (machine.write space page offset word)

abbrev pub device_read : ℕ → List ℕ → Call
device_read frame buffer = single (machine.device_read frame buffer)

abbrev pub device_write : ℕ → List ℕ → Call
device_write frame buffer = single (machine.device_write frame buffer)

abbrev pub device_write_part : ℕ → ℕ → ℕ → List ℕ → Call
device_write_part frame first number buffer = single (machine.device_write_part frame first number buffer)

abbrev pub evict : ℕ → Call
evict line = single (machine.evict line)

abbrev pub begin_read : ℕ → Call
begin_read frame = single (machine.begin_read frame)

abbrev pub begin_write : ℕ → Call
begin_write frame = single (machine.begin_write frame)

abbrev pub bring_word : ℕ → ℕ → ℕ → Call
bring_word frame offset word = single (machine.bring_word frame offset word)

abbrev pub take_word : ℕ → ℕ → Call
take_word frame offset = single (machine.take_word frame offset)

abbrev pub end_transfer : ℕ → Call
end_transfer frame = single (machine.end_transfer frame)

abbrev pub fetch : ℕ → ℕ → ℕ → Call
fetch space page offset = single (machine.fetch space page offset)

-- so many answers as they are lent, of a number that is no answer
abbrev pub unanswered : ℕ → List ℕ
unanswered n = replicate n 99

-- a list of mappings, with an answer for each
abbrev pub map_these : List Mapping → Call
map_these items = map_all items (unanswered (length items))

-- ---- answers

abbrev pub refuses : ℕ → Answer
refuses n = answer (refused n) none []

-- accepted, with the frame of its orders, the orders and a word
abbrev pub accepts : ℕ → Ops → Option ℕ → Answer
accepts frame ops word = answer (accepted frame ops) word []

-- the first of two orders, with no second
abbrev pub only : Op → Ops
only op = record { first = op; second = None }

-- no order and no frame: a change of the list, an eviction, a word that a device brings, the end of a transfer
abbrev pub done : Answer
done = accepts 0 no_ops none

-- a write on a frame, with no order
abbrev pub written : ℕ → Answer
written frame = accepts frame no_ops none

-- a read or a fetch on a frame, with no order, and its word
abbrev pub finds : ℕ → ℕ → Answer
finds frame word = accepts frame no_ops (some word)

-- the beginning of a transfer of a frame, with no order
abbrev pub begun : ℕ → Answer
begun frame = accepts frame no_ops none

-- a word that a device takes, which orders nothing, and so has no frame
abbrev pub takes : ℕ → Answer
takes word = accepts 0 no_ops (some word)

-- an answer to each item of a list of mappings; a refusal of the whole, with the answers as they were lent
abbrev pub each : List ℕ → Answer
each numbers = answer (accepted 0 no_ops) none numbers

abbrev pub refuses_whole : ℕ → List ℕ → Answer
refuses_whole n lent = answer (refused n) none lent

-- what is left in the mapping list and the protections; these mappings with these protections, and zeros past them
abbrev pub leaves : State → Seen
leaves st = seen.tables st.tables.list st.tables.protections

abbrev pub listed_with : List Mapping → List ℕ → Seen
listed_with mappings protections = seen.tables (list_of mappings) (protections ++ replicate (capacity - length protections) 0)

-- ---- states

abbrev pub fresh : State
fresh = sheet_start board01

-- the state with other mappings, records or cache
abbrev pub with_list : MappingList → State → State
with_list l st = state (tables l st.tables.records st.tables.protections) st.store

abbrev pub with_records : List ℕ → State → State
with_records records st = state (tables st.tables.list records st.tables.protections) st.store

abbrev pub with_cache : List ℕ → List ℕ → State → State
with_cache words tags st = state st.tables (store st.store.memory words tags)

-- the start with these mappings and protections, whatever they are
abbrev pub holding : List Mapping → List ℕ → State
holding mappings protections = state (tables (list_of mappings) fresh.tables.records protections) fresh.store

-- protections that no call has filled
abbrev pub unfilled : List ℕ
unfilled = replicate capacity 9

-- the start with pages 0 to n - 1 of space 0 mapped to frame 0, to read
abbrev pub page_mapping : ℕ → Mapping
page_mapping page = mapping 0 page 0 1

abbrev pub item_at : ℕ → ℕ → Mapping
item_at n i = cond (ltb i n) (page_mapping i) zero_mapping

unfoldable pub mappings_by : ℕ → (ℕ → Mapping) → List Mapping
mappings_by zero f = []
mappings_by (suc k) f = f 0 ∷ mappings_by k (λ i. f (suc i))

abbrev pub pages_mapped : ℕ → MappingList
pages_mapped n = record { items = mappings_by capacity (item_at n); count = n }

abbrev pub listing : ℕ → State
listing n = with_list (pages_mapped n) fresh

-- the start with these words as the record of frame 0: held and stale masks, flag, busy mark, dirty colour, and of the instruction colours held and
-- stale; with none of these
abbrev pub recorded_both : ℕ → ℕ → ℕ → ℕ → ℕ → ℕ → ℕ → State
recorded_both held stale dirty busy colour fetched outdated =
    with_records (held ∷ stale ∷ dirty ∷ busy ∷ colour ∷ fetched ∷ outdated ∷ start_records 63 8) fresh

abbrev pub recorded : ℕ → ℕ → ℕ → ℕ → ℕ → State
recorded held stale dirty busy colour = recorded_both held stale dirty busy colour 0 0

-- a line with this tag
abbrev pub line_tagged : ℕ → ℕ → State
line_tagged line tag = with_cache fresh.store.words (set fresh.store.tags line tag) fresh

-- the first line of the data cache with this tag, and word 77 in it
abbrev pub tagged : ℕ → State
tagged tag = with_cache (set fresh.store.words 0 77) (set fresh.store.tags 0 tag) fresh

-- the first line of the instruction cache with this tag, and word 77 in it
abbrev pub instruction_tagged : ℕ → State
instruction_tagged tag = with_cache (set fresh.store.words 512 77) (set fresh.store.tags 64 tag) fresh

-- a page mapped, and a word of it read
abbrev pub read_once : State
read_once = after fresh (map 0 2 5 1 ∷ read 0 2 3 ∷ [])

-- page 0 mapped to frame 3, and a word of it written
abbrev pub wrote_once : State
wrote_once = after fresh (map 0 0 3 2 ∷ write 0 0 0 17 ∷ [])

-- page 2 mapped to frame 5, and its last word written
abbrev pub wrote_last : State
wrote_last = after fresh (map 0 2 5 2 ∷ write 0 2 63 42 ∷ [])

-- frame 5 mapped twice: page 2 to read and write, page 10, of the same colour, to read and fetch
abbrev pub overlay : State
overlay = after fresh (map 0 2 5 2 ∷ map 0 10 5 3 ∷ [])

-- and an instruction of it fetched
abbrev pub fetched_once : State
fetched_once = after overlay (fetch 0 10 3 ∷ [])

-- a device has begun to read frame 5, or to write it
abbrev pub device_reads : State
device_reads = after fresh (begin_read 5 ∷ [])

abbrev pub device_writes : State
device_writes = after fresh (begin_write 5 ∷ [])

-- so many words from an offset of frame 5 on, all 7
abbrev pub sevens : ℕ → ℕ → Call
sevens first number = device_write_part 5 first number (replicate number 7)
