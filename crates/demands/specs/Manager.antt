-- The manager's own calls, which a kernel makes on its own hardware: beside a store of its lengths whose tags keep the rules, an offset in the
-- page and a buffer of its length, each answers and leaves in the tables what the machine's call does. So the demands speak of them too.
use Rattle.std.specs.Prelude.{List, ◌≡◌, ℕ, ◌<◌, length}
use Rattle.board.specs.declared.Board.{Board}
use Rattle.mapping.specs.declared.Mapping.{Mapping}
use Rattle.mapping.specs.Batch.{batch_of, items_of}
use Rattle.manager.specs.Batch.{BatchResult, batch_result, map_all_call}
use Rattle.manager.specs.Calls.{Result, call_result, map_call, unmap_call, read_call, write_call, fetch_call, device_read_call, device_write_call, device_write_part_call, begin_read_call, begin_write_call, bring_word_call, take_word_call, end_transfer_call}
use Rattle.manager.specs.Tables.{Tables}
use Rattle.cache.specs.Store.{WellFormedStore}
use Rattle.machine.specs.Call.{perform}
use Rattle.machine.specs.State.{State, Single, map, unmap, read, write, device_read, device_write, device_write_part, evict, begin_read, begin_write, bring_word, take_word, end_transfer, fetch, Call, single, map_all}
use Rattle.machine.specs.Step.{step}

abbrev pub Agrees : Board → State → Single → Result → Type 0
Agrees b st call r = r ≡ call_result (step b st call).answer.outcome (step b st call).after.tables

-- a list of mappings, also in the answers to its items
abbrev pub BatchAgrees : Board → State → Call → BatchResult → Type 0
BatchAgrees b st call r =
    r ≡ batch_result (perform b st call).answer.outcome (perform b st call).answer.buffer (perform b st call).after.tables

abbrev pub ManagerCall : Board → State → Call → Type 0
ManagerCall b st (single (map space page frame rights)) = Agrees b st (map space page frame rights) (map_call b st.tables space page frame rights)
ManagerCall b st (single (unmap space page)) = Agrees b st (unmap space page) (unmap_call b st.tables space page)
ManagerCall b st (single (read space page offset)) = offset < b.page → Agrees b st (read space page offset) (read_call b st.tables space page)
ManagerCall b st (single (write space page offset word)) =
    offset < b.page → Agrees b st (write space page offset word) (write_call b st.tables space page)
ManagerCall b st (single (device_read frame buffer)) = length buffer ≡ b.page → Agrees b st (device_read frame buffer) (device_read_call b st.tables frame)
ManagerCall b st (single (device_write frame buffer)) = length buffer ≡ b.page → Agrees b st (device_write frame buffer) (device_write_call b st.tables frame)
ManagerCall b st (single (device_write_part frame first number buffer)) =
    length buffer ≡ number → Agrees b st (device_write_part frame first number buffer) (device_write_part_call b st.tables frame first number)
ManagerCall b st (single (evict line)) = Unit {0}
ManagerCall b st (single (begin_read frame)) = Agrees b st (begin_read frame) (begin_read_call b st.tables frame)
ManagerCall b st (single (begin_write frame)) = Agrees b st (begin_write frame) (begin_write_call b st.tables frame)
ManagerCall b st (single (bring_word frame offset word)) = Agrees b st (bring_word frame offset word) (bring_word_call b st.tables frame offset)
ManagerCall b st (single (take_word frame offset)) = Agrees b st (take_word frame offset) (take_word_call b st.tables frame offset)
ManagerCall b st (single (end_transfer frame)) = Agrees b st (end_transfer frame) (end_transfer_call b st.tables frame)
ManagerCall b st (single (fetch space page offset)) = offset < b.page → Agrees b st (fetch space page offset) (fetch_call b st.tables space page)
ManagerCall b st (map_all items answers) = BatchAgrees b st (map_all items answers) (map_all_call b st.tables items answers)

abbrev pub ManagerAgrees : Board → Type 0
ManagerAgrees b = (st : State) (call : Call) → WellFormedStore b st.store → ManagerCall b st call

-- A kernel lends its own list of mappings: the batch that `mapping::lent::batch` makes of it is that list to the call, also where it is too long.
abbrev pub LentList : Type 0
LentList =
    (b : Board) (t : Tables) (items : List Mapping) (answers : List ℕ) → map_all_call b t (items_of (batch_of items)) answers ≡ map_all_call b t items answers

-- and to the machine's call
abbrev pub LentListPerformed : Type 0
LentListPerformed =
    (b : Board) (st : State) (items : List Mapping) (answers : List ℕ)
    → perform b st (map_all (items_of (batch_of items)) answers) ≡ perform b st (map_all items answers)
