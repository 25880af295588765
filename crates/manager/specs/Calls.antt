-- What each call plans, answers and leaves in the tables. A plan changes nothing; where it is no refusal, a commit carries it out.
use Rattle.std.specs.Prelude.{Bool, cond, ℕ, zero, suc, ltb, Ok, Err}
use Rattle.std.specs.Prelude as std
use Rattle.board.specs.declared.Board.{Board}
use Rattle.board.specs.Board.{colour_of}
use Rattle.page_model.specs.declared.FrameRecord.{FrameRecord}
use Rattle.page_model.specs.declared.Op.TheVariants.{None}
use Rattle.page_model.specs.declared.Ops.{Ops}
use Rattle.page_model.specs.Step.{stepped}
use Rattle.page_model.specs.Busy.{reading, writing}
use Rattle.page_model.specs.Record.{freed}
use Rattle.page_model.specs.Table.{Step, read, write, device_read, device_write, device_write_part, begin_read, begin_write, fetch}
use Rattle.mapping.specs.declared.Mapping.{Mapping}
use Rattle.mapping.specs.declared.MappingList.{MappingList}
use Rattle.mapping.specs.Change.{insert_at, remove}
use Rattle.mapping.specs.Lookup.{lookup, place_of, listed_mapping, place_for}
use Rattle.manager.specs.declared.AccessKind.{AccessKind}
use Rattle.manager.specs.declared.AccessKind.TheVariants as access
use Rattle.manager.specs.declared.Change.{Change}
use Rattle.manager.specs.declared.refusal.Refusal.{Refusal}
use Rattle.manager.specs.Answers.{Outcome, refused, accepted, refusal_number}
use Rattle.manager.specs.Refusals.{first_refusal, map_causes, page_causes, read_causes, write_causes, fetch_causes, transfer_causes, part_causes, word_causes, end_causes}
use Rattle.manager.specs.Tables.{Tables, tables, record_at, put_record, refill}

-- ---- plans

-- what a call would do, or the number of its refusal: a step's change of a frame's record; where a mapping goes, or which one goes
abbrev pub Plan : Type 0
Plan = std.Result Change ℕ

abbrev pub ListPlan : Type 0
ListPlan = std.Result ℕ ℕ

-- the refusal of a number that is not 0, else what is made
abbrev pub planned : {A : Type 0} → ℕ → A → std.Result A ℕ
planned zero made = Ok made
planned (suc n) made = Err (suc n)

-- ---- steps of a frame's record

-- what a step makes of the record of a frame
abbrev pub change_of : Board → Tables → ℕ → Step → Change
change_of b t frame s =
    record { frame = frame; next = (stepped b.colours s (record_at t.records frame)).next; ops = (stepped b.colours s (record_at t.records frame)).ops }

abbrev pub plan_read : Board → Tables → ℕ → ℕ → Plan
plan_read b t space page =
    planned (first_refusal (read_causes b t space page)) (change_of b t (listed_mapping t.list space page).frame (read (colour_of b page)))

abbrev pub plan_write : Board → Tables → ℕ → ℕ → Plan
plan_write b t space page =
    planned (first_refusal (write_causes b t space page)) (change_of b t (listed_mapping t.list space page).frame (write (colour_of b page)))

abbrev pub plan_fetch : Board → Tables → ℕ → ℕ → Plan
plan_fetch b t space page =
    planned (first_refusal (fetch_causes b t space page)) (change_of b t (listed_mapping t.list space page).frame (fetch (colour_of b page)))

-- each of the three
abbrev pub plan_access : Board → Tables → ℕ → ℕ → AccessKind → Plan
plan_access b t space page access.Read = plan_read b t space page
plan_access b t space page access.Write = plan_write b t space page
plan_access b t space page access.Fetch = plan_fetch b t space page

-- a transfer of a page, or the beginning of one
abbrev pub plan_transfer : Board → Tables → ℕ → Step → Plan
plan_transfer b t frame s = planned (first_refusal (transfer_causes b t frame s)) (change_of b t frame s)

-- the step of a device's write of so many words: fewer than a page has, or all of them
abbrev pub write_step : Board → ℕ → Step
write_step b number = cond (ltb number b.page) device_write_part device_write

abbrev pub plan_device_write_part : Board → Tables → ℕ → ℕ → ℕ → Plan
plan_device_write_part b t frame first number = planned (first_refusal (part_causes b t frame first number)) (change_of b t frame (write_step b number))

-- the tables with a frame's next record, and the protections that agree with it
abbrev pub commit_change : Board → Tables → ℕ → FrameRecord → Tables
commit_change b t frame next = refill b (tables t.list (put_record t.records frame next) t.protections)

-- ---- the mapping list

-- the place where the mapping goes
abbrev pub plan_map : Board → Tables → ℕ → ℕ → ℕ → ℕ → ListPlan
plan_map b t space page frame rights = planned (first_refusal (map_causes b t space page frame rights)) (place_for t.list space page)

-- the place of the mapping that goes
abbrev pub plan_unmap : Board → Tables → ℕ → ℕ → ListPlan
plan_unmap b t space page = planned (first_refusal (page_causes b t space page)) (place_of (lookup t.list space page))

abbrev pub commit_map : Board → Tables → ℕ → Mapping → Tables
commit_map b t place m = refill b (tables (insert_at t.list place m) t.records t.protections)

abbrev pub commit_unmap : Board → Tables → ℕ → Tables
commit_unmap b t place = refill b (tables (remove t.list place) t.records t.protections)

-- ---- whole calls: the answer, and the tables after it

pub record Result : Type 0 where
  pub answer : Outcome
  pub after : Tables

abbrev pub call_result : Outcome → Tables → Result
call_result o t = record { answer = o; after = t }

-- no order
abbrev pub no_ops : Ops
no_ops = record { first = None; second = None }

-- the answer of a call that changes the list, without orders, and the list after it: a refusal leaves it
abbrev pub list_outcome : std.Result MappingList Refusal → Outcome
list_outcome (Ok next) = accepted 0 no_ops
list_outcome (Err r) = refused (refusal_number r)

abbrev pub list_left : MappingList → std.Result MappingList Refusal → MappingList
list_left l (Ok next) = next
list_left l (Err r) = l

-- a refusal leaves the tables as they were
abbrev pub step_result : Board → Tables → Plan → Result
step_result b t (Err n) = call_result (refused n) t
step_result b t (Ok change) = call_result (accepted change.frame change.ops) (commit_change b t change.frame change.next)

abbrev pub list_result : Tables → (ℕ → Tables) → ListPlan → Result
list_result t next (Err n) = call_result (refused n) t
list_result t next (Ok place) = call_result (accepted 0 no_ops) (next place)

abbrev pub read_call : Board → Tables → ℕ → ℕ → Result
read_call b t space page = step_result b t (plan_read b t space page)

abbrev pub write_call : Board → Tables → ℕ → ℕ → Result
write_call b t space page = step_result b t (plan_write b t space page)

abbrev pub fetch_call : Board → Tables → ℕ → ℕ → Result
fetch_call b t space page = step_result b t (plan_fetch b t space page)

abbrev pub device_read_call : Board → Tables → ℕ → Result
device_read_call b t frame = step_result b t (plan_transfer b t frame device_read)

abbrev pub device_write_call : Board → Tables → ℕ → Result
device_write_call b t frame = step_result b t (plan_transfer b t frame device_write)

abbrev pub device_write_part_call : Board → Tables → ℕ → ℕ → ℕ → Result
device_write_part_call b t frame first number = step_result b t (plan_device_write_part b t frame first number)

abbrev pub begin_read_call : Board → Tables → ℕ → Result
begin_read_call b t frame = step_result b t (plan_transfer b t frame begin_read)

abbrev pub begin_write_call : Board → Tables → ℕ → Result
begin_write_call b t frame = step_result b t (plan_transfer b t frame begin_write)

-- a call without orders: its refusal, or the tables after it
abbrev pub plain_result : ℕ → Tables → Tables → Result
plain_result zero t next = call_result (accepted 0 no_ops) next
plain_result (suc n) t next = call_result (refused (suc n)) t

-- a word changes no record: the protections are filled, since every accepted call leaves them so
abbrev pub move_word_call : Board → Tables → ℕ → ℕ → ℕ → Result
move_word_call b t frame offset mark = plain_result (first_refusal (word_causes b t frame offset mark)) t (refill b t)

abbrev pub bring_word_call : Board → Tables → ℕ → ℕ → Result
bring_word_call b t frame offset = move_word_call b t frame offset writing

abbrev pub take_word_call : Board → Tables → ℕ → ℕ → Result
take_word_call b t frame offset = move_word_call b t frame offset reading

-- the tables once a frame's transfer has ended
abbrev pub ended_tables : Board → Tables → ℕ → Tables
ended_tables b t frame = commit_change b t frame (freed (record_at t.records frame))

abbrev pub end_transfer_call : Board → Tables → ℕ → Result
end_transfer_call b t frame = plain_result (first_refusal (end_causes b t frame)) t (ended_tables b t frame)

abbrev pub map_call : Board → Tables → ℕ → ℕ → ℕ → ℕ → Result
map_call b t space page frame rights =
    list_result t (λ place. commit_map b t place (record { space = space; page = page; frame = frame; rights = rights })) (plan_map b t space page frame rights)

abbrev pub unmap_call : Board → Tables → ℕ → ℕ → Result
unmap_call b t space page = list_result t (commit_unmap b t) (plan_unmap b t space page)
