-- What a single call answers and leaves: a refusal leaves all as it was; an accepted one asks the manager, carries out its orders, then makes
-- the access. Document 01, "The board as modelled" and "Answers".
use Rattle.std.specs.Prelude.{List, [], ℕ, zero, suc, Ok, Err}
use Rattle.std.specs.Prelude as std
use Rattle.std.proofs.Math.Option.{Option, none, some}
use Rattle.board.specs.declared.Board.{Board}
use Rattle.board.specs.Board.{instruction_page}
use Rattle.manager.specs.declared.refusal.Refusal.{Refusal}
use Rattle.manager.specs.Answers as operation
use Rattle.manager.specs.Answers.{Outcome, refused, refusal_number, accepted, FrameOperation, first_operation, second_operation}
use Rattle.manager.specs.Refusals.{first_refusal}
use Rattle.manager.specs.Tables.{Tables, tables, refill}
use Rattle.cache.specs.Cache as hardware
use Rattle.cache.specs.Cache.{FlushKind, leaving}
use Rattle.cache.specs.Store.{Store}
use Rattle.machine.specs.declared.Loaded.{Loaded}
use Rattle.machine.specs.Parts.{effect_of, outcome_of, records_after, list_after, Access, access_of}
use Rattle.machine.specs.State.{State, state, Single, Answer, Result, lent_buffer}
use Rattle.machine.specs.Refusals.{causes}

-- ---- the orders, by the flush that a board has

unfoldable pub operate_by : Board → FlushKind → FrameOperation → Store → Store
operate_by b how operation.none s = s
operate_by b how (operation.flush f c) s = hardware.flush_by b how f c s
operate_by b how (operation.purge f c) s = hardware.purge b f c s
operate_by b how (operation.purge_instructions f c) s = hardware.purge b f (instruction_page b c) s

-- the store after an answer's orders, in order
unfoldable pub carry_out_by : Board → FlushKind → Outcome → Store → Store
unfolding operate_by
carry_out_by b how o s = operate_by b how (second_operation o) (operate_by b how (first_operation o) s)

-- on this board, whose flush leaves its lines in (request N9)
abbrev pub operate : Board → FrameOperation → Store → Store
operate b = operate_by b leaving

abbrev pub carry_out : Board → Outcome → Store → Store
carry_out b = carry_out_by b leaving

-- ---- answers

abbrev pub answer : Outcome → Option ℕ → List ℕ → Answer
answer o word buffer = record { outcome = o; word = word; buffer = buffer }

-- what an answer with a word says
abbrev pub loaded : std.Result Loaded Refusal → Answer
loaded (Ok l) = answer (accepted l.operations.frame l.operations.ops) (some l.word) []
loaded (Err r) = answer (refused (refusal_number r)) none []

abbrev pub result_of : Answer → State → Result
result_of a st = record { answer = a; after = st }

-- ---- an accepted call: its orders, the tables after it with their protections filled, and its access in the store that the orders leave

abbrev pub tables_left : Board → State → Single → Tables
tables_left b st call =
    refill b (tables (list_after st.tables.list call) (records_after b st.tables.records (effect_of b st call)) st.tables.protections)

-- its orders
abbrev pub orders_of : Board → State → Single → Outcome
orders_of b st call = outcome_of b st.tables.records (effect_of b st call)

-- where they leave store s
abbrev pub accept_after : Board → State → Single → Store → Result
accept_after b st call s =
    let a : Access = access_of b st call s in
    result_of (answer (orders_of b st call) a.word a.buffer) (state (tables_left b st call) a.store)

unfoldable pub accept : Board → State → Single → Result
accept b st call = accept_after b st call (carry_out b (orders_of b st call) st.store)

-- ---- a single call

-- refused by the first cause that applies, or what is made of it
abbrev pub unless_refused : Board → State → Single → Result → Result
unless_refused b st call made =
    elim (first_refusal (causes b st call)) [
      | zero ↦ made
      | suc n ↦ result_of (answer (refused (suc n)) none (lent_buffer call)) st
    ]

unfoldable pub step : Board → State → Single → Result
unfolding accept
step b st call = unless_refused b st call (accept b st call)
