-- Request N10: a call of the machine with one of its orders left out, and the reads that then find a wrong word.
use Rattle.std.specs.Prelude.{◌≡◌, false, List, [], ◌∷◌, ◌++◌, ◌⊎◌, ◌≢◌, ℕ, zero, suc, ◌^◌, ◌<◌, get_or}
use Rattle.std.proofs.Math.Option.{Option, some}
use Rattle.board.specs.declared.Board.{Board}
use Rattle.page_model.specs.declared.Op.{Op}
use Rattle.page_model.specs.declared.Op.TheVariants.{None}
use Rattle.page_model.specs.declared.Ops.{Ops}
use Rattle.page_model.specs.Step.{op_list}
use Rattle.manager.specs.Answers.{Outcome, refused, accepted, operations_of}
use Rattle.machine.specs.Call.{perform}
use Rattle.machine.specs.State.{State, Single, Call, single, map_all, Answer, Result}
use Rattle.machine.specs.Step.{carry_out, orders_of, accept_after, unless_refused}
use Rattle.consistency.specs.Cacheless.{Cacheless, Use, no_use, sets_frame, loads, stores, loads_page, sends_words, takes_word, brings_word, use_of, is_refused, fed}
use Rattle.consistency.specs.Demand3.{page_word}

-- ---- a call without one order

-- the orders of an answer
abbrev pub orders_in : Answer → List Op
orders_in a = op_list (operations_of a.outcome).ops.first ++ op_list (operations_of a.outcome).ops.second

-- the orders but for the one at place j: 0 the first, 1 the second
abbrev pub leave_out : ℕ → Ops → Ops
leave_out zero ops = record { first = ops.second; second = None }
leave_out (suc zero) ops = record { first = ops.first; second = None }
leave_out (suc (suc j)) ops = ops

abbrev pub lacking : ℕ → Outcome → Outcome
lacking j (refused n) = refused n
lacking j (accepted f ops) = accepted f (leave_out j ops)

-- The call with its order at place j answered and not carried out. All else is `step`'s: the refusals, the answer's orders and the tables; the access is
-- made in the store that the other order leaves.
unfoldable pub without_order : Board → ℕ → State → Single → Result
without_order b j st call = unless_refused b st call (accept_after b st call (carry_out b (lacking j (orders_of b st call)) st.store))

-- ---- words of 32 bits, as document 01 has them

abbrev pub Words : List ℕ → Type 0
Words [] = Unit {0}
Words (w ∷ words) = (w < 2 ^ 32) × Words words

-- the words that a call writes, sends or brings
abbrev pub SendsBy : Use → Type 0
SendsBy no_use = Unit {0}
SendsBy (sets_frame space page frame) = Unit {0}
SendsBy (loads space page offset) = Unit {0}
SendsBy (stores space page offset word) = word < 2 ^ 32
SendsBy (loads_page frame) = Unit {0}
SendsBy (sends_words frame first buffer) = Words buffer
SendsBy (takes_word frame offset) = Unit {0}
SendsBy (brings_word frame offset word) = word < 2 ^ 32

abbrev pub Sends : List Call → Type 0
Sends [] = Unit {0}
Sends (single call ∷ calls) = SendsBy (use_of call) × Sends calls
Sends (map_all items answers ∷ calls) = Sends calls

-- ---- a wrong word

-- one word was found, and another was due
abbrev pub Differ : Option ℕ → Option ℕ → Type 0
Differ found due = (v : ℕ) × (w : ℕ) × (found ≡ some v) × (due ≡ some w) × (v ≢ w)

-- an answered word, of a processor's read or fetch, or one that a device reads or takes, is not the cacheless memory's
abbrev pub WrongBy : Board → Cacheless → Use → Answer → Type 0
WrongBy b m no_use a = ⊥
WrongBy b m (sets_frame space page frame) a = ⊥
WrongBy b m (loads space page offset) a = Differ a.word (page_word m (m.frame space page) offset)
WrongBy b m (stores space page offset word) a = ⊥
WrongBy b m (loads_page frame) a = (o : ℕ) × (o < b.page) × (get_or a.buffer o 0 ≢ m.word frame o)
WrongBy b m (sends_words frame first buffer) a = ⊥
WrongBy b m (takes_word frame offset) a = Differ a.word (some (m.word frame offset))
WrongBy b m (brings_word frame offset word) a = ⊥

abbrev pub Wrong : Board → Cacheless → Call → Answer → Type 0
Wrong b m (single call) a = WrongBy b m (use_of call) a
Wrong b m (map_all items answers) a = ⊥

-- some accepted read, fetch, device's read or word taken of a list of calls, each carried out whole, finds a wrong word
abbrev pub FindsWrong : Board → State → Cacheless → List Call → Type 0
FindsWrong b st m [] = ⊥
FindsWrong b st m (call ∷ calls) =
    ((is_refused (perform b st call).answer ≡ false) × Wrong b m call (perform b st call).answer)
    ⊎ FindsWrong b (perform b st call).after (fed m call (perform b st call).answer) calls

-- this call without its order at place j, or a later one carried out whole, does
abbrev pub WrongWithout : Board → ℕ → State → Cacheless → Single → List Call → Type 0
WrongWithout b j st m call later =
    let r : Result = without_order b j st call in
    ((is_refused r.answer ≡ false) × Wrong b m (single call) r.answer) ⊎ FindsWrong b r.after (fed m (single call) r.answer) later
