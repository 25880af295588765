-- Demand 1 of a look: 14 by its hold, else the refusal that the conditions of its first read and their order give; a refused look leaves everything
-- lent as it was. Once the first read is accepted the others are, where a page has room for a fix.
use Rattle.std.specs.Prelude.{true, false, List, ◌⊎◌, ◌≡◌, ℕ, ◌≤◌}
use Rattle.board.specs.declared.Board.{Board}
use Rattle.board.specs.Board.{Regular}
use Rattle.manager.specs.Theorems.{First}
use Rattle.machine.specs.Refusals.{causes}
use Rattle.machine.specs.State.{State, read}
use Rattle.demands.specs.Demands.{Clear}
use Rattle.position_hold.specs.Fix.{refused, hold_refused, judged}
use Rattle.position_hold.specs.Look.{words, reads, fix_words, fix_reads, fix_of, looked, look}

-- a hold out of its range
abbrev pub ByHold : Board → State → ℕ → ℕ → ℕ → ℕ → Type 0
ByHold b st space page clock hold = (hold_refused hold ≡ true) × (look b st space page clock hold ≡ looked (refused 14) st)

-- else the first cause of the first read, n
abbrev pub ByFirstRead : Board → State → ℕ → ℕ → ℕ → ℕ → ℕ → Type 0
ByFirstRead b st space page clock hold n =
    (hold_refused hold ≡ false) × First (causes b st (read space page 0)) n × (look b st space page clock hold ≡ looked (refused n) st)

-- or no cause: all words are read, and judged
abbrev pub Answered : Board → State → ℕ → ℕ → ℕ → ℕ → Type 0
Answered b st space page clock hold =
    (hold_refused hold ≡ false) × Clear (causes b st (read space page 0))
    × ((ws : List ℕ) × (after : State) × (fix_reads b st space page ≡ reads (words ws) after)
    × (look b st space page clock hold ≡ looked (judged clock hold (fix_of ws)) after))

abbrev pub LookRefusals : Type 0
LookRefusals =
    (b : Board) → Regular b → fix_words ≤ b.page
    → (st : State) (space page clock hold : ℕ)
    → ByHold b st space page clock hold ⊎ (((n : ℕ) × ByFirstRead b st space page clock hold n) ⊎ Answered b st space page clock hold)
