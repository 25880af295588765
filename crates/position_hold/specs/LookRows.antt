-- Request N5 at its limits, computed: runs from the start in which a page is mapped, fixes are delivered and looked at, and what each look displays. The
-- board is document 01's with four frames, on which a call computes in two thirds of the time.
use Rattle.std.specs.Prelude.{List, [], ◌∷◌, ◌++◌, ◌≡◌, ℕ, ◌+◌, ◌-◌, ◌^◌, replicate, Some, None, Ok, Err}
use Rattle.board.specs.declared.Board.{Board}
use Rattle.board.specs.Board.{board01, memory_words, cache_words}
use Rattle.mapping.specs.Entry.{capacity}
use Rattle.machine.specs.State.{State, map, read, device_write_part, begin_read, begin_write, end_transfer}
use Rattle.consistency.specs.Demand3.{start_state}
use Rattle.consistency.specs.Rows.{small, at_start, another, over}
use Rattle.position_hold.specs.Demand3.{Holds}
use Rattle.position_hold.specs.Fix.{Display, refused, blank, position, displayed}
use Rattle.position_hold.specs.declared.refusal.LookRefusal.TheVariants.{WrongHold}
use Rattle.position_hold.specs.Rows.{one, chart}
use Rattle.position_hold.specs.Theorems.{Act, call, look, displays, with_holds}

abbrev pub four_frames : Board
four_frames = record { page = board01.page; line = board01.line; colours = board01.colours; frames = 4 }

abbrev pub four_frames_start : State
four_frames_start = start_state four_frames (replicate (memory_words four_frames) 0) (replicate (cache_words four_frames) 0) (replicate capacity 0)

-- a turn of a run: calls, then a look through the chart's page at a clock, with a hold, and what it displays
pub record Turn : Type 0 where
  pub calls : List Act
  pub clock : ℕ
  pub hold : ℕ
  pub shown : Display

abbrev pub acts_of : List Turn → List Act
acts_of [] = []
acts_of (t ∷ turns) = t.calls ++ look 0 0 t.clock t.hold ∷ acts_of turns

abbrev pub shown_in : List Turn → List Display
shown_in [] = []
shown_in (t ∷ turns) = t.shown ∷ shown_in turns

-- after the page is mapped
abbrev pub Run : List Turn → Type 0
Run turns = displays four_frames four_frames_start (chart ∷ acts_of turns) ≡ shown_in turns

-- ---- the turns

abbrev after : List Act → ℕ → ℕ → Display → Turn
after calls clock hold shown = record { calls = calls; clock = clock; hold = hold; shown = shown }

abbrev later : ℕ → ℕ → Display → Turn
later clock hold shown = after [] clock hold shown

-- a fix is sent to the chart's frame: number, second, latitude, longitude
abbrev fix : ℕ → ℕ → ℕ → ℕ → Act
fix number second latitude longitude = one (device_write_part 3 0 4 (number ∷ second ∷ latitude ∷ longitude ∷ []))

-- one with these coordinates, looked at in its second
abbrev delivered : ℕ → ℕ → Display → Turn
delivered latitude longitude shown = after (fix 1 1000 latitude longitude ∷ []) 1000 2 shown

-- in two's complement of 32 bits
abbrev minus : ℕ → ℕ
minus n = 2 ^ 32 - n

-- 90 degrees of latitude and 180 of longitude, either way, and a ten-millionth beyond each; the word farthest from 0
abbrev pub north : List Turn
north =
    delivered 900000000 1800000000 (position 900000000 1800000000)
    ∷ delivered 900000001 1800000000 blank
    ∷ delivered 900000000 1800000001 blank
    ∷ delivered (2 ^ 31) 0 blank
    ∷ []

abbrev pub south : List Turn
south =
    delivered (minus 900000000) (minus 1800000000) (position (minus 900000000) (minus 1800000000))
    ∷ delivered (minus 900000001) (minus 1800000000) blank
    ∷ delivered (minus 900000000) (minus 1800000001) blank
    ∷ delivered 0 (2 ^ 31) blank
    ∷ []

-- a fix of second 1000 at 43.5 degrees north and 5.25 degrees west
abbrev here : Act
here = fix 1 1000 435000000 (minus 52500000)

abbrev there : Display
there = position 435000000 (minus 52500000)

-- no fix; the clock before a fix; the last second of holds 2 and 30, and one later; holds out of their range
abbrev pub times : List Turn
times =
    after (fix 0 1000 435000000 (minus 52500000) ∷ []) 1000 2 blank
    ∷ after (here ∷ []) 999 30 blank
    ∷ later 1002 2 there
    ∷ later 1003 2 blank
    ∷ later 1030 30 there
    ∷ later 1031 30 blank
    ∷ later 1000 1 (refused 14)
    ∷ later 1000 31 (refused 14)
    ∷ []

-- while a device reads the page, and while one writes it
abbrev pub busy : List Turn
busy =
    after (here ∷ one (begin_read 3) ∷ []) 1000 2 there
    ∷ after (one (end_transfer 3) ∷ one (begin_write 3) ∷ []) 1000 2 (refused 15)
    ∷ []

-- no page mapped: the hold is tested first, and a read's refusal is handed on
abbrev pub Unmapped : Type 0
Unmapped = displays four_frames four_frames_start (look 0 0 1000 1 ∷ look 0 0 1000 2 ∷ []) ≡ refused 14 ∷ refused 8 ∷ []

-- ---- the same acts with other holds, and the code's answers, a position's latitude first

abbrev pub OtherHolds : Type 0
OtherHolds = with_holds (◌+ 2) (look 0 0 1003 30 ∷ chart ∷ look 0 0 1003 30 ∷ []) ≡ look 0 0 1003 2 ∷ chart ∷ look 0 0 1003 3 ∷ []

abbrev pub Answers : Type 0
Answers =
    (displayed (Err WrongHold) ≡ refused 14)
    × (displayed (Ok None) ≡ blank)
    × (displayed (Ok (Some record { latitude = 5; longitude = 6 })) ≡ position 5 6)

-- ---- demand 3 refuses a look that reads another word than the cacheless memory has, and a read beside a look that does: both memories end the same

abbrev pub WrongLooks : Type 0
WrongLooks =
    (Holds small at_start another (one (map 0 0 0 1) ∷ look 0 0 0 2 ∷ call over ∷ []) → ⊥)
    × (Holds small at_start another (one (map 0 0 0 1) ∷ look 0 0 0 1 ∷ one (read 0 0 3) ∷ call over ∷ []) → ⊥)

abbrev pub LookRows : Type 0
LookRows = Run north × Run south × Run times × Run busy × Unmapped × OtherHolds × Answers × WrongLooks
