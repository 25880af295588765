-- What is proved of the machine's calls, for any regular board.
use Rattle.std.specs.Prelude.{List, ◌≡◌, ℕ}
use Rattle.board.specs.declared.Board.{Board}
use Rattle.board.specs.Board.{Regular}
use Rattle.machine.specs.State.{State, device_write, device_write_part}
use Rattle.machine.specs.Step.{step}

-- a device's write of all a page's words, as a part, is its write of the page
abbrev pub WholePart : Type 0
WholePart =
    (b : Board) (st : State) (frame : ℕ) (buffer : List ℕ) → Regular b
    → step b st (device_write_part frame 0 b.page buffer) ≡ step b st (device_write frame buffer)
