-- What a function leaves that writes into a line: the bytes s from its place on, of which there are no more than most, with its place after
-- them, in the buffer that it had.
use Rattle.std.specs.Prelude.{List, ◌≡◌, ℕ, ◌+◌, ◌≤◌, length}
use Rattle.sheet_codec.specs.Put.{Put}
use Rattle.sheet_codec.specs.declared.text.Line.{Line}

pub record Wrote (before : Line) (s : List ℕ) (most : ℕ) (after : Line) : Type 0 where
  pub same : after.text.ghost_name ≡ before.text.ghost_name
  pub long : length after.text.now ≡ length before.text.now
  pub put : Put before.text.now before.at s most after.text.now after.at

-- so many bytes fit behind its place
abbrev pub HasRoom : Line → ℕ → Type 0
HasRoom line n = line.at + n ≤ length line.text.now
