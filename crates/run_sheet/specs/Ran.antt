-- What the code holds after calls in their order, made from a state on: the state, the text and the totals are those of the run, the text
-- is written from a place on, and no line of it has more than line_bytes.
use Rattle.std.specs.Prelude.{List, ◌≡◌, ℕ, ◌*◌, ◌≤◌}
use Rattle.machine.specs.State.{State}
use Rattle.sheet_codec.specs.Put.{Put}
use Rattle.sheet_codec.specs.Text.{line_bytes}
use Rattle.run_sheet.specs.Run.{Run}

pub record Ran (run : Run) (calls : ℕ) (before : List ℕ) (at : ℕ) (next : State) (after : List ℕ) (end flushes purges : ℕ) : Type 0 where
  pub machine_is : next ≡ run.machine
  pub text_is : Put before at run.text (line_bytes * calls) after end
  pub flushes_are : flushes ≡ run.flushes
  pub purges_are : purges ≡ run.purges
  pub few_flushes : flushes ≤ 2 * calls
  pub few_purges : purges ≤ 2 * calls
