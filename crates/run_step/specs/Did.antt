-- What the code holds after a call: the state, the answer's number and orders, and the word that is shown are those of the machine's step.
use Rattle.std.specs.Prelude.{◌≡◌, Option, ℕ}
use Rattle.board.specs.Board.{board01}
use Rattle.manager.specs.Answers.{Outcome}
use Rattle.machine.specs.State.{State, Single}
use Rattle.machine.specs.Step.{step}
use Rattle.sheet_codec.specs.Text.{word_of}

pub record Did (st : State) (call : Single) (next : State) (o : Outcome) (word : Option ℕ) : Type 0 where
  pub after : next ≡ (step board01 st call).after
  pub answered : o ≡ (step board01 st call).answer.outcome
  pub shown : word ≡ word_of call (step board01 st call).answer
