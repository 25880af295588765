-- `text.Line.word` meets its contract.
use native.Mathlib.Omega.{arith}
use Rattle.sheet_codec.specs.Text.{word_text}
use Rattle.sheet_codec.proofs.Written.{wrote_as}
use Rattle.sheet_codec.proofs.text.Line.word.Goals as goal

pub returns-in-Some : goal.returns-in-Some
unfolding word_text
returns-in-Some c = wrote_as (rw (c.in-Some.is, c.from.ensures)) (omega arith) c.number.ensures

pub returns-in-None : goal.returns-in-None
unfolding word_text
returns-in-None c = wrote_as (rw c.in-None.is) (omega arith) c.byte.ensures
