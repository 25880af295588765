-- `text.step_line` meets its contract.
use native.Mathlib.Omega.{arith}
use Rattle.std.proofs.Common.{refl, rules}
use Rattle.sheet_codec.specs.Text.{step_line}
use Rattle.sheet_codec.proofs.Written.{wrote_both, put_back}
use Rattle.sheet_codec.proofs.text.step_line.Goals as goal

pub returns : goal.returns
unfolding step_line
returns c =
    let wrote =
    wrote_both c.number.ensures
    (wrote_both c.byte.ensures
    (wrote_both c.answer.ensures
    (wrote_both c.byte-2.ensures
    (wrote_both c.word.ensures c.byte-3.ensures)))) in
    put_back (search rules) refl (omega arith) wrote.put
