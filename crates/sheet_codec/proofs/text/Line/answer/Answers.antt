-- `text.Line.answer` meets its contract.
use mathlib.Core.Path.{◌∙◌}
use native.Mathlib.Omega.{arith}
use Rattle.manager.specs.Answers.{refusal_number}
use Rattle.sheet_codec.specs.Text.{answer_text}
use Rattle.sheet_codec.proofs.Totals.{both_operations}
use Rattle.sheet_codec.proofs.Written.{wrote_both, wrote_as}
use Rattle.sheet_codec.proofs.text.Line.answer.Goals as goal

pub returns : goal.returns
unfolding answer_text
returns c =
    let e = both_operations c.args.answer (c.operations_of-frame.ensures refusal_number) in
    wrote_as (rw (c.from.ensures ∙ c.number_of.ensures, e.0, e.1)) (omega arith)
    (wrote_both c.number.ensures
    (wrote_both c.byte.ensures
    (wrote_both c.operation.ensures
    (wrote_both c.byte-2.ensures c.operation-2.ensures))))
