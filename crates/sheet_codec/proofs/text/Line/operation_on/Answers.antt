-- `text.Line.operation_on` meets its contract.
use native.Mathlib.Omega.{arith}
use Rattle.sheet_codec.proofs.Written.{wrote_both, wrote_as}
use Rattle.sheet_codec.proofs.text.Line.operation_on.Goals as goal

pub returns : goal.returns
returns c =
    wrote_as (rw c.from.ensures) (omega arith)
    (wrote_both c.byte.ensures
    (wrote_both c.number.ensures
    (wrote_both c.byte-2.ensures c.number-2.ensures)))
