-- `text.Line.number` meets its contract.
use mathlib.Core.Path.{◌∙◌}
use Rattle.sheet_codec.proofs.Written.{wrote_as}
use Rattle.sheet_codec.proofs.Digits.{decimal_digits, few_digits}
use native.Mathlib.Omega.{arith}
use Rattle.sheet_codec.proofs.text.Line.number.Goals as goal

pub bytes-requires : goal.bytes-requires
bytes-requires c =
    let d = c.decimal-k.ensures in
    omega (arith, d.in_bounds.1, few_digits _ _ (omega arith) d.len)

pub returns : goal.returns
returns c =
    let d = c.decimal-k.ensures in
    wrote_as (d.digits ∙ decimal_digits c.args.n _ (omega arith) d.len) (omega (arith, d.in_bounds.1, few_digits c.args.n _ (omega arith) d.len)) c.bytes.ensures
