-- `text.end_line` meets its contract.
use native.Mathlib.Omega.{arith}
use Rattle.std.proofs.Common.{refl, rules}
use Rattle.sheet_codec.specs.Text.{end_line}
use Rattle.sheet_codec.proofs.Written.{wrote_both, put_back}
use Rattle.sheet_codec.proofs.text.end_line.Goals as goal

pub returns : goal.returns
unfolding end_line
returns c =
    let wrote =
    wrote_both c.bytes.ensures
    (wrote_both c.number.ensures
    (wrote_both c.byte.ensures
    (wrote_both c.number-2.ensures c.byte-2.ensures))) in
    put_back (search rules) refl (omega arith) wrote.put
