-- `text.mapping_line` meets its contract.
use native.Mathlib.Omega.{arith}
use Rattle.std.proofs.Common.{rules}
use Rattle.sheet_codec.specs.Text.{mapping_line}
use Rattle.sheet_codec.proofs.Written.{wrote_both, put_back}
use Rattle.sheet_codec.proofs.text.mapping_line.Goals as goal

pub returns : goal.returns
unfolding mapping_line
returns c =
    let wrote =
    wrote_both c.byte.ensures
    (wrote_both c.number.ensures
    (wrote_both c.byte-2.ensures
    (wrote_both c.number-2.ensures c.byte-3.ensures))) in
    put_back (search rules) (rw c.from.ensures) (omega arith) wrote.put
