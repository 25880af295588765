-- `text.Line.byte` meets its contract.
use mathlib.Core.Path.{refl}
use native.Mathlib.Omega.{arith}
use Rattle.std.proofs.Common.{rules}
use Rattle.sheet_codec.proofs.Written.{put_byte}
use Rattle.sheet_codec.proofs.text.Line.byte.Goals as goal

pub returns : goal.returns
returns c = record { same = refl; long = search rules; put = put_byte c.args.byte (omega arith) }
