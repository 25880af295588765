-- `text.Line.bytes` meets its contract.
use mathlib.Core.Path.{refl, ◌∙◌}
use native.Mathlib.Omega.{arith}
use Rattle.std.proofs.Common.{rules}
use Rattle.std.proofs.lemmas.Slice.{put_mid-paste}
use Rattle.sheet_codec.proofs.Written.{pasted}
use Rattle.sheet_codec.proofs.text.Line.bytes.Goals as goal

pub returns : goal.returns
returns c =
    let s = c.args.self.now in
    let from = c.args.from.now in
    record {
      same = refl;
      long = search rules;
      put = record {
        written = put_mid-paste s.at _ s.text.now _ from _ c.copy_from_slice.ensures.after (omega arith) refl ∙ pasted s.text.now s.at from _ refl;
        next_is = refl;
        short = omega arith;
      };
    }
