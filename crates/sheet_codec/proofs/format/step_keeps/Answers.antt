-- `format.step_keeps` meets its contract.
use Rattle.std.proofs.Common.{◌∙◌, rules}
use Rattle.sheet_codec.proofs.Sheet.{keeps_at, tested}
use Rattle.sheet_codec.proofs.format.step_keeps.Goals as goal

pub returns : goal.returns
returns c =
    let f = c.fields_at-f in
    tested _ f.result _ _ _ c.try_from.ensures c.is_ok_and.ensures (λ k h. search rules) ∙ keeps_at c.args.sheet.now c.args.first c.args.k c.requires.0 f.result f.ensures
