-- `sheet_codec::step_count` meets its contract.
use mathlib.Core.Path.{◌∙◌}
use Rattle.sheet_codec.specs.Format.{mapping_place}
use Rattle.sheet_codec.proofs.Sheet.{step_count_lem}
use Rattle.sheet_codec.proofs.format.step_count.Goals as goal

pub returns : goal.returns
unfolding mapping_place
returns c = step_count_lem _ _ c.requires.0 _ (c.from.ensures ∙ c.two_bytes.ensures)
