-- The record that every frame has at the start.
use mathlib.Core.Path.{refl}
use native.Mathlib.Omega.{arith}
use Rattle.bits.proofs.Mask.{bit_none}
use Rattle.page_model.specs.Record.{state_of, instruction_state_of, dirty_colour_of}
use Rattle.page_model.specs.Theorems.{StartRecord}
use Rattle.page_model.proofs.Rules.{kept}
use Rattle.page_model.proofs.Moving.{no_masks_keep}

pub start_record_lem : StartRecord
unfolding state_of instruction_state_of dirty_colour_of
start_record_lem n = (
  kept n _
      (record {
        masks = no_masks_keep n;
        flag_le = omega arith;
        one_held = refl;
        mark_fits_holds = refl;
        dirty_colour_is = refl;
        instructions = no_masks_keep n;
        beside = refl;
      }),
  λ k. simp bit_none,
  λ k. simp bit_none,
  refl,
)
