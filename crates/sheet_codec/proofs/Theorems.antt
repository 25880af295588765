-- The theorems of a sheet's bytes.
use mathlib.Core.Bool.{Bool, true, false}
use mathlib.Core.Path.{◌≡◌, refl}
use native.Mathlib.Omega.{arith}
use lib.ListN.{length-take}
use Rattle.sheet_codec.specs.Format.{mapping_place, step_place, sheet_length, is_broken}
use Rattle.sheet_codec.specs.Theorems.{LongSheetBroken, ReadEnough}
use Rattle.sheet_codec.proofs.Sheet.{counts_fit, length_is}

pub long_sheet_broken : LongSheetBroken
unfolding sheet_length step_place mapping_place
long_sheet_broken s h = go (is_broken s) refl
  where
    go : (b : Bool) → is_broken s ≡ b → is_broken s ≡ true
    go true e = e
    go false e = absurd (omega (arith, h, length_is s e, counts_fit s e))

pub read_enough : ReadEnough
read_enough input h = long_sheet_broken _ (simp length-take (omega arith))
