-- `position_hold::fix::magnitude` meets its contract.
use Rattle.std.proofs.Common.{◌≡◌, ℕ, ◌-◌, ◌^◌, ◌<◌, Bool, true, false, cond, ℤ, pos, negsuc, suc, refl, arith, w32, of_z, to_z, ◌∙◌}
use Rattle.std.proofs.lemmas.Int.{of_z-to_z}
use Rattle.std.specs.Prelude.{unsigned_abs, ltb}
use mir.Val.{sel}
use Rattle.position_hold.specs.Fix.{magnitude}
use Rattle.position_hold.proofs.fix.magnitude.Goals as goal

-- how far from 0 the signed number of a word's bits lies
distance : (w : ℕ) {z : ℤ} → w < 2 ^ 32 → z ≡ to_z w32 w → unsigned_abs (to_z w32 (of_z w32 z)) ≡ magnitude w
unfolding magnitude
distance w h e = rw (e, of_z-to_z w32 w h) (go (ltb w (2 ^ 31)))
  where
    go : (t : Bool) → unsigned_abs (sel t (pos w) (negsuc (2 ^ 32 - suc w))) ≡ cond t w (2 ^ 32 - w)
    go true = refl
    go false = omega arith

pub returns : goal.returns
returns c = let fits : c.args.word < 2 ^ 32 = omega arith in c.unsigned_abs.ensures.value ∙ distance c.args.word fits c.cast_signed.ensures
