-- Every run of looks computes to what it is to display.
use mathlib.Core.Option.{Option, some}
use mathlib.Core.Path.{◌≡◌, refl, sym}
use Prim.Native.Nat.{ℕ}
use native.Mathlib.Omega.{arith}
use Rattle.machine.proofs.Opened.{opened}
use Rattle.consistency.specs.Cacheless as cacheless
use Rattle.position_hold.specs.Look as position_hold
use Rattle.position_hold.specs.Fix as fix
use Rattle.position_hold.specs.LookRows.{LookRows}

one_zero : ◌≡◌ {A = Option ℕ} (some 1) (some 0) → ⊥
one_zero e = let z : ◌≡◌ {A = ℕ} 1 0 = cc in omega arith

pub look_rows : LookRows
unfolding opened position_hold.look fix.judged cacheless.start_cacheless cacheless.after_accepted
look_rows = (refl, refl, refl, refl, refl, refl, (refl, refl, refl), (λ h. one_zero (h.finds.1.0 3 (omega arith)), λ h. one_zero (sym (h.finds.1.1.0 refl))))
