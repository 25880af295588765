-- A number that differs from another, and is 0 or 1.
use mathlib.Core.Path.{◌≡◌, refl, sym}
use mathlib.Core.Bool.{Bool, true, false, cond}
use mathlib.Core.Logic.{◌≢◌}
use Prim.Native.Nat.{ℕ, ◌<◌}
use native.Mathlib.Omega.{arith}
use borrow.Author.Tests.{eqb-true, eqb-false}
use lib.Dec.{eqb}

abbrev pub other : ℕ → ℕ
other w = cond (eqb w 0) 1 0

pub other_differs : (w : ℕ) → other w ≢ w
other_differs w = go (eqb w 0) refl
  where
    go : (t : Bool) → eqb w 0 ≡ t → cond t 1 0 ≢ w
    go true e q = let z = eqb-true w 0 e in omega arith
    go false e q = eqb-false w 0 e (sym q)

pub other_lt : (w : ℕ) → other w < 2
other_lt w = go (eqb w 0)
  where
    go : (t : Bool) → cond t 1 0 < 2
    go true = omega arith
    go false = omega arith
