-- Laws of charges and accounts.
use mathlib.Core.Path.{◌≡◌, refl, sym, ap, ◌∙◌}
use mathlib.Core.Bool.{Bool, true, false, ◌&&◌}
use mathlib.Core.List.{List}
use mathlib.Core.Logic.{◌≢◌}
use Prim.Native.Nat.{ℕ, zero, suc, ◌+◌, ◌≤◌, ◌<◌}
use native.Mathlib.Omega.{arith}
use borrow.Author.Tests.{lt-ltb, le-ltb, ltb-false}
use lib.Dec.{ltb}
use lib.ListN.{length, length-set}
use lib.Seq.{get_or-set_same, get_or-set_other}
use Rattle.tariff.specs.declared.ChargeKind.{ChargeKind}
use Rattle.tariff.specs.declared.ChargeKind.TheVariants.{Read, Write, Fetch, DeviceRead, DeviceWrite}
use Rattle.tariff.specs.Accounts.{limit, balance, overdrawn, charged}
use Rattle.tariff.specs.Tariff.{OrderSet, none, flush, purge, both, tariff}

-- ---- the table

-- the dearest step is a fetch with both
pub dearest : (kind : ChargeKind) (s : OrderSet) → tariff kind s ≤ 2420
dearest Read none = omega arith
dearest Read flush = omega arith
dearest Read purge = omega arith
dearest Read both = omega arith
dearest Write none = omega arith
dearest Write flush = omega arith
dearest Write purge = omega arith
dearest Write both = omega arith
dearest Fetch none = omega arith
dearest Fetch flush = omega arith
dearest Fetch purge = omega arith
dearest Fetch both = omega arith
dearest DeviceRead none = omega arith
dearest DeviceRead flush = omega arith
dearest DeviceRead purge = omega arith
dearest DeviceRead both = omega arith
dearest DeviceWrite none = omega arith
dearest DeviceWrite flush = omega arith
dearest DeviceWrite purge = omega arith
dearest DeviceWrite both = omega arith

-- ---- room

-- a charge of 0 is never refused, nor one that keeps within the limit
pub nothing_due : (held : ℕ) → overdrawn held 0 ≡ false
unfolding overdrawn
nothing_due held = refl

pub within : (held cycles : ℕ) → held + cycles ≤ limit → overdrawn held cycles ≡ false
unfolding overdrawn
within held cycles h = go (ltb 0 cycles)
  where
    go : (t : Bool) → (t && ltb limit (held + cycles)) ≡ false
    go true = le-ltb limit (held + cycles) h
    go false = refl

-- what is not refused is 0, or keeps within the limit
pub not_overdrawn : (held cycles : ℕ) → overdrawn held cycles ≡ false → 0 < cycles → held + cycles ≤ limit
unfolding overdrawn
not_overdrawn held cycles e some = ltb-false limit (held + cycles) (sym (ap (λ (t : Bool). t && ltb limit (held + cycles)) (lt-ltb 0 cycles some)) ∙ e)

-- so its sum with what the account holds fits a word
pub fits : (held cycles : ℕ) → held < 4294967296 → overdrawn held cycles ≡ false → held + cycles < 4294967296
fits held zero h e = omega arith
fits held (suc n) h e = let l = not_overdrawn held (suc n) e (omega arith) in omega arith

-- ---- what a charge leaves

module _ (accounts : List ℕ) (k cycles : ℕ) where
  pub charged_length : length (charged accounts k cycles) ≡ length accounts
  unfolding charged
  charged_length = length-set accounts k (balance accounts k + cycles)

  pub charged_same : k < length accounts → balance (charged accounts k cycles) k ≡ balance accounts k + cycles
  unfolding charged
  charged_same h = get_or-set_same accounts k (balance accounts k + cycles) 0 h

  pub charged_other : (j : ℕ) → j ≢ k → balance (charged accounts k cycles) j ≡ balance accounts j
  unfolding charged
  charged_other j ne = get_or-set_other accounts k j (balance accounts k + cycles) 0 ne
