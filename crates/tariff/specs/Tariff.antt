-- Request N11's table: what a step costs, in whole cycles, by its cause and by which orders it has.
use Rattle.std.specs.Prelude.{Bool, true, false, ◌||◌, List, [], ◌∷◌, ℕ}
use Rattle.page_model.specs.declared.Op.{Op}
use Rattle.page_model.specs.declared.Op.TheVariants.{None, Flush, Purge, PurgeInstructions}
use Rattle.page_model.specs.declared.Ops.{Ops}
use Rattle.tariff.specs.declared.ChargeKind.{ChargeKind}
use Rattle.tariff.specs.declared.ChargeKind.TheVariants.{Read, Write, Fetch, DeviceRead, DeviceWrite}

-- the table's columns: which orders a step has
pub data OrderSet : Type 0 where
  none flush purge both : OrderSet

-- and its rows; the request calls a kind of charge a cause. A begin of a transfer is charged as the transfer is, and a part as a device's write.
abbrev pub tariff : ChargeKind → OrderSet → ℕ
tariff Read none = 0
tariff Read flush = 1910
tariff Read purge = 1590
tariff Read both = 2210
tariff Write none = 0
tariff Write flush = 1970
tariff Write purge = 1650
tariff Write both = 2270
tariff Fetch none = 0
tariff Fetch flush = 2120
tariff Fetch purge = 1800
tariff Fetch both = 2420
tariff DeviceRead none = 0
tariff DeviceRead flush = 930
tariff DeviceRead purge = 0
tariff DeviceRead both = 0
tariff DeviceWrite none = 0
tariff DeviceWrite flush = 920
tariff DeviceWrite purge = 600
tariff DeviceWrite both = 0

-- ---- the column of some orders; a purge in the instruction cache is a purge

abbrev pub is_flush : Op → Bool
is_flush None = false
is_flush (Flush c) = true
is_flush (Purge c) = false
is_flush (PurgeInstructions c) = false

abbrev pub is_purge : Op → Bool
is_purge None = false
is_purge (Flush c) = false
is_purge (Purge c) = true
is_purge (PurgeInstructions c) = true

-- by whether there is a flush among them, and a purge
abbrev pub set_of : Bool → Bool → OrderSet
set_of false false = none
set_of true false = flush
set_of false true = purge
set_of true true = both

abbrev pub order_set : Ops → OrderSet
order_set ops = set_of (is_flush ops.first || is_flush ops.second) (is_purge ops.first || is_purge ops.second)

-- what a step with these orders costs
unfoldable pub charge : ChargeKind → Ops → ℕ
charge kind ops = tariff kind (order_set ops)

-- ---- a row of the code's table, in the order of its columns

abbrev pub rates : ChargeKind → List ℕ
rates kind = tariff kind none ∷ tariff kind flush ∷ tariff kind purge ∷ tariff kind both ∷ []
