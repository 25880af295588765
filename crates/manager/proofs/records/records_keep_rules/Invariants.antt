-- `manager::records_keep_rules` meets its contract.
use mathlib.Core.Path.{◌≡◌}
use mathlib.Core.Bool.{true}
use Prim.Native.Nat.{ℕ, ◌<◌}
use Rattle.page_model.specs.Record.{keeps_rules}
use Rattle.manager.specs.Tables.{record_at}
use Rattle.manager.proofs.records.records_keep_rules.Given as goal

abbrev pub invariant-loop-frame : goal.invariant-loop-frame
invariant-loop-frame l = (k : ℕ) → k < l.frame → keeps_rules l.board.colours (record_at l.records k) ≡ true
