-- A transfer of all words of a page, from offset 0 on, is the transfer of the page.
use mathlib.Core.Path.{◌≡◌, ap, ap₂}
use mathlib.Core.Bool.{Bool, false, cond}
use Prim.Native.Nat.{ℕ, ◌+◌, ◌<◌}
use native.Mathlib.Omega.{arith}
use borrow.Author.Tests.{ne_eqb, le-ltb}
use Rattle.board.specs.declared.Board.{Board}
use Rattle.page_model.specs.Table.{Step, device_write, device_write_part}
use Rattle.manager.specs.Calls.{change_of, planned, plan_transfer, write_step, plan_device_write_part}
use Rattle.manager.specs.Refusals.{first_refusal, out_of_page, transfer_causes, part_causes}
use Rattle.manager.specs.Tables.{Tables}

module _ (b : Board) (some : 0 < b.page) where
  pub whole_inside : out_of_page b 0 b.page ≡ false
  whole_inside = rw (ne_eqb b.page 0 (λ z. omega arith), le-ltb b.page (0 + b.page) (omega arith))

  pub whole_step : write_step b b.page ≡ device_write
  whole_step = ap (λ (t : Bool). cond t device_write_part device_write) (le-ltb b.page b.page (omega arith))

  whole_refusal_lem : (t : Tables) (frame : ℕ) → first_refusal (part_causes b t frame 0 b.page) ≡ first_refusal (transfer_causes b t frame device_write)
  unfolding first_refusal part_causes transfer_causes
  whole_refusal_lem t frame = rw whole_inside

  pub whole_plan : (t : Tables) (frame : ℕ) → plan_device_write_part b t frame 0 b.page ≡ plan_transfer b t frame device_write
  whole_plan t frame = ap₂ (λ (n : ℕ) (s : Step). planned n (change_of b t frame s)) (whole_refusal_lem t frame) whole_step
