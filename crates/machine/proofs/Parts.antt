-- A device's write of all a page's words, as a part, is its write of the page.
use mathlib.Core.Path.{◌≡◌, ap, ap₂}
use mathlib.Core.List.{List, []}
use mathlib.Core.Option.{none}
use Prim.Native.Nat.{ℕ, zero, suc, ◌<◌}
use Rattle.board.specs.declared.Board.{Board}
use Rattle.page_model.specs.Table.{Step}
use Rattle.manager.specs.Answers.{refused}
use Rattle.manager.specs.Calls.{change_of}
use Rattle.manager.specs.Refusals.{first_refusal}
use Rattle.manager.proofs.Parts.{whole_inside, whole_step}
use Rattle.cache.specs.Cache as hardware
use Rattle.machine.specs.Refusals.{lent_causes, own_causes, causes}
use Rattle.machine.specs.State.{State, device_write, device_write_part, Result}
use Rattle.machine.specs.Step.{answer, result_of, accept, step}
use Rattle.machine.specs.Theorems.{WholePart}
use Rattle.machine.proofs.StepLaws.{stepped_call}

module _ (b : Board) (some : 0 < b.page) (st : State) (frame : ℕ) (buffer : List ℕ) where
  pub whole_refusal_lem : first_refusal (causes b st (device_write_part frame 0 b.page buffer)) ≡ first_refusal (causes b st (device_write frame buffer))
  unfolding first_refusal causes lent_causes own_causes
  whole_refusal_lem = rw (whole_inside b some)

  pub whole_accept : accept b st (device_write_part frame 0 b.page buffer) ≡ accept b st (device_write frame buffer)
  unfolding accept
  whole_accept =
      ap (λ (s : Step). stepped_call b st (change_of b st.tables frame s) (λ x. none) (λ x. []) (hardware.device_write b frame 0 buffer)) (whole_step b some)

pub whole_part : WholePart
unfolding step
whole_part b st frame buffer reg =
    ap₂ (λ (n : ℕ) (made : Result). elim n as (λ m. Result) [ zero ↦ made | suc m ↦ result_of (answer (refused (suc m)) none []) st ])
    (whole_refusal_lem b reg.has_page_words st frame buffer) (whole_accept b reg.has_page_words st frame buffer)
