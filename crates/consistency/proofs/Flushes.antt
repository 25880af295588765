-- The machine by either flush: a single call by its refusal, a map, and that the machine whose flush leaves its lines in is this board's.
use mathlib.Core.Path.{◌≡◌, refl, fun_ext}
use mathlib.Core.Option.{none}
use Prim.Native.Nat.{ℕ, suc}
use Rattle.board.specs.declared.Board.{Board}
use Rattle.manager.specs.Answers.{refused}
use Rattle.manager.specs.Refusals.{first_refusal}
use Rattle.cache.specs.Cache.{FlushKind, leaving}
use Rattle.machine.specs.Call.{perform}
use Rattle.machine.specs.Refusals.{causes}
use Rattle.machine.specs.State.{State, Single, Call, single, map_all, Result, lent_buffer}
use Rattle.machine.specs.Step.{operate_by, carry_out_by, answer, result_of, accept, step}
use Rattle.machine.proofs.CallLaws.{by_refusal}
use Rattle.consistency.specs.Flushes.{accept_by, step_by, perform_by, SameMaps}

module _ (b : Board) where
  -- what holds of the accepted call and of every refusal holds of the call
  pub single_cases : (how : FlushKind) (st : State) (call : Single) (P : Result → Type 0) → (first_refusal (causes b st call) ≡ 0 → P (accept_by b how st call))
      → ((n : ℕ) → first_refusal (causes b st call) ≡ suc n → P (result_of (answer (refused (suc n)) none (lent_buffer call)) st))
      → P (step_by b how st call)
  unfolding step_by
  single_cases how st call P = by_refusal (accept_by b how st call) (lent_buffer call) st P (first_refusal (causes b st call))

  pub same_maps : SameMaps b
  unfolding step_by accept_by step accept carry_out_by operate_by
  same_maps how st space page frame rights = refl

  pub performed_here : (st : State) (call : Call) → perform_by b leaving st call ≡ perform b st call
  unfolding perform_by step_by accept_by perform step accept
  performed_here st (single call) = refl
  performed_here st (map_all items answers) = refl

  pub this_machine : perform_by b leaving ≡ perform b
  this_machine = fun_ext (λ st. fun_ext (λ call. performed_here st call))
