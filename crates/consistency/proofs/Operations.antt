-- The operations of a step, carried out: the frame's lines then fit the states after the step, and other frames' are as they were.
use mathlib.Core.Path.{◌≡◌, refl}
use mathlib.Core.Bool.{true}
use mathlib.Core.Logic.{◌≢◌}
use Prim.Native.Nat.{ℕ, ◌<◌}
use Rattle.board.specs.declared.Board.{Board}
use Rattle.board.specs.Board.{Regular}
use Rattle.page_model.specs.declared.FrameRecord.{FrameRecord}
use Rattle.page_model.specs.Record.{keeps_rules}
use Rattle.page_model.specs.Step.{OpBelow, stepped}
use Rattle.page_model.specs.Table.{ColourState, Step}
use Rattle.page_model.proofs.Theorems.{operations_below}
use Rattle.manager.specs.Answers.{operation_on, accepted}
use Rattle.cache.specs.Cache.{FlushKind}
use Rattle.cache.specs.Store.{Store, WellFormedStore}
use Rattle.machine.specs.Step.{operate_by, carry_out_by}
use Rattle.machine.proofs.StoreLaws.{operate_kept}
use Rattle.consistency.proofs.Agrees.{Tagged, Agrees}
use Rattle.consistency.proofs.StatesLeft.{first, second, both_left, after_weaker, spares_first, spares_second}
use Rattle.consistency.proofs.Operate.{states_left, operate_other, operate_tagged, operate_agrees}
use Rattle.consistency.proofs.Pages.{page_states, pages_after}
use Rattle.consistency.proofs.Table.{Spares}
use Rattle.consistency.proofs.Weaker.{weaken, weaken_tagged}

-- the store after the orders of a step of frame f, whose record is r
abbrev pub ordered : Board → FlushKind → ℕ → Step → FrameRecord → Store → Store
ordered b how f step r s = carry_out_by b how (accepted f (stepped b.colours step r).ops) s

module _ (b : Board) (reg : Regular b) (how : FlushKind) (f : ℕ) (hf : f < b.frames) (s : Store) (wf : WellFormedStore b s) (step : Step) (r : FrameRecord)
    (rules : keeps_rules b.colours r ≡ true) where
  first_below : OpBelow b.colours (first b.colours step r)
  first_below = (operations_below b.colours step r).1

  second_below : OpBelow b.colours (second b.colours step r)
  second_below = (operations_below b.colours step r).2

  -- between the two
  between : Store
  between = operate_by b how (operation_on f (first b.colours step r)) s

  between_kept : WellFormedStore b between
  unfolding between
  between_kept = operate_kept b reg how f hf (first b.colours step r) first_below s wf

  pub ordered_kept : WellFormedStore b (ordered b how f step r s)
  unfolding carry_out_by between
  ordered_kept = operate_kept b reg how f hf (second b.colours step r) second_below between between_kept

  pub ordered_other : (g : ℕ) → g < b.frames → (states : ℕ → ColourState) (words : ℕ → ℕ) → g ≢ f → Agrees b g states words s → Agrees b g states words (ordered b how f step r s)
  unfolding carry_out_by between
  ordered_other g hg states words ne a =
      operate_other b reg how f hf between between_kept (second b.colours step r) second_below g hg states words ne
      (operate_other b reg how f hf s wf (first b.colours step r) first_below g hg states words ne a)

  pub ordered_tagged : Tagged b f (page_states b.colours r) s → Tagged b f (pages_after b.colours step r) (ordered b how f step r s)
  unfolding carry_out_by between
  ordered_tagged t =
      weaken_tagged b f (both_left b.colours step r) (pages_after b.colours step r) (after_weaker b.colours step r rules) (ordered b how f step r s)
      (operate_tagged b reg how f hf between between_kept (second b.colours step r) second_below (states_left b.colours (first b.colours step r) (page_states b.colours r))
      (operate_tagged b reg how f hf s wf (first b.colours step r) first_below (page_states b.colours r) t))

  pub ordered_agrees : (words : ℕ → ℕ) → Spares step → Agrees b f (page_states b.colours r) words s → Agrees b f (pages_after b.colours step r) words (ordered b how f step r s)
  unfolding carry_out_by between
  ordered_agrees words spares a =
      weaken b f (both_left b.colours step r) (pages_after b.colours step r) (after_weaker b.colours step r rules) (ordered b how f step r s) words
      (operate_agrees b reg how f hf between between_kept (second b.colours step r) second_below (states_left b.colours (first b.colours step r) (page_states b.colours r)) words
      (spares_second b.colours step r rules spares (second b.colours step r) refl)
      (operate_agrees b reg how f hf s wf (first b.colours step r) first_below (page_states b.colours r) words
      (spares_first b.colours step r rules spares (first b.colours step r) refl) a))
