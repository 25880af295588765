-- An accepted eviction loses no word and leaves no line that was not there.
use mathlib.Core.Path.{◌≡◌}
use Prim.Native.Nat.{ℕ, ◌<◌}
use Rattle.board.specs.declared.Board.{Board}
use Rattle.board.specs.Board.{Regular, lines}
use Rattle.manager.specs.Refusals.{first_refusal}
use Rattle.manager.specs.Tables.{record_at, refill}
use Rattle.cache.specs.Cache as hardware
use Rattle.cache.proofs.Laws.Evict.{evict_kept, evict_words, evict_tag_from}
use Rattle.cache.proofs.Current.Line.{evict_current}
use Rattle.machine.specs.Refusals.{causes}
use Rattle.machine.specs.State.{State, state, evict}
use Rattle.machine.proofs.StepLaws.{evict_ready}
use Rattle.cache.specs.Cache.{FlushKind}
use Rattle.machine.specs.Step.{operate_by, carry_out_by}
use Rattle.consistency.specs.Cacheless.{Cacheless, after_accepted}
use Rattle.consistency.specs.Flushes.{accept_by}
use Rattle.consistency.proofs.Pages.{page_states}
use Rattle.consistency.proofs.Agrees.{emptied, untouched_agrees}
use Rattle.consistency.proofs.Commit.{refill_invariant}
use Rattle.consistency.proofs.Invariant.{Invariant, Taken}

module _ (b : Board) (reg : Regular b) (st : State) (m : Cacheless) (inv : Invariant b st m) (line : ℕ) where
  pub evict_invariant : line < lines b → Invariant b (state (refill b st.tables) (hardware.evict b line st.store)) m
  evict_invariant h =
      refill_invariant b st m inv (hardware.evict b line st.store) m.word (evict_kept b reg st.store inv.kept line h)
      (λ f hf.
      untouched_agrees b f (page_states b.colours (record_at st.tables.records f)) st.store (hardware.evict b line st.store)
      (emptied b reg st.store (hardware.evict b line st.store) (λ n g _ e. evict_tag_from b reg st.store inv.kept line h n g e)
      (evict_words b reg st.store inv.kept line h) f)
      (m.word f) (evict_current b reg line h f (m.word f) st.store inv.kept (inv.agrees f hf).current) (inv.agrees f hf))

  pub evict_taken : (how : FlushKind) → first_refusal (causes b st (evict line)) ≡ 0 → Taken b how st m (evict line)
  unfolding accept_by carry_out_by operate_by after_accepted
  evict_taken how e = (tt, evict_invariant (evict_ready b st line e).1)
