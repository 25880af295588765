-- The ends of the runs: a load that finds a wrong word, and a device's read where memory's word is wrong.
use mathlib.Core.Path.{◌≡◌, refl, sym, ap, subst, ◌∙◌}
use mathlib.Core.Bool.{Bool, true, false}
use mathlib.Core.List.{List, [], ◌∷◌}
use mathlib.Core.Logic.{inl, inr, ◌≢◌}
use mathlib.Core.Option.{Option, some}
use Prim.Native.Nat.{ℕ, ◌<◌}
use borrow.Author.Tests.{eqb-true}
use lib.Dec.{eqb}
use lib.ListN.{length, get_or, replicate, length-replicate}
use Rattle.board.specs.declared.Board.{Board}
use Rattle.board.specs.Board.{Regular, cache_pages}
use Rattle.page_model.specs.Busy.{free, writing, bars}
use Rattle.page_model.specs.Table.{ColourState, dirty, stale}
use Rattle.manager.specs.Refusals.{first_refusal}
use Rattle.cache.specs.Cache.{read_word}
use Rattle.cache.specs.Store as hardware_store
use Rattle.cache.specs.Store.{Store, memory_word}
use Rattle.cache.proofs.Laws.Device.{device_read_word}
use Rattle.cache.proofs.Laws.Loads.{read_word_same}
use Rattle.machine.specs.Call.{perform}
use Rattle.machine.specs.Refusals.{causes}
use Rattle.machine.specs.State as call
use Rattle.machine.specs.State.{State, Call, single, Result}
use Rattle.machine.specs.Step.{carry_out_by, accept}
use Rattle.consistency.specs.Cacheless.{Cacheless, after_accepted}
use Rattle.consistency.specs.Demand3.{page_word}
use Rattle.necessity.specs.Action.{Action, device_read, step_of, InRange}
use Rattle.necessity.specs.Without.{Sends, FindsWrong}
use Rattle.necessity.proofs.Acted.{change, ordered, accept_is, clear}
use Rattle.necessity.proofs.CellLaws.{loads, through_unflushed, load_own_idle, device, flushing_unflushed}
use Rattle.necessity.proofs.Here.{quiet_memory, ordered_kept, ordered_line}
use Rattle.necessity.proofs.In.{In, made, in_end, accepts_end}
use Rattle.necessity.proofs.Loads.{LoadAt, load, load_at, load_steps, load_range, load_bars, load_word, load_wrong, load_sends}
use Rattle.necessity.proofs.Run.{perform_is, not_refused, after_call}

-- some calls, one of which finds a wrong word
pub record Later (b : Board) (st : State) (m : Cacheless) : Type 0 where
  pub calls : List Call
  pub sends : Sends calls
  pub wrong : FindsWrong b st m calls

module _ (b : Board) (reg : Regular b) (f : ℕ) (hf : f < b.frames) (states : ℕ → ColourState) where
  -- ---- a load through a page that is not stale, where no other is dirty

  module _ (mark : ℕ) (st : State) (m : Cacheless) (now : In b f states mark st.tables m) (kept : hardware_store.WellFormedStore b st.store) (x p : ℕ) (hx : x < cache_pages b)
      (hp : p < b.page) (fresh : states x ≢ stale) (alone : (k : ℕ) → x ≢ k → states k ≢ dirty) (open-mark : eqb mark writing ≡ false)
      (wrong : read_word b f x p st.store ≢ m.word f p) where
    abbrev finds : Action
    finds = load b x p

    is_load : LoadAt b p x finds
    is_load = load_at b x p hx

    range : InRange b finds
    range = load_range is_load hp

    unbarred : bars mark (step_of b finds) ≡ false
    unbarred = load_bars is_load mark ∙ open-mark

    abbrev found_in : Store
    found_in = ordered b st f (change b st f finds).ops

    load_clear : first_refusal (causes b st (made b f finds)) ≡ 0
    load_clear = clear b reg f hf states mark st m now kept finds range unbarred

    -- its orders leave what it finds
    found_same : read_word b f x p found_in ≡ read_word b f x p st.store
    found_same =
        let line = ordered_line b reg f hf states mark st m now kept finds range unbarred x p hx hp (load_own_idle (load_steps is_load) (states x) fresh) in
        read_word_same b reg f x p hf hx hp st.store found_in kept (ordered_kept b reg f hf states mark st m now kept finds range unbarred) line.tag line.word
        (quiet_memory b reg f hf states mark st m now kept finds (λ k hk. through_unflushed (loads x _ (load_steps is_load)) (states k) k (alone k)) p)

    load_answered : (perform b st (single (made b f finds))).answer.word ≡ some (read_word b f x p st.store)
    load_answered =
        ap (λ (r : Result). r.answer.word) (perform_is b st (made b f finds) load_clear ∙ accept_is b reg f hf states mark st m now kept finds range)
        ∙ load_word is_load f found_in
        ∙ ap some found_same

    pub load_found : Later b st m
    load_found =
        record {
          calls = single (made b f finds) ∷ [];
          sends = (load_sends is_load f, tt);
          wrong = inl (
            not_refused b st (made b f finds) load_clear,
            load_wrong is_load f m _ (read_word b f x p st.store, m.word f p, load_answered, ap (λ (y : Option ℕ). page_word m y p) (now.framed x hx), wrong),
          );
        }

  -- ---- a device's read where no colour is dirty

  module _ (clean : (k : ℕ) → k < b.colours → states k ≢ dirty) (o : ℕ) (ho : o < b.page) where
    abbrev reads : Action
    reads = device_read (replicate b.page 0)

    long : length (replicate {A = ℕ} b.page 0) ≡ b.page
    long = length-replicate b.page 0

    module _ (st : State) (m : Cacheless) (now : In b f states free st.tables m) (kept : hardware_store.WellFormedStore b st.store) (off : memory_word b st.store f o ≢ m.word f o) where
      device_clear : first_refusal (causes b st (made b f reads)) ≡ 0
      device_clear = clear b reg f hf states free st m now kept reads long refl

      abbrev read_from : Store
      read_from = ordered b st f (change b st f reads).ops

      memory_same : memory_word b read_from f o ≡ memory_word b st.store f o
      memory_same = quiet_memory b reg f hf states free st m now kept reads (λ k hk. flushing_unflushed device b.colours k (states k) (clean k hk)) o

      memory_answered : get_or (perform b st (single (made b f reads))).answer.buffer o 0 ≡ memory_word b st.store f o
      memory_answered =
          ap (λ (r : Result). get_or r.answer.buffer o 0) (perform_is b st (made b f reads) device_clear ∙ accept_is b reg f hf states free st m now kept reads long)
          ∙ device_read_word b reg f hf read_from (ordered_kept b reg f hf states free st m now kept reads long refl) o ho
          ∙ memory_same

      memory_calls : FindsWrong b st m (single (made b f reads) ∷ [])
      memory_calls = inl (not_refused b st (made b f reads) device_clear, (o, ho, λ e. off (sym memory_answered ∙ e)))

    -- after the end of a transfer, if there is one
    module _ (mark : ℕ) (st : State) (m : Cacheless) (now : In b f states mark st.tables m) (kept : hardware_store.WellFormedStore b st.store)
        (off : memory_word b st.store f o ≢ m.word f o) where
      ended : FindsWrong b (accept b st (call.end_transfer f)).after (after_accepted m (call.end_transfer f)) (single (made b f reads) ∷ [])
      unfolding accept after_accepted carry_out_by
      ended = memory_calls (accept b st (call.end_transfer f)).after m (in_end b reg f hf states mark st.tables m now m refl) kept off

      pub memory_found : Later b st m
      memory_found = go (eqb mark free) refl
        where
          go : (t : Bool) → eqb mark free ≡ t → Later b st m
          go true e =
              record {
                calls = single (made b f reads) ∷ [];
                sends = (tt, tt);
                wrong = memory_calls st m (subst (λ (x : ℕ). In b f states x st.tables m) (eqb-true mark free e) now) kept off;
              }
          go false e =
              record {
                calls = single (call.end_transfer f) ∷ single (made b f reads) ∷ [];
                sends = (tt, (tt, tt));
                wrong =
                    inr
                    (after_call b st (call.end_transfer f) (accepts_end b reg f hf states mark st m now kept e) m (λ t n. FindsWrong b t n (single (made b f reads) ∷ [])) ended);
              }
