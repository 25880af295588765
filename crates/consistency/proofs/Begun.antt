-- Request N6's accepted calls, of a transfer that takes a while: a word that a device takes is the cacheless memory's, and one that it brings
-- changes that at the same moment. While a device reads no colour is dirty, and while it writes none is present or dirty, so no line of the
-- frame is dirty and memory has its words.
use mathlib.Core.Path.{◌≡◌, refl, sym, ap, ap₂, ◌∙◌, fun_ext, subst, subst⁻¹}
use mathlib.Core.Bool.{false, cond, true≢false}
use mathlib.Core.List.{List}
use mathlib.Core.Logic.{◌≢◌}
use mathlib.Core.Option.{Option, some}
use Prim.Native.Nat.{ℕ, ◌-◌, ◌<◌}
use native.Mathlib.Omega.{arith}
use native.Mathlib.Decide.{ℕ_discrete}
use lib.Dec.{ltb}
use lib.ListN.{get_or}
use borrow.Author.Tests.{eqb-true, leb-false, not-false}
use Rattle.board.specs.declared.Board.{Board}
use Rattle.board.specs.Board.{Regular, cache_pages, line_of}
use Rattle.page_model.specs.Busy.{reading, writing, bars}
use Rattle.page_model.specs.Instructions.{InstructionState}
use Rattle.page_model.specs.Record.{state_of, instruction_state_of, is_held, is_dirty, freed}
use Rattle.page_model.specs.Table as table
use Rattle.page_model.specs.Table.{ColourState}
use Rattle.page_model.specs.Theorems.{MarkFits}
use Rattle.page_model.proofs.Theorems.{kept_mark, freed_record}
use Rattle.manager.specs.Calls.{change_of, commit_change}
use Rattle.manager.specs.Refusals.{first_refusal}
use Rattle.manager.specs.Tables.{record_at}
use Rattle.cache.specs.Cache as hardware
use Rattle.cache.specs.Current.{written}
use Rattle.cache.specs.Store.{Store, tag_at, memory_word}
use Rattle.cache.specs.Tag.{dirty_tag}
use Rattle.cache.proofs.Laws.Device.{bring_word_kept, bring_word_tags, bring_word_words}
use Rattle.cache.proofs.Current.Word.{word_current_other, word_current_same}
use Rattle.machine.specs.Refusals.{causes}
use Rattle.machine.specs.State.{State, state, begin_read, begin_write, bring_word, take_word, end_transfer}
use Rattle.machine.proofs.StepLaws.{cleared, effect_tested}
use Rattle.cache.specs.Cache.{FlushKind}
use Rattle.machine.specs.Step.{operate_by, carry_out_by}
use Rattle.consistency.specs.Cacheless.{Cacheless, replaced, after_accepted}
use Rattle.consistency.specs.Flushes.{accept_by}
use Rattle.consistency.proofs.Pages.{as_page, as_page_clean, as_page_held, page_states, page_cases}
use Rattle.consistency.proofs.Agrees.{Agrees, Untouched, emptied, untouched_tagged, untouched_agrees}
use Rattle.consistency.proofs.Commit.{refill_invariant, record_invariant, commit_invariant}
use Rattle.consistency.proofs.Invariant.{Invariant, Taken}
use Rattle.consistency.proofs.Operations.{ordered, ordered_kept, ordered_other, ordered_agrees}
use Rattle.consistency.proofs.Replaced.{own_words, other_words}
use Rattle.consistency.proofs.Table.{Spares}

module _ (b : Board) (reg : Regular b) (how : FlushKind) (st : State) (m : Cacheless) (inv : Invariant b st m) (f : ℕ) (hf : f < b.frames) where
  -- ---- the beginning: a step that purges no dirty colour, and no access after it

  begun : (step : table.Step) → Spares step → bars (record_at st.tables.records f).busy step ≡ false
      → Invariant b (state (commit_change b st.tables f (change_of b st.tables f step).next) (ordered b how f step (record_at st.tables.records f) st.store)) m
  begun step spares free =
      let r = record_at st.tables.records f in
      let rules = inv.sound.record_rules f hf in
      commit_invariant b st m inv f hf step free (ordered b how f step r st.store) m.word (ordered_kept b reg how f hf st.store inv.kept step r rules)
      (ordered_agrees b reg how f hf st.store inv.kept step r rules (m.word f) spares (inv.agrees f hf))
      (λ g hg ne. ordered_other b reg how f hf st.store inv.kept step r rules g hg (page_states b.colours (record_at st.tables.records g)) (m.word g) ne (inv.agrees g hg))

  -- ---- a word

  -- the mark goes with the states
  fits : MarkFits b.colours (record_at st.tables.records f).busy (state_of (record_at st.tables.records f)) (instruction_state_of (record_at st.tables.records f))
  fits = kept_mark b.colours (record_at st.tables.records f) (inv.sound.record_rules f hf)

  -- where no colour is dirty, no line is
  clean : ((c : ℕ) → c < cache_pages b → is_dirty (page_states b.colours (record_at st.tables.records f) c) ≡ false)
      → (c o : ℕ) → c < cache_pages b → o < b.page → tag_at st.store (line_of b c o) ≡ dirty_tag f → ⊥
  clean none c o hc ho d = true≢false (sym (ap is_dirty ((inv.agrees f hf).tagged.dirty_colour c o hc ho d)) ∙ none c hc)

  taken : (o : ℕ) → o < b.page → (record_at st.tables.records f).busy ≡ reading → memory_word b st.store f o ≡ m.word f o
  taken o ho mark = (inv.agrees f hf).current.in_memory o ho (λ c hc d. clean (λ k hk. page_cases (λ s. is_dirty s ≡ false) b.colours k (fits.none_dirty mark k) (λ _. as_page_clean (instruction_state_of (record_at st.tables.records f) (k - b.colours)))) c o hc ho d)

  module _ (o v : ℕ) (ho : o < b.page) (mark : (record_at st.tables.records f).busy ≡ writing) where
    brought : Store
    brought = hardware.bring_word b f o v st.store

    none_held : (c : ℕ) → c < cache_pages b → is_held (page_states b.colours (record_at st.tables.records f) c) ≡ false
    none_held c hc =
        page_cases (λ s. is_held s ≡ false) b.colours c (fits.none_held mark c)
        (λ past. as_page_held (instruction_state_of (record_at st.tables.records f) (c - b.colours)) ∙ fits.none_fetched mark (c - b.colours) (omega arith))

    lines_clean : (c p : ℕ) → c < cache_pages b → p < b.page → tag_at st.store (line_of b c p) ≡ dirty_tag f → ⊥
    lines_clean c p hc hp d = true≢false (sym (ap is_held ((inv.agrees f hf).tagged.dirty_colour c p hc hp d)) ∙ none_held c hc)

    untouched : (g : ℕ) → Untouched b g st.store brought
    unfolding brought
    untouched =
        emptied b reg st.store (hardware.bring_word b f o v st.store)
        (λ n g l e. ap (λ (t : List ℕ). get_or t n 0) (bring_word_tags b reg f hf st.store inv.kept o v ho))
        (bring_word_words b reg f hf st.store inv.kept o v ho)

    own : Agrees b f (page_states b.colours (record_at st.tables.records f)) (written o v (m.word f)) brought
    unfolding brought
    own =
        let a = inv.agrees f hf in
        record {
          tagged = untouched_tagged b f (page_states b.colours (record_at st.tables.records f)) st.store brought (untouched f) a.tagged;
          held_words = λ c p hc hp n h. absurd (true≢false (sym h ∙ none_held c hc));
          current = word_current_same b reg f hf o v ho st.store inv.kept (m.word f) lines_clean a.current;
        }

    others : (g : ℕ) → g < b.frames → g ≢ f → Agrees b g (page_states b.colours (record_at st.tables.records g)) (m.word g) brought
    unfolding brought
    others g hg ne =
        let a = inv.agrees g hg in
        untouched_agrees b g (page_states b.colours (record_at st.tables.records g)) st.store brought (untouched g) (m.word g)
        (word_current_other b reg f hf o v ho st.store inv.kept g (m.word g) ne a.current) a

    every : (g : ℕ) → g < b.frames → Dec (g ≡ f) → Agrees b g (page_states b.colours (record_at st.tables.records g)) (replaced m.word f o v g) brought
    every g hg (no ne) = subst (λ (x : ℕ → ℕ). Agrees b g (page_states b.colours (record_at st.tables.records g)) x brought) (other_words m.word f o v g ne) (others g hg ne)
    every g hg (yes e) =
        subst⁻¹ (λ (x : ℕ). Agrees b x (page_states b.colours (record_at st.tables.records x)) (replaced m.word f o v x) brought) e
        (subst (λ (x : ℕ → ℕ). Agrees b f (page_states b.colours (record_at st.tables.records f)) x brought) (own_words m.word f o v) own)

    brings : Taken b how st m (bring_word f o v)
    unfolding accept_by carry_out_by operate_by after_accepted brought
    brings =
        (tt, refill_invariant b st m inv brought (replaced m.word f o v) (bring_word_kept b reg f hf st.store inv.kept o v ho) (λ g hg. every g hg (ℕ_discrete g f)))

  -- ---- the end

  ends : Taken b how st m (end_transfer f)
  unfolding accept_by carry_out_by operate_by after_accepted
  ends =
      let r = record_at st.tables.records f in
      let e = freed_record b.colours r (inv.sound.record_rules f hf) in
      let same : page_states b.colours r ≡ page_states b.colours (freed r) = fun_ext (λ k. ap₂ (λ (x : ColourState) (y : InstructionState). cond (ltb k b.colours) x (as_page y)) (sym (e.1 k)) (sym (e.2 (k - b.colours)))) in (
        tt,
        record_invariant b st m inv f hf (freed r) e.0 st.store m.word inv.kept
            (subst (λ (x : ℕ → ColourState). Agrees b f x (m.word f) st.store) same (inv.agrees f hf))
            (λ g hg ne. inv.agrees g hg),
      )

-- ---- the calls

module _ (b : Board) (reg : Regular b) (how : FlushKind) (st : State) (m : Cacheless) (inv : Invariant b st m) (f : ℕ) where
  pub begin_read_taken : first_refusal (causes b st (begin_read f)) ≡ 0 → Taken b how st m (begin_read f)
  unfolding accept_by after_accepted
  begin_read_taken e = let tested = effect_tested b st (begin_read f) e in (tt, begun b reg how st m inv f tested.0 table.begin_read refl tested.1)

  pub begin_write_taken : first_refusal (causes b st (begin_write f)) ≡ 0 → Taken b how st m (begin_write f)
  unfolding accept_by after_accepted
  begin_write_taken e = let tested = effect_tested b st (begin_write f) e in (tt, begun b reg how st m inv f tested.0 table.begin_write refl tested.1)

  pub bring_word_taken : (o v : ℕ) → first_refusal (causes b st (bring_word f o v)) ≡ 0 → Taken b how st m (bring_word f o v)
  unfolding causes
  bring_word_taken o v e =
      let call = bring_word f o v in
      brings b reg how st m inv f (leb-false b.frames f (cleared b st call 4 e)) o v (leb-false b.page o (cleared b st call 6 e))
      (eqb-true _ _ (not-false _ (cleared b st call 16 e)))

  pub take_word_taken : (o : ℕ) → first_refusal (causes b st (take_word f o)) ≡ 0 → Taken b how st m (take_word f o)
  unfolding causes accept_by carry_out_by operate_by after_accepted
  take_word_taken o e =
      let call = take_word f o in (
        ap {B = Option ℕ} some
            (taken b reg how st m inv f (leb-false b.frames f (cleared b st call 4 e)) o (leb-false b.page o (cleared b st call 6 e))
            (eqb-true _ _ (not-false _ (cleared b st call 16 e)))),
        refill_invariant b st m inv st.store m.word inv.kept (λ g hg. inv.agrees g hg),
      )

  pub end_transfer_taken : first_refusal (causes b st (end_transfer f)) ≡ 0 → Taken b how st m (end_transfer f)
  end_transfer_taken e = ends b reg how st m inv f (effect_tested b st (end_transfer f) e)
