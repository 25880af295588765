-- A device's accepted transfers: its read finds the cacheless memory's words, its write puts the buffer's there, of a page or of a part.
use mathlib.Core.Path.{◌≡◌, refl, sym, ap, ◌∙◌, fun_ext, subst}
use mathlib.Core.Bool.{Bool, true, false, cond}
use mathlib.Core.List.{List}
use mathlib.Core.Logic.{◌≢◌}
use Prim.Native.Nat.{ℕ, ◌+◌, ◌≤◌, ◌<◌}
use native.Mathlib.Omega.{arith}
use lib.Dec.{ltb}
use lib.ListN.{length, get_or}
use borrow.Author.Tests.{eq-eqb, ne_eqb, ltb-false}
use Rattle.board.specs.declared.Board.{Board}
use Rattle.board.specs.Board.{Regular, cache_pages, line_of}
use Rattle.page_model.specs.declared.FrameRecord.{FrameRecord}
use Rattle.page_model.specs.Busy.{bars}
use Rattle.page_model.specs.Record.{is_held}
use Rattle.page_model.specs.Table as table
use Rattle.manager.specs.Calls.{change_of, commit_change}
use Rattle.manager.specs.Refusals.{first_refusal}
use Rattle.manager.specs.Tables.{record_at, tabulate}
use Rattle.manager.proofs.Laws.{is_tabulate}
use Rattle.cache.specs.Cache as hardware
use Rattle.cache.specs.Current.{received}
use Rattle.cache.specs.Store.{Store, WellFormedStore, tag_at, memory_word}
use Rattle.cache.specs.Tag.{dirty_tag}
use Rattle.cache.proofs.Laws.Device.{device_read_length, device_read_word, device_write_kept, device_write_tags, device_write_words}
use Rattle.cache.proofs.Current.Device.{device_current_other, device_current_same}
use Rattle.machine.specs.Refusals.{causes}
use Rattle.machine.specs.State.{State, state, device_read, device_write, device_write_part}
use Rattle.machine.proofs.StepLaws.{cleared, effect_tested, part_ready}
use Rattle.machine.proofs.Parts.{whole_refusal_lem}
use Rattle.cache.specs.Cache.{FlushKind}
use Rattle.consistency.specs.Cacheless.{Cacheless, cacheless, sent, after_accepted}
use Rattle.consistency.specs.Flushes.{accept_by}
use Rattle.consistency.proofs.Pages.{page_states, pages_after, HoldsNone, write_holds_none, part_holds_none, holds_none, device_read_clean}
use Rattle.consistency.proofs.Agrees.{Tagged, Agrees, Untouched, emptied, untouched_tagged, untouched_agrees}
use Rattle.consistency.proofs.Commit.{commit_invariant}
use Rattle.consistency.proofs.Invariant.{Invariant, Taken}
use Rattle.consistency.proofs.Operations.{ordered, ordered_kept, ordered_other, ordered_tagged, ordered_agrees}
use Rattle.consistency.proofs.Table.{Spares}

module _ (b : Board) (reg : Regular b) (how : FlushKind) (st : State) (m : Cacheless) (inv : Invariant b st m) (f : ℕ) (hf : f < b.frames) where
  r : FrameRecord
  r = record_at st.tables.records f

  -- ---- memory to device

  cleaned : Store
  cleaned = ordered b how f table.device_read (record_at st.tables.records f) st.store

  cleaned_kept : WellFormedStore b cleaned
  unfolding cleaned
  cleaned_kept = ordered_kept b reg how f hf st.store inv.kept table.device_read (record_at st.tables.records f) (inv.sound.record_rules f hf)

  cleaned_own : Agrees b f (pages_after b.colours table.device_read r) (m.word f) cleaned
  unfolding cleaned r
  cleaned_own =
      ordered_agrees b reg how f hf st.store inv.kept table.device_read (record_at st.tables.records f) (inv.sound.record_rules f hf) (m.word f) refl (inv.agrees f hf)

  cleaned_other : (g : ℕ) → g < b.frames → g ≢ f → Agrees b g (page_states b.colours (record_at st.tables.records g)) (m.word g) cleaned
  unfolding cleaned
  cleaned_other g hg ne =
      ordered_other b reg how f hf st.store inv.kept table.device_read (record_at st.tables.records f) (inv.sound.record_rules f hf) g hg
      (page_states b.colours (record_at st.tables.records g)) (m.word g) ne (inv.agrees g hg)

  -- no line of the frame is dirty, so memory has its words
  read_words : hardware.device_read b f cleaned ≡ tabulate b.page (m.word f)
  read_words =
      is_tabulate (hardware.device_read b f cleaned) b.page (m.word f) (device_read_length b reg f hf cleaned cleaned_kept)
      (λ o ho.
      device_read_word b reg f hf cleaned cleaned_kept o ho
      ∙ cleaned_own.current.in_memory o ho (λ c hc d. device_read_clean b.colours r c (cleaned_own.tagged.dirty_colour c o hc ho d)))

  read_taken : (buffer : List ℕ) → bars (record_at st.tables.records f).busy table.device_read ≡ false → Taken b how st m (device_read f buffer)
  unfolding accept_by after_accepted cleaned r
  read_taken buffer free = (read_words, commit_invariant b st m inv f hf table.device_read free cleaned m.word cleaned_kept cleaned_own cleaned_other)

  -- ---- device to memory, from offset first on, by a step that leaves no colour present or dirty

  module _ (step : table.Step) (none_held : HoldsNone step) (free : bars (record_at st.tables.records f).busy step ≡ false) where
    swept : Store
    swept = ordered b how f step (record_at st.tables.records f) st.store

    swept_kept : WellFormedStore b swept
    unfolding swept
    swept_kept = ordered_kept b reg how f hf st.store inv.kept step (record_at st.tables.records f) (inv.sound.record_rules f hf)

    swept_tagged : Tagged b f (pages_after b.colours step r) swept
    unfolding swept r
    swept_tagged = ordered_tagged b reg how f hf st.store inv.kept step (record_at st.tables.records f) (inv.sound.record_rules f hf) (inv.agrees f hf).tagged

    swept_other : (g : ℕ) → g < b.frames → g ≢ f → Agrees b g (page_states b.colours (record_at st.tables.records g)) (m.word g) swept
    unfolding swept
    swept_other g hg ne =
        ordered_other b reg how f hf st.store inv.kept step (record_at st.tables.records f) (inv.sound.record_rules f hf) g hg
        (page_states b.colours (record_at st.tables.records g)) (m.word g) ne (inv.agrees g hg)

    swept_clean : (c o : ℕ) → c < cache_pages b → o < b.page → tag_at swept (line_of b c o) ≡ dirty_tag f → ⊥
    swept_clean c o hc ho d = holds_none b.colours r step none_held c (ap is_held (swept_tagged.dirty_colour c o hc ho d))

    -- a step that purges no dirty colour keeps every word
    swept_words : Spares step → (o : ℕ) → o < b.page → memory_word b swept f o ≡ m.word f o
    unfolding swept
    swept_words spares o ho =
        (ordered_agrees b reg how f hf st.store inv.kept step (record_at st.tables.records f) (inv.sound.record_rules f hf) (m.word f) spares (inv.agrees f hf)
        ).current.in_memory o ho (λ c hc d. swept_clean c o hc ho d)

    module _ (first : ℕ) (buffer : List ℕ) (inside : first + length buffer ≤ b.page)
        (rest : (o : ℕ) → o < b.page → (first ≤ o → o < first + length buffer → ⊥) → memory_word b swept f o ≡ m.word f o) where
      put : Store
      put = hardware.device_write b f first buffer swept

      put_untouched : (g : ℕ) → Untouched b g swept put
      unfolding put
      put_untouched =
          emptied b reg swept put (λ n g l e. ap (λ (t : List ℕ). get_or t n 0) (device_write_tags b reg f hf swept swept_kept first buffer inside))
          (device_write_words b reg f hf swept swept_kept first buffer inside)

      own_words : received first buffer (m.word f) ≡ sent m.word f first buffer f
      own_words = fun_ext (λ o. rw (eq-eqb f f refl))

      other_words : (g : ℕ) → g ≢ f → m.word g ≡ sent m.word f first buffer g
      other_words g ne = fun_ext (λ o. rw (ne_eqb f g (λ e. ne (sym e))))

      put_own : Agrees b f (pages_after b.colours step r) (received first buffer (m.word f)) put
      unfolding put
      put_own =
          record {
            tagged = untouched_tagged b f (pages_after b.colours step r) swept put (put_untouched f) swept_tagged;
            held_words = λ c o hc ho n h. absurd (holds_none b.colours r step none_held c h);
            current = device_current_same b reg f hf first buffer inside swept swept_kept (m.word f) swept_clean rest;
          }

      put_other : (g : ℕ) → g < b.frames → g ≢ f → Agrees b g (page_states b.colours (record_at st.tables.records g)) (m.word g) put
      unfolding put
      put_other g hg ne =
          let a = swept_other g hg ne in
          untouched_agrees b g (page_states b.colours (record_at st.tables.records g)) swept put (put_untouched g) (m.word g)
          (device_current_other b reg f hf first buffer inside swept swept_kept g (m.word g) ne a.current) a

      put_invariant : Invariant b
          (state (commit_change b st.tables f (change_of b st.tables f step).next)
          (hardware.device_write b f first buffer (ordered b how f step (record_at st.tables.records f) st.store)))
          (cacheless (sent m.word f first buffer) m.frame)
      unfolding swept put r
      put_invariant =
          commit_invariant b st m inv f hf step free put (sent m.word f first buffer) (device_write_kept b reg f hf swept swept_kept first buffer inside)
          (subst (λ (x : ℕ → ℕ). Agrees b f (pages_after b.colours step r) x put) own_words put_own)
          (λ g hg ne. subst (λ (x : ℕ → ℕ). Agrees b g (page_states b.colours (record_at st.tables.records g)) x put) (other_words g ne) (put_other g hg ne))

  -- fewer words than a page has are put by a step that keeps the others; all of them leave no other
  part_taken : (first number : ℕ) (buffer : List ℕ) → length buffer ≡ number → first + number ≤ b.page
      → bars (record_at st.tables.records f).busy table.device_write_part ≡ false → Taken b how st m (device_write_part f first number buffer)
  unfolding accept_by after_accepted
  part_taken first number buffer long fits free = (tt, go (ltb number b.page) refl)
    where
      inside : first + length buffer ≤ b.page
      inside = omega arith

      go : (fewer : Bool) → ltb number b.page ≡ fewer → Invariant b
          (state (commit_change b st.tables f (change_of b st.tables f (cond fewer table.device_write_part table.device_write)).next)
          (hardware.device_write b f first buffer (ordered b how f (cond fewer table.device_write_part table.device_write) (record_at st.tables.records f) st.store)))
          (cacheless (sent m.word f first buffer) m.frame)
      go true e = put_invariant table.device_write_part part_holds_none free first buffer inside (λ o ho out. swept_words table.device_write_part part_holds_none free refl o ho)
      go false e =
          let all = ltb-false number b.page e in
          put_invariant table.device_write write_holds_none free first buffer inside (λ o ho out. absurd (out (omega arith) (omega arith)))

  page_taken : (buffer : List ℕ) → length buffer ≡ b.page → bars (record_at st.tables.records f).busy table.device_write ≡ false → Taken b how st m (device_write f buffer)
  unfolding accept_by after_accepted
  page_taken buffer long free =
      (tt, put_invariant table.device_write write_holds_none free 0 buffer (omega arith) (λ o ho out. absurd (out (omega arith) (omega arith))))

-- ---- the calls

module _ (b : Board) (reg : Regular b) (how : FlushKind) (st : State) (m : Cacheless) (inv : Invariant b st m) (f : ℕ) where
  pub device_read_taken : (buffer : List ℕ) → first_refusal (causes b st (device_read f buffer)) ≡ 0 → Taken b how st m (device_read f buffer)
  device_read_taken buffer e = let tested = effect_tested b st (device_read f buffer) e in read_taken b reg how st m inv f tested.0 buffer tested.1

  pub device_write_part_taken : (first number : ℕ) (buffer : List ℕ) → first_refusal (causes b st (device_write_part f first number buffer)) ≡ 0
      → Taken b how st m (device_write_part f first number buffer)
  unfolding causes
  device_write_part_taken first number buffer e =
      let call = device_write_part f first number buffer in
      let h = part_ready b st f first number buffer e in
      part_taken b reg how st m inv f (effect_tested b st call e).0 first number buffer h.0 h.2 (cleared b st call 15 e)

  -- a page is all its words
  pub device_write_taken : (buffer : List ℕ) → first_refusal (causes b st (device_write f buffer)) ≡ 0 → Taken b how st m (device_write f buffer)
  device_write_taken buffer e =
      let h = part_ready b st f 0 b.page buffer (whole_refusal_lem b reg.has_page_words st f buffer ∙ e) in
      let tested = effect_tested b st (device_write f buffer) e in
      page_taken b reg how st m inv f tested.0 buffer h.0 tested.1
