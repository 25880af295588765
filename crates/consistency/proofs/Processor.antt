-- Accepted reads, fetches and writes of the processor: a read and a fetch find the cacheless memory's word, and each keeps the invariant.
use mathlib.Core.Path.{◌≡◌, refl, sym, ap, ◌∙◌, subst, subst⁻¹}
use mathlib.Core.Bool.{true, false}
use mathlib.Core.Logic.{◌≢◌}
use mathlib.Core.Option.{Option, some}
use Prim.Native.Nat.{ℕ, ◌<◌}
use borrow.Author.Tests.{not-false, leb-false}
use Rattle.board.specs.declared.Board.{Board}
use Rattle.board.specs.Board.{Regular, cache_pages, instruction_page, colour_of}
use Rattle.board.proofs.Geometry.{colour_of_lt, data_page, instruction_page_lem}
use Rattle.page_model.specs.declared.FrameRecord.{FrameRecord}
use Rattle.page_model.specs.Busy.{bars}
use Rattle.page_model.specs.Table as table
use Rattle.page_model.specs.Record.{is_held}
use Rattle.page_model.specs.Table.{Step, dirty}
use Rattle.manager.specs.Calls.{change_of, commit_change}
use Rattle.manager.specs.Refusals.{first_refusal}
use Rattle.manager.specs.Tables.{record_at}
use Rattle.cache.specs.Cache as hardware
use Rattle.cache.specs.Current.{written}
use Rattle.cache.specs.Store.{Store, WellFormedStore}
use Rattle.cache.proofs.Laws.Access.{access_kept, write_word_kept}
use Rattle.machine.specs.Refusals.{causes}
use Rattle.machine.specs.State.{State, page_frame, state, read, write, fetch}
use Rattle.machine.proofs.StepLaws.{cleared, effect_tested}
use Rattle.cache.specs.Cache.{FlushKind}
use Rattle.consistency.specs.Cacheless.{Cacheless, cacheless, replaced, stored, after_accepted}
use Rattle.consistency.specs.Demand3.{page_word, HasFrame}
use Rattle.consistency.specs.Flushes.{accept_by}
use Rattle.consistency.proofs.Pages.{page_states, pages_after, read_held, read_alone, fetch_held, fetch_clean, write_dirty, write_alone}
use Rattle.consistency.proofs.Access.{access_words, access_own, access_other}
use Rattle.consistency.proofs.Agrees.{Agrees}
use Rattle.consistency.proofs.Commit.{commit_invariant}
use Rattle.consistency.proofs.Invariant.{Invariant, Taken}
use Rattle.consistency.proofs.Mapped.{mapped_frame_lem}
use Rattle.consistency.proofs.Operations.{ordered, ordered_kept, ordered_other, ordered_agrees}
use Rattle.consistency.proofs.Replaced.{own_words, other_words}
use Rattle.consistency.proofs.Table.{Spares}
use Rattle.consistency.proofs.Write.{write_own, write_other}

module _ (b : Board) (reg : Regular b) (how : FlushKind) (st : State) (m : Cacheless) (inv : Invariant b st m) (f : ℕ) (hf : f < b.frames) where
  r : FrameRecord
  r = record_at st.tables.records f

  -- the store after a step's orders
  now : Step → Store
  now step = ordered b how f step (record_at st.tables.records f) st.store

  module _ (step : Step) where
    now_kept : WellFormedStore b (now step)
    unfolding now
    now_kept = ordered_kept b reg how f hf st.store inv.kept step (record_at st.tables.records f) (inv.sound.record_rules f hf)

    now_other : (g : ℕ) → g < b.frames → g ≢ f → Agrees b g (page_states b.colours (record_at st.tables.records g)) (m.word g) (now step)
    unfolding now
    now_other g hg ne =
        ordered_other b reg how f hf st.store inv.kept step (record_at st.tables.records f) (inv.sound.record_rules f hf) g hg
        (page_states b.colours (record_at st.tables.records g)) (m.word g) ne (inv.agrees g hg)

    now_own : Spares step → Agrees b f (pages_after b.colours step r) (m.word f) (now step)
    unfolding now r
    now_own spares =
        ordered_agrees b reg how f hf st.store inv.kept step (record_at st.tables.records f) (inv.sound.record_rules f hf) (m.word f) spares (inv.agrees f hf)

  -- ---- a read or a fetch of offset o through page p of the caches, which its step holds, and after which no other page is dirty

  module _ (p o : ℕ) (hp : p < cache_pages b) (ho : o < b.page) (step : Step) (spares : Spares step) (held : is_held (pages_after b.colours step r p) ≡ true)
      (alone : (d : ℕ) → d ≢ p → pages_after b.colours step r d ≢ dirty) where
    load_word : hardware.read_word b f p o (now step) ≡ m.word f o
    unfolding hardware.read_word
    load_word =
        access_words b reg f p o hf hp ho (now step) (now_kept step) (pages_after b.colours step r) (m.word f) (now_own step spares) held (λ d hd ne. alone d ne) o ho refl

    load_kept : bars (record_at st.tables.records f).busy step ≡ false
        → Invariant b (state (commit_change b st.tables f (change_of b st.tables f step).next) (hardware.access b f p o (now step))) m
    unfolding r
    load_kept free =
        commit_invariant b st m inv f hf step free (hardware.access b f p o (now step)) m.word
        (access_kept b reg f p o hf hp ho (now step) (now_kept step))
        (access_own b reg f p o hf hp ho (now step) (now_kept step) (pages_after b.colours step r) (m.word f) (now_own step spares) held (λ d hd ne. alone d ne))
        (λ g hg ne.
        access_other b reg f p o hf hp ho (now step) (now_kept step) g hg ne (page_states b.colours (record_at st.tables.records g)) (m.word g) (now_other step g hg ne))

  -- ---- a write of v to offset o through colour c

  module _ (c o : ℕ) (own : c < b.colours) (ho : o < b.page) (v : ℕ) where
    hc : c < cache_pages b
    hc = data_page b reg c own

    put : Store
    put = hardware.write_word b f c o v (now (table.write c))

    put_own : Agrees b f (pages_after b.colours (table.write c) r) (written o v (m.word f)) put
    unfolding put
    put_own =
        write_own b reg f c o hf hc ho (now (table.write c)) (now_kept (table.write c)) v (pages_after b.colours (table.write c) r) (m.word f)
        (now_own (table.write c) refl) (write_dirty b.colours r c own) (λ d hd h. write_alone b.colours r c d h)

    put_other : (g : ℕ) → g < b.frames → g ≢ f → Agrees b g (page_states b.colours (record_at st.tables.records g)) (m.word g) put
    unfolding put
    put_other g hg ne =
        write_other b reg f c o hf hc ho (now (table.write c)) (now_kept (table.write c)) v g hg ne (page_states b.colours (record_at st.tables.records g)) (m.word g)
        (now_other (table.write c) g hg ne)

    write_kept : bars (record_at st.tables.records f).busy (table.write c) ≡ false
        → Invariant b (state (commit_change b st.tables f (change_of b st.tables f (table.write c)).next) put) (cacheless (replaced m.word f o v) m.frame)
    unfolding put r
    write_kept free =
        commit_invariant b st m inv f hf (table.write c) free put (replaced m.word f o v)
        (write_word_kept b reg f c o hf hc ho (now (table.write c)) (now_kept (table.write c)) own v)
        (subst (λ (x : ℕ → ℕ). Agrees b f (pages_after b.colours (table.write c) r) x put) (own_words m.word f o v) put_own)
        (λ g hg ne. subst (λ (x : ℕ → ℕ). Agrees b g (page_states b.colours (record_at st.tables.records g)) x put) (other_words m.word f o v g ne) (put_other g hg ne))

-- ---- the calls

module _ (b : Board) (reg : Regular b) (how : FlushKind) (st : State) (m : Cacheless) (inv : Invariant b st m) (space page offset : ℕ) where
  pub read_taken : first_refusal (causes b st (read space page offset)) ≡ 0 → Taken b how st m (read space page offset)
  unfolding causes accept_by after_accepted now r
  read_taken e =
      let call = read space page offset in
      let mapped = not-false _ (cleared b st call 8 e) in
      let tested = effect_tested b st call e in
      let f = page_frame st space page in
      let c = colour_of b page in
      let record_of = record_at st.tables.records f in
      let hc = colour_of_lt b reg page in
      let ho = leb-false b.page offset (cleared b st call 6 e) in
      let held = read_held b.colours record_of c hc in
      let alone = read_alone b.colours record_of c in (
        ap {B = Option ℕ} some (load_word b reg how st m inv f tested.0 c offset (data_page b reg c hc) ho (table.read c) refl held alone)
            ∙ ap (λ (x : Option ℕ). page_word m x offset) (sym (mapped_frame_lem b st m inv space page mapped)),
        load_kept b reg how st m inv f tested.0 c offset (data_page b reg c hc) ho (table.read c) refl held alone tested.1,
      )

  -- request N8: through the instruction page of its colour
  pub fetch_taken : first_refusal (causes b st (fetch space page offset)) ≡ 0 → Taken b how st m (fetch space page offset)
  unfolding causes accept_by after_accepted now r
  fetch_taken e =
      let call = fetch space page offset in
      let mapped = not-false _ (cleared b st call 8 e) in
      let tested = effect_tested b st call e in
      let f = page_frame st space page in
      let c = colour_of b page in
      let record_of = record_at st.tables.records f in
      let hc = colour_of_lt b reg page in
      let ho = leb-false b.page offset (cleared b st call 6 e) in
      let held = fetch_held b.colours record_of c in
      let alone : (d : ℕ) → d ≢ instruction_page b c → pages_after b.colours (table.fetch c) record_of d ≢ dirty = λ d ne. fetch_clean b.colours record_of c d in (
        ap {B = Option ℕ} some (load_word b reg how st m inv f tested.0 (instruction_page b c) offset (instruction_page_lem b reg c hc) ho (table.fetch c) refl held alone)
            ∙ ap (λ (x : Option ℕ). page_word m x offset) (sym (mapped_frame_lem b st m inv space page mapped)),
        load_kept b reg how st m inv f tested.0 (instruction_page b c) offset (instruction_page_lem b reg c hc) ho (table.fetch c) refl held alone tested.1,
      )

  pub write_taken : (word : ℕ) → first_refusal (causes b st (write space page offset word)) ≡ 0 → Taken b how st m (write space page offset word)
  unfolding causes accept_by after_accepted now put
  write_taken word e =
      let call = write space page offset word in
      let mapped = not-false _ (cleared b st call 8 e) in
      let tested = effect_tested b st call e in
      let ho = leb-false b.page offset (cleared b st call 6 e) in
      let hc = colour_of_lt b reg page in (
        subst⁻¹ HasFrame (mapped_frame_lem b st m inv space page mapped) tt,
        subst⁻¹ (λ (x : Option ℕ). Invariant b (accept_by b how st (write space page offset word)).after (cacheless (stored m.word x offset word) m.frame))
            (mapped_frame_lem b st m inv space page mapped)
            (write_kept b reg how st m inv (page_frame st space page) tested.0 (colour_of b page) offset hc ho word tested.1),
      )
