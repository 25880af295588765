-- Runs from the start that reach a given record: the pages of the caches that are to be stale are loaded, a device writes, and then those to be present
-- are loaded, or the one to be dirty is written; a device's read begins if the record has its mark.
use mathlib.Core.Path.{◌≡◌, refl, sym, ap, subst, ◌∙◌}
use mathlib.Core.Bool.{Bool, true, false, cond, true≢false}
use mathlib.Core.List.{List}
use mathlib.Core.Logic.{◌≢◌}
use Prim.Native.Nat.{ℕ, zero, suc, ◌^◌, ◌<◌}
use native.Mathlib.Omega.{arith}
use native.Mathlib.Decide.{ℕ_discrete}
use borrow.Author.Tests.{ltb-true, ltb-false}
use lib.Dec.{eqb, ltb}
use lib.ListN.{length}
use Rattle.board.specs.declared.Board.{Board}
use Rattle.board.specs.Board.{Regular, cache_pages, memory_words, cache_words, line_of}
use Rattle.board.proofs.Geometry.{data_page}
use Rattle.page_model.specs.declared.FrameRecord.{FrameRecord}
use Rattle.page_model.specs.Busy.{free, reading, writing}
use Rattle.page_model.specs.Record.{state_of, keeps_rules, is_held, is_stale}
use Rattle.page_model.specs.Table.{ColourState, empty, present, dirty, stale}
use Rattle.page_model.proofs.Theorems.{dirty_colour, kept_mark}
use Rattle.mapping.specs.Entry.{capacity}
use Rattle.cache.specs.Store.{Store, tag_at, word_at, memory_word}
use Rattle.cache.specs.Tag.{names}
use Rattle.cache.proofs.Laws.Access.{access_names}
use Rattle.machine.specs.State.{State}
use Rattle.consistency.specs.Cacheless.{Cacheless, start_cacheless, after_accepted}
use Rattle.consistency.specs.Demand3.{start_state}
use Rattle.consistency.proofs.Pages.{page_states}
use Rattle.consistency.proofs.Table.{empty_clean}
use Rattle.necessity.specs.Action.{step_of, write, device_write, begin_read}
use Rattle.necessity.proofs.Acted.{change, ordered, done}
use Rattle.necessity.proofs.CellLaws.{clean_state_lem, loads, through_other_idle, load_own_next, load_other_next, begin_next, begin_idle}
use Rattle.necessity.proofs.Differs as differs
use Rattle.necessity.proofs.Here.{Here, here_states, here_after, begin_word, write_word_other, ordered_kept, done_line, act}
use Rattle.necessity.proofs.In.{made}
use Rattle.necessity.proofs.LoadAll.{load_here, load_run, picked, load_all}
use Rattle.necessity.proofs.Loads.{load, load_at, load_steps, load_range, load_bars, load_beside, load_store}
use Rattle.necessity.proofs.Maps.{map_all_lem}
use Rattle.necessity.proofs.PageCells.{page_cell}
use Rattle.necessity.proofs.PageStates.{page_data, none_dirty, reading_clean}
use Rattle.necessity.proofs.Run.{Run, stay, then}
use Rattle.necessity.proofs.Turns.{Off, page_words, off_same, rebuilt_clean, stale_loaded, stale_only, where_stale_clean, page_of_lem, page_length, sent_here, sent_line, sent_words, written_here, written_memory, written_named, written_word, written_ref, written_line}

-- the dirty line holds the cacheless memory's word, which is not the one to avoid
pub record Ahead (b : Board) (f d p avoid : ℕ) (s : Store) (m : Cacheless) : Type 0 where
  pub named : names (tag_at s (line_of b d p)) f ≡ true
  pub word : word_at b s d p ≡ m.word f p
  pub avoids : m.word f p ≢ avoid

module _ (b : Board) (reg : Regular b) (f : ℕ) (hf : f < b.frames) (r : FrameRecord) (kept-rules : keeps_rules b.colours r ≡ true) where
  -- the states to be reached
  abbrev wanted : ℕ → ColourState
  wanted = page_states b.colours r

  abbrev loaded : ℕ → ColourState
  loaded = stale_loaded b.colours r

  abbrev aside : ℕ → ColourState
  aside = stale_only b.colours r

  -- ---- from the start

  module _ (memory words protections : List ℕ) (full : length memory ≡ memory_words b) (wide : length words ≡ cache_words b)
      (long : length protections ≡ capacity) where
    abbrev begin : State
    begin = start_state b memory words protections

    abbrev ref : Cacheless
    ref = start_cacheless b memory

    -- the pages to be stale are loaded
    stale_loaded_lem : (o : ℕ) → o < b.page → Run b begin ref (λ st m. Here b f loaded free st m)
    stale_loaded_lem o ho =
        then b begin ref (λ st m. Here b f (λ k. empty) free st m) _ (map_all_lem b reg f hf memory words protections full wide long)
        (λ st m here.
        then b st m (λ t n. Here b f loaded free t n × Unit {0}) _
        (load_all b reg f hf o ho (λ k. is_stale (wanted k)) (λ k. empty) (λ k. empty_clean) (λ t n. Unit {0}) (λ states t n i h clean hi e u. tt) st m here tt)
        (λ t n u. stay b t n _ u.0))

    -- ---- a record with a dirty colour

    module _ (d : ℕ) (hd : d < b.colours) (dirties : state_of r d ≡ dirty) (p : ℕ) (hp : p < b.page) where
      stale_only_lem : Run b begin ref (λ st m. Here b f aside free st m)
      stale_only_lem =
          then b begin ref (λ st m. Here b f loaded free st m) _ (stale_loaded_lem p hp)
          (λ st m here.
          act b reg f hf loaded free st m here.tables_in here.inv.kept (device_write (page_of_lem b 0)) (page_length b 0) refl (page_words b.page 0 (omega arith)) _ (sent_here b reg f hf r kept-rules st m here 0))

      write_run : (st : State) (m : Cacheless) (here : Here b f aside free st m) (v : ℕ) → v < 2 ^ 32 → (Q : State → Cacheless → Type 0)
          → Q (done b st f (write d p v)) (after_accepted m (made b f (write d p v))) → Run b st m Q
      write_run st m here v w Q q = act b reg f hf aside free st m here.tables_in here.inv.kept (write d p v) (hd, hp) refl w Q q

      -- the line of the dirty colour holds another word than a given one
      pub reach_line : (avoid : ℕ) → Run b begin ref (λ st m. Here b f wanted free st m × Ahead b f d p avoid st.store m)
      reach_line avoid =
          then b begin ref (λ st m. Here b f aside free st m) _ stale_only_lem
          (λ st m here.
          let v = differs.other avoid in
          let holds = written_ref b reg f hf r kept-rules d hd dirties st m here p hp v in
          write_run st m here v (let w = differs.other_lt avoid in omega arith) _ (
            written_here b reg f hf r kept-rules d hd dirties st m here p hp v,
            record {
              named = written_named b reg f hf r kept-rules d hd dirties st m here p hp v;
              word = written_word b reg f hf r kept-rules d hd dirties st m here p hp v ∙ sym holds;
              avoids = λ e. differs.other_differs avoid (sym holds ∙ e);
            },
          ))

      -- memory holds another word than the cacheless memory
      pub reach_memory : Run b begin ref (λ st m. Here b f wanted free st m × (memory_word b st.store f p ≢ m.word f p))
      reach_memory =
          then b begin ref (λ st m. Here b f aside free st m) _ stale_only_lem
          (λ st m here.
          let old = memory_word b st.store f p in
          let v = differs.other old in
          write_run st m here v (let w = differs.other_lt old in omega arith) _ (
            written_here b reg f hf r kept-rules d hd dirties st m here p hp v,
            λ e. differs.other_differs old (sym (sym (written_memory b reg f hf r kept-rules d hd dirties st m here p hp v) ∙ e ∙ written_ref b reg f hf r kept-rules d hd dirties st m here p hp v)),
          ))

    -- ---- a record with a stale page

    module _ (x : ℕ) (hx : x < cache_pages b) (stales : wanted x ≡ stale) (o p : ℕ) (ho : o < b.page) (hp : p < b.page) (apart : o ≢ p) where
      -- its line is filled
      filled : Run b begin ref (λ st m. Here b f loaded free st m × (names (tag_at st.store (line_of b x p)) f ≡ true))
      filled =
          then b begin ref (λ st m. Here b f loaded free st m) _ (stale_loaded_lem p hp)
          (λ st m here.
          let l = load_at b x p hx in
          let s = ordered b st f (change b st f (load b x p)).ops in
          load_run b reg f hf loaded free st m here refl p hp l _ (
            here_states b f _ loaded free _ _ (λ k hk. next k (ℕ_discrete x k)) (load_here b reg f hf loaded free st m here refl p hp l),
            ap (λ (t : Store). names (tag_at t (line_of b x p)) f) (load_store l f s)
                ∙ access_names b reg f x p hf hx hp s (ordered_kept b reg f hf loaded free st m here.tables_in here.inv.kept (load b x p) (load_range l hp) (load_bars l free)),
          ))
        where
          next : (k : ℕ) → Dec (x ≡ k) → (page_cell b.colours (step_of b (load b x p)) k (loaded k)).next ≡ loaded k
          next k (no ne) = load_other_next (load_steps (load_at b x p hx)) (loaded k) (where_stale_clean present refl b.colours r k) k ne
          next k (yes e) =
              subst (λ (y : ℕ). (page_cell b.colours (step_of b (load b x p)) y (loaded y)).next ≡ loaded y) e
              (load_own_next (load_steps (load_at b x p hx)) (loaded x) (where_stale_clean present refl b.colours r x) ∙ sym (ap (λ (z : ColourState). cond (is_stale z) present empty) stales))

      -- a device writes, and the line's word is old
      aged : Run b begin ref (λ st m. Here b f aside free st m × Off b f x p st.store m)
      aged =
          then b begin ref _ _ filled
          (λ st m here.
          let old = word_at b st.store x p in
          let v = differs.other old in
          let line = sent_line b reg f hf r kept-rules st m here.0 v x p hx hp in
          act b reg f hf loaded free st m here.0.tables_in here.0.inv.kept (device_write (page_of_lem b v)) (page_length b v) refl (page_words b.page v (let w = differs.other_lt old in omega arith)) _ (
            sent_here b reg f hf r kept-rules st m here.0 v,
            record {
              named = ap (λ (t : ℕ). names t f) line.tag ∙ here.1;
              wrong = λ e. differs.other_differs old (sym (sent_words b reg f hf r kept-rules st m here.0 v p hp) ∙ sym e ∙ line.word);
            },
          ))

      abbrev Aged : ℕ → State → Cacheless → Type 0
      Aged mark st m = Here b f wanted mark st m × Off b f x p st.store m

      -- the present ones are loaded, if none is dirty
      load_held : ((k : ℕ) → wanted k ≢ dirty) → (st : State) (m : Cacheless) → Here b f aside free st m → Off b f x p st.store m → Run b st m (Aged free)
      load_held clean st m here off =
          then b st m (λ t n. Here b f (picked (λ k. is_held (wanted k)) aside) free t n × Off b f x p t.store n) (Aged free)
          (load_all b reg f hf o ho (λ k. is_held (wanted k)) aside (where_stale_clean stale refl b.colours r) (λ t n. Off b f x p t.store n)
          (λ states t n i h quiet hi e u.
          let away : i ≢ x = λ q. true≢false (sym e ∙ ap (λ (k : ℕ). is_held (wanted k)) q ∙ ap is_held stales) in
          let l = load_at b i o hi in
          off_same b f x p t.store _ n n
          (done_line b reg f hf states free t n h.tables_in h.inv.kept (load b i o) (load_range l ho) (load_bars l free) x p hx hp (through_other_idle (loads i _ (load_steps l)) (states x) (quiet x) x away)
          (load_beside l x away))
          refl u)
          st m here off)
          (λ t n u. stay b t n (Aged free) (here_states b f _ wanted free t n (λ k hk. rebuilt_clean (wanted k) (clean k)) u.0, u.1))

      -- or the dirty one is written
      write_dirty : (d : ℕ) → d < b.colours → state_of r d ≡ dirty → (st : State) (m : Cacheless) → Here b f aside free st m → Off b f x p st.store m → Run b st m (Aged free)
      write_dirty d hd dirties st m here off =
          let away : d ≢ x = λ q. clean_state_lem stale refl (sym stales ∙ ap wanted (sym q) ∙ page_data b.colours r d hd ∙ dirties) in
          write_run d hd dirties o ho st m here 0 (omega arith) (Aged free) (
            written_here b reg f hf r kept-rules d hd dirties st m here o ho 0,
            off_same b f x p st.store _ m (after_accepted m (made b f (write d o 0))) (written_line b reg f hf r kept-rules d hd dirties st m here o ho 0 x p hx hp away)
                (write_word_other m b f d o 0 (here.tables_in.framed d (data_page b reg d hd)) p apart) off,
          )

      unmarked : Run b begin ref (Aged free)
      unmarked = then b begin ref _ (Aged free) aged (λ st m u. go (ltb r.dirty_colour b.colours) refl st m u)
        where
          go : (t : Bool) → ltb r.dirty_colour b.colours ≡ t → (st : State) (m : Cacheless) → Here b f aside free st m × Off b f x p st.store m → Run b st m (Aged free)
          go true e st m u =
              let hd = ltb-true r.dirty_colour b.colours e in
              write_dirty r.dirty_colour hd (((dirty_colour b.colours r kept-rules).1 r.dirty_colour hd).1 refl) st m u.0 u.1
          go false e st m u =
              let out = ltb-false r.dirty_colour b.colours e in
              load_held (none_dirty b.colours r (λ k hk q. let z = ((dirty_colour b.colours r kept-rules).1 k hk).0 q in omega arith)) st m u.0 u.1

      -- and a device's read begins, if the record says so
      pub reach_stale : eqb r.busy writing ≡ false → Run b begin ref (Aged r.busy)
      reach_stale unbarred = go r.busy refl unbarred
        where
          go : (mark : ℕ) → r.busy ≡ mark → eqb mark writing ≡ false → Run b begin ref (Aged mark)
          go zero e n = unmarked
          go (suc zero) e n =
              let clean = reading_clean b.colours r kept-rules e in
              then b begin ref (Aged free) (Aged reading) unmarked
              (λ st m u.
              act b reg f hf wanted free st m u.0.tables_in u.0.inv.kept begin_read tt refl tt (Aged reading) (
                here_states b f _ wanted reading _ _ (λ k hk. begin_next b.colours k (wanted k) (clean k)) (here_after b reg f hf wanted free st m u.0 begin_read tt refl),
                off_same b f x p st.store _ m (after_accepted m (made b f begin_read))
                    (done_line b reg f hf wanted free st m u.0.tables_in u.0.inv.kept begin_read tt refl x p hx hp (begin_idle b.colours x (wanted x) (clean x)) tt)
                    (ap (λ (y : Cacheless). y.word f p) (begin_word m b f)) u.1,
              ))
          go (suc (suc zero)) e n = absurd (true≢false n)
          go (suc (suc (suc mark))) e n = absurd (let h = (kept_mark b.colours r kept-rules).is_mark in omega arith)
