-- The two calls of a run that change words: a device writes the whole page, and the colour to be dirty is written.
use mathlib.Core.Path.{◌≡◌, refl, sym, ap, ◌∙◌}
use mathlib.Core.Bool.{Bool, true, false, cond, true≢false}
use mathlib.Core.List.{List}
use mathlib.Core.Logic.{◌≢◌}
use Prim.Native.Nat.{ℕ, zero, suc, ◌^◌, ◌<◌}
use native.Mathlib.Omega.{arith}
use native.Mathlib.Decide.{ℕ_discrete}
use lib.ListN.{length, get_or, replicate, length-replicate, get_or-replicate}
use Rattle.board.specs.declared.Board.{Board}
use Rattle.board.specs.Board.{Regular, cache_pages, line_of, memory_at}
use Rattle.board.proofs.Geometry.{data_page}
use Rattle.page_model.specs.declared.FrameRecord.{FrameRecord}
use Rattle.page_model.specs.Busy.{free}
use Rattle.page_model.specs.Record.{state_of, keeps_rules, is_held, is_dirty, is_stale}
use Rattle.page_model.specs.Table as table
use Rattle.page_model.specs.Table.{ColourState, empty, present, dirty, stale}
use Rattle.cache.specs.Store as hardware_store
use Rattle.cache.specs.Store.{Store, tag_at, word_at, memory_word}
use Rattle.cache.specs.Tag.{names}
use Rattle.cache.proofs.Laws.Access.{access_memory_other, write_word_tag_same, write_word_word_same, write_word_memory}
use Rattle.cache.proofs.Laws.Tag.{names_dirty}
use Rattle.machine.specs.State.{State}
use Rattle.consistency.specs.Cacheless.{Cacheless, after_accepted}
use Rattle.consistency.proofs.Pages.{page_states}
use Rattle.consistency.proofs.Table.{empty_clean}
use Rattle.consistency.proofs.Lines.{SameLine}
use Rattle.necessity.specs.Action.{Action, write, device_write}
use Rattle.necessity.specs.Without.{Words}
use Rattle.necessity.proofs.Acted.{change, ordered, done}
use Rattle.necessity.proofs.CellLaws.{clean_state_lem, writes as writes-page, through_unflushed, through_other_idle, write_own_next, write_other_next, whole_next, whole_idle}
use Rattle.necessity.proofs.Here.{quiet_memory, Here, here_states, here_after, write_word_same, sent_word_lem, ordered_kept, done_line}
use Rattle.necessity.proofs.In.{made}
use Rattle.necessity.proofs.PageCells.{page_cell}
use Rattle.necessity.proofs.PageStates.{page_data, one_dirty, none_present}

-- a line of the frame in page x whose word at p is not the cacheless memory's
pub record Off (b : Board) (f x p : ℕ) (s : Store) (m : Cacheless) : Type 0 where
  pub named : names (tag_at s (line_of b x p)) f ≡ true
  pub wrong : word_at b s x p ≢ m.word f p

pub off_same : (b : Board) (f x p : ℕ) (s t : Store) (m n : Cacheless) → SameLine b x p s t → n.word f p ≡ m.word f p → Off b f x p s m → Off b f x p t n
off_same b f x p s t m n l e o = record { named = ap (λ (y : ℕ). names y f) l.tag ∙ o.named; wrong = λ q. o.wrong (sym l.word ∙ q ∙ e) }

-- ---- the states on the way

-- one of two states that are not dirty
either_clean : (a z : ColourState) (t : Bool) → a ≢ dirty → z ≢ dirty → cond t a z ≢ dirty
either_clean a z true h g = h
either_clean a z false h g = g

-- one that is stale or empty is not held
either_loose : (t : Bool) → is_held (cond t stale empty) ≡ false
either_loose true = refl
either_loose false = refl

-- what the loads leave is the state itself, if it is not dirty; without them, if it is not present either
pub rebuilt_clean : (z : ColourState) → z ≢ dirty → cond (is_held z) present (cond (is_stale z) stale empty) ≡ z
rebuilt_clean empty ne = refl
rebuilt_clean present ne = refl
rebuilt_clean dirty ne = absurd (ne refl)
rebuilt_clean stale ne = refl

rebuilt_beside : (z : ColourState) → z ≢ dirty → z ≢ present → cond (is_stale z) stale empty ≡ z
rebuilt_beside empty ne np = refl
rebuilt_beside present ne np = absurd (np refl)
rebuilt_beside dirty ne np = absurd (ne refl)
rebuilt_beside stale ne np = refl

-- the pages to be stale are in a state, and the others empty: present once they are loaded, then stale
abbrev where_stale : ColourState → ℕ → FrameRecord → ℕ → ColourState
where_stale state n r k = cond (is_stale (page_states n r k)) state empty

abbrev pub stale_loaded : ℕ → FrameRecord → ℕ → ColourState
stale_loaded = where_stale present

abbrev pub stale_only : ℕ → FrameRecord → ℕ → ColourState
stale_only = where_stale stale

pub where_stale_clean : (state : ColourState) → is_dirty state ≡ false → (n : ℕ) (r : FrameRecord) (k : ℕ) → where_stale state n r k ≢ dirty
where_stale_clean state e n r k = either_clean state empty (is_stale (page_states n r k)) (clean_state_lem state e) empty_clean

-- a page with the same word at every offset, which a device writes
abbrev pub page_of_lem : Board → ℕ → List ℕ
page_of_lem b v = replicate b.page v

pub page_length : (b : Board) (v : ℕ) → length (page_of_lem b v) ≡ b.page
page_length b v = length-replicate b.page v

pub page_words : (n v : ℕ) → v < 2 ^ 32 → Words (replicate n v)
page_words zero v h = tt
page_words (suc n) v h = (h, page_words n v h)

module _ (b : Board) (reg : Regular b) (f : ℕ) (hf : f < b.frames) (r : FrameRecord) (kept-rules : keeps_rules b.colours r ≡ true) where
  -- ---- the device's write

  module _ (st : State) (m : Cacheless) (here : Here b f (stale_loaded b.colours r) free st m) (v : ℕ) where
    abbrev pub sends : Action
    sends = device_write (page_of_lem b v)

    pub sent_here : Here b f (stale_only b.colours r) free (done b st f sends) (after_accepted m (made b f sends))
    sent_here =
        here_states b f _ (stale_only b.colours r) free _ _ (λ k hk. whole_next b.colours k (is_stale (page_states b.colours r k)))
        (here_after b reg f hf (stale_loaded b.colours r) free st m here sends (page_length b v) refl)

    -- a line is as it was; the cacheless memory's words are the device's
    pub sent_line : (x p : ℕ) → x < cache_pages b → p < b.page → SameLine b x p st.store (done b st f sends).store
    sent_line x p hx hp =
        done_line b reg f hf (stale_loaded b.colours r) free st m here.tables_in here.inv.kept sends (page_length b v) refl x p hx hp
        (whole_idle b.colours x (is_stale (page_states b.colours r x))) tt

    pub sent_words : (p : ℕ) → p < b.page → (after_accepted m (made b f sends)).word f p ≡ v
    sent_words p hp = sent_word_lem m b f (page_of_lem b v) p (let e = page_length b v in omega arith) ∙ get_or-replicate b.page p v 0 hp

  -- ---- the write through the dirty colour

  module _ (d : ℕ) (hd : d < b.colours) (dirties : state_of r d ≡ dirty) where
    written_next : (k : ℕ) → k < cache_pages b → (page_cell b.colours (table.write d) k (stale_only b.colours r k)).next ≡ page_states b.colours r k
    written_next k hk = go (ℕ_discrete d k)
      where
        go : Dec (d ≡ k) → (page_cell b.colours (table.write d) k (stale_only b.colours r k)).next ≡ page_states b.colours r k
        go (yes e) =
            ap (λ (y : ℕ). (page_cell b.colours (table.write d) y (stale_only b.colours r k)).next) (sym e)
            ∙ write_own_next b.colours d hd (stale_only b.colours r k)
            ∙ sym (page_data b.colours r d hd ∙ dirties)
            ∙ ap (page_states b.colours r) e
        go (no ne) =
            write_other_next b.colours d hd (stale_only b.colours r k) (either_loose (is_stale (page_states b.colours r k))) k ne
            ∙ rebuilt_beside (page_states b.colours r k) (λ e. ne (sym (one_dirty b.colours r kept-rules d hd dirties k e))) (none_present b.colours r kept-rules d hd dirties k hk)

    module _ (st : State) (m : Cacheless) (here : Here b f (stale_only b.colours r) free st m) (p : ℕ) (hp : p < b.page) (v : ℕ) where
      abbrev pub writes : Action
      writes = write d p v

      abbrev pub written : State
      written = done b st f writes

      pub written_here : Here b f (page_states b.colours r) free written (after_accepted m (made b f writes))
      written_here = here_states b f _ (page_states b.colours r) free _ _ written_next (here_after b reg f hf (stale_only b.colours r) free st m here writes (hd, hp) refl)

      between : hardware_store.WellFormedStore b (ordered b st f (change b st f writes).ops)
      between = ordered_kept b reg f hf (stale_only b.colours r) free st m here.tables_in here.inv.kept writes (hd, hp) refl

      -- the memory is as it was
      pub written_memory : memory_word b written.store f p ≡ memory_word b st.store f p
      written_memory =
          let s = ordered b st f (change b st f writes).ops in
          let hp-d = data_page b reg d hd in
          ap (λ (l : List ℕ). get_or l (memory_at b f p) 0) (write_word_memory b reg f d p hf hp-d hp s between v)
          ∙ access_memory_other b reg f d p hf hp-d hp s between f p hp (λ miss e q. true≢false (sym (ap (λ (t : ℕ). names t f) q ∙ names_dirty f) ∙ miss))
          ∙ quiet_memory b reg f hf (stale_only b.colours r) free st m here.tables_in here.inv.kept writes
          (λ k hk. through_unflushed (writes-page d hd) (stale_only b.colours r k) k (λ _. where_stale_clean stale refl b.colours r k)) p

      -- the line holds the word, and so does the cacheless memory
      pub written_named : names (tag_at written.store (line_of b d p)) f ≡ true
      written_named =
          ap (λ (t : ℕ). names t f) (write_word_tag_same b reg f d p hf (data_page b reg d hd) hp (ordered b st f (change b st f writes).ops) between v) ∙ names_dirty f

      pub written_word : word_at b written.store d p ≡ v
      written_word = write_word_word_same b reg f d p hf (data_page b reg d hd) hp (ordered b st f (change b st f writes).ops) between v

      pub written_ref : (after_accepted m (made b f writes)).word f p ≡ v
      written_ref = write_word_same m b f d p v (here.tables_in.framed d (data_page b reg d hd))

      -- a line of another page is as it was
      pub written_line : (x q : ℕ) → x < cache_pages b → q < b.page → d ≢ x → SameLine b x q st.store written.store
      written_line x q hx hq ne =
          done_line b reg f hf (stale_only b.colours r) free st m here.tables_in here.inv.kept writes (hd, hp) refl x q hx hq
          (through_other_idle (writes-page d hd) (stale_only b.colours r x) (where_stale_clean stale refl b.colours r x) x ne) ne
