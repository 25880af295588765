-- The laws of the two orders, flush and purge of a frame in a page of the caches.
use mathlib.Core.Path.{◌≡◌, refl, sym, ap, ◌∙◌}
use mathlib.Core.Bool.{Bool, true, false, true≢false}
use mathlib.Core.Logic.{◌≢◌, ◌⊎◌, ⊎_elim}
use mathlib.Core.List.{List}
use Prim.Native.Nat.{ℕ, ◌<◌}
use lib.ListN.{get_or}
use Rattle.board.specs.declared.Board.{Board}
use Rattle.board.specs.Board.{Regular, cache_pages, lines, page_lines, line_of, cache_at, line_colour}
use Rattle.board.proofs.Geometry.{line_of_lt, line_of_colour}
use Rattle.cache.specs.Store.{Store, WellFormedStore, tag_at, word_at, memory_word, when}
use Rattle.cache.specs.Tag.{empty_tag, dirty_tag, names, line_keeps_rules}
use Rattle.cache.specs.Cache.{empty, write_back_as, sweep, FlushKind, flushed_tag, flush_line, purge_line, flush_by, purge}
use Rattle.cache.proofs.Laws.Tag.{flushed_rules, flushed_clean, flushed_names, names_dirty, names_empty, names_not_empty, names_one}
use Rattle.cache.proofs.Laws.WriteBack.{dirty_frame_lt}
use Rattle.cache.proofs.Laws.Evict.{empty_kept, empty_tag_same, empty_tag_other, empty_words, empty_memory, write_back_as_kept, write_back_as_tag_same, write_back_as_tag_other, write_back_as_words, write_back_as_memory_same, write_back_as_memory_other}
use Rattle.cache.proofs.Laws.Sweep.{Retags, Apart, sweep_kept, sweep_same, sweep_turn, sweep_tag_same, sweep_tag_left, sweep_tag_other, sweep_tag_either, sweep_none, sweep_keeps}

-- what holds of the store as it is, and of the outcome under the test, holds of both
when_cases : (P : Store → Type 0) (t : Bool) (g : Store → Store) (s : Store) → (t ≡ false → P s) → (t ≡ true → P (g s)) → P (when t g s)
when_cases P true g s fails holds = holds refl
when_cases P false g s fails holds = fails refl

-- ---- one line of a flush

module _ (b : Board) (how : FlushKind) (f : ℕ) where
  pub flush_line_named : (n : ℕ) (s : Store) → names (tag_at s n) f ≡ true → flush_line b how f n s ≡ write_back_as b (flushed_tag how f) n s
  unfolding flush_line
  flush_line_named n s e = rw e

  pub flush_line_other : (n : ℕ) (s : Store) → names (tag_at s n) f ≡ false → flush_line b how f n s ≡ s
  unfolding flush_line
  flush_line_other n s e = rw e

  flush_line_cases : (P : Store → Type 0) (n : ℕ) (s : Store) → P s → (names (tag_at s n) f ≡ true → P (write_back_as b (flushed_tag how f) n s)) → P (flush_line b how f n s)
  unfolding flush_line
  flush_line_cases P n s other named = when_cases P (names (tag_at s n) f) (write_back_as b (flushed_tag how f) n) s (λ e. other) named

module _ (b : Board) (reg : Regular b) (how : FlushKind) (f : ℕ) (hf : f < b.frames) where
  rules : (n : ℕ) → line_keeps_rules b n (flushed_tag how f) ≡ true
  rules = flushed_rules b reg how f hf

  pub flush_line_retags : Retags b f (flushed_tag how f) (flush_line b how f)
  flush_line_retags =
      record {
        kept = λ n s h w. flush_line_cases b how f (WellFormedStore b) n s w (λ e. write_back_as_kept b reg s w (flushed_tag how f) n (rules n) h);
        tag_same = λ n s h w e. rw (flush_line_named b how f n s e) (write_back_as_tag_same b reg s w (flushed_tag how f) n (rules n) h);
        tag_left = λ n s e. rw (flush_line_other b how f n s e);
        tag_other = λ n s h w m ne. flush_line_cases b how f (λ t. tag_at t m ≡ tag_at s m) n s refl (λ e. write_back_as_tag_other b reg s w (flushed_tag how f) n (rules n) h m ne);
      }

-- ---- one line of a purge

module _ (b : Board) (reg : Regular b) (f : ℕ) where
  pub purge_line_named : (n : ℕ) (s : Store) → names (tag_at s n) f ≡ true → purge_line f n s ≡ empty n s
  unfolding purge_line
  purge_line_named n s e = rw e

  pub purge_line_other : (n : ℕ) (s : Store) → names (tag_at s n) f ≡ false → purge_line f n s ≡ s
  unfolding purge_line
  purge_line_other n s e = rw e

  purge_line_cases : (P : Store → Type 0) (n : ℕ) (s : Store) → P s → P (empty n s) → P (purge_line f n s)
  unfolding purge_line
  purge_line_cases P n s other named = when_cases P (names (tag_at s n) f) (empty n) s (λ e. other) (λ e. named)

  pub purge_line_empties : Retags b f empty_tag (purge_line f)
  purge_line_empties =
      record {
        kept = λ n s h w. purge_line_cases (WellFormedStore b) n s w (empty_kept b reg s w n);
        tag_same = λ n s h w e. rw (purge_line_named n s e) (empty_tag_same b reg s w n h);
        tag_left = λ n s e. rw (purge_line_other n s e);
        tag_other = λ n s h w m ne. purge_line_cases (λ t. tag_at t m ≡ tag_at s m) n s refl (empty_tag_other b reg s w n m ne);
      }

-- ---- flush

-- it is the sweep of all the colour's lines
pub flush_done : (b : Board) (how : FlushKind) (f c i : ℕ) (s : Store) → i ≡ page_lines b → sweep b (flush_line b how f) c i s ≡ flush_by b how f c s
unfolding flush_by
flush_done b how f c i s e = ap (λ (k : ℕ). sweep b (flush_line b how f) c k s) e

module _ (b : Board) (reg : Regular b) (how : FlushKind) (f c : ℕ) (hf : f < b.frames) (hc : c < cache_pages b) (s : Store) (wf : WellFormedStore b s) where
  does : Retags b f (flushed_tag how f) (flush_line b how f)
  does = flush_line_retags b reg how f hf

  pub flush_kept : WellFormedStore b (flush_by b how f c s)
  unfolding flush_by
  flush_kept = sweep_kept b reg f (flush_line b how f) does c hc s wf

  pub flush_tag_same : (n : ℕ) → n < lines b → line_colour b n ≡ c → names (tag_at s n) f ≡ true → tag_at (flush_by b how f c s) n ≡ flushed_tag how f
  unfolding flush_by
  flush_tag_same = sweep_tag_same b reg f (flush_line b how f) does c hc s wf

  pub flush_tag_left : (n : ℕ) → names (tag_at s n) f ≡ false → tag_at (flush_by b how f c s) n ≡ tag_at s n
  unfolding flush_by
  flush_tag_left = sweep_tag_left b reg f (flush_line b how f) does c hc s wf

  pub flush_tag_other : (n : ℕ) → line_colour b n ≢ c → tag_at (flush_by b how f c s) n ≡ tag_at s n
  unfolding flush_by
  flush_tag_other = sweep_tag_other b reg f (flush_line b how f) does c hc s wf

  flush_tag_either : (n : ℕ) → n < lines b → (tag_at (flush_by b how f c s) n ≡ tag_at s n) ⊎ ((names (tag_at s n) f ≡ true) × (tag_at (flush_by b how f c s) n ≡ flushed_tag how f))
  unfolding flush_by
  flush_tag_either = sweep_tag_either b reg f (flush_line b how f) does c hc s wf

  -- a line that names a frame afterwards named it before, and one that is dirty was
  pub flush_names : (n g : ℕ) → n < lines b → g < b.frames → names (tag_at (flush_by b how f c s) n) g ≡ true → names (tag_at s n) g ≡ true
  flush_names n g h hg named =
      ⊎_elim (λ e. sym (ap (λ (t : ℕ). names t g) e) ∙ named)
      (λ e. ap (names (tag_at s n)) (flushed_names b reg how f hf g hg (sym (ap (λ (t : ℕ). names t g) e.1) ∙ named)) ∙ e.0)
      (flush_tag_either n h)

  pub flush_dirty_from : (n g : ℕ) → n < lines b → tag_at (flush_by b how f c s) n ≡ dirty_tag g → tag_at s n ≡ dirty_tag g
  flush_dirty_from n g h d = ⊎_elim (λ e. sym e ∙ d) (λ e. absurd (flushed_clean b reg how f hf g (sym e.1 ∙ d))) (flush_tag_either n h)

  -- and no line of the colour is dirty for f
  pub flush_clean : (n : ℕ) → n < lines b → line_colour b n ≡ c → tag_at (flush_by b how f c s) n ≢ dirty_tag f
  unfolding flush_by
  flush_clean =
      sweep_none b reg f (flush_line b how f) does c hc s wf (λ t. t ≢ dirty_tag f) (flushed_clean b reg how f hf f)
      (λ t other d. true≢false (sym (ap (λ (x : ℕ). names x f) d ∙ names_dirty f) ∙ other))

  pub flush_words : (flush_by b how f c s).words ≡ s.words
  unfolding flush_by
  flush_words =
      sweep_same b reg f (flush_line b how f) does c hc s wf (λ t. t.words)
      (λ m t h e w. flush_line_cases b how f (λ u. u.words ≡ t.words) m t refl (λ _. write_back_as_words b reg t w (flushed_tag how f) m (flushed_rules b reg how f hf m) h))

  -- a word of memory at offset o is changed by the turn of the line of colour c that covers o alone
  memory_apart : (g o : ℕ) → o < b.page → Apart b (flush_line b how f) c (line_of b c o) (λ t. memory_word b t g o)
  memory_apart g o ho m t h e w ne =
      flush_line_cases b how f (λ u. memory_word b u g o ≡ memory_word b t g o) m t refl
      (λ _. write_back_as_memory_other b reg t w (flushed_tag how f) m (flushed_rules b reg how f hf m) h g o ho (λ l _. ne (sym l ∙ ap (λ (x : ℕ). line_of b x o) e)))

  tag_apart : (n : ℕ) → Apart b (flush_line b how f) c n (λ t. tag_at t n)
  tag_apart n m t h e w ne = does.tag_other m t h w n (λ q. ne (sym q))

  pub flush_memory_same : (o : ℕ) → o < b.page → tag_at s (line_of b c o) ≡ dirty_tag f → memory_word b (flush_by b how f c s) f o ≡ word_at b s c o
  unfolding flush_by
  flush_memory_same o ho d =
      let n : ℕ = line_of b c o in
      let turn = sweep_turn b reg f (flush_line b how f) does c hc s wf n (line_of_colour b reg c o ho) in
      let dirty : tag_at turn.now n ≡ dirty_tag f = turn.before (λ t. tag_at t n) (tag_apart n) ∙ d in
      turn.after (λ t. memory_word b t f o) (memory_apart f o ho)
      ∙ ap (λ (t : Store). memory_word b t f o) (flush_line_named b how f n turn.now (ap (λ (t : ℕ). names t f) dirty ∙ names_dirty f))
      ∙ write_back_as_memory_same b reg turn.now turn.kept (flushed_tag how f) n (flushed_rules b reg how f hf n) (line_of_lt b reg c o hc ho) f c o ho refl dirty
      ∙ turn.before (λ t. word_at b t c o)
      (λ m t h e w ne. flush_line_cases b how f (λ u. word_at b u c o ≡ word_at b t c o) m t refl
      (λ _. ap (λ (l : List ℕ). get_or l (cache_at b c o) 0) (write_back_as_words b reg t w (flushed_tag how f) m (flushed_rules b reg how f hf m) h)))

  pub flush_memory_other : (g o : ℕ) → o < b.page → (g ≡ f → tag_at s (line_of b c o) ≡ dirty_tag f → ⊥) → memory_word b (flush_by b how f c s) g o ≡ memory_word b s g o
  unfolding flush_by
  flush_memory_other g o ho out =
      let n : ℕ = line_of b c o in
      let turn = sweep_turn b reg f (flush_line b how f) does c hc s wf n (line_of_colour b reg c o ho) in
      let was = turn.before (λ t. tag_at t n) (tag_apart n) in
      turn.after (λ t. memory_word b t g o) (memory_apart g o ho)
      ∙ flush_line_cases b how f (λ u. memory_word b u g o ≡ memory_word b turn.now g o) n turn.now refl
      (λ named. write_back_as_memory_other b reg turn.now turn.kept (flushed_tag how f) n (flushed_rules b reg how f hf n) (line_of_lt b reg c o hc ho) g o ho
      (λ _ d.
      let hg : g < b.frames = dirty_frame_lt b reg turn.now turn.kept n g d in
      let e : g ≡ f = names_one b reg (tag_at turn.now n) g f hg hf (ap (λ (t : ℕ). names t g) d ∙ names_dirty g) named in
      out e (sym was ∙ d ∙ ap dirty_tag e)))
      ∙ turn.before (λ t. memory_word b t g o) (memory_apart g o ho)

  -- what each line keeps that is written back and gets the tag, the flush keeps
  pub flush_keeps : (P : Store → Type 0) → ((m : ℕ) (t : Store) → m < lines b → WellFormedStore b t → P t → P (write_back_as b (flushed_tag how f) m t)) → P s → P (flush_by b how f c s)
  unfolding flush_by
  flush_keeps P step p =
      sweep_keeps b reg f (flush_line b how f) does c hc s wf P (λ m t h w q. flush_line_cases b how f P m t q (λ _. step m t h w q)) p

-- ---- purge

pub purge_done : (b : Board) (f c i : ℕ) (s : Store) → i ≡ page_lines b → sweep b (purge_line f) c i s ≡ purge b f c s
unfolding purge
purge_done b f c i s e = ap (λ (k : ℕ). sweep b (purge_line f) c k s) e

module _ (b : Board) (reg : Regular b) (f c : ℕ) (hc : c < cache_pages b) (s : Store) (wf : WellFormedStore b s) where
  pub purge_kept : WellFormedStore b (purge b f c s)
  unfolding purge
  purge_kept = sweep_kept b reg f (purge_line f) (purge_line_empties b reg f) c hc s wf

  pub purge_tag_same : (n : ℕ) → n < lines b → line_colour b n ≡ c → names (tag_at s n) f ≡ true → tag_at (purge b f c s) n ≡ empty_tag
  unfolding purge
  purge_tag_same = sweep_tag_same b reg f (purge_line f) (purge_line_empties b reg f) c hc s wf

  pub purge_tag_left : (n : ℕ) → names (tag_at s n) f ≡ false → tag_at (purge b f c s) n ≡ tag_at s n
  unfolding purge
  purge_tag_left = sweep_tag_left b reg f (purge_line f) (purge_line_empties b reg f) c hc s wf

  pub purge_tag_other : (n : ℕ) → line_colour b n ≢ c → tag_at (purge b f c s) n ≡ tag_at s n
  unfolding purge
  purge_tag_other = sweep_tag_other b reg f (purge_line f) (purge_line_empties b reg f) c hc s wf

  pub purge_tag_from : (n g : ℕ) → n < lines b → names (tag_at (purge b f c s) n) g ≡ true → tag_at (purge b f c s) n ≡ tag_at s n
  unfolding purge
  purge_tag_from n g h named =
      ⊎_elim (λ e. e) (λ e. absurd (names_not_empty g e.1 named)) (sweep_tag_either b reg f (purge_line f) (purge_line_empties b reg f) c hc s wf n h)

  pub purge_names : (n : ℕ) → n < lines b → line_colour b n ≡ c → names (tag_at (purge b f c s) n) f ≡ false
  unfolding purge
  purge_names =
      sweep_none b reg f (purge_line f) (purge_line_empties b reg f) c hc s wf (λ t. names t f ≡ false) (names_empty f) (λ t other. other)

  pub purge_words : (purge b f c s).words ≡ s.words
  unfolding purge
  purge_words =
      sweep_same b reg f (purge_line f) (purge_line_empties b reg f) c hc s wf (λ t. t.words)
      (λ m t h e w. purge_line_cases b reg f (λ u. u.words ≡ t.words) m t refl (empty_words b reg t w m))

  pub purge_memory : (purge b f c s).memory ≡ s.memory
  unfolding purge
  purge_memory =
      sweep_same b reg f (purge_line f) (purge_line_empties b reg f) c hc s wf (λ t. t.memory)
      (λ m t h e w. purge_line_cases b reg f (λ u. u.memory ≡ t.memory) m t refl (empty_memory b reg t w m))
