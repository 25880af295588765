-- The laws of emptying a line, of writing it back and giving it a tag, and of evicting it.
use mathlib.Core.Path.{◌≡◌, refl, ap, ◌∙◌}
use mathlib.Core.Bool.{true}
use mathlib.Core.Logic.{◌≢◌}
use mathlib.Core.List.{List}
use Prim.Native.Nat.{ℕ, ◌<◌}
use native.Mathlib.Omega.{arith}
use native.Mathlib.Decide.{ℕ_discrete}
use lib.ListN.{get_or, length-set}
use lib.Seq.{get_or-set_same, get_or-set_other}
use Rattle.board.specs.declared.Board.{Board}
use Rattle.board.specs.Board.{Regular, lines, line_of, line_colour}
use Rattle.cache.specs.Store.{Store, WellFormedStore, tag_at, word_at, memory_word, with_tag}
use Rattle.cache.specs.Tag.{empty_tag, dirty_tag, names, line_keeps_rules}
use Rattle.cache.specs.Cache.{write_back, empty, write_back_as, evict}
use Rattle.cache.proofs.Laws.Tag.{names_not_empty, rules_set, line_empty}
use Rattle.cache.proofs.Laws.WriteBack.{write_back_tags, write_back_words, write_back_kept, write_back_memory_same, write_back_memory_other}

-- ---- empty

module _ (b : Board) (reg : Regular b) (s : Store) (wf : WellFormedStore b s) where
  -- one tag replaced by another that keeps the rules there
  pub tags_kept : (n tag : ℕ) → line_keeps_rules b n tag ≡ true → WellFormedStore b (with_tag n tag s)
  tags_kept n tag k =
      record {
        memory_length = wf.memory_length;
        words_length = wf.words_length;
        tags_length = length-set s.tags n tag ∙ wf.tags_length;
        tags_rules = rules_set b reg s.tags n tag wf.tags_rules k;
      }

  pub with_tag_same : (n tag : ℕ) → n < lines b → tag_at (with_tag n tag s) n ≡ tag
  with_tag_same n tag h = let e = wf.tags_length in get_or-set_same s.tags n tag 0 (omega arith)

  pub with_tag_other : (n tag m : ℕ) → m ≢ n → tag_at (with_tag n tag s) m ≡ tag_at s m
  with_tag_other n tag m h = get_or-set_other s.tags n m tag 0 h

  pub empty_kept : (n : ℕ) → WellFormedStore b (empty n s)
  unfolding empty
  empty_kept n = tags_kept n empty_tag (line_empty b reg n)

  pub empty_tag_same : (n : ℕ) → n < lines b → tag_at (empty n s) n ≡ empty_tag
  unfolding empty
  empty_tag_same n h = with_tag_same n empty_tag h

  pub empty_tag_other : (n m : ℕ) → m ≢ n → tag_at (empty n s) m ≡ tag_at s m
  unfolding empty
  empty_tag_other n m h = with_tag_other n empty_tag m h

  pub empty_words : (n : ℕ) → (empty n s).words ≡ s.words
  unfolding empty
  empty_words n = refl

  pub empty_memory : (n : ℕ) → (empty n s).memory ≡ s.memory
  unfolding empty
  empty_memory n = refl

-- ---- written back, with a tag that keeps the rules

module _ (b : Board) (reg : Regular b) (s : Store) (wf : WellFormedStore b s) (tag n : ℕ) (rules : line_keeps_rules b n tag ≡ true) (hn : n < lines b) where
  pub write_back_as_kept : WellFormedStore b (write_back_as b tag n s)
  unfolding write_back_as
  write_back_as_kept = tags_kept b reg (write_back b n s) (write_back_kept b reg s wf n hn) n tag rules

  pub write_back_as_tag_same : tag_at (write_back_as b tag n s) n ≡ tag
  unfolding write_back_as
  write_back_as_tag_same = with_tag_same b reg (write_back b n s) (write_back_kept b reg s wf n hn) n tag hn

  pub write_back_as_tag_other : (m : ℕ) → m ≢ n → tag_at (write_back_as b tag n s) m ≡ tag_at s m
  unfolding write_back_as
  write_back_as_tag_other m h =
      with_tag_other b reg (write_back b n s) (write_back_kept b reg s wf n hn) n tag m h ∙ ap (λ (l : List ℕ). get_or l m 0) (write_back_tags b reg s wf n)

  pub write_back_as_words : (write_back_as b tag n s).words ≡ s.words
  unfolding write_back_as
  write_back_as_words = write_back_words b reg s wf n

  -- memory is as the write-back leaves it
  pub write_back_as_memory : (write_back_as b tag n s).memory ≡ (write_back b n s).memory
  unfolding write_back_as
  write_back_as_memory = refl

  pub write_back_as_memory_same : (f c o : ℕ) → o < b.page → line_of b c o ≡ n → tag_at s n ≡ dirty_tag f → memory_word b (write_back_as b tag n s) f o ≡ word_at b s c o
  unfolding write_back_as
  write_back_as_memory_same f c o ho e d = write_back_memory_same b reg s wf n f c o hn ho e d

  pub write_back_as_memory_other : (f o : ℕ) → o < b.page → (line_of b (line_colour b n) o ≡ n → tag_at s n ≡ dirty_tag f → ⊥) → memory_word b (write_back_as b tag n s) f o ≡ memory_word b s f o
  unfolding write_back_as
  write_back_as_memory_other f o ho out = write_back_memory_other b reg s wf n f o hn ho out

-- ---- evict: written back, and empty

module _ (b : Board) (reg : Regular b) (s : Store) (wf : WellFormedStore b s) (n : ℕ) (hn : n < lines b) where
  pub evict_kept : WellFormedStore b (evict b n s)
  unfolding evict write_back_as
  evict_kept = write_back_as_kept b reg s wf empty_tag n (line_empty b reg n) hn

  pub evict_tag_same : tag_at (evict b n s) n ≡ empty_tag
  unfolding evict write_back_as
  evict_tag_same = write_back_as_tag_same b reg s wf empty_tag n (line_empty b reg n) hn

  pub evict_tag_other : (m : ℕ) → m ≢ n → tag_at (evict b n s) m ≡ tag_at s m
  unfolding evict write_back_as
  evict_tag_other = write_back_as_tag_other b reg s wf empty_tag n (line_empty b reg n) hn

  -- a tag that names a frame afterwards was there before
  pub evict_tag_from : (m g : ℕ) → names (tag_at (evict b n s) m) g ≡ true → tag_at (evict b n s) m ≡ tag_at s m
  evict_tag_from m g named = go (ℕ_discrete m n)
    where
      go : Dec (m ≡ n) → tag_at (evict b n s) m ≡ tag_at s m
      go (no ne) = evict_tag_other m ne
      go (yes e) = absurd (names_not_empty g (ap (tag_at (evict b n s)) e ∙ evict_tag_same) named)

  pub evict_words : (evict b n s).words ≡ s.words
  unfolding evict write_back_as
  evict_words = write_back_as_words b reg s wf empty_tag n (line_empty b reg n) hn
