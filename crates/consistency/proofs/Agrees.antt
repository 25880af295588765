-- What the page states of a frame say of its lines and of memory: the part of the invariant that is about one frame.
use mathlib.Core.Path.{◌≡◌, sym, ap, ◌∙◌}
use mathlib.Core.Bool.{true}
use mathlib.Core.Logic.{◌≢◌}
use mathlib.Core.List.{List}
use Prim.Native.Nat.{ℕ, ◌<◌}
use lib.ListN.{get_or}
use Rattle.board.specs.declared.Board.{Board}
use Rattle.board.specs.Board.{Regular, cache_pages, lines, line_of, cache_at}
use Rattle.board.proofs.Geometry.{line_of_lt}
use Rattle.page_model.specs.Record.{is_held}
use Rattle.page_model.specs.Table.{ColourState, empty, dirty}
use Rattle.cache.specs.Store.{Store, tag_at, word_at}
use Rattle.cache.specs.Tag.{dirty_tag, names}
use Rattle.cache.specs.Current.{Current}
use Rattle.cache.proofs.Laws.Tag.{names_dirty}

-- a line that names the frame is in a colour that is not empty, and in the dirty one if its tag is dirty
pub record Tagged (b : Board) (f : ℕ) (states : ℕ → ColourState) (s : Store) : Type 0 where
  pub occupied : (c o : ℕ) → c < cache_pages b → o < b.page → names (tag_at s (line_of b c o)) f ≡ true → states c ≢ empty
  pub dirty_colour : (c o : ℕ) → c < cache_pages b → o < b.page → tag_at s (line_of b c o) ≡ dirty_tag f → states c ≡ dirty

-- and the lines of a present or dirty colour, the dirty lines and else memory hold the frame's words
pub record Agrees (b : Board) (f : ℕ) (states : ℕ → ColourState) (words : ℕ → ℕ) (s : Store) : Type 0 where
  pub tagged : Tagged b f states s
  pub held_words : (c o : ℕ) → c < cache_pages b → o < b.page → names (tag_at s (line_of b c o)) f ≡ true → is_held (states c) ≡ true
      → word_at b s c o ≡ words o
  pub current : Current b f words s

-- ---- another store

-- every line of t that names the frame named it in s, with the same words, and was dirty if it is
pub record Untouched (b : Board) (f : ℕ) (s t : Store) : Type 0 where
  pub names_from : (c o : ℕ) → c < cache_pages b → o < b.page → names (tag_at t (line_of b c o)) f ≡ true → names (tag_at s (line_of b c o)) f ≡ true
  pub dirty_from : (c o : ℕ) → c < cache_pages b → o < b.page → tag_at t (line_of b c o) ≡ dirty_tag f → tag_at s (line_of b c o) ≡ dirty_tag f
  pub word_from : (c o : ℕ) → c < cache_pages b → o < b.page → names (tag_at t (line_of b c o)) f ≡ true → word_at b t c o ≡ word_at b s c o

-- so is a frame whose lines are as they were
pub same_lines : (b : Board) (f : ℕ) (s t : Store)
    → ((c o : ℕ) → c < cache_pages b → o < b.page → names (tag_at t (line_of b c o)) f ≡ true → tag_at t (line_of b c o) ≡ tag_at s (line_of b c o))
    → ((c o : ℕ) → c < cache_pages b → o < b.page → names (tag_at t (line_of b c o)) f ≡ true → word_at b t c o ≡ word_at b s c o)
    → Untouched b f s t
same_lines b f s t tags words =
    record {
      names_from = λ c o hc ho n. sym (ap (λ (x : ℕ). names x f) (tags c o hc ho n)) ∙ n;
      dirty_from = λ c o hc ho d. sym (tags c o hc ho (ap (λ (x : ℕ). names x f) d ∙ names_dirty f)) ∙ d;
      word_from = words;
    }

-- and every frame where lines are emptied and words left
pub emptied : (b : Board) (reg : Regular b) (s t : Store) → ((n g : ℕ) → n < lines b → names (tag_at t n) g ≡ true → tag_at t n ≡ tag_at s n)
    → t.words ≡ s.words → (f : ℕ) → Untouched b f s t
emptied b reg s t tags words f =
    same_lines b f s t (λ c o hc ho n. tags (line_of b c o) f (line_of_lt b reg c o hc ho) n)
    (λ c o hc ho n. ap (λ (l : List ℕ). get_or l (cache_at b c o) 0) words)

module _ (b : Board) (f : ℕ) (states : ℕ → ColourState) (s t : Store) (un : Untouched b f s t) where
  pub untouched_tagged : Tagged b f states s → Tagged b f states t
  untouched_tagged a =
      record {
        occupied = λ c o hc ho n. a.occupied c o hc ho (un.names_from c o hc ho n);
        dirty_colour = λ c o hc ho d. a.dirty_colour c o hc ho (un.dirty_from c o hc ho d);
      }

  pub untouched_agrees : (words : ℕ → ℕ) → Current b f words t → Agrees b f states words s → Agrees b f states words t
  untouched_agrees words current a =
      record {
        tagged = untouched_tagged a.tagged;
        held_words = λ c o hc ho n h. un.word_from c o hc ho n ∙ a.held_words c o hc ho (un.names_from c o hc ho n) h;
        current = current;
      }
