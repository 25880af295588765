-- What a load finds, by its line and memory's word: another load of the frame through the same page of the caches, and a write there at another offset, do
-- not change it.
use mathlib.Core.Path.{◌≡◌, refl, sym, ap, ◌∙◌}
use mathlib.Core.Bool.{Bool, true, false}
use mathlib.Core.List.{List}
use mathlib.Core.Logic.{◌≢◌}
use Prim.Native.Nat.{ℕ, ◌<◌}
use native.Mathlib.Decide.{ℕ_discrete}
use lib.ListN.{get_or}
use Rattle.board.specs.declared.Board.{Board}
use Rattle.board.specs.Board.{Regular, cache_pages, line_of, memory_at}
use Rattle.cache.specs.Cache.{access, read_word, write_word}
use Rattle.cache.specs.Store.{Store, WellFormedStore, tag_at, word_at, memory_word}
use Rattle.cache.specs.Tag.{names}
use Rattle.cache.proofs.Laws.Access.{access_hit, access_kept, access_names, access_tag_other, access_word_same, access_word_other, access_memory_other, read_word_hit, read_word_miss, write_word_kept, write_word_tag_same, write_word_tag_other, write_word_word_line, write_word_word_other, write_word_memory}
use Rattle.cache.proofs.Laws.Tag.{names_dirty}

module _ (b : Board) (reg : Regular b) (f c p : ℕ) (hf : f < b.frames) (hc : c < cache_pages b) (hp : p < b.page) where
  -- in two stores with the same line and the same word in memory
  pub read_word_same : (s t : Store) → WellFormedStore b s → WellFormedStore b t → tag_at t (line_of b c p) ≡ tag_at s (line_of b c p) → word_at b t c p ≡ word_at b s c p
      → memory_word b t f p ≡ memory_word b s f p → read_word b f c p t ≡ read_word b f c p s
  read_word_same s t ws wt tag word memory = go (names (tag_at s (line_of b c p)) f) refl
    where
      go : (n : Bool) → names (tag_at s (line_of b c p)) f ≡ n → read_word b f c p t ≡ read_word b f c p s
      go true e = read_word_hit b reg f c p hf hc hp t wt (ap (λ (x : ℕ). names x f) tag ∙ e) ∙ word ∙ sym (read_word_hit b reg f c p hf hc hp s ws e)
      go false e = read_word_miss b reg f c p hf hc hp t wt (ap (λ (x : ℕ). names x f) tag ∙ e) ∙ memory ∙ sym (read_word_miss b reg f c p hf hc hp s ws e)

  module _ (o : ℕ) (ho : o < b.page) (s : Store) (wf : WellFormedStore b s) where
    kept : WellFormedStore b (access b f c o s)
    kept = access_kept b reg f c o hf hc ho s wf

    -- an access to another line leaves memory's word
    memory_left : line_of b c p ≢ line_of b c o → memory_word b (access b f c o s) f p ≡ memory_word b s f p
    memory_left ne = access_memory_other b reg f c o hf hc ho s wf f p hp (λ miss q d. ne q)

    -- after a load, and after a write
    pub read_word_load : read_word b f c p (access b f c o s) ≡ read_word b f c p s
    read_word_load = go (names (tag_at s (line_of b c o)) f) refl (ℕ_discrete (line_of b c p) (line_of b c o))
      where
        go : (n : Bool) → names (tag_at s (line_of b c o)) f ≡ n → Dec (line_of b c p ≡ line_of b c o) → read_word b f c p (access b f c o s) ≡ read_word b f c p s
        go true e d = ap (read_word b f c p) (access_hit b reg f c o hf hc ho s wf e)
        go false e (yes q) =
            read_word_hit b reg f c p hf hc hp (access b f c o s) kept (ap (λ (l : ℕ). names (tag_at (access b f c o s) l) f) q ∙ access_names b reg f c o hf hc ho s wf)
            ∙ access_word_same b reg f c o hf hc ho s wf c p hp q e
            ∙ sym (read_word_miss b reg f c p hf hc hp s wf (ap (λ (l : ℕ). names (tag_at s l) f) q ∙ e))
        go false e (no ne) =
            read_word_same s (access b f c o s) wf kept (access_tag_other b reg f c o hf hc ho s wf (line_of b c p) ne) (access_word_other b reg f c o hf hc ho s wf c p ne) (memory_left ne)

    pub read_word_write : c < b.colours → (v : ℕ) → o ≢ p → read_word b f c p (write_word b f c o v s) ≡ read_word b f c p s
    read_word_write below v apart = go (ℕ_discrete (line_of b c p) (line_of b c o))
      where
        go : Dec (line_of b c p ≡ line_of b c o) → read_word b f c p (write_word b f c o v s) ≡ read_word b f c p s
        go (yes q) =
            read_word_hit b reg f c p hf hc hp (write_word b f c o v s) (write_word_kept b reg f c o hf hc ho s wf below v)
            (ap (λ (l : ℕ). names (tag_at (write_word b f c o v s) l) f) q ∙ ap (λ (t : ℕ). names t f) (write_word_tag_same b reg f c o hf hc ho s wf v) ∙ names_dirty f)
            ∙ write_word_word_line b reg f c o hf hc ho s wf v p (λ e. apart (sym e))
            ∙ sym (read_word_hit b reg f c p hf hc hp (access b f c o s) kept (ap (λ (l : ℕ). names (tag_at (access b f c o s) l) f) q ∙ access_names b reg f c o hf hc ho s wf))
            ∙ read_word_load
        go (no ne) =
            read_word_same s (write_word b f c o v s) wf (write_word_kept b reg f c o hf hc ho s wf below v) (write_word_tag_other b reg f c o hf hc ho s wf v (line_of b c p) ne)
            (write_word_word_other b reg f c o hf hc ho s wf v c p ne) (ap (λ (l : List ℕ). get_or l (memory_at b f p) 0) (write_word_memory b reg f c o hf hc ho s wf v) ∙ memory_left ne)
