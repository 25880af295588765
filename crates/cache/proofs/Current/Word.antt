-- A word that a device brings to frame g, and a frame's current words.
use mathlib.Core.Path.{◌≡◌, refl, sym, ap, ◌∙◌}
use mathlib.Core.Bool.{Bool, true, false, cond}
use mathlib.Core.Logic.{◌≢◌}
use mathlib.Core.List.{List}
use Prim.Native.Nat.{ℕ, ◌<◌}
use borrow.Author.Tests.{eqb-true, eqb-false}
use lib.Dec.{eqb}
use lib.ListN.{get_or}
use Rattle.board.specs.declared.Board.{Board}
use Rattle.board.specs.Board.{Regular, cache_pages, line_of, cache_at}
use Rattle.cache.specs.Store.{Store, WellFormedStore, tag_at, memory_word}
use Rattle.cache.specs.Tag.{dirty_tag}
use Rattle.cache.specs.Cache.{bring_word}
use Rattle.cache.specs.Current.{Current, written}
use Rattle.cache.proofs.Laws.Device.{bring_word_tags, bring_word_words, bring_word_memory_same, bring_word_memory_rest, bring_word_memory_other}

module _ (b : Board) (reg : Regular b) (g : ℕ) (hg : g < b.frames) (o v : ℕ) (ho : o < b.page) (s : Store) (wf : WellFormedStore b s) where
  tag : (n : ℕ) → tag_at (bring_word b g o v s) n ≡ tag_at s n
  tag n = ap (λ (l : List ℕ). get_or l n 0) (bring_word_tags b reg g hg s wf o v ho)

  -- it loses none of another frame
  pub word_current_other : (f : ℕ) (current : ℕ → ℕ) → f ≢ g → Current b f current s → Current b f current (bring_word b g o v s)
  word_current_other f current ne was =
      record {
        in_line = λ c p hc hp dirty.
            ap (λ (l : List ℕ). get_or l (cache_at b c p) 0) (bring_word_words b reg g hg s wf o v ho) ∙ was.in_line c p hc hp (sym (tag (line_of b c p)) ∙ dirty);
        in_memory = λ p hp none.
            bring_word_memory_other b reg g hg s wf o v ho f p hp ne ∙ was.in_memory p hp (λ c hc dirty. none c hc (tag (line_of b c p) ∙ dirty));
      }

  -- it is its own frame's, if no line of that is dirty
  pub word_current_same : (current : ℕ → ℕ) → ((c p : ℕ) → c < cache_pages b → p < b.page → tag_at s (line_of b c p) ≡ dirty_tag g → ⊥) → Current b g current s
      → Current b g (written o v current) (bring_word b g o v s)
  word_current_same current clean was =
      record {
        in_line = λ c p hc hp dirty. absurd (clean c p hc hp (sym (tag (line_of b c p)) ∙ dirty));
        in_memory = λ p hp none. word p hp (eqb p o) refl;
      }
    where
      word : (p : ℕ) → p < b.page → (t : Bool) → eqb p o ≡ t → memory_word b (bring_word b g o v s) g p ≡ cond t v (current p)
      word p hp true e = ap (memory_word b (bring_word b g o v s) g) (eqb-true p o e) ∙ bring_word_memory_same b reg g hg s wf o v ho
      word p hp false e = bring_word_memory_rest b reg g hg s wf o v ho p (eqb-false p o e) ∙ was.in_memory p hp (λ c hc d. clean c p hc hp d)
