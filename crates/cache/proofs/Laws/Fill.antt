-- The laws of filling a line from memory.
use mathlib.Core.Path.{◌≡◌, refl, ap, ◌∙◌}
use mathlib.Core.Logic.{◌≢◌}
use mathlib.Core.List.{List}
use Prim.Native.Nat.{ℕ, ◌+◌, ◌%◌, ◌≤◌, ◌<◌}
use native.Mathlib.Omega.{arith}
use native.Mathlib.Nat.{mod-lt}
use lib.ListN.{length, get_or}
use Rattle.board.specs.declared.Board.{Board}
use Rattle.board.specs.Board.{Regular, lines, line_of, line_at, cache_at, line_offset, memory_at}
use Rattle.board.proofs.Geometry.{line_at_end, line_of_offset, memory_at_line, memory_at_line_end, cache_at_within}
use Rattle.cache.specs.Part.{part, overlay}
use Rattle.cache.specs.Store.{Store, WellFormedStore, tag_at, word_at, memory_word, with_words}
use Rattle.cache.specs.Tag.{clean_tag}
use Rattle.cache.specs.Cache.{fill}
use Rattle.cache.proofs.Laws.Part.{length_part, part_at, length_overlay, overlay_inside, overlay_outside}
use Rattle.cache.proofs.Laws.Tag.{line_clean}
use Rattle.cache.proofs.Laws.Evict.{tags_kept, with_tag_same, with_tag_other}

module _ (b : Board) (reg : Regular b) (s : Store) (wf : WellFormedStore b s) (f n : ℕ) (hf : f < b.frames) (hn : n < lines b) where
  line_in : List ℕ
  line_in = part s.memory (memory_at b f (line_offset b n)) b.line

  in-length : length line_in ≡ b.line
  unfolding line_in
  in-length = let e = wf.memory_length in length_part s.memory (memory_at b f (line_offset b n)) b.line (omega (arith, memory_at_line_end b reg f n hf))

  in-fits : line_at b n + length line_in ≤ length s.words
  in-fits = let e = wf.words_length in omega (arith, in-length, line_at_end b reg n hn)

  pub fill_kept : WellFormedStore b (fill b f n s)
  unfolding fill line_in
  fill_kept =
      tags_kept b reg (with_words (overlay s.words (line_at b n) line_in) s)
      (record {
        memory_length = wf.memory_length;
        words_length = length_overlay s.words (line_at b n) line_in in-fits ∙ wf.words_length;
        tags_length = wf.tags_length;
        tags_rules = wf.tags_rules;
      })
      n (clean_tag f) (line_clean b reg f n hf)

  pub fill_tag_same : tag_at (fill b f n s) n ≡ clean_tag f
  unfolding fill
  fill_tag_same = with_tag_same b reg s wf n (clean_tag f) hn

  pub fill_tag_other : (m : ℕ) → m ≢ n → tag_at (fill b f n s) m ≡ tag_at s m
  unfolding fill
  fill_tag_other m h = with_tag_other b reg s wf n (clean_tag f) m h

  pub fill_word_same : (c o : ℕ) → o < b.page → line_of b c o ≡ n → word_at b (fill b f n s) c o ≡ memory_word b s f o
  unfolding fill line_in cache_at
  fill_word_same c o ho e =
      let i : ℕ = o % b.line in
      let below : i < b.line = mod-lt o reg.has_line_words in
      ap (λ (x : ℕ). get_or (fill b f n s).words (line_at b x + i) 0) e
      ∙ overlay_inside s.words (line_at b n) line_in in-fits i (omega (arith, in-length))
      ∙ part_at s.memory (memory_at b f (line_offset b n)) b.line i below
      ∙ ap (λ (x : ℕ). get_or s.memory x 0) (memory_at_line b reg f n i ∙ ap (λ (x : ℕ). memory_at b f x) (rw e at (line_of_offset b reg c o ho)))

  pub fill_word_other : (c o : ℕ) → line_of b c o ≢ n → word_at b (fill b f n s) c o ≡ word_at b s c o
  unfolding fill line_in
  fill_word_other c o out =
      overlay_outside s.words (line_at b n) line_in in-fits (cache_at b c o)
      (λ low high. out (cache_at_within b reg n c o low (omega (arith, in-length))))

  pub fill_memory : (fill b f n s).memory ≡ s.memory
  unfolding fill
  fill_memory = refl
