-- Eviction, flush and access lose no current word of any frame.
use mathlib.Core.Path.{◌≡◌, sym, ap, ◌∙◌}
use mathlib.Core.Bool.{true}
use mathlib.Core.Logic.{◌≢◌}
use mathlib.Core.List.{List}
use Prim.Native.Nat.{ℕ, ◌<◌}
use native.Mathlib.Omega.{arith}
use native.Mathlib.Decide.{ℕ_discrete}
use lib.ListN.{get_or}
use Rattle.board.specs.declared.Board.{Board}
use Rattle.board.specs.Board.{Regular, cache_pages, lines, line_of, line_colour, cache_at, memory_at}
use Rattle.board.proofs.Geometry.{line_of_lt, line_of_colour, line_colour_lt}
use Rattle.cache.specs.Store.{Store, WellFormedStore, tag_at, word_at, memory_word}
use Rattle.cache.specs.Tag.{empty_tag, dirty_tag, line_keeps_rules}
use Rattle.cache.specs.Cache.{write_back, write_back_as, evict, FlushKind, flushed_tag, flush_by, replace, access}
use Rattle.cache.specs.Current.{Current, LosesNone}
use Rattle.cache.proofs.Laws.Tag.{flushed_rules, flushed_clean, line_empty}
use Rattle.cache.proofs.Laws.WriteBack.{write_back_memory_same, write_back_memory_other}
use Rattle.cache.proofs.Laws.Evict.{write_back_as_tag_same, write_back_as_tag_other, write_back_as_words, write_back_as_memory}
use Rattle.cache.proofs.Laws.Operations.{flush_keeps}
use Rattle.cache.proofs.Laws.Access.{replace_tag_same, replace_tag_other, replace_word_other, replace_memory, access_cases}

-- line n is written back and its tag then is no dirty one of f; the other lines are as they were
module _ (b : Board) (reg : Regular b) (f : ℕ) (current : ℕ → ℕ) (s : Store) (wf : WellFormedStore b s) (was : Current b f current s) (n : ℕ) (hn : n < lines b) where
  module _ (t : Store) (memory : t.memory ≡ (write_back b n s).memory) (tag_same : tag_at t n ≢ dirty_tag f) (tag_other : (m : ℕ) → m ≢ n → tag_at t m ≡ tag_at s m) (word-other : (c o : ℕ) → line_of b c o ≢ n → word_at b t c o ≡ word_at b s c o) where
    line_current : (c o : ℕ) → c < cache_pages b → o < b.page → tag_at t (line_of b c o) ≡ dirty_tag f → Dec (line_of b c o ≡ n) → word_at b t c o ≡ current o
    line_current c o hc ho d (yes e) = absurd (tag_same (sym (ap (tag_at t) e) ∙ d))
    line_current c o hc ho d (no ne) = word-other c o ne ∙ was.in_line c o hc ho (sym (tag_other (line_of b c o) ne) ∙ d)

    module _ (o : ℕ) (ho : o < b.page) (none : (c : ℕ) → c < cache_pages b → tag_at t (line_of b c o) ≡ dirty_tag f → ⊥) where
      -- line n was not the one that held the word
      left : (line_of b (line_colour b n) o ≡ n → tag_at s n ≡ dirty_tag f → ⊥) → memory_word b (write_back b n s) f o ≡ current o
      left out = write_back_memory_other b reg s wf n f o hn ho out ∙ was.in_memory o ho (λ c hc d. go c hc d (ℕ_discrete (line_of b c o) n))
        where
          go : (c : ℕ) → c < cache_pages b → tag_at s (line_of b c o) ≡ dirty_tag f → Dec (line_of b c o ≡ n) → ⊥
          go c hc d (yes e) = out (ap (λ (x : ℕ). line_of b x o) (ap (line_colour b) (sym e) ∙ line_of_colour b reg c o ho) ∙ e) (sym (ap (tag_at s) e) ∙ d)
          go c hc d (no ne) = none c hc (tag_other (line_of b c o) ne ∙ d)

      memory_current : Dec (line_of b (line_colour b n) o ≡ n) → Dec (tag_at s n ≡ dirty_tag f) → memory_word b (write_back b n s) f o ≡ current o
      memory_current (yes e) (yes d) =
          write_back_memory_same b reg s wf n f (line_colour b n) o hn ho e d
          ∙ was.in_line (line_colour b n) o (line_colour_lt b reg n hn) ho (ap (tag_at s) e ∙ d)
      memory_current (yes e) (no nd) = left (λ _ d. nd d)
      memory_current (no ne) d = left (λ e _. ne e)

    out_current : Current b f current t
    out_current =
        record {
          in_line = λ c o hc ho d. line_current c o hc ho d (ℕ_discrete (line_of b c o) n);
          in_memory = λ o ho none.
              ap (λ (l : List ℕ). get_or l (memory_at b f o) 0) memory
              ∙ memory_current o ho none (ℕ_discrete (line_of b (line_colour b n) o) n) (ℕ_discrete (tag_at s n) (dirty_tag f));
        }

  written_line : (tag : ℕ) → line_keeps_rules b n tag ≡ true → tag ≢ dirty_tag f → Current b f current (write_back_as b tag n s)
  written_line tag rules clean =
      out_current (write_back_as b tag n s) (write_back_as_memory b reg s wf tag n rules hn) (λ d. clean (sym (write_back_as_tag_same b reg s wf tag n rules hn) ∙ d))
      (write_back_as_tag_other b reg s wf tag n rules hn)
      (λ c o ne. ap (λ (l : List ℕ). get_or l (cache_at b c o) 0) (write_back_as_words b reg s wf tag n rules hn))

  replace_line : (g : ℕ) → g < b.frames → Current b f current (replace b g n s)
  replace_line g hg =
      out_current (replace b g n s) (replace_memory b reg s wf g n hg hn)
      (λ d. let e = replace_tag_same b reg s wf g n hg hn in let few = reg.few_frames in omega arith)
      (replace_tag_other b reg s wf g n hg hn)
      (replace_word_other b reg s wf g n hg hn)

module _ (b : Board) (reg : Regular b) where
  pub evict_current : (n : ℕ) → n < lines b → LosesNone b (evict b n)
  unfolding evict write_back_as
  evict_current n hn f current s wf was = written_line b reg f current s wf was n hn empty_tag (line_empty b reg n) (λ e. omega arith)

  pub flush_current : (how : FlushKind) (g c : ℕ) → g < b.frames → c < cache_pages b → LosesNone b (flush_by b how g c)
  flush_current how g c hg hc f current s wf was =
      flush_keeps b reg how g c hg hc s wf (Current b f current)
      (λ m t hm w cur. written_line b reg f current t w cur m hm (flushed_tag how g) (flushed_rules b reg how g hg m) (flushed_clean b reg how g hg f)) was

  pub access_current : (g c o : ℕ) → g < b.frames → c < cache_pages b → o < b.page → LosesNone b (access b g c o)
  access_current g c o hg hc ho f current s wf was =
      access_cases b reg g c o hg hc ho s wf (Current b f current) (λ _. was)
      (λ _. replace_line b reg f current s wf was (line_of b c o) (line_of_lt b reg c o hc ho) g hg)
