-- A device's write of frame g, and a frame's current words.
use mathlib.Core.Path.{◌≡◌, refl, sym, ap, ◌∙◌}
use mathlib.Core.Bool.{Bool, true, false, ◌&&◌, cond}
use mathlib.Core.Logic.{◌≢◌}
use mathlib.Core.List.{List}
use Prim.Native.Nat.{ℕ, ◌+◌, ◌-◌, ◌≤◌, ◌<◌}
use native.Mathlib.Omega.{arith}
use borrow.Author.Tests.{leb-true, leb-false, ltb-true, ltb-false}
use lib.Dec.{leb, ltb}
use lib.ListN.{length, get_or}
use Rattle.board.specs.declared.Board.{Board}
use Rattle.board.specs.Board.{Regular, cache_pages, line_of, cache_at}
use Rattle.cache.specs.Store.{Store, WellFormedStore, tag_at, memory_word}
use Rattle.cache.specs.Tag.{dirty_tag}
use Rattle.cache.specs.Cache.{device_write}
use Rattle.cache.specs.Current.{Current, received}
use Rattle.cache.proofs.Laws.Device.{device_write_tags, device_write_words, device_write_memory_same, device_write_memory_rest, device_write_memory_other}

module _ (b : Board) (reg : Regular b) (g : ℕ) (hg : g < b.frames) (first : ℕ) (buffer : List ℕ) (inside : first + length buffer ≤ b.page) (s : Store) (wf : WellFormedStore b s) where
  -- it loses none of another frame
  pub device_current_other : (f : ℕ) (current : ℕ → ℕ) → f ≢ g → Current b f current s → Current b f current (device_write b g first buffer s)
  device_current_other f current ne was =
      record {
        in_line = λ c o hc ho dirty.
            ap (λ (l : List ℕ). get_or l (cache_at b c o) 0) (device_write_words b reg g hg s wf first buffer inside) ∙ was.in_line c o hc ho (sym (tag c o) ∙ dirty);
        in_memory = λ o ho none.
            device_write_memory_other b reg g hg s wf first buffer inside f o ho ne ∙ was.in_memory o ho (λ c hc dirty. none c hc (tag c o ∙ dirty));
      }
    where
      tag : (c o : ℕ) → tag_at (device_write b g first buffer s) (line_of b c o) ≡ tag_at s (line_of b c o)
      tag c o = ap (λ (l : List ℕ). get_or l (line_of b c o) 0) (device_write_tags b reg g hg s wf first buffer inside)

  -- the words that it sends are its own frame's, if no line of it is dirty and memory has the others
  pub device_current_same : (current : ℕ → ℕ)
      → ((c o : ℕ) → c < cache_pages b → o < b.page → tag_at s (line_of b c o) ≡ dirty_tag g → ⊥)
      → ((o : ℕ) → o < b.page → (first ≤ o → o < first + length buffer → ⊥) → memory_word b s g o ≡ current o)
      → Current b g (received first buffer current) (device_write b g first buffer s)
  device_current_same current clean rest =
      record {
        in_line = λ c o hc ho dirty.
            absurd (clean c o hc ho (sym (ap (λ (l : List ℕ). get_or l (line_of b c o) 0) (device_write_tags b reg g hg s wf first buffer inside)) ∙ dirty));
        in_memory = λ o ho none. word o ho (leb first o) (ltb o (first + length buffer)) refl refl;
      }
    where
      kept : (o : ℕ) → o < b.page → (first ≤ o → o < first + length buffer → ⊥) → memory_word b (device_write b g first buffer s) g o ≡ current o
      kept o ho out = device_write_memory_rest b reg g hg s wf first buffer inside o out ∙ rest o ho out

      word : (o : ℕ) → o < b.page → (from to : Bool) → leb first o ≡ from → ltb o (first + length buffer) ≡ to
          → memory_word b (device_write b g first buffer s) g o ≡ cond (from && to) (get_or buffer (o - first) 0) (current o)
      word o ho true true ef et = device_write_memory_same b reg g hg s wf first buffer inside o (leb-true _ _ ef) (ltb-true _ _ et)
      word o ho true false ef et =
          let h = ltb-false o (first + length buffer) et in
          kept o ho (λ low high. omega arith)
      word o ho false to ef et =
          let h = leb-false first o ef in
          kept o ho (λ low high. omega arith)
