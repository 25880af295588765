-- A purge of frame g in colour c, and a frame's current words.
use mathlib.Core.Path.{◌≡◌, refl, sym, ap, ◌∙◌}
use mathlib.Core.Bool.{Bool, true, false}
use mathlib.Core.List.{List}
use Prim.Native.Nat.{ℕ, ◌<◌}
use native.Mathlib.Decide.{ℕ_discrete}
use lib.ListN.{get_or}
use Rattle.board.specs.declared.Board.{Board}
use Rattle.board.specs.Board.{Regular, cache_pages, line_of, cache_at, memory_at}
use Rattle.board.proofs.Geometry.{line_of_lt, line_of_colour}
use Rattle.cache.specs.Store.{Store, WellFormedStore, tag_at}
use Rattle.cache.specs.Tag.{dirty_tag, names}
use Rattle.cache.specs.Cache.{purge}
use Rattle.cache.specs.Current.{Current}
use Rattle.cache.proofs.Laws.Tag.{names_dirty, names_one}
use Rattle.cache.proofs.Laws.WriteBack.{dirty_frame_lt}
use Rattle.cache.proofs.Laws.Operations.{purge_tag_left, purge_tag_other, purge_tag_from, purge_words, purge_memory}

module _ (b : Board) (reg : Regular b) (g c : ℕ) (hg : g < b.frames) (hc : c < cache_pages b) (f : ℕ) (current : ℕ → ℕ) (s : Store) (wf : WellFormedStore b s) (was : Current b f current s) where
  -- it loses none of f, unless f is g and has a dirty line in colour c
  pub purge_current : ((o : ℕ) → o < b.page → f ≡ g → tag_at s (line_of b c o) ≡ dirty_tag f → ⊥) → Current b f current (purge b g c s)
  purge_current spared =
      record {
        in_line = λ d p hd hp dirty.
            ap (λ (l : List ℕ). get_or l (cache_at b d p) 0) (purge_words b reg g c hc s wf)
            ∙ was.in_line d p hd hp (sym (purge_tag_from b reg g c hc s wf (line_of b d p) f (line_of_lt b reg d p hd hp) (ap (λ (t : ℕ). names t f) dirty ∙ names_dirty f)) ∙ dirty);
        in_memory = λ o ho none.
            ap (λ (l : List ℕ). get_or l (memory_at b f o) 0) (purge_memory b reg g c hc s wf)
            ∙ was.in_memory o ho (λ d hd dirty. none d hd (stays d o ho dirty (ℕ_discrete d c) (names (tag_at s (line_of b d o)) g) refl ∙ dirty));
      }
    where
      stays : (d o : ℕ) → o < b.page → tag_at s (line_of b d o) ≡ dirty_tag f → Dec (d ≡ c) → (t : Bool) → names (tag_at s (line_of b d o)) g ≡ t → tag_at (purge b g c s) (line_of b d o) ≡ tag_at s (line_of b d o)
      stays d o ho dirty (no ne) t q = purge_tag_other b reg g c hc s wf (line_of b d o) (λ e. ne (sym (line_of_colour b reg d o ho) ∙ e))
      stays d o ho dirty (yes e) false q = purge_tag_left b reg g c hc s wf (line_of b d o) q
      stays d o ho dirty (yes e) true q =
          let hf : f < b.frames = dirty_frame_lt b reg s wf (line_of b d o) f dirty in
          let one : f ≡ g = names_one b reg (tag_at s (line_of b d o)) f g hf hg (ap (λ (t : ℕ). names t f) dirty ∙ names_dirty f) q in
          absurd (spared o ho one (ap (λ (x : ℕ). tag_at s (line_of b x o)) (sym e) ∙ dirty))
