-- A processor's write of v to offset o of frame g through colour c, and a frame's current words.
use mathlib.Core.Path.{◌≡◌, sym, ap, ap₂, ◌∙◌}
use mathlib.Core.Logic.{◌≢◌}
use mathlib.Core.List.{List}
use Prim.Native.Nat.{ℕ, ◌<◌}
use native.Mathlib.Omega.{arith}
use native.Mathlib.Decide.{ℕ_discrete}
use lib.ListN.{get_or}
use borrow.Author.Tests.{eq-eqb, ne_eqb}
use Rattle.board.specs.declared.Board.{Board}
use Rattle.board.specs.Board.{Regular, cache_pages, line_of, line_colour, memory_at}
use Rattle.board.proofs.Geometry.{line_of_colour}
use Rattle.cache.specs.Store.{Store, WellFormedStore, tag_at, word_at}
use Rattle.cache.specs.Tag.{dirty_tag, names}
use Rattle.cache.specs.Cache.{access, write_word}
use Rattle.cache.specs.Current.{Current, written}
use Rattle.cache.proofs.Laws.Tag.{names_dirty, names_one}
use Rattle.cache.proofs.Laws.WriteBack.{dirty_frame_lt}
use Rattle.cache.proofs.Laws.Access.{access_kept, access_names, access_tag_other, access_word_other, write_word_tag_same, write_word_tag_other, write_word_word_same, write_word_word_line, write_word_word_other, write_word_memory}
use Rattle.cache.proofs.Current.Line.{access_current}

-- ---- the current words after a write

written_same : (o v : ℕ) (current : ℕ → ℕ) (p : ℕ) → p ≡ o → written o v current p ≡ v
written_same o v current p e = rw (eq-eqb p o e)

written_other : (o v : ℕ) (current : ℕ → ℕ) (p : ℕ) → p ≢ o → written o v current p ≡ current p
written_other o v current p ne = rw (ne_eqb p o ne)

module _ (b : Board) (reg : Regular b) (g c o : ℕ) (hg : g < b.frames) (hc : c < cache_pages b) (ho : o < b.page) (s : Store) (wf : WellFormedStore b s) (v : ℕ) where
  -- another line's tag is as it was
  tag_kept : (m : ℕ) → m ≢ line_of b c o → tag_at (write_word b g c o v s) m ≡ tag_at (access b g c o s) m
  tag_kept m ne = write_word_tag_other b reg g c o hg hc ho s wf v m ne ∙ sym (access_tag_other b reg g c o hg hc ho s wf m ne)

  word_kept : (d p : ℕ) → line_of b d p ≢ line_of b c o → word_at b (write_word b g c o v s) d p ≡ word_at b (access b g c o s) d p
  word_kept d p ne = write_word_word_other b reg g c o hg hc ho s wf v d p ne ∙ sym (access_word_other b reg g c o hg hc ho s wf d p ne)

  -- it loses none of another frame
  pub write_current_other : (f : ℕ) (current : ℕ → ℕ) → f ≢ g → Current b f current s → Current b f current (write_word b g c o v s)
  write_current_other f current ne was =
      record {
        in_line = λ d p hd hp dirty. line d p hd hp dirty (ℕ_discrete (line_of b d p) (line_of b c o));
        in_memory = λ p hp none.
            ap (λ (l : List ℕ). get_or l (memory_at b f p) 0) (write_word_memory b reg g c o hg hc ho s wf v)
            ∙ now.in_memory p hp (λ d hd dirty. no_line p none d hd dirty (ℕ_discrete (line_of b d p) (line_of b c o)));
      }
    where
      now : Current b f current (access b g c o s)
      now = access_current b reg g c o hg hc ho f current s wf was

      line : (d p : ℕ) → d < cache_pages b → p < b.page → tag_at (write_word b g c o v s) (line_of b d p) ≡ dirty_tag f → Dec (line_of b d p ≡ line_of b c o) → word_at b (write_word b g c o v s) d p ≡ current p
      line d p hd hp dirty (yes e) = absurd (ne (let own = write_word_tag_same b reg g c o hg hc ho s wf v in let same = sym (ap (tag_at (write_word b g c o v s)) e) ∙ dirty in omega arith))
      line d p hd hp dirty (no apart) = word_kept d p apart ∙ now.in_line d p hd hp (sym (tag_kept (line_of b d p) apart) ∙ dirty)

      no_line : (p : ℕ) → ((d : ℕ) → d < cache_pages b → tag_at (write_word b g c o v s) (line_of b d p) ≡ dirty_tag f → ⊥) → (d : ℕ) → d < cache_pages b → tag_at (access b g c o s) (line_of b d p) ≡ dirty_tag f → Dec (line_of b d p ≡ line_of b c o) → ⊥
      no_line p none d hd dirty (no apart) = none d hd (tag_kept (line_of b d p) apart ∙ dirty)
      no_line p none d hd dirty (yes e) =
          let w : WellFormedStore b (access b g c o s) = access_kept b reg g c o hg hc ho s wf in
          let here : tag_at (access b g c o s) (line_of b c o) ≡ dirty_tag f = sym (ap (tag_at (access b g c o s)) e) ∙ dirty in
          let hf : f < b.frames = dirty_frame_lt b reg (access b g c o s) w (line_of b c o) f here in
          ne (names_one b reg (tag_at (access b g c o s) (line_of b c o)) f g hf hg (ap (λ (t : ℕ). names t f) here ∙ names_dirty f) (access_names b reg g c o hg hc ho s wf))

  -- its own frame's words are current with v at o, if the line's were and no other colour has a dirty line over o
  pub write_current_same : (current : ℕ → ℕ)
      → ((p : ℕ) → p < b.page → line_of b c p ≡ line_of b c o → word_at b (access b g c o s) c p ≡ current p)
      → ((d : ℕ) → d < cache_pages b → d ≢ c → tag_at s (line_of b d o) ≡ dirty_tag g → ⊥)
      → Current b g current s → Current b g (written o v current) (write_word b g c o v s)
  write_current_same current held alone was =
      record {
        in_line = λ d p hd hp dirty. line d p hd hp dirty (ℕ_discrete (line_of b d p) (line_of b c o)) (ℕ_discrete p o);
        in_memory = λ p hp none.
            ap (λ (l : List ℕ). get_or l (memory_at b g p) 0) (write_word_memory b reg g c o hg hc ho s wf v)
            ∙ now.in_memory p hp (λ d hd dirty. no_line p none d hd dirty (ℕ_discrete (line_of b d p) (line_of b c o)))
            ∙ sym (written_other o v current p (λ e. none c hc (ap (λ (x : ℕ). tag_at (write_word b g c o v s) (line_of b c x)) e ∙ own)));
      }
    where
      now : Current b g current (access b g c o s)
      now = access_current b reg g c o hg hc ho g current s wf was

      own : tag_at (write_word b g c o v s) (line_of b c o) ≡ dirty_tag g
      own = write_word_tag_same b reg g c o hg hc ho s wf v

      line : (d p : ℕ) → d < cache_pages b → p < b.page → tag_at (write_word b g c o v s) (line_of b d p) ≡ dirty_tag g → Dec (line_of b d p ≡ line_of b c o) → Dec (p ≡ o) → word_at b (write_word b g c o v s) d p ≡ written o v current p
      line d p hd hp dirty (yes e) (yes q) =
          let colour : d ≡ c = sym (line_of_colour b reg d p hp) ∙ ap (line_colour b) e ∙ line_of_colour b reg c o ho in
          ap₂ (λ (x y : ℕ). word_at b (write_word b g c o v s) x y) colour q ∙ write_word_word_same b reg g c o hg hc ho s wf v ∙ sym (written_same o v current p q)
      line d p hd hp dirty (yes e) (no apart) =
          let colour : d ≡ c = sym (line_of_colour b reg d p hp) ∙ ap (line_colour b) e ∙ line_of_colour b reg c o ho in
          ap (λ (x : ℕ). word_at b (write_word b g c o v s) x p) colour
          ∙ write_word_word_line b reg g c o hg hc ho s wf v p apart
          ∙ held p hp (ap (λ (x : ℕ). line_of b x p) (sym colour) ∙ e)
          ∙ sym (written_other o v current p apart)
      line d p hd hp dirty (no ne) (yes q) =
          absurd (alone d hd (λ e. ne (ap₂ (line_of b) e q))
          (ap (λ (x : ℕ). tag_at s (line_of b d x)) (sym q) ∙ sym (write_word_tag_other b reg g c o hg hc ho s wf v (line_of b d p) ne) ∙ dirty))
      line d p hd hp dirty (no ne) (no apart) =
          word_kept d p ne ∙ now.in_line d p hd hp (sym (tag_kept (line_of b d p) ne) ∙ dirty) ∙ sym (written_other o v current p apart)

      no_line : (p : ℕ) → ((d : ℕ) → d < cache_pages b → tag_at (write_word b g c o v s) (line_of b d p) ≡ dirty_tag g → ⊥) → (d : ℕ) → d < cache_pages b → tag_at (access b g c o s) (line_of b d p) ≡ dirty_tag g → Dec (line_of b d p ≡ line_of b c o) → ⊥
      no_line p none d hd dirty (yes e) = none d hd (ap (tag_at (write_word b g c o v s)) e ∙ own)
      no_line p none d hd dirty (no ne) = none d hd (tag_kept (line_of b d p) ne ∙ dirty)
