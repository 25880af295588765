-- A processor's access to offset o of frame f through colour c, and the page states of f and of other frames.
use mathlib.Core.Path.{◌≡◌, refl, sym, ap, ◌∙◌}
use mathlib.Core.Bool.{Bool, true, false, true≢false, false≢true}
use mathlib.Core.Logic.{◌≢◌}
use Prim.Native.Nat.{ℕ, ◌<◌}
use native.Mathlib.Omega.{arith}
use native.Mathlib.Decide.{ℕ_discrete}
use Rattle.board.specs.declared.Board.{Board}
use Rattle.board.specs.Board.{Regular, cache_pages, line_of, line_colour}
use Rattle.board.proofs.Geometry.{line_of_colour}
use Rattle.page_model.specs.Record.{is_held}
use Rattle.page_model.specs.Table.{ColourState, empty, dirty}
use Rattle.cache.specs.Store.{Store, WellFormedStore, tag_at, word_at, memory_word}
use Rattle.cache.specs.Tag.{clean_tag, dirty_tag, names}
use Rattle.cache.specs.Cache.{access}
use Rattle.cache.proofs.Laws.Tag.{names_dirty, names_one}
use Rattle.cache.proofs.Laws.Access.{access_hit, access_names, access_tag_same, access_tag_other, access_word_same, access_word_other}
use Rattle.cache.proofs.Current.Line.{access_current}
use Rattle.consistency.proofs.Agrees.{Agrees, same_lines, untouched_agrees}

-- two offsets in one line are in one colour
pub same_colour : (b : Board) (reg : Regular b) (d p c o : ℕ) → p < b.page → o < b.page → line_of b d p ≡ line_of b c o → d ≡ c
same_colour b reg d p c o hp ho e = sym (line_of_colour b reg d p hp) ∙ ap (line_colour b) e ∙ line_of_colour b reg c o ho

module _ (b : Board) (reg : Regular b) (f c o : ℕ) (hf : f < b.frames) (hc : c < cache_pages b) (ho : o < b.page) (s : Store) (wf : WellFormedStore b s) where
  -- ---- another frame: the line no longer names it, and the others are as they were

  module _ (g : ℕ) (hg : g < b.frames) (ne : g ≢ f) where
    apart : (n : ℕ) → names (tag_at (access b f c o s) n) g ≡ true → n ≢ line_of b c o
    apart n named e =
        ne (names_one b reg (tag_at (access b f c o s) n) g f hg hf named
        (ap (λ (x : ℕ). names (tag_at (access b f c o s) x) f) e ∙ access_names b reg f c o hf hc ho s wf))

    pub access_other : (states : ℕ → ColourState) (words : ℕ → ℕ) → Agrees b g states words s → Agrees b g states words (access b f c o s)
    access_other states words a =
        untouched_agrees b g states s (access b f c o s)
        (same_lines b g s (access b f c o s) (λ d p hd hp n. access_tag_other b reg f c o hf hc ho s wf (line_of b d p) (apart (line_of b d p) n))
        (λ d p hd hp n. access_word_other b reg f c o hf hc ho s wf d p (apart (line_of b d p) n)))
        words (access_current b reg f c o hf hc ho g words s wf a.current) a

  -- ---- its own frame, through a present or dirty colour beside which none is dirty

  module _ (states : ℕ → ColourState) (words : ℕ → ℕ) (a : Agrees b f states words s) (held : is_held (states c) ≡ true)
      (alone : (d : ℕ) → d < cache_pages b → d ≢ c → states d ≢ dirty) where
    -- on a miss the line is filled with the frame's words
    filled : (p : ℕ) → p < b.page → line_of b c p ≡ line_of b c o → names (tag_at s (line_of b c o)) f ≡ false → memory_word b s f p ≡ words p
    filled p hp e miss = a.current.in_memory p hp (λ d hd t. go d hd t (ℕ_discrete d c))
      where
        go : (d : ℕ) → d < cache_pages b → tag_at s (line_of b d p) ≡ dirty_tag f → Dec (d ≡ c) → ⊥
        go d hd t (no ne) = alone d hd ne (a.tagged.dirty_colour d p hd hp t)
        go d hd t (yes q) =
            true≢false (sym (ap (λ (x : ℕ). names x f) (sym (ap (tag_at s) (ap (λ (x : ℕ). line_of b x p) q ∙ e)) ∙ t) ∙ names_dirty f) ∙ miss)

    -- the words of the line are the frame's
    pub access_words : (p : ℕ) → p < b.page → line_of b c p ≡ line_of b c o → word_at b (access b f c o s) c p ≡ words p
    access_words p hp e = go (names (tag_at s (line_of b c o)) f) refl
      where
        go : (t : Bool) → names (tag_at s (line_of b c o)) f ≡ t → word_at b (access b f c o s) c p ≡ words p
        go true hit =
            ap (λ (t : Store). word_at b t c p) (access_hit b reg f c o hf hc ho s wf hit)
            ∙ a.held_words c p hc hp (ap (λ (x : ℕ). names (tag_at s x) f) e ∙ hit) held
        go false miss = access_word_same b reg f c o hf hc ho s wf c p hp e miss ∙ filled p hp e miss

    -- a dirty tag of f was there before
    dirty_from : (n : ℕ) → tag_at (access b f c o s) n ≡ dirty_tag f → tag_at s n ≡ dirty_tag f
    dirty_from n t = go (ℕ_discrete n (line_of b c o)) (names (tag_at s (line_of b c o)) f) refl
      where
        go : Dec (n ≡ line_of b c o) → (m : Bool) → names (tag_at s (line_of b c o)) f ≡ m → tag_at s n ≡ dirty_tag f
        go (no ne) m q = sym (access_tag_other b reg f c o hf hc ho s wf n ne) ∙ t
        go (yes e) true hit = sym (ap (λ (x : Store). tag_at x n) (access_hit b reg f c o hf hc ho s wf hit)) ∙ t
        go (yes e) false miss =
            let clean : tag_at (access b f c o s) n ≡ clean_tag f = ap (tag_at (access b f c o s)) e ∙ access_tag_same b reg f c o hf hc ho s wf miss in
            absurd (omega arith)

    not_empty : states c ≢ empty
    not_empty e = false≢true (sym (ap is_held e) ∙ held)

    occupied_after : (d p : ℕ) → d < cache_pages b → p < b.page → names (tag_at (access b f c o s) (line_of b d p)) f ≡ true → Dec (line_of b d p ≡ line_of b c o) → states d ≢ empty
    occupied_after d p hd hp n (yes e) = λ q. not_empty (ap states (sym (same_colour b reg d p c o hp ho e)) ∙ q)
    occupied_after d p hd hp n (no ne) =
        a.tagged.occupied d p hd hp (sym (ap (λ (x : ℕ). names x f) (access_tag_other b reg f c o hf hc ho s wf (line_of b d p) ne)) ∙ n)

    words_after : (d p : ℕ) → d < cache_pages b → p < b.page → names (tag_at (access b f c o s) (line_of b d p)) f ≡ true → is_held (states d) ≡ true → Dec (line_of b d p ≡ line_of b c o)
        → word_at b (access b f c o s) d p ≡ words p
    words_after d p hd hp n h (yes e) =
        let q : d ≡ c = same_colour b reg d p c o hp ho e in
        ap (λ (x : ℕ). word_at b (access b f c o s) x p) q ∙ access_words p hp (ap (λ (x : ℕ). line_of b x p) (sym q) ∙ e)
    words_after d p hd hp n h (no ne) =
        access_word_other b reg f c o hf hc ho s wf d p ne
        ∙ a.held_words d p hd hp (sym (ap (λ (x : ℕ). names x f) (access_tag_other b reg f c o hf hc ho s wf (line_of b d p) ne)) ∙ n) h

    pub access_own : Agrees b f states words (access b f c o s)
    access_own =
        record {
          tagged = record {
            occupied = λ d p hd hp n. occupied_after d p hd hp n (ℕ_discrete (line_of b d p) (line_of b c o));
            dirty_colour = λ d p hd hp t. a.tagged.dirty_colour d p hd hp (dirty_from (line_of b d p) t);
          };
          held_words = λ d p hd hp n h. words_after d p hd hp n h (ℕ_discrete (line_of b d p) (line_of b c o));
          current = access_current b reg f c o hf hc ho f words s wf a.current;
        }
