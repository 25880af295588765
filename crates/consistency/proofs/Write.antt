-- A processor's write of v to offset o of frame f through colour c, and the page states of f and of other frames.
use mathlib.Core.Path.{◌≡◌, sym, ap, ◌∙◌}
use mathlib.Core.Bool.{true}
use mathlib.Core.Logic.{◌≢◌}
use Prim.Native.Nat.{ℕ, ◌<◌}
use native.Mathlib.Omega.{arith}
use native.Mathlib.Decide.{ℕ_discrete}
use borrow.Author.Tests.{eq-eqb, ne_eqb}
use Rattle.board.specs.declared.Board.{Board}
use Rattle.board.specs.Board.{Regular, cache_pages, line_of}
use Rattle.page_model.specs.Record.{is_held}
use Rattle.page_model.specs.Table.{ColourState, empty, dirty}
use Rattle.cache.specs.Store.{Store, WellFormedStore, tag_at, word_at}
use Rattle.cache.specs.Tag.{dirty_tag, names}
use Rattle.cache.specs.Cache.{access, write_word}
use Rattle.cache.specs.Current.{written}
use Rattle.cache.proofs.Laws.Tag.{names_dirty, names_one}
use Rattle.cache.proofs.Laws.Access.{write_word_tag_same, write_word_tag_other, write_word_word_same, write_word_word_line, write_word_word_other}
use Rattle.cache.proofs.Current.Write.{write_current_other, write_current_same}
use Rattle.consistency.proofs.Agrees.{Agrees, same_lines, untouched_agrees}
use Rattle.consistency.proofs.Access.{same_colour, access_words}

module _ (b : Board) (reg : Regular b) (f c o : ℕ) (hf : f < b.frames) (hc : c < cache_pages b) (ho : o < b.page) (s : Store) (wf : WellFormedStore b s) (v : ℕ) where
  -- ---- another frame

  module _ (g : ℕ) (hg : g < b.frames) (ne : g ≢ f) where
    apart : (n : ℕ) → names (tag_at (write_word b f c o v s) n) g ≡ true → n ≢ line_of b c o
    apart n named e =
        ne (names_one b reg (tag_at (write_word b f c o v s) n) g f hg hf named
        (ap (λ (x : ℕ). names x f) (ap (tag_at (write_word b f c o v s)) e ∙ write_word_tag_same b reg f c o hf hc ho s wf v) ∙ names_dirty f))

    pub write_other : (states : ℕ → ColourState) (words : ℕ → ℕ) → Agrees b g states words s → Agrees b g states words (write_word b f c o v s)
    write_other states words a =
        untouched_agrees b g states s (write_word b f c o v s)
        (same_lines b g s (write_word b f c o v s) (λ d p hd hp n. write_word_tag_other b reg f c o hf hc ho s wf v (line_of b d p) (apart (line_of b d p) n))
        (λ d p hd hp n. write_word_word_other b reg f c o hf hc ho s wf v d p (apart (line_of b d p) n)))
        words (write_current_other b reg f c o hf hc ho s wf v g words ne a.current) a

  -- ---- its own frame, through a dirty colour beside which none is present or dirty

  module _ (states : ℕ → ColourState) (words : ℕ → ℕ) (a : Agrees b f states words s) (own : states c ≡ dirty)
      (alone : (d : ℕ) → d < cache_pages b → is_held (states d) ≡ true → d ≡ c) where
    others_clean : (d : ℕ) → d < cache_pages b → d ≢ c → states d ≢ dirty
    others_clean d hd ne e = ne (alone d hd (ap is_held e))

    line_words : (p : ℕ) → p < b.page → line_of b c p ≡ line_of b c o → word_at b (access b f c o s) c p ≡ words p
    line_words = access_words b reg f c o hf hc ho s wf states words a (ap is_held own) others_clean

    tag_from : (n : ℕ) → n ≢ line_of b c o → names (tag_at (write_word b f c o v s) n) f ≡ true → names (tag_at s n) f ≡ true
    tag_from n ne named = sym (ap (λ (x : ℕ). names x f) (write_word_tag_other b reg f c o hf hc ho s wf v n ne)) ∙ named

    occupied_after : (d p : ℕ) → d < cache_pages b → p < b.page → names (tag_at (write_word b f c o v s) (line_of b d p)) f ≡ true → Dec (line_of b d p ≡ line_of b c o) → states d ≢ empty
    occupied_after d p hd hp n (yes e) = λ q. let z = sym own ∙ ap states (sym (same_colour b reg d p c o hp ho e)) ∙ q in let y : ◌≡◌ {A = ℕ} 0 1 = cc in omega arith
    occupied_after d p hd hp n (no ne) = a.tagged.occupied d p hd hp (tag_from (line_of b d p) ne n)

    dirty_after_lem : (d p : ℕ) → d < cache_pages b → p < b.page → tag_at (write_word b f c o v s) (line_of b d p) ≡ dirty_tag f → Dec (line_of b d p ≡ line_of b c o) → states d ≡ dirty
    dirty_after_lem d p hd hp t (yes e) = ap states (same_colour b reg d p c o hp ho e) ∙ own
    dirty_after_lem d p hd hp t (no ne) = a.tagged.dirty_colour d p hd hp (sym (write_word_tag_other b reg f c o hf hc ho s wf v (line_of b d p) ne) ∙ t)

    -- a word of colour c whose line names f
    word_after : (p : ℕ) → p < b.page → names (tag_at (write_word b f c o v s) (line_of b c p)) f ≡ true → Dec (p ≡ o) → Dec (line_of b c p ≡ line_of b c o)
        → word_at b (write_word b f c o v s) c p ≡ written o v words p
    word_after p hp n (yes q) same = ap (word_at b (write_word b f c o v s) c) q ∙ write_word_word_same b reg f c o hf hc ho s wf v ∙ sym (rw (eq-eqb p o q))
    word_after p hp n (no ne) (yes e) = write_word_word_line b reg f c o hf hc ho s wf v p ne ∙ line_words p hp e ∙ sym (rw (ne_eqb p o ne))
    word_after p hp n (no ne) (no apart) =
        write_word_word_other b reg f c o hf hc ho s wf v c p apart ∙ a.held_words c p hc hp (tag_from (line_of b c p) apart n) (ap is_held own) ∙ sym (rw (ne_eqb p o ne))

    words_after : (d p : ℕ) → d < cache_pages b → p < b.page → names (tag_at (write_word b f c o v s) (line_of b d p)) f ≡ true → d ≡ c → word_at b (write_word b f c o v s) d p ≡ written o v words p
    words_after d p hd hp n q =
        ap (λ (x : ℕ). word_at b (write_word b f c o v s) x p) q
        ∙ word_after p hp (ap (λ (x : ℕ). names (tag_at (write_word b f c o v s) (line_of b x p)) f) (sym q) ∙ n) (ℕ_discrete p o) (ℕ_discrete (line_of b c p) (line_of b c o))

    pub write_own : Agrees b f states (written o v words) (write_word b f c o v s)
    write_own =
        record {
          tagged = record {
            occupied = λ d p hd hp n. occupied_after d p hd hp n (ℕ_discrete (line_of b d p) (line_of b c o));
            dirty_colour = λ d p hd hp t. dirty_after_lem d p hd hp t (ℕ_discrete (line_of b d p) (line_of b c o));
          };
          held_words = λ d p hd hp n h. words_after d p hd hp n (alone d hd h);
          current = write_current_same b reg f c o hf hc ho s wf v words line_words (λ d hd ne t. others_clean d hd ne (a.tagged.dirty_colour d o hd ho t)) a.current;
        }
