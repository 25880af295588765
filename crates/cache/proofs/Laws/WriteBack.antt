-- The laws of a line's write-back.
use mathlib.Core.Path.{◌≡◌, refl, sym, ap, ap₂, ◌∙◌, subst, subst⁻¹}
use mathlib.Core.Bool.{Bool, true, false}
use Prim.Native.Nat.{ℕ, ◌+◌, ◌%◌, ◌≤◌, ◌<◌}
use native.Mathlib.Omega.{arith}
use native.Mathlib.Nat.{mod-lt}
use lib.ListN.{length, get_or}
use Rattle.board.specs.declared.Board.{Board}
use Rattle.board.specs.Board.{Regular, lines, line_of, line_at, cache_at, line_colour, line_offset, memory_at}
use Rattle.board.proofs.Geometry.{line_at_end, line_of_offset, memory_at_line, memory_at_line_end, memory_at_within_frame, memory_at_within_line}
use Rattle.cache.specs.Store.{Store, WellFormedStore, tag_at, word_at, memory_word, when}
use Rattle.cache.specs.Tag.{dirty_tag, is_dirty_tag, frame_of, tag_keeps_rules}
use Rattle.cache.specs.Cache.{line_words_of, copy_out, write_back}
use Rattle.cache.proofs.Laws.Part.{length_part, part_at, length_overlay, overlay_inside, overlay_outside}
use Rattle.cache.proofs.Laws.Tag.{is_dirty_tag_dirty, frame_of_dirty, dirty_frame, rules_at, rules_frame}

module _ (b : Board) (reg : Regular b) (s : Store) (wf : WellFormedStore b s) where
  pub tag_keeps : (n : ℕ) → tag_keeps_rules b (tag_at s n) ≡ true
  tag_keeps n = rules_at b reg s.tags n wf.tags_rules

  -- ---- the words of a line

  line_length : (n : ℕ) → n < lines b → length (line_words_of b n s) ≡ b.line
  unfolding line_words_of
  line_length n h = let e = wf.words_length in length_part s.words (line_at b n) b.line (omega (arith, line_at_end b reg n h))

  line_at_lem : (n c o : ℕ) → line_of b c o ≡ n → get_or (line_words_of b n s) (o % b.line) 0 ≡ word_at b s c o
  unfolding line_words_of cache_at
  line_at_lem n c o e = rw e (part_at s.words (line_at b n) b.line (o % b.line) (mod-lt o reg.has_line_words))

  -- ---- line n's words copied to memory of frame g

  module _ (g n : ℕ) (hg : g < b.frames) (hn : n < lines b) where
    out_fits : memory_at b g (line_offset b n) + length (line_words_of b n s) ≤ length s.memory
    out_fits = let e = wf.memory_length in omega (arith, line_length n hn, memory_at_line_end b reg g n hg)

    copy_out_kept : WellFormedStore b (copy_out b g n s)
    unfolding copy_out
    copy_out_kept =
        record {
          memory_length = length_overlay s.memory (memory_at b g (line_offset b n)) (line_words_of b n s) out_fits ∙ wf.memory_length;
          words_length = wf.words_length;
          tags_length = wf.tags_length;
          tags_rules = wf.tags_rules;
        }

    copy_out_memory_same : (c o : ℕ) → o < b.page → line_of b c o ≡ n → memory_word b (copy_out b g n s) g o ≡ word_at b s c o
    unfolding copy_out
    copy_out_memory_same c o ho e =
        let i : ℕ = o % b.line in
        let place : memory_at b g o ≡ memory_at b g (line_offset b n) + i = ap (λ (x : ℕ). memory_at b g x) (sym (rw e at (line_of_offset b reg c o ho))) ∙ sym (memory_at_line b reg g n i) in
        ap (λ (x : ℕ). get_or (copy_out b g n s).memory x 0) place
        ∙ overlay_inside s.memory (memory_at b g (line_offset b n)) (line_words_of b n s) out_fits i (omega (arith, line_length n hn, mod-lt o reg.has_line_words))
        ∙ line_at_lem n c o e

    copy_out_memory_other : (f o : ℕ) → o < b.page → (f ≡ g → line_of b (line_colour b n) o ≡ n → ⊥) → memory_word b (copy_out b g n s) f o ≡ memory_word b s f o
    unfolding copy_out
    copy_out_memory_other f o ho out =
        overlay_outside s.memory (memory_at b g (line_offset b n)) (line_words_of b n s) out_fits (memory_at b f o)
        (λ low high.
        let below : memory_at b f o < memory_at b g (line_offset b n) + b.line = omega (arith, line_length n hn) in
        let e : f ≡ g = memory_at_within_frame b reg g n f o ho low below in
        out e (memory_at_within_line b reg g n o (rw e at low) (rw e at below)))

  -- ---- write back

  pub write_back_clean : (n : ℕ) → is_dirty_tag (tag_at s n) ≡ false → write_back b n s ≡ s
  unfolding write_back
  write_back_clean n e = rw e

  pub write_back_dirty : (n f : ℕ) → tag_at s n ≡ dirty_tag f → write_back b n s ≡ copy_out b f n s
  unfolding write_back
  write_back_dirty n f e =
      ap (λ (t : ℕ). when (is_dirty_tag t) (copy_out b (frame_of t) n) s) e
      ∙ ap₂ (λ (d : Bool) (g : ℕ). when d (copy_out b g n) s) (is_dirty_tag_dirty f) (frame_of_dirty f)

  -- the frame of a dirty tag is on the board
  pub dirty_frame_lt : (n f : ℕ) → tag_at s n ≡ dirty_tag f → f < b.frames
  dirty_frame_lt n f e =
      let d : is_dirty_tag (tag_at s n) ≡ true = rw e (is_dirty_tag_dirty f) in
      subst (λ (x : ℕ). x < b.frames) (ap frame_of e ∙ frame_of_dirty f) (rules_frame b reg (tag_at s n) (tag_keeps n) d)

  -- what holds of the store as it is, and of each copy of the line to memory, holds after a write-back
  write_back_cases : (P : Store → Type 0) (n : ℕ) → (is_dirty_tag (tag_at s n) ≡ false → P s) → ((f : ℕ) → f < b.frames → tag_at s n ≡ dirty_tag f → P (copy_out b f n s)) → P (write_back b n s)
  write_back_cases P n clean dirty = go (is_dirty_tag (tag_at s n)) refl
    where
      go : (t : Bool) → is_dirty_tag (tag_at s n) ≡ t → P (write_back b n s)
      go false e = subst⁻¹ P (write_back_clean n e) (clean e)
      go true e =
          let f : ℕ = frame_of (tag_at s n) in
          let d : tag_at s n ≡ dirty_tag f = dirty_frame (tag_at s n) e in
          subst⁻¹ P (write_back_dirty n f d) (dirty f (dirty_frame_lt n f d) d)

  pub write_back_tags : (n : ℕ) → (write_back b n s).tags ≡ s.tags
  unfolding copy_out
  write_back_tags n = write_back_cases (λ t. t.tags ≡ s.tags) n (λ e. refl) (λ f h e. refl)

  pub write_back_words : (n : ℕ) → (write_back b n s).words ≡ s.words
  unfolding copy_out
  write_back_words n = write_back_cases (λ t. t.words ≡ s.words) n (λ e. refl) (λ f h e. refl)

  pub write_back_kept : (n : ℕ) → n < lines b → WellFormedStore b (write_back b n s)
  write_back_kept n hn = write_back_cases (WellFormedStore b) n (λ e. wf) (λ f h e. copy_out_kept f n h hn)

  pub write_back_memory_same : (n f c o : ℕ) → n < lines b → o < b.page → line_of b c o ≡ n → tag_at s n ≡ dirty_tag f → memory_word b (write_back b n s) f o ≡ word_at b s c o
  write_back_memory_same n f c o hn ho e d = rw (write_back_dirty n f d) (copy_out_memory_same f n (dirty_frame_lt n f d) hn c o ho e)

  pub write_back_memory_other : (n f o : ℕ) → n < lines b → o < b.page → (line_of b (line_colour b n) o ≡ n → tag_at s n ≡ dirty_tag f → ⊥) → memory_word b (write_back b n s) f o ≡ memory_word b s f o
  write_back_memory_other n f o hn ho out =
      write_back_cases (λ t. memory_word b t f o ≡ memory_word b s f o) n (λ e. refl)
      (λ g h d. copy_out_memory_other g n h hn f o ho (λ e l. out l (d ∙ ap dirty_tag (sym e))))
