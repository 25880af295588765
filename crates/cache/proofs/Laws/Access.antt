-- The laws of a processor's access, read and write of a word.
use mathlib.Core.Path.{◌≡◌, refl, sym, ap, ◌∙◌, subst⁻¹}
use mathlib.Core.Bool.{Bool, true, false, true≢false}
use mathlib.Core.Logic.{◌≢◌}
use mathlib.Core.List.{List}
use Prim.Native.Nat.{ℕ, ◌<◌}
use native.Mathlib.Omega.{arith}
use lib.ListN.{get_or, length-set}
use lib.Seq.{get_or-set_same, get_or-set_other}
use Rattle.board.specs.declared.Board.{Board}
use Rattle.board.specs.Board.{Regular, cache_pages, lines, line_of, cache_at, memory_at}
use Rattle.board.proofs.Geometry.{line_of_lt, line_of_data, line_of_colour, cache_at_lt, cache_at_line_inj, cache_at_offset_inj}
use Rattle.cache.specs.Store.{Store, WellFormedStore, tag_at, word_at, memory_word}
use Rattle.cache.specs.Tag.{clean_tag, dirty_tag, names}
use Rattle.cache.specs.Cache.{write_back, replace, access, read_word, write_word}
use Rattle.cache.proofs.Laws.Tag.{names_clean, names_dirty, line_dirty, rules_set}
use Rattle.cache.proofs.Laws.WriteBack.{write_back_tags, write_back_words, write_back_kept, write_back_memory_same, write_back_memory_other}
use Rattle.cache.proofs.Laws.Fill.{fill_kept, fill_tag_same, fill_tag_other, fill_word_same, fill_word_other, fill_memory}

-- ---- a line replaced

module _ (b : Board) (reg : Regular b) (s : Store) (wf : WellFormedStore b s) (f n : ℕ) (hf : f < b.frames) (hn : n < lines b) where
  pub replace_kept : WellFormedStore b (replace b f n s)
  unfolding replace
  replace_kept = fill_kept b reg (write_back b n s) (write_back_kept b reg s wf n hn) f n hf hn

  pub replace_tag_same : tag_at (replace b f n s) n ≡ clean_tag f
  unfolding replace
  replace_tag_same = fill_tag_same b reg (write_back b n s) (write_back_kept b reg s wf n hn) f n hf hn

  pub replace_tag_other : (m : ℕ) → m ≢ n → tag_at (replace b f n s) m ≡ tag_at s m
  unfolding replace
  replace_tag_other m ne = fill_tag_other b reg (write_back b n s) (write_back_kept b reg s wf n hn) f n hf hn m ne ∙ ap (λ (l : List ℕ). get_or l m 0) (write_back_tags b reg s wf n)

  pub replace_word_same : (c o : ℕ) → o < b.page → line_of b c o ≡ n → tag_at s n ≢ dirty_tag f → word_at b (replace b f n s) c o ≡ memory_word b s f o
  unfolding replace
  replace_word_same c o ho e ne =
      fill_word_same b reg (write_back b n s) (write_back_kept b reg s wf n hn) f n hf hn c o ho e
      ∙ write_back_memory_other b reg s wf n f o hn ho (λ _ d. ne d)

  pub replace_word_other : (c o : ℕ) → line_of b c o ≢ n → word_at b (replace b f n s) c o ≡ word_at b s c o
  unfolding replace
  replace_word_other c o ne =
      fill_word_other b reg (write_back b n s) (write_back_kept b reg s wf n hn) f n hf hn c o ne
      ∙ ap (λ (l : List ℕ). get_or l (cache_at b c o) 0) (write_back_words b reg s wf n)

  pub replace_memory : (replace b f n s).memory ≡ (write_back b n s).memory
  unfolding replace
  replace_memory = fill_memory b reg (write_back b n s) (write_back_kept b reg s wf n hn) f n hf hn

-- ---- access, to offset o of frame f through cache page c

module _ (b : Board) (reg : Regular b) (f c o : ℕ) (hf : f < b.frames) (hc : c < cache_pages b) (ho : o < b.page) (s : Store) (wf : WellFormedStore b s) where
  hn : line_of b c o < lines b
  hn = line_of_lt b reg c o hc ho

  pub access_hit : names (tag_at s (line_of b c o)) f ≡ true → access b f c o s ≡ s
  unfolding access
  access_hit e = rw e

  pub access_miss : names (tag_at s (line_of b c o)) f ≡ false → access b f c o s ≡ replace b f (line_of b c o) s
  unfolding access
  access_miss e = rw e

  -- what holds of the store as it is, and of that with the line replaced, holds after an access
  pub access_cases : (P : Store → Type 0) → (names (tag_at s (line_of b c o)) f ≡ true → P s) → (names (tag_at s (line_of b c o)) f ≡ false → P (replace b f (line_of b c o) s)) → P (access b f c o s)
  access_cases P hit miss = go (names (tag_at s (line_of b c o)) f) refl
    where
      go : (t : Bool) → names (tag_at s (line_of b c o)) f ≡ t → P (access b f c o s)
      go true e = subst⁻¹ P (access_hit e) (hit e)
      go false e = subst⁻¹ P (access_miss e) (miss e)

  -- a tag that does not name f is not f's dirty one
  not_dirty : names (tag_at s (line_of b c o)) f ≡ false → tag_at s (line_of b c o) ≢ dirty_tag f
  not_dirty e d = true≢false (sym (ap (λ (t : ℕ). names t f) d ∙ names_dirty f) ∙ e)

  pub access_kept : WellFormedStore b (access b f c o s)
  access_kept = access_cases (WellFormedStore b) (λ _. wf) (λ _. replace_kept b reg s wf f (line_of b c o) hf hn)

  pub access_names : names (tag_at (access b f c o s) (line_of b c o)) f ≡ true
  access_names =
      access_cases (λ t. names (tag_at t (line_of b c o)) f ≡ true) (λ e. e)
      (λ _. ap (λ (t : ℕ). names t f) (replace_tag_same b reg s wf f (line_of b c o) hf hn) ∙ names_clean f)

  pub access_tag_same : names (tag_at s (line_of b c o)) f ≡ false → tag_at (access b f c o s) (line_of b c o) ≡ clean_tag f
  access_tag_same e = rw (access_miss e) (replace_tag_same b reg s wf f (line_of b c o) hf hn)

  pub access_tag_other : (m : ℕ) → m ≢ line_of b c o → tag_at (access b f c o s) m ≡ tag_at s m
  access_tag_other m ne = access_cases (λ t. tag_at t m ≡ tag_at s m) (λ _. refl) (λ _. replace_tag_other b reg s wf f (line_of b c o) hf hn m ne)

  pub access_word_same : (d p : ℕ) → p < b.page → line_of b d p ≡ line_of b c o → names (tag_at s (line_of b c o)) f ≡ false → word_at b (access b f c o s) d p ≡ memory_word b s f p
  access_word_same d p hp e miss = rw (access_miss miss) (replace_word_same b reg s wf f (line_of b c o) hf hn d p hp e (not_dirty miss))

  pub access_word_other : (d p : ℕ) → line_of b d p ≢ line_of b c o → word_at b (access b f c o s) d p ≡ word_at b s d p
  access_word_other d p ne = access_cases (λ t. word_at b t d p ≡ word_at b s d p) (λ _. refl) (λ _. replace_word_other b reg s wf f (line_of b c o) hf hn d p ne)

  pub access_memory_same : (g p : ℕ) → p < b.page → line_of b c p ≡ line_of b c o → names (tag_at s (line_of b c o)) f ≡ false → tag_at s (line_of b c o) ≡ dirty_tag g → memory_word b (access b f c o s) g p ≡ word_at b s c p
  access_memory_same g p hp e miss d =
      ap (λ (t : Store). memory_word b t g p) (access_miss miss)
      ∙ ap (λ (l : List ℕ). get_or l (memory_at b g p) 0) (replace_memory b reg s wf f (line_of b c o) hf hn)
      ∙ write_back_memory_same b reg s wf (line_of b c o) g c p hn hp e d

  pub access_memory_other : (g p : ℕ) → p < b.page → (names (tag_at s (line_of b c o)) f ≡ false → line_of b c p ≡ line_of b c o → tag_at s (line_of b c o) ≡ dirty_tag g → ⊥) → memory_word b (access b f c o s) g p ≡ memory_word b s g p
  access_memory_other g p hp out =
      access_cases (λ t. memory_word b t g p ≡ memory_word b s g p) (λ _. refl)
      (λ miss.
      ap (λ (l : List ℕ). get_or l (memory_at b g p) 0) (replace_memory b reg s wf f (line_of b c o) hf hn)
      ∙ write_back_memory_other b reg s wf (line_of b c o) g p hn hp
      (λ e d. out miss (ap (λ (x : ℕ). line_of b x p) (sym (line_of_colour b reg c o ho)) ∙ e) d))

  -- ---- read

  pub read_word_hit : names (tag_at s (line_of b c o)) f ≡ true → read_word b f c o s ≡ word_at b s c o
  unfolding read_word
  read_word_hit e = ap (λ (t : Store). word_at b t c o) (access_hit e)

  pub read_word_miss : names (tag_at s (line_of b c o)) f ≡ false → read_word b f c o s ≡ memory_word b s f o
  unfolding read_word
  read_word_miss e = access_word_same c o ho refl e

  -- ---- write

  -- through the data cache
  pub write_word_kept : c < b.colours → (v : ℕ) → WellFormedStore b (write_word b f c o v s)
  unfolding write_word
  write_word_kept own v =
      let t : Store = access b f c o s in
      let w : WellFormedStore b t = access_kept in
      record {
        memory_length = w.memory_length;
        words_length = length-set t.words (cache_at b c o) v ∙ w.words_length;
        tags_length = length-set t.tags (line_of b c o) (dirty_tag f) ∙ w.tags_length;
        tags_rules = rules_set b reg t.tags (line_of b c o) (dirty_tag f) w.tags_rules (line_dirty b reg f (line_of b c o) hf (line_of_data b reg c o own ho));
      }

  pub write_word_tag_same : (v : ℕ) → tag_at (write_word b f c o v s) (line_of b c o) ≡ dirty_tag f
  unfolding write_word
  write_word_tag_same v = let e = access_kept.tags_length in let h = hn in get_or-set_same (access b f c o s).tags (line_of b c o) (dirty_tag f) 0 (omega arith)

  pub write_word_tag_other : (v m : ℕ) → m ≢ line_of b c o → tag_at (write_word b f c o v s) m ≡ tag_at s m
  unfolding write_word
  write_word_tag_other v m ne = get_or-set_other (access b f c o s).tags (line_of b c o) m (dirty_tag f) 0 ne ∙ access_tag_other m ne

  pub write_word_word_same : (v : ℕ) → word_at b (write_word b f c o v s) c o ≡ v
  unfolding write_word
  write_word_word_same v = let e = access_kept.words_length in let h = cache_at_lt b reg c o hc ho in get_or-set_same (access b f c o s).words (cache_at b c o) v 0 (omega arith)

  -- the line's other words are as the access left them
  pub write_word_word_line : (v p : ℕ) → p ≢ o → word_at b (write_word b f c o v s) c p ≡ word_at b (access b f c o s) c p
  unfolding write_word
  write_word_word_line v p ne = get_or-set_other (access b f c o s).words (cache_at b c o) (cache_at b c p) v 0 (λ e. ne (cache_at_offset_inj b reg c p o e))

  pub write_word_word_other : (v d p : ℕ) → line_of b d p ≢ line_of b c o → word_at b (write_word b f c o v s) d p ≡ word_at b s d p
  unfolding write_word
  write_word_word_other v d p ne =
      get_or-set_other (access b f c o s).words (cache_at b c o) (cache_at b d p) v 0 (λ e. ne (cache_at_line_inj b reg d p c o e))
      ∙ access_word_other d p ne

  pub write_word_memory : (v : ℕ) → (write_word b f c o v s).memory ≡ (access b f c o s).memory
  unfolding write_word
  write_word_memory v = refl
