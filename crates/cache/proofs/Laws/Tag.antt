-- The laws of tags: what a clean, a dirty and an empty tag says, and what a tag that keeps the rules can be.
use mathlib.Core.Path.{◌≡◌, refl, sym, ap, ◌∙◌}
use mathlib.Core.Bool.{Bool, true, false, not, ◌&&◌, ◌||◌, or-true, and-true, and-false, true≢false, false≢true}
use mathlib.Core.Logic.{◌≢◌, ◌⊎◌, inl, inr}
use mathlib.Core.List.{List, [], ◌∷◌}
use Prim.Native.Nat.{ℕ, zero, suc, ◌+◌, ◌-◌, ◌≤◌, ◌<◌}
use native.Mathlib.Omega.{arith}
use native.Mathlib.Decide.{dec_lt}
use lib.Dec.{eqb, ltb}
use lib.ListN.{length, get_or, set}
use borrow.Author.Tests.{le-leb, lt-leb, leb-true, eq-eqb, ne_eqb, eqb-true, lt-ltb, le-ltb, ltb-true}
use Rattle.std.specs.List.{list_all, enumerate_from}
use Rattle.std.proofs.Common.{add-one}
use Rattle.board.specs.declared.Board.{Board}
use Rattle.board.specs.Board.{Regular, data_lines}
use Rattle.cache.specs.Cache.{FlushKind, leaving, emptying, flushed_tag}
use Rattle.cache.specs.declared.tag.Tag.{Tag}
use Rattle.cache.specs.declared.tag.Tag.TheVariants.{Empty, Clean, Dirty}
use Rattle.cache.specs.Tag.{Says, empty_tag, clean_tag, dirty_tag, is_dirty_tag, names, frame_of, tag_keeps_rules, line_keeps_rules, tags_from, tags_keep_rules}

and_left : (a b : Bool) → (a && b) ≡ true → a ≡ true
and_left true b e = refl
and_left false b e = e

and_right : (a b : Bool) → (a && b) ≡ true → b ≡ true
and_right true b e = e
and_right false b e = absurd (false≢true e)

-- two comparisons that say the same
ltb_iff : (m n k l : ℕ) → (m < n → k < l) → (k < l → m < n) → ltb m n ≡ ltb k l
ltb_iff m n k l p q = go (dec_lt m n) (dec_lt k l)
  where
    go : Dec (m < n) → Dec (k < l) → ltb m n ≡ ltb k l
    go (yes h) (yes g) = lt-ltb m n h ∙ sym (lt-ltb k l g)
    go (yes h) (no g) = absurd (g (p h))
    go (no h) (yes g) = absurd (h (q g))
    go (no h) (no g) = le-ltb m n (omega arith) ∙ sym (le-ltb k l (omega arith))

-- ---- what a tag says

pub is_dirty_tag_dirty : (f : ℕ) → is_dirty_tag (dirty_tag f) ≡ true
unfolding is_dirty_tag
is_dirty_tag_dirty f = le-leb 129 (129 + f) (omega arith)

pub frame_of_dirty : (f : ℕ) → frame_of (dirty_tag f) ≡ f
unfolding frame_of
frame_of_dirty f = rw (is_dirty_tag_dirty f) (omega arith)

-- a dirty tag is that of its frame
pub dirty_frame : (tag : ℕ) → is_dirty_tag tag ≡ true → tag ≡ dirty_tag (frame_of tag)
unfolding is_dirty_tag frame_of
dirty_frame tag e = let h = leb-true 129 tag e in rw e (omega arith)

-- a byte that says no dirty tag
pub says_not_dirty : (byte : ℕ) (tag : Tag) → Says byte tag → ((f : ℕ) → tag ≡ Dirty f → ⊥) → is_dirty_tag byte ≡ false
unfolding is_dirty_tag
says_not_dirty byte Empty e h = lt-leb 129 byte (omega arith)
says_not_dirty byte (Clean f) e h = lt-leb 129 byte e.1
says_not_dirty byte (Dirty f) e h = absurd (h f refl)

pub names_clean : (f : ℕ) → names (clean_tag f) f ≡ true
unfolding names
names_clean f = rw (eq-eqb (1 + f) (1 + f) refl)

pub names_dirty : (f : ℕ) → names (dirty_tag f) f ≡ true
unfolding names
names_dirty f = rw (eq-eqb (129 + f) (129 + f) refl, or-true)

pub names_empty : (f : ℕ) → names empty_tag f ≡ false
unfolding names
names_empty f = rw (ne_eqb 0 (1 + f) (omega arith), ne_eqb 0 (129 + f) (omega arith))

pub names_not_empty : {tag : ℕ} (f : ℕ) → tag ≡ empty_tag → names tag f ≡ true → ⊥
names_not_empty f e named = true≢false (sym named ∙ ap (λ (t : ℕ). names t f) e ∙ names_empty f)

-- a tag that names f is its clean or its dirty one
pub names_cases : (tag f : ℕ) → names tag f ≡ true → (tag ≡ clean_tag f) ⊎ (tag ≡ dirty_tag f)
unfolding names
names_cases tag f e = go (eqb tag (1 + f)) refl
  where
    go : (t : Bool) → eqb tag (1 + f) ≡ t → (tag ≡ clean_tag f) ⊎ (tag ≡ dirty_tag f)
    go true h = inl (eqb-true tag (1 + f) h)
    go false h = inr (eqb-true tag (129 + f) (rw h at e))

module _ (b : Board) (reg : Regular b) where
  pub is_dirty_tag_clean : (f : ℕ) → f < b.frames → is_dirty_tag (clean_tag f) ≡ false
  unfolding is_dirty_tag
  is_dirty_tag_clean f h = let few = reg.few_frames in lt-leb 129 (1 + f) (omega arith)

  -- a tag names one frame of the board
  pub names_one : (tag f g : ℕ) → f < b.frames → g < b.frames → names tag f ≡ true → names tag g ≡ true → f ≡ g
  names_one tag f g hf hg ef eg = go (names_cases tag f ef) (names_cases tag g eg)
    where
      go : (tag ≡ clean_tag f) ⊎ (tag ≡ dirty_tag f) → (tag ≡ clean_tag g) ⊎ (tag ≡ dirty_tag g) → f ≡ g
      go (inl p) (inl q) = omega arith
      go (inl p) (inr q) = let few = reg.few_frames in omega arith
      go (inr p) (inl q) = let few = reg.few_frames in omega arith
      go (inr p) (inr q) = omega arith

  -- ---- which tags keep the rules

  pub rules_empty : tag_keeps_rules b empty_tag ≡ true
  unfolding tag_keeps_rules
  rules_empty = refl

  pub rules_clean : (f : ℕ) → f < b.frames → tag_keeps_rules b (clean_tag f) ≡ true
  unfolding tag_keeps_rules
  rules_clean f h = rw (is_dirty_tag_clean f h, lt-ltb (1 + f - 1) b.frames (omega arith), or-true)

  pub rules_dirty : (f : ℕ) → f < b.frames → tag_keeps_rules b (dirty_tag f) ≡ true
  unfolding tag_keeps_rules
  rules_dirty f h = rw (is_dirty_tag_dirty f, lt-ltb (129 + f - 129) b.frames (omega arith), or-true)

  -- a dirty tag that keeps the rules names a frame of the board
  pub rules_frame : (tag : ℕ) → tag_keeps_rules b tag ≡ true → is_dirty_tag tag ≡ true → frame_of tag < b.frames
  unfolding tag_keeps_rules is_dirty_tag
  rules_frame tag e d =
      let h = leb-true 129 tag d in
      ltb-true (frame_of tag) b.frames (rw (ne_eqb tag 0 (omega arith)) at e)

  -- ---- which tags keep the rules in line n

  -- what the rule asks for by place
  pub line_any : (n tag : ℕ) → is_dirty_tag tag ≡ false → line_keeps_rules b n tag ≡ tag_keeps_rules b tag
  unfolding line_keeps_rules
  line_any n tag e = rw (e, and-true)

  pub line_before : (n tag : ℕ) → n < data_lines b → line_keeps_rules b n tag ≡ tag_keeps_rules b tag
  unfolding line_keeps_rules
  line_before n tag h = rw (lt-ltb n (data_lines b) h, or-true, and-true)

  pub line_behind : (n tag : ℕ) → is_dirty_tag tag ≡ true → data_lines b ≤ n → line_keeps_rules b n tag ≡ false
  unfolding line_keeps_rules
  line_behind n tag e h = rw (e, le-ltb n (data_lines b) h, and-false)

  pub line_empty : (n : ℕ) → line_keeps_rules b n empty_tag ≡ true
  unfolding is_dirty_tag
  line_empty n = line_any n empty_tag refl ∙ rules_empty

  pub line_clean : (f n : ℕ) → f < b.frames → line_keeps_rules b n (clean_tag f) ≡ true
  line_clean f n h = line_any n (clean_tag f) (is_dirty_tag_clean f h) ∙ rules_clean f h

  -- ---- the tag that a flush of frame f gives: it keeps the rules, is dirty for no frame, and names none but f

  pub flushed_rules : (how : FlushKind) (f : ℕ) → f < b.frames → (n : ℕ) → line_keeps_rules b n (flushed_tag how f) ≡ true
  flushed_rules leaving f h n = line_clean f n h
  flushed_rules emptying f h n = line_empty n

  pub flushed_clean : (how : FlushKind) (f : ℕ) → f < b.frames → (g : ℕ) → flushed_tag how f ≢ dirty_tag g
  flushed_clean leaving f h g e = let few = reg.few_frames in omega arith
  flushed_clean emptying f h g e = omega arith

  pub flushed_names : (how : FlushKind) (f : ℕ) → f < b.frames → (g : ℕ) → g < b.frames → names (flushed_tag how f) g ≡ true → g ≡ f
  flushed_names leaving f h g hg named = names_one (clean_tag f) g f hg h named (names_clean f)
  flushed_names emptying f h g hg named = absurd (names_not_empty g refl named)

  pub line_dirty : (f n : ℕ) → f < b.frames → n < data_lines b → line_keeps_rules b n (dirty_tag f) ≡ true
  line_dirty f n h hn = line_before n (dirty_tag f) hn ∙ rules_dirty f h

  line_tag : (n tag : ℕ) → line_keeps_rules b n tag ≡ true → tag_keeps_rules b tag ≡ true
  unfolding line_keeps_rules
  line_tag n tag e = and_left (tag_keeps_rules b tag) (not (is_dirty_tag tag) || ltb n (data_lines b)) e

  -- an instruction line's is not dirty
  line_instruction : (n tag : ℕ) → data_lines b ≤ n → line_keeps_rules b n tag ≡ true → is_dirty_tag tag ≡ false
  line_instruction n tag h e = go (is_dirty_tag tag) refl
    where
      go : (t : Bool) → is_dirty_tag tag ≡ t → is_dirty_tag tag ≡ false
      go false q = q
      go true q = absurd (true≢false (sym e ∙ line_behind n tag q h))

  -- ---- the tags of all lines

  from_head : (m tag : ℕ) (tags : List ℕ) → tags_from b m (tag ∷ tags) ≡ true → line_keeps_rules b m tag ≡ true
  unfolding tags_from
  from_head m tag tags e = and_left (line_keeps_rules b m tag) (tags_from b (suc m) tags) e

  from_tail : (m tag : ℕ) (tags : List ℕ) → tags_from b m (tag ∷ tags) ≡ true → tags_from b (suc m) tags ≡ true
  unfolding tags_from
  from_tail m tag tags e = and_right (line_keeps_rules b m tag) (tags_from b (suc m) tags) e

  from_cons : (m tag : ℕ) (tags : List ℕ) → line_keeps_rules b m tag ≡ true → tags_from b (suc m) tags ≡ true → tags_from b m (tag ∷ tags) ≡ true
  unfolding tags_from
  from_cons m tag tags p q = rw (p, q)

  -- the same line by another name of its number
  renamed : {m n : ℕ} (tag : ℕ) → m ≡ n → line_keeps_rules b m tag ≡ true → line_keeps_rules b n tag ≡ true
  renamed tag e k = ap (λ (x : ℕ). line_keeps_rules b x tag) (sym e) ∙ k

  from_at : (m : ℕ) (tags : List ℕ) (n : ℕ) → tags_from b m tags ≡ true → line_keeps_rules b (m + n) (get_or tags n 0) ≡ true
  from_at m [] n e = line_empty (m + n)
  from_at m (tag ∷ tags) zero e = renamed tag (omega arith) (from_head m tag tags e)
  from_at m (tag ∷ tags) (suc n) e = renamed (get_or tags n 0) (omega arith) (from_at (suc m) tags n (from_tail m tag tags e))

  from_all : (m : ℕ) (tags : List ℕ) → ((k : ℕ) → k < length tags → line_keeps_rules b (m + k) (get_or tags k 0) ≡ true) → tags_from b m tags ≡ true
  unfolding tags_from
  from_all m [] h = refl
  from_all m (tag ∷ tags) h =
      from_cons m tag tags (renamed tag (omega arith) (h 0 (omega arith)))
      (from_all (suc m) tags (λ k l. renamed (get_or tags k 0) (omega arith) (h (suc k) (omega arith))))

  from_set : (m : ℕ) (tags : List ℕ) (n tag : ℕ) → tags_from b m tags ≡ true → line_keeps_rules b (m + n) tag ≡ true → tags_from b m (set tags n tag) ≡ true
  from_set m [] n tag e k = e
  from_set m (t ∷ tags) zero tag e k = from_cons m tag tags (renamed tag (omega arith) k) (from_tail m t tags e)
  from_set m (t ∷ tags) (suc n) tag e k =
      from_cons m t (set tags n tag) (from_head m t tags e) (from_set (suc m) tags n tag (from_tail m t tags e) (renamed tag (omega arith) k))

  pub rules_line : (tags : List ℕ) (n : ℕ) → tags_keep_rules b tags ≡ true → line_keeps_rules b n (get_or tags n 0) ≡ true
  unfolding tags_keep_rules
  rules_line tags n e = renamed (get_or tags n 0) (omega arith) (from_at 0 tags n e)

  in_turn : (m : ℕ) (tags : List ℕ) → list_all (λ p. line_keeps_rules b p.0 p.1) (enumerate_from m tags) ≡ tags_from b m tags
  unfolding tags_from
  in_turn m [] = refl
  in_turn m (tag ∷ tags) = rw add-one (ap (λ (t : Bool). line_keeps_rules b m tag && t) (in_turn (suc m) tags))

  pub rules_in_turn : (tags : List ℕ) → list_all (λ p. line_keeps_rules b p.0 p.1) (enumerate_from 0 tags) ≡ tags_keep_rules b tags
  unfolding tags_keep_rules
  rules_in_turn tags = in_turn 0 tags

  pub rules_at : (tags : List ℕ) (n : ℕ) → tags_keep_rules b tags ≡ true → tag_keeps_rules b (get_or tags n 0) ≡ true
  rules_at tags n e = line_tag n (get_or tags n 0) (rules_line tags n e)

  pub rules_instruction : (tags : List ℕ) (n : ℕ) → tags_keep_rules b tags ≡ true → data_lines b ≤ n → is_dirty_tag (get_or tags n 0) ≡ false
  rules_instruction tags n e h = line_instruction n (get_or tags n 0) h (rules_line tags n e)

  pub rules_all : (tags : List ℕ) → ((k : ℕ) → k < length tags → line_keeps_rules b k (get_or tags k 0) ≡ true) → tags_keep_rules b tags ≡ true
  unfolding tags_keep_rules
  rules_all tags h = from_all 0 tags (λ k l. renamed (get_or tags k 0) (omega arith) (h k l))

  pub rules_set : (tags : List ℕ) (n tag : ℕ) → tags_keep_rules b tags ≡ true → line_keeps_rules b n tag ≡ true → tags_keep_rules b (set tags n tag) ≡ true
  unfolding tags_keep_rules
  rules_set tags n tag e k = from_set 0 tags n tag e (renamed tag (omega arith) k)

  -- the rule of a tag as one comparison
  pub rules_below : (tag : ℕ) → is_dirty_tag tag ≡ false → tag_keeps_rules b tag ≡ ltb tag (clean_tag b.frames)
  unfolding tag_keeps_rules
  rules_below zero e = sym (lt-ltb 0 (1 + b.frames) (omega arith))
  rules_below (suc t) e = rw (ne_eqb (suc t) 0 (omega arith), e) (ltb_iff (suc t - 1) b.frames (suc t) (1 + b.frames) (λ l. omega arith) (λ l. omega arith))

  pub rules_above : (tag : ℕ) → is_dirty_tag tag ≡ true → tag_keeps_rules b tag ≡ ltb tag (dirty_tag b.frames)
  unfolding tag_keeps_rules is_dirty_tag
  rules_above tag e =
      let h = leb-true 129 tag e in
      rw (ne_eqb tag 0 (omega arith), e) (ltb_iff (tag - 129) b.frames tag (129 + b.frames) (λ l. omega arith) (λ l. omega arith))
