-- The laws of the frame records in their words: a record stored is read back, the others stay, and so does the number of words.
use mathlib.Core.Path.{◌≡◌, refl, ap, ◌∙◌}
use mathlib.Core.Bool.{Bool, true, false}
use mathlib.Core.List.{List, [], ◌∷◌, ◌++◌}
use mathlib.Core.Logic.{◌≢◌, ◌⊎◌, inl, inr}
use Prim.Native.Nat.{ℕ, zero, suc, ◌+◌, ◌*◌, ◌%◌, ◌≤◌, ◌<◌}
use native.Mathlib.Omega.{arith}
use borrow.Author.Tests.{eqb-true, eqb-false}
use lib.Dec.{eqb}
use lib.ListN.{length, get_or, set, length-set}
use lib.Seq.{get_or-set_same, get_or-set_other, get_or-drop}
use Rattle.bits.proofs.Mask.{all_at, all_of}
use Rattle.board.specs.declared.Board.{Board}
use Rattle.page_model.specs.declared.FrameRecord.{FrameRecord}
use Rattle.page_model.specs.Record.{keeps_rules, start_record}
use Rattle.mapping.proofs.Tests.{lt_or_le}
use Rattle.manager.specs.Tables.{words_of, record_words, record_at, put_words, put_record, start_records, start_word, records_keep_rules, tabulate}
use Rattle.manager.specs.Theorems.{StartRecords}

-- ---- words stored one after the other

pub length_put_words : (rs : List ℕ) (i j : ℕ) (ws : List ℕ) → length (put_words rs i j ws) ≡ length rs
unfolding put_words
length_put_words rs i j [] = refl
length_put_words rs i j (w ∷ ws) = length_put_words (set rs (i + j) w) i (suc j) ws ∙ length-set rs (i + j) w

-- a word before or behind them stays
put_words_other : (rs : List ℕ) (i j : ℕ) (ws : List ℕ) (k : ℕ) → (k < i + j) ⊎ (i + j + length ws ≤ k) → get_or (put_words rs i j ws) k 0 ≡ get_or rs k 0
unfolding put_words
put_words_other rs i j [] k apart = refl
put_words_other rs i j (w ∷ ws) k (inl h) = put_words_other (set rs (i + j) w) i (suc j) ws k (inl (omega arith)) ∙ get_or-set_other rs (i + j) k w 0 (omega arith)
put_words_other rs i j (w ∷ ws) k (inr h) = put_words_other (set rs (i + j) w) i (suc j) ws k (inr (omega arith)) ∙ get_or-set_other rs (i + j) k w 0 (omega arith)

-- and each is the one stored at its place
put_words_same : (rs : List ℕ) (i j : ℕ) (ws : List ℕ) (k : ℕ) → k < length ws → i + j + length ws ≤ length rs → get_or (put_words rs i j ws) (i + (j + k)) 0 ≡ get_or ws k 0
unfolding put_words
put_words_same rs i j [] k h fits = absurd (omega arith)
put_words_same rs i j (w ∷ ws) zero h fits =
    let e : i + (j + zero) ≡ i + j = omega arith in
    rw e (put_words_other (set rs (i + j) w) i (suc j) ws (i + j) (inl (omega arith)) ∙ get_or-set_same rs (i + j) w 0 (omega arith))
put_words_same rs i j (w ∷ ws) (suc k) h fits =
    let e : i + (j + suc k) ≡ i + (suc j + k) = omega arith in
    rw e (put_words_same (set rs (i + j) w) i (suc j) ws k (omega arith) (let l = length-set rs (i + j) w in omega arith))

-- ---- a frame's record

-- its words: word j of frame f's record
abbrev pub record_word : List ℕ → ℕ → ℕ → ℕ
record_word rs f j = get_or rs (f * record_words + j) 0

pub record_at_words : (rs : List ℕ) (f : ℕ)
    → record_at rs f
    ≡ record {
      masks = record { held = record_word rs f 0; stale = record_word rs f 1 };
      dirty = record_word rs f 2;
      busy = record_word rs f 3;
      dirty_colour = record_word rs f 4;
      instructions = record { held = record_word rs f 5; stale = record_word rs f 6 };
    }
unfolding record_at
record_at_words rs f =
    let at = get_or-drop (f * record_words) rs in
    rw (at 0 0, at 1 0, at 2 0, at 3 0, at 4 0, at 5 0, at 6 0)

module _ (rs : List ℕ) (f : ℕ) (r : FrameRecord) where
  pub length_put_record : length (put_record rs f r) ≡ length rs
  unfolding put_record
  length_put_record = length_put_words rs (f * record_words) 0 (words_of r)

  -- word j of its record
  word_of_same : f * record_words + record_words ≤ length rs → (j : ℕ) → j < record_words → record_word (put_record rs f r) f j ≡ get_or (words_of r) j 0
  unfolding put_record
  word_of_same h j l =
      let e : f * record_words + j ≡ f * record_words + (0 + j) = omega arith in rw e (put_words_same rs (f * record_words) 0 (words_of r) j l (omega arith))

  pub record_at_put_record_same : f * record_words + record_words ≤ length rs → record_at (put_record rs f r) f ≡ r
  record_at_put_record_same h = rw (record_at_words, word_of_same h 0 (omega arith), word_of_same h 1 (omega arith), word_of_same h 2 (omega arith), word_of_same h 3 (omega arith), word_of_same h 4 (omega arith), word_of_same h 5 (omega arith), word_of_same h 6 (omega arith))

  -- word j of another frame's record
  word_of_other : (g j : ℕ) → g ≢ f → j < record_words → record_word (put_record rs f r) g j ≡ record_word rs g j
  unfolding put_record
  word_of_other g j h l = put_words_other rs (f * record_words) 0 (words_of r) (g * record_words + j) (apart (lt_or_le g f))
    where
      apart : (g < f) ⊎ (f ≤ g) → (g * record_words + j < f * record_words + 0) ⊎ (f * record_words + 0 + record_words ≤ g * record_words + j)
      apart (inl less) = inl (omega arith)
      apart (inr more) = inr (omega arith)

  pub record_at_put_record_other : (g : ℕ) → g ≢ f → record_at (put_record rs f r) g ≡ record_at rs g
  record_at_put_record_other g h =
      rw (record_at_words, record_at_words rs g, word_of_other g 0 h (omega arith), word_of_other g 1 h (omega arith), word_of_other g 2 h (omega arith), word_of_other g 3 h (omega arith), word_of_other g 4 h (omega arith), word_of_other g 5 h (omega arith), word_of_other g 6 h (omega arith))

-- records that keep the rules still do with one that keeps them in the place of another
pub put_record_rules : (b : Board) (rs : List ℕ) (f : ℕ) (r : FrameRecord) → length rs ≡ b.frames * record_words → f < b.frames
    → records_keep_rules b rs ≡ true → keeps_rules b.colours r ≡ true → records_keep_rules b (put_record rs f r) ≡ true
unfolding records_keep_rules
put_record_rules b rs f r n lf h k = all_of b.frames _ (λ g lg. go g (eqb g f) refl (all_at b.frames _ h g lg))
  where
    go : (g : ℕ) (t : Bool) → eqb g f ≡ t → keeps_rules b.colours (record_at rs g) ≡ true → keeps_rules b.colours (record_at (put_record rs f r) g) ≡ true
    go g true z kept = ap (keeps_rules b.colours) (ap (record_at (put_record rs f r)) (eqb-true g f z) ∙ record_at_put_record_same rs f r (omega arith)) ∙ k
    go g false z kept = ap (keeps_rules b.colours) (record_at_put_record_other rs f r g (eqb-false g f z)) ∙ kept

-- ---- the records at the start

pub length_start_records : (frames n : ℕ) → length (start_records frames n) ≡ frames * record_words
unfolding start_records
length_start_records zero n = refl
length_start_records (suc frames) n = let ih = length_start_records frames n in omega arith

-- every record is that of the start
pub record_at_start : (frames n f : ℕ) → f < frames → record_at (start_records frames n) f ≡ start_record n
unfolding record_at start_records
record_at_start zero n f h = absurd (omega arith)
record_at_start (suc frames) n zero h = refl
record_at_start (suc frames) n (suc f) h =
    let e : suc f * record_words ≡ suc (suc (suc (suc (suc (suc (suc (f * record_words))))))) = omega arith in rw e (record_at_start frames n f (omega arith))

-- and each word is what its place tells
pub start_words : (frames n : ℕ) → tabulate (frames * record_words) (start_word n) ≡ start_records frames n
unfolding start_records tabulate
start_words zero n = refl
start_words (suc frames) n =
    let e : suc frames * record_words ≡ suc (suc (suc (suc (suc (suc (suc (frames * record_words))))))) = omega arith in
    rw e (ap (λ (l : List ℕ). words_of (start_record n) ++ l) (ap (tabulate (frames * record_words)) (λ j i. again i j) ∙ start_words frames n))
  where
    again : (i : ℕ) → start_word n (suc (suc (suc (suc (suc (suc (suc i))))))) ≡ start_word n i
    again i = let e : suc (suc (suc (suc (suc (suc (suc i)))))) % record_words ≡ i % record_words = omega arith in rw e

pub start_records_lem : StartRecords
start_records_lem frames n = (start_words frames n, record_at_start frames n)
