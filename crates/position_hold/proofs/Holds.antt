-- What a hold changes of a look.
use mathlib.Core.Path.{◌≡◌, refl, sym, ap, ◌∙◌}
use mathlib.Core.Bool.{Bool, true, false, cond, ◌||◌, true≢false}
use mathlib.Core.List.{List}
use mathlib.Core.Logic.{inl, inr}
use Prim.Native.Nat.{ℕ, ◌-◌, ◌≤◌}
use native.Mathlib.Omega.{arith}
use borrow.Author.Tests.{le-ltb, ltb-false}
use lib.Dec.{eqb, ltb}
use Rattle.board.specs.declared.Board.{Board}
use Rattle.manager.specs.Answers.{refusal_number}
use Rattle.manager.specs.declared.refusal.Refusal.{Refusal}
use Rattle.manager.proofs.AcceptedLaws.{or_neither}
use Rattle.machine.specs.State.{State}
use Rattle.std.specs.Prelude.{Result, Ok, Err}
use Rattle.position_hold.specs.Fix.{Fix, Display, refused, blank, position, shortest_hold, longest_hold, hold_refused, is_outside, is_blank, judged}
use Rattle.position_hold.specs.Theorems.{SameButBlank}
use Rattle.position_hold.specs.Look.{Words, stopped, words, Reads, reads, fix_reads, fix_of, Look, looked, drawn_from, look, words_found}

pub hold_accepted : (hold : ℕ) → shortest_hold ≤ hold → hold ≤ longest_hold → hold_refused hold ≡ false
unfolding hold_refused
hold_accepted hold low high = rw (le-ltb hold shortest_hold low, le-ltb longest_hold hold high)

pub hold_range : (hold : ℕ) → hold_refused hold ≡ false → (shortest_hold ≤ hold) × (hold ≤ longest_hold)
unfolding hold_refused
hold_range hold e = let r = or_neither (ltb hold shortest_hold) (ltb longest_hold hold) e in (ltb-false hold shortest_hold r.0, ltb-false longest_hold hold r.1)

-- ---- a look by its hold, and by its reads

module _ (b : Board) (st : State) (space page clock hold : ℕ) where
  pub look_refused : hold_refused hold ≡ true → looked (refused 14) st ≡ look b st space page clock hold
  unfolding look
  look_refused e = rw e

  -- an accepted hold: what was read is judged
  pub look_accepted : {r : Reads} → hold_refused hold ≡ false → r ≡ fix_reads b st space page
      → looked (drawn_from clock hold r.words) r.after ≡ look b st space page clock hold
  unfolding look
  look_accepted e reads_are = rw (e, reads_are)

  -- by what the code has found
  module _ (e : hold_refused hold ≡ false) {found : Result Fix Refusal} {after : State} (reads_are : reads (words_found found) after ≡ fix_reads b st space page) where
    pub look_handed_on : {refusal : Refusal} → found ≡ Err refusal → looked (refused (refusal_number refusal)) after ≡ look b st space page clock hold
    look_handed_on known = ap (λ (f : Result Fix Refusal). looked (drawn_from clock hold (words_found f)) after) (sym known) ∙ look_accepted e reads_are

    pub look_judged : {fix : Fix} {display : Display} → found ≡ Ok fix → display ≡ judged clock hold fix → looked display after ≡ look b st space page clock hold
    look_judged known shown =
        ap (λ (d : Display). looked d after) shown
        ∙ ap (λ (f : Result Fix Refusal). looked (drawn_from clock hold (words_found f)) after) (sym known)
        ∙ look_accepted e reads_are

-- what is not blank at a hold is not blank at a longer one
not_blank_longer : (clock short long : ℕ) (fix : Fix) → short ≤ long → is_blank clock short fix ≡ false → is_blank clock long fix ≡ false
unfolding is_blank
not_blank_longer clock short long fix h = go (eqb fix.number 0) (ltb clock fix.second) (ltb short (clock - fix.second)) refl
  where
    go : (n s t : Bool) → ltb short (clock - fix.second) ≡ t
        → (n || s || t || is_outside 90 fix.latitude || is_outside 180 fix.longitude) ≡ false
        → (n || s || ltb long (clock - fix.second) || is_outside 90 fix.latitude || is_outside 180 fix.longitude) ≡ false
    go true s t e z = absurd (true≢false z)
    go false true t e z = absurd (true≢false z)
    go false false true e z = absurd (true≢false z)
    go false false false e z =
        let l = ltb-false short (clock - fix.second) e in rw (le-ltb long (clock - fix.second) (omega arith)) z

-- ---- two holds

pub same_as : (d : Display) → SameButBlank d d
same_as d = record { drawn = λ latitude longitude e. e; but_blank = inl refl }

pub blank_drawn : {latitude longitude : ℕ} → blank ≡ position latitude longitude → ⊥
blank_drawn e = let z : ◌≡◌ {A = ℕ} 0 1 = cc in omega arith

judged_same : (clock short long : ℕ) (fix : Fix) → short ≤ long → SameButBlank (judged clock short fix) (judged clock long fix)
unfolding judged
judged_same clock short long fix h = go (is_blank clock short fix) (is_blank clock long fix) (not_blank_longer clock short long fix h)
  where
    go : (s l : Bool) → (s ≡ false → l ≡ false)
        → SameButBlank (cond s blank (position fix.latitude fix.longitude)) (cond l blank (position fix.latitude fix.longitude))
    go true true h = same_as blank
    go true false h = record { drawn = λ latitude longitude z. absurd (blank_drawn z); but_blank = inr (refl, (fix.latitude, fix.longitude, refl)) }
    go false true h = absurd (true≢false (h refl))
    go false false h = same_as (position fix.latitude fix.longitude)

pub drawn_same : (clock short long : ℕ) (ws : Words) → short ≤ long → SameButBlank (drawn_from clock short ws) (drawn_from clock long ws)
drawn_same clock short long (stopped n) h = same_as (refused n)
drawn_same clock short long (words ws) h = judged_same clock short long (fix_of ws) h

-- ---- a position that was drawn

judged_drawn : (clock hold latitude longitude : ℕ) (fix : Fix) → judged clock hold fix ≡ position latitude longitude
    → (fix.latitude ≡ latitude) × (fix.longitude ≡ longitude) × (is_blank clock hold fix ≡ false)
unfolding judged
judged_drawn clock hold latitude longitude fix = go (is_blank clock hold fix)
  where
    go : (t : Bool) → cond t blank (position fix.latitude fix.longitude) ≡ position latitude longitude
        → (fix.latitude ≡ latitude) × (fix.longitude ≡ longitude) × (t ≡ false)
    go true e = absurd (blank_drawn e)
    go false e = (cc, cc, refl)

refused_drawn : {n latitude longitude : ℕ} → refused n ≡ position latitude longitude → ⊥
refused_drawn e = let z : ◌≡◌ {A = ℕ} 0 1 = cc in omega arith

-- is latitude and longitude of the words that were read, which are not judged blank
abbrev pub DrawnOf : ℕ → ℕ → Words → ℕ → ℕ → Type 0
DrawnOf clock hold r latitude longitude =
    (ws : List ℕ) × (r ≡ words ws) × ((fix_of ws).latitude ≡ latitude) × ((fix_of ws).longitude ≡ longitude) × (is_blank clock hold (fix_of ws) ≡ false)

words_drawn : (clock hold latitude longitude : ℕ) (r : Words) → drawn_from clock hold r ≡ position latitude longitude → DrawnOf clock hold r latitude longitude
words_drawn clock hold latitude longitude (stopped n) e = absurd (refused_drawn e)
words_drawn clock hold latitude longitude (words ws) e = let d = judged_drawn clock hold latitude longitude (fix_of ws) e in (ws, refl, d.0, d.1, d.2)

-- and the hold is in its range
pub look_drawn : (b : Board) (st : State) (space page clock hold latitude longitude : ℕ) → (look b st space page clock hold).display ≡ position latitude longitude
    → (hold_refused hold ≡ false) × DrawnOf clock hold (fix_reads b st space page).words latitude longitude
unfolding look
look_drawn b st space page clock hold latitude longitude = go (hold_refused hold)
  where
    go : (t : Bool)
        → (cond {A = Look} t (looked (refused 14) st) (looked (drawn_from clock hold (fix_reads b st space page).words) (fix_reads b st space page).after)).display
        ≡ position latitude longitude
        → (t ≡ false) × DrawnOf clock hold (fix_reads b st space page).words latitude longitude
    go true e = absurd (refused_drawn e)
    go false e = (refl, words_drawn clock hold latitude longitude (fix_reads b st space page).words e)
