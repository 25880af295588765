-- Page states that say less of a frame's lines than others do, or as much: what agrees with the one agrees with the other.
use mathlib.Core.Path.{◌≡◌, refl, sym, ap, ◌∙◌}
use mathlib.Core.Bool.{Bool, true, false, not, cond, true≢false, false≢true}
use mathlib.Core.Logic.{◌≢◌}
use Prim.Native.Nat.{ℕ, ◌<◌}
use lib.Dec.{eqb}
use borrow.Author.Tests.{eqb-true}
use Rattle.board.specs.declared.Board.{Board}
use Rattle.board.specs.Board.{cache_pages, line_of}
use Rattle.page_model.specs.Record.{is_held, is_dirty, is_stale}
use Rattle.page_model.specs.Table.{ColourState, empty, present, dirty, stale}
use Rattle.cache.specs.Store.{Store, tag_at, word_at}
use Rattle.cache.specs.Tag.{dirty_tag, names}
use Rattle.cache.proofs.Laws.Tag.{names_dirty}
use Rattle.consistency.proofs.Agrees.{Tagged, Agrees}

abbrev is_empty : ColourState → Bool
is_empty empty = true
is_empty present = false
is_empty dirty = false
is_empty stale = false

-- whether z says no more of a colour's lines than a
abbrev pub weaker : ColourState → ColourState → Bool
weaker empty z = true
weaker present z = not (is_empty z)
weaker dirty z = is_dirty z
weaker stale z = is_stale z

weaker_occupied : (a z : ColourState) → weaker a z ≡ true → z ≡ empty → a ≡ empty
weaker_occupied empty z w e = refl
weaker_occupied present z w e = absurd (false≢true (rw e at w))
weaker_occupied dirty z w e = absurd (false≢true (rw e at w))
weaker_occupied stale z w e = absurd (false≢true (rw e at w))

pub is_dirty_lem : (z : ColourState) → is_dirty z ≡ true → z ≡ dirty
is_dirty_lem empty e = absurd (false≢true e)
is_dirty_lem present e = absurd (false≢true e)
is_dirty_lem dirty e = refl
is_dirty_lem stale e = absurd (false≢true e)

weaker_dirty : (a z : ColourState) → weaker a z ≡ true → a ≡ dirty → z ≡ dirty
weaker_dirty a z w e = is_dirty_lem z (rw e at w)

stale_held : (z : ColourState) → is_stale z ≡ true → is_held z ≡ false
stale_held empty e = refl
stale_held present e = absurd (false≢true e)
stale_held dirty e = absurd (false≢true e)
stale_held stale e = refl

weaker_held : (a z : ColourState) → weaker a z ≡ true → a ≢ empty → is_held z ≡ true → is_held a ≡ true
weaker_held empty z w ne h = absurd (ne refl)
weaker_held present z w ne h = refl
weaker_held dirty z w ne h = refl
weaker_held stale z w ne h = absurd (true≢false (sym h ∙ stale_held z w))

module _ (b : Board) (f : ℕ) (states after : ℕ → ColourState) (says : (k : ℕ) → k < cache_pages b → weaker (states k) (after k) ≡ true) (s : Store) where
  pub weaken_tagged : Tagged b f states s → Tagged b f after s
  weaken_tagged t =
      record {
        occupied = λ c o hc ho n e. t.occupied c o hc ho n (weaker_occupied (states c) (after c) (says c hc) e);
        dirty_colour = λ c o hc ho d. weaker_dirty (states c) (after c) (says c hc) (t.dirty_colour c o hc ho d);
      }

  pub weaken : (words : ℕ → ℕ) → Agrees b f states words s → Agrees b f after words s
  weaken words a =
      record {
        tagged = weaken_tagged a.tagged;
        held_words = λ c o hc ho n h. a.held_words c o hc ho n (weaker_held (states c) (after c) (says c hc) (a.tagged.occupied c o hc ho n) h);
        current = a.current;
      }

-- ---- the state of a colour that has no dirty line, or none any more

abbrev pub clean_state : ColourState → ColourState
clean_state empty = empty
clean_state present = present
clean_state dirty = present
clean_state stale = stale

pub clean_state_twice : (s : ColourState) → clean_state (clean_state s) ≡ clean_state s
clean_state_twice empty = refl
clean_state_twice present = refl
clean_state_twice dirty = refl
clean_state_twice stale = refl

pub clean_state_clean : (s : ColourState) → clean_state s ≢ dirty
clean_state_clean empty e = false≢true (ap is_dirty e)
clean_state_clean present e = false≢true (ap is_dirty e)
clean_state_clean dirty e = false≢true (ap is_dirty e)
clean_state_clean stale e = false≢true (ap is_dirty e)

clean_state_occupied : (s : ColourState) → clean_state s ≡ empty → s ≡ empty
clean_state_occupied empty e = refl
clean_state_occupied present e = e
clean_state_occupied dirty e = absurd (false≢true (ap is_empty e))
clean_state_occupied stale e = e

clean_state_held : (s : ColourState) → is_held (clean_state s) ≡ is_held s
clean_state_held empty = refl
clean_state_held present = refl
clean_state_held dirty = refl
clean_state_held stale = refl

-- a state says no more of a colour than z if it does not with its dirty lines written back
pub weaker_clean : (s z : ColourState) → weaker s z ≡ true → weaker (clean_state s) z ≡ true
weaker_clean empty z w = w
weaker_clean present z w = w
weaker_clean dirty z w = rw (is_dirty_lem z w)
weaker_clean stale z w = w

-- ---- a colour's state replaced by another that says more, where its lines bear that out

abbrev pub replaced_at : (ColourState → ColourState) → ℕ → (ℕ → ColourState) → ℕ → ColourState
replaced_at act k states c = cond (eqb k c) (act (states c)) (states c)

-- what holds of the new state where c is k, and of the old one, holds of it
replaced_cases : (P : ColourState → Type 0) (act : ColourState → ColourState) (k : ℕ) (states : ℕ → ColourState) (c : ℕ) → (k ≡ c → P (act (states c)))
    → P (states c) → P (replaced_at act k states c)
replaced_cases P act k states c new old = go (eqb k c) refl
  where
    go : (t : Bool) → eqb k c ≡ t → P (cond t (act (states c)) (states c))
    go true e = new (eqb-true k c e)
    go false e = old

-- empty, where no line of it names the frame
abbrev pub empty_at : ℕ → (ℕ → ColourState) → ℕ → ColourState
empty_at = replaced_at (λ s. empty)

module _ (b : Board) (f k : ℕ) (states : ℕ → ColourState) (s : Store) (none : (o : ℕ) → o < b.page → names (tag_at s (line_of b k o)) f ≡ false) where
  -- a line that names f is in another colour
  elsewhere : (c o : ℕ) → o < b.page → names (tag_at s (line_of b c o)) f ≡ true → k ≡ c → ⊥
  elsewhere c o ho n e = true≢false (sym n ∙ ap (λ (x : ℕ). names (tag_at s (line_of b x o)) f) (sym e) ∙ none o ho)

  pub empty_tagged : Tagged b f states s → Tagged b f (empty_at k states) s
  empty_tagged t =
      record {
        occupied = λ c o hc ho n. replaced_cases (λ z. z ≢ empty) (λ s. empty) k states c (λ e. absurd (elsewhere c o ho n e)) (t.occupied c o hc ho n);
        dirty_colour = λ c o hc ho d. replaced_cases (λ z. z ≡ dirty) (λ s. empty) k states c
            (λ e. absurd (elsewhere c o ho (ap (λ (x : ℕ). names x f) d ∙ names_dirty f) e)) (t.dirty_colour c o hc ho d);
      }

  pub empty_agrees : (words : ℕ → ℕ) → Agrees b f states words s → Agrees b f (empty_at k states) words s
  empty_agrees words a =
      record {
        tagged = empty_tagged a.tagged;
        held_words = λ c o hc ho n. replaced_cases (λ z. is_held z ≡ true → word_at b s c o ≡ words o) (λ s. empty) k states c
            (λ e. absurd (elsewhere c o ho n e)) (a.held_words c o hc ho n);
        current = a.current;
      }

-- clean, where no line of it is dirty for the frame
abbrev pub clean_at : ℕ → (ℕ → ColourState) → ℕ → ColourState
clean_at = replaced_at clean_state

module _ (b : Board) (f k : ℕ) (states : ℕ → ColourState) (s : Store) (none : (o : ℕ) → o < b.page → tag_at s (line_of b k o) ≢ dirty_tag f) where
  pub clean_tagged : Tagged b f states s → Tagged b f (clean_at k states) s
  clean_tagged t =
      record {
        occupied = λ c o hc ho n. replaced_cases (λ z. z ≢ empty) clean_state k states c (λ e q. t.occupied c o hc ho n (clean_state_occupied (states c) q)) (t.occupied c o hc ho n);
        dirty_colour = λ c o hc ho d. replaced_cases (λ z. z ≡ dirty) clean_state k states c
            (λ e. absurd (none o ho (ap (λ (x : ℕ). tag_at s (line_of b x o)) e ∙ d))) (t.dirty_colour c o hc ho d);
      }

  pub clean_agrees : (words : ℕ → ℕ) → Agrees b f states words s → Agrees b f (clean_at k states) words s
  clean_agrees words a =
      record {
        tagged = clean_tagged a.tagged;
        held_words = λ c o hc ho n. replaced_cases (λ z. is_held z ≡ true → word_at b s c o ≡ words o) clean_state k states c
            (λ e h. a.held_words c o hc ho n (sym (clean_state_held (states c)) ∙ h)) (a.held_words c o hc ho n);
        current = a.current;
      }
