-- Which position a look draws, and when: the judgement, said of the words.
use mathlib.Core.Path.{◌≡◌, refl, sym, ap, ◌∙◌}
use mathlib.Core.Bool.{Bool, true, false, cond}
use mathlib.Core.List.{List, [], ◌∷◌}
use mathlib.Core.Logic.{◌↔◌, ◌⊎◌, inl, inr, ⊎_elim, ◌≢◌}
use Prim.Native.Nat.{ℕ, ◌+◌, ◌-◌, ◌^◌, ◌≤◌, ◌<◌}
use native.Mathlib.Omega.{arith}
use borrow.Author.Tests.{ltb-true, ltb-false, le-ltb, lt-ltb, eqb-false, ne_eqb}
use lib.Dec.{ltb}
use Rattle.board.specs.declared.Board.{Board}
use Rattle.machine.specs.State.{State}
use Rattle.mapping.proofs.Tests.{lt_or_le}
use Rattle.manager.proofs.AcceptedLaws.{or_neither}
use Rattle.position_hold.specs.Drawing.{Within, Valid, Draws, Drawn}
use Rattle.position_hold.specs.Fix.{Fix, Display, blank, position, hold_refused, degrees, magnitude, is_outside, is_blank, judged}
use Rattle.position_hold.specs.Look.{Words, words, fix_reads, fix_of, Look, drawn_from, look}
use Rattle.position_hold.specs.Theorems.{HeldFor}
use Rattle.position_hold.proofs.FirstReads.{all_four, fix_long}
use Rattle.position_hold.proofs.Holds.{hold_accepted, hold_range, look_accepted, look_drawn, blank_drawn}
use Rattle.position_hold.proofs.Refusals.{found_clear}

-- ---- a coordinate

module _ (n w : ℕ) (most : n ≤ 180) where
  inside_within : is_outside n w ≡ false → Within n w
  unfolding is_outside magnitude
  inside_within = go (ltb w (2 ^ 31))
    where
      go : (t : Bool) → ltb (degrees n) (cond t w (2 ^ 32 - w)) ≡ false → Within n w
      go true e = inl (ltb-false (degrees n) w e)
      go false e = let l = ltb-false (degrees n) (2 ^ 32 - w) e in inr (omega arith)

  within_inside : Within n w → is_outside n w ≡ false
  unfolding is_outside magnitude
  within_inside h = go (ltb w (2 ^ 31)) refl h
    where
      go : (t : Bool) → ltb w (2 ^ 31) ≡ t → Within n w → ltb (degrees n) (cond t w (2 ^ 32 - w)) ≡ false
      go true e (inl l) = le-ltb (degrees n) w l
      go true e (inr l) = let k = ltb-true w (2 ^ 31) e in absurd (omega arith)
      go false e (inl l) = let k = ltb-false w (2 ^ 31) e in absurd (omega arith)
      go false e (inr l) = le-ltb (degrees n) (2 ^ 32 - w) (omega arith)

-- ---- the judgement

-- what is judged a position at some clock and hold
record Fixed (fix : Fix) : Type 0 where
  pub numbered : fix.number ≢ 0
  pub latitude_within : Within 90 fix.latitude
  pub longitude_within : Within 180 fix.longitude

module _ (clock hold : ℕ) (fix : Fix) where
  not_blank : is_blank clock hold fix ≡ false → Fixed fix × (fix.second ≤ clock) × (clock ≤ fix.second + hold)
  unfolding is_blank
  not_blank e =
      let longitude = or_neither _ _ e in
      let latitude = or_neither _ _ longitude.0 in
      let held = or_neither _ _ latitude.0 in
      let begun = or_neither _ _ held.0 in
      let from = ltb-false clock fix.second begun.1 in
      let to = ltb-false hold (clock - fix.second) held.1 in (
        record {
          numbered = eqb-false fix.number 0 begun.0;
          latitude_within = inside_within 90 fix.latitude (omega arith) latitude.1;
          longitude_within = inside_within 180 fix.longitude (omega arith) longitude.1;
        },
        from,
        omega arith,
      )

  module _ (f : Fixed fix) where
    shown : fix.second ≤ clock → clock ≤ fix.second + hold → judged clock hold fix ≡ position fix.latitude fix.longitude
    unfolding judged is_blank
    shown from to =
        rw (
          ne_eqb fix.number 0 f.numbered,
          le-ltb clock fix.second from,
          le-ltb hold (clock - fix.second) (omega arith),
          within_inside 90 fix.latitude (omega arith) f.latitude_within,
          within_inside 180 fix.longitude (omega arith) f.longitude_within,
        )

    blank_before : clock < fix.second → judged clock hold fix ≡ blank
    unfolding judged is_blank
    blank_before h = rw (ne_eqb fix.number 0 f.numbered, lt-ltb clock fix.second h)

    blank_after : fix.second + hold < clock → judged clock hold fix ≡ blank
    unfolding judged is_blank
    blank_after h = rw (ne_eqb fix.number 0 f.numbered, le-ltb clock fix.second (omega arith), lt-ltb hold (clock - fix.second) (omega arith))

-- ---- the look

module _ (b : Board) (st : State) (space page : ℕ) where
  -- the words that a position is drawn from
  found_valid : (ws : List ℕ) {latitude longitude : ℕ} → (fix_reads b st space page).words ≡ words ws → (fix_of ws).latitude ≡ latitude
      → (fix_of ws).longitude ≡ longitude → Fixed (fix_of ws) → Valid b st space page (fix_of ws).number (fix_of ws).second latitude longitude
  found_valid ws found la lo f =
      rw (sym la, sym lo) record {
        found = found ∙ ap {B = Words} words (sym (all_four ws (fix_long b st space page ws found)));
        numbered = f.numbered;
        latitude_within = f.latitude_within;
        longitude_within = f.longitude_within;
      }

module _ (b : Board) (st : State) (space page clock hold : ℕ) where
  -- the words found, judged
  display_judged : (ws : List ℕ) → hold_refused hold ≡ false → (fix_reads b st space page).words ≡ words ws
      → (look b st space page clock hold).display ≡ judged clock hold (fix_of ws)
  display_judged ws accepted found =
      sym (ap (λ (l : Look). l.display) (look_accepted b st space page clock hold accepted refl)) ∙ ap (drawn_from clock hold) found

  module _ (number second latitude longitude : ℕ) (accepted : hold_refused hold ≡ false) (v : Valid b st space page number second latitude longitude) where
    abbrev fix : Fix
    fix = record { number = number; second = second; latitude = latitude; longitude = longitude }

    valid_fixed : Fixed fix
    valid_fixed = record { numbered = v.numbered; latitude_within = v.latitude_within; longitude_within = v.longitude_within }

    displayed_is : {display : Display} → judged clock hold fix ≡ display → (look b st space page clock hold).display ≡ display
    displayed_is e = display_judged (number ∷ second ∷ latitude ∷ longitude ∷ []) accepted v.found ∙ e

    while_held : second ≤ clock → clock ≤ second + hold → (look b st space page clock hold).display ≡ position latitude longitude
    while_held from to = displayed_is (shown clock hold fix valid_fixed from to)

    else_blank : (clock < second) ⊎ (second + hold < clock) → (look b st space page clock hold).display ≡ blank
    else_blank (inl h) = displayed_is (blank_before clock hold fix valid_fixed h)
    else_blank (inr h) = displayed_is (blank_after clock hold fix valid_fixed h)

pub drawn : (b : Board) → Drawn b
drawn b st space page clock hold latitude longitude = (from_look, to_look)
  where
    from_look : (look b st space page clock hold).display ≡ position latitude longitude → Draws b st space page clock hold latitude longitude
    from_look e =
        let d = look_drawn b st space page clock hold latitude longitude e in
        let ws = d.1.0 in
        let found = d.1.1 in
        let range = hold_range hold d.0 in
        let kept = not_blank clock hold (fix_of ws) d.1.4 in
        let valid = found_valid b st space page ws found d.1.2 d.1.3 kept.0 in
        (range.0, range.1, found_clear b st space page ws found, ((fix_of ws).number, (fix_of ws).second, valid, kept.1, kept.2))

    to_look : Draws b st space page clock hold latitude longitude → (look b st space page clock hold).display ≡ position latitude longitude
    to_look d =
        let fix = d.3 in
        while_held b st space page clock hold fix.0 fix.1 latitude longitude (hold_accepted hold d.0 d.1) fix.2 fix.3 fix.4

-- ---- for how long

when : (clock second hold : ℕ) → ((clock < second) ⊎ (second + hold < clock)) ⊎ ((second ≤ clock) × (clock ≤ second + hold))
when clock second hold =
    ⊎_elim (λ l. inl (inl l)) (λ from. ⊎_elim (λ l. inl (inr l)) (λ to. inr (from, to)) (lt_or_le (second + hold) clock)) (lt_or_le clock second)

pub held_for : (b : Board) → HeldFor b
held_for b st space page number second latitude longitude clock hold range v =
    go (look b st space page clock hold).display
    (λ from to. while_held b st space page clock hold number second latitude longitude (hold_accepted hold range.0 range.1) v from to)
    (else_blank b st space page clock hold number second latitude longitude (hold_accepted hold range.0 range.1) v)
    (when clock second hold)
  where
    go : (shown : Display) → (second ≤ clock → clock ≤ second + hold → shown ≡ position latitude longitude)
        → ((clock < second) ⊎ (second + hold < clock) → shown ≡ blank)
        → ((clock < second) ⊎ (second + hold < clock)) ⊎ ((second ≤ clock) × (clock ≤ second + hold))
        → ((shown ≡ position latitude longitude) ↔ ((second ≤ clock) × (clock ≤ second + hold)))
        × ((shown ≡ blank) ↔ ((clock < second) ⊎ (second + hold < clock)))
    go shown drawn-at blank-at (inl outside) = ((λ e. absurd (blank_drawn (sym (blank-at outside) ∙ e)), λ h. drawn-at h.0 h.1), (λ e. outside, blank-at))
    go shown drawn-at blank-at (inr within) =
        ((λ e. within, λ h. drawn-at h.0 h.1), (λ e. absurd (blank_drawn (sym e ∙ drawn-at within.0 within.1)), blank-at))
