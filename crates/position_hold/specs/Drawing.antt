-- Request N5's rule: which position a look draws, and exactly when. It is said of the words read; neither `judged` nor `magnitude` is asked.
use Rattle.std.specs.Prelude.{[], ◌∷◌, ◌↔◌, ◌⊎◌, ◌≢◌, ◌≡◌, ℕ, ◌+◌, ◌-◌, ◌*◌, ◌^◌, ◌≤◌}
use Rattle.board.specs.declared.Board.{Board}
use Rattle.machine.specs.Refusals.{causes}
use Rattle.machine.specs.State.{State, read}
use Rattle.demands.specs.Demands.{Clear}
use Rattle.position_hold.specs.Fix.{position}
use Rattle.position_hold.specs.Look.{words, fix_reads, look}

-- a word of 32 bits in two's complement, in ten-millionths of a degree, lies within so many degrees of 0 either way
abbrev pub Within : ℕ → ℕ → Type 0
Within degrees w = (w ≤ degrees * 10000000) ⊎ (2 ^ 32 - degrees * 10000000 ≤ w)

-- the four words that the reads find, in their order, are a fix on the earth
pub record Valid (b : Board) (st : State) (space page number second latitude longitude : ℕ) : Type 0 where
  pub found : (fix_reads b st space page).words ≡ words (number ∷ second ∷ latitude ∷ longitude ∷ [])
  pub numbered : number ≢ 0
  pub latitude_within : Within 90 latitude
  pub longitude_within : Within 180 longitude

-- the hold is in its range, the first read has no cause of refusal, and the words read are a fix on the earth with these coordinates, whose second is not
-- past the clock and lies back no further than the hold
abbrev pub Draws : Board → State → ℕ → ℕ → ℕ → ℕ → ℕ → ℕ → Type 0
Draws b st space page clock hold latitude longitude =
    (2 ≤ hold)
    × (hold ≤ 30)
    × Clear (causes b st (read space page 0))
    × ((number : ℕ)
    × (second : ℕ)
    × Valid b st space page number second latitude longitude
    × (second ≤ clock)
    × (clock ≤ second + hold))

-- a look draws a position exactly then, in any state and on any board: where a page has fewer than four words, none is drawn
abbrev pub Drawn : Board → Type 0
Drawn b =
    (st : State) (space page clock hold latitude longitude : ℕ)
    → ((look b st space page clock hold).display ≡ position latitude longitude) ↔ Draws b st space page clock hold latitude longitude
