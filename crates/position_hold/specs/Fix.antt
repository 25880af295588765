-- Request N5: what is drawn from a fix. Seconds are 32 bits unsigned; coordinates are ten-millionths of a degree, signed in two's complement of 32 bits.
use Rattle.std.specs.Prelude.{Bool, cond, ◌||◌, ℕ, ◌-◌, ◌*◌, ◌^◌, eqb, ltb, Option, Some, None, Result, Ok, Err}
use Rattle.manager.specs.Answers as manager
use Rattle.position_hold.specs.declared.refusal.LookRefusal.{LookRefusal}
use Rattle.position_hold.specs.declared.refusal.LookRefusal.TheVariants.{WrongHold, Read}
-- a fix: its number, its second, latitude and longitude. It is the code's struct
pub use Rattle.position_hold.specs.declared.fix.Fix.{Fix}
pub use Rattle.position_hold.specs.declared.fix.Position.{Position}

-- ---- the answer

-- a refusal with its number, blank, or a position: latitude and longitude as they were read
pub data Display : Type 0 where
  refused : ℕ → Display
  blank : Display
  position : ℕ → ℕ → Display

-- what the code's judgement says, and its answer
abbrev pub shown : Option Position → Display
shown None = blank
shown (Some p) = position p.latitude p.longitude

-- a refusal's number: 14, or that of a read
abbrev pub refusal_number : LookRefusal → ℕ
refusal_number WrongHold = 14
refusal_number (Read r) = manager.refusal_number r

abbrev pub displayed : Result (Option Position) LookRefusal → Display
displayed (Err r) = refused (refusal_number r)
displayed (Ok p) = shown p

-- ---- the hold

abbrev pub shortest_hold : ℕ
shortest_hold = 2

abbrev pub longest_hold : ℕ
longest_hold = 30

-- 14: under the shortest, or over the longest
unfoldable pub hold_refused : ℕ → Bool
hold_refused hold = ltb hold shortest_hold || ltb longest_hold hold

-- ---- coordinates

-- how far from 0 a word in two's complement lies, either way
unfoldable pub magnitude : ℕ → ℕ
magnitude w = cond (ltb w (2 ^ 31)) w (2 ^ 32 - w)

abbrev pub degrees : ℕ → ℕ
degrees n = n * 10000000

-- outside so many degrees, either way
unfoldable pub is_outside : ℕ → ℕ → Bool
unfolding magnitude
is_outside n w = ltb (degrees n) (magnitude w)

-- ---- the judgement

unfoldable pub is_blank : ℕ → ℕ → Fix → Bool
unfolding is_outside
is_blank clock hold fix =
    eqb fix.number 0
    || ltb clock fix.second
    || ltb hold (clock - fix.second)
    || is_outside 90 fix.latitude
    || is_outside 180 fix.longitude

unfoldable pub judged : ℕ → ℕ → Fix → Display
unfolding is_blank
judged clock hold fix = cond (is_blank clock hold fix) blank (position fix.latitude fix.longitude)
