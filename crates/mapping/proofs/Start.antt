-- The list at the start: it keeps its rules, and no page is mapped.
use mathlib.Core.Path.{◌≡◌}
use mathlib.Core.Option.{none}
use Prim.Native.Nat.{ℕ}
use native.Mathlib.Omega.{arith}
use Rattle.board.specs.declared.Board.{Board}
use Rattle.mapping.specs.Lookup.{mapping_of}
use Rattle.mapping.specs.Change.{empty}
use Rattle.mapping.specs.Facts.{Rules}
use Rattle.mapping.proofs.Lookups.{none_lookup, mapping_of_nothing}
use Rattle.mapping.proofs.Change.{empty_count, empty_at_lem}

pub empty_rules : (b : Board) → Rules b empty
empty_rules b =
    let n = empty_count in
    record { count_le = omega arith; in_range_holds = λ i h. absurd (omega arith); ordered = λ i j h k. absurd (omega arith); rest_zero_holds = λ i h. empty_at_lem i }

pub mapping_of_empty : (s p : ℕ) → mapping_of empty s p ≡ none
mapping_of_empty s p = mapping_of_nothing empty s p (none_lookup empty s p (λ i h k m. let n = empty_count in omega arith))
