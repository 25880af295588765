-- What the definitions of a sheet's bytes imply.
use Rattle.std.specs.Prelude.{true, List, ◌≡◌, ℕ, ◌+◌, ◌<◌, length, take}
use Rattle.sheet_codec.specs.Format.{sheet_bytes, is_broken}

-- a sheet that is longer than the largest is broken
abbrev pub LongSheetBroken : Type 0
LongSheetBroken = (sheet : List ℕ) → sheet_bytes < length sheet → is_broken sheet ≡ true

-- so the program, which reads one byte more than the largest sheet has and no others, reads a broken one of a longer input, too
abbrev pub ReadEnough : Type 0
ReadEnough = (input : List ℕ) → sheet_bytes < length input → is_broken (take (sheet_bytes + 1) input) ≡ true
