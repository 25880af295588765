-- What a function leaves that writes into a lent buffer of text: the bytes s from a place on, of which there are no more than most, and
-- every other byte as it was. It answers the place after them.
use Rattle.std.specs.Prelude.{List, ◌≡◌, ℕ, ◌+◌, ◌≤◌, length}
use Rattle.cache.specs.Part.{overlay}

pub record Put (before : List ℕ) (at : ℕ) (s : List ℕ) (most : ℕ) (after : List ℕ) (next : ℕ) : Type 0 where
  pub written : after ≡ overlay before at s
  pub next_is : next ≡ at + length s
  pub short : length s ≤ most
