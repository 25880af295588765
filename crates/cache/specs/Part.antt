-- Parts of a list of words: the words of a line or of a frame, and the list with others in their place.
use Rattle.std.specs.Prelude.{List, ◌++◌, ℕ, length, take, drop}

-- the n words of l from at on
unfoldable pub part : List ℕ → ℕ → ℕ → List ℕ
part l at n = take n (drop at l)

-- l with the words of p in the place of its own from at on
unfoldable pub overlay : List ℕ → ℕ → List ℕ → List ℕ
overlay l at p = take at l ++ (p ++ drop (length p) (drop at l))
