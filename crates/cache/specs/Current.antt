-- A frame's current words, and where the board holds them: in the dirty lines, and else in memory.
-- The part of demand 3's argument that speaks of memory and cache alone.
use Rattle.std.specs.Prelude.{cond, ◌&&◌, List, ◌≡◌, ℕ, ◌+◌, ◌-◌, ◌<◌, eqb, leb, ltb, length, get_or}
use Rattle.board.specs.declared.Board.{Board}
use Rattle.board.specs.Board.{cache_pages, line_of}
use Rattle.cache.specs.Store.{Store, WellFormedStore, tag_at, word_at, memory_word}
use Rattle.cache.specs.Tag.{dirty_tag}

-- the words that a dirty line of frame f covers are current there, and every other word is current in memory
pub record Current (b : Board) (f : ℕ) (current : ℕ → ℕ) (s : Store) : Type 0 where
  pub in_line : (c o : ℕ) → c < cache_pages b → o < b.page → tag_at s (line_of b c o) ≡ dirty_tag f → word_at b s c o ≡ current o
  pub in_memory : (o : ℕ) → o < b.page → ((c : ℕ) → c < cache_pages b → tag_at s (line_of b c o) ≡ dirty_tag f → ⊥) → memory_word b s f o ≡ current o

-- an operation loses no current word of any frame
abbrev pub LosesNone : Board → (Store → Store) → Type 0
LosesNone b op = (f : ℕ) (current : ℕ → ℕ) (s : Store) → WellFormedStore b s → Current b f current s → Current b f current (op s)

-- the current words after a write of v at offset o
abbrev pub written : ℕ → ℕ → (ℕ → ℕ) → ℕ → ℕ
written o v current p = cond (eqb p o) v (current p)

-- the current words after a device's write of a buffer's from offset first on
abbrev pub received : ℕ → List ℕ → (ℕ → ℕ) → ℕ → ℕ
received first buffer current p = cond (leb first p && ltb p (first + length buffer)) (get_or buffer (p - first) 0) (current p)
