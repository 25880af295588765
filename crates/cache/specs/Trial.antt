-- Claims about the cache that its laws must be strong enough to show, of any board.
use Rattle.std.specs.Prelude.{false, ◌≡◌, ℕ, ◌<◌}
use Rattle.board.specs.declared.Board.{Board}
use Rattle.board.specs.Board.{cache_pages, lines, line_of, line_colour}
use Rattle.cache.specs.Store.{Store, WellFormedStore, tag_at, word_at, memory_word, when}
use Rattle.cache.specs.Tag.{clean_tag, dirty_tag, names}
use Rattle.cache.specs.Cache.{evict, emptying, flush_line, flush, purge, write_word}

-- a word written through colour c is still in its line after a flush, which is clean (request N9)
abbrev pub FlushedStaysIn : Board → Type 0
FlushedStaysIn b =
    (f c o v : ℕ) (s : Store) → f < b.frames → c < b.colours → o < b.page → WellFormedStore b s
    → (tag_at (flush b f c (write_word b f c o v s)) (line_of b c o) ≡ clean_tag f) × (word_at b (flush b f c (write_word b f c o v s)) c o ≡ v)

-- and in memory
abbrev pub WrittenAndFlushed : Board → Type 0
WrittenAndFlushed b =
    (f c o v : ℕ) (s : Store) → f < b.frames → c < b.colours → o < b.page → WellFormedStore b s
    → memory_word b (flush b f c (write_word b f c o v s)) f o ≡ v

-- a flush writes nothing but dirty lines of its frame and page
abbrev pub FlushWritesDirty : Board → Type 0
FlushWritesDirty b =
    (f c g o : ℕ) (s : Store) → f < b.frames → c < cache_pages b → o < b.page → WellFormedStore b s
    → (g ≡ f → tag_at s (line_of b c o) ≡ dirty_tag f → ⊥) → memory_word b (flush b f c s) g o ≡ memory_word b s g o

-- and leaves lines that do not name its frame
abbrev pub FlushLeavesOthers : Board → Type 0
FlushLeavesOthers b =
    (f c n : ℕ) (s : Store) → f < b.frames → c < cache_pages b → WellFormedStore b s → names (tag_at s n) f ≡ false
    → tag_at (flush b f c s) n ≡ tag_at s n

-- after a purge no line of cache page c names f
abbrev pub PurgedNamesNone : Board → Type 0
PurgedNamesNone b =
    (f c n : ℕ) (s : Store) → c < cache_pages b → n < lines b → WellFormedStore b s → line_colour b n ≡ c
    → names (tag_at (purge b f c s) n) f ≡ false

-- a flush that empties evicts the lines that name f
abbrev pub EmptyingEvicts : Board → Type 0
EmptyingEvicts b = (f n : ℕ) (s : Store) → flush_line b emptying f n s ≡ when (names (tag_at s n) f) (evict b n) s
