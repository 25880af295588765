-- Document 01, "The board as modelled": what the caches do, rule by rule, over any board. What goes through page c of them is the data cache's for a colour c, and the
-- instruction cache's from the number of colours on (request N8).
use Rattle.std.specs.Prelude.{not, List, ℕ, zero, suc, set}
use Rattle.board.specs.declared.Board.{Board}
use Rattle.board.specs.Board.{page_lines, line_of, colour_line, line_at, cache_at, line_offset, frame_at, memory_at}
use Rattle.cache.specs.Part.{part, overlay}
use Rattle.cache.specs.Store.{Store, tag_at, word_at, with_memory, with_words, with_tag, when}
use Rattle.cache.specs.Tag.{empty_tag, clean_tag, dirty_tag, is_dirty_tag, names, frame_of}

-- ---- a line

-- the words of line n
unfoldable pub line_words_of : Board → ℕ → Store → List ℕ
unfolding part line_at
line_words_of b n s = part s.words (line_at b n) b.line

-- line n's words go to memory of frame f, at the line's offset
unfoldable pub copy_out : Board → ℕ → ℕ → Store → Store
unfolding overlay memory_at line_offset line_words_of
copy_out b f n s = with_memory (overlay s.memory (memory_at b f (line_offset b n)) (line_words_of b n s)) s

-- line n is written back if its tag is dirty
unfoldable pub write_back : Board → ℕ → Store → Store
unfolding copy_out is_dirty_tag frame_of
write_back b n s = when (is_dirty_tag (tag_at s n)) (copy_out b (frame_of (tag_at s n)) n) s

-- line n gets tag 0; its words keep their values
unfoldable pub empty : ℕ → Store → Store
empty n s = with_tag n empty_tag s

-- line n is written back if its tag is dirty, and emptied (document 01: turning out)
unfoldable pub evict : Board → ℕ → Store → Store
unfolding write_back empty
evict b n s = empty n (write_back b n s)

-- line n is written back if its tag is dirty, and gets a tag
unfoldable pub write_back_as : Board → ℕ → ℕ → Store → Store
unfolding write_back
write_back_as b tag n s = with_tag n tag (write_back b n s)

-- line n's words come from memory of frame f, and its tag is clean
unfoldable pub fill : Board → ℕ → ℕ → Store → Store
unfolding part overlay memory_at line_offset line_at
fill b f n s =
    with_tag n (clean_tag f)
    (with_words (overlay s.words (line_at b n) (part s.memory (memory_at b f (line_offset b n)) b.line)) s)

-- ---- the lines of a page of the caches

-- an operation on each of the first i lines of cache page c, in rising order
unfoldable pub sweep : Board → (ℕ → Store → Store) → ℕ → ℕ → Store → Store
unfolding colour_line
sweep b op c zero s = s
sweep b op c (suc i) s = op (colour_line b c i) (sweep b op c i s)

-- what a flush makes of the lines that it writes back: this board's leaves them in, clean (request N9); another's empties them, as document 01's did
pub data FlushKind : Type 0 where
  leaving emptying : FlushKind

-- the tag that it gives a line of frame f
abbrev pub flushed_tag : FlushKind → ℕ → ℕ
flushed_tag leaving f = clean_tag f
flushed_tag emptying f = empty_tag

-- a line that names f is written back if it is dirty, and gets that tag; another stays
unfoldable pub flush_line : Board → FlushKind → ℕ → ℕ → Store → Store
unfolding names write_back_as
flush_line b how f n s = when (names (tag_at s n) f) (write_back_as b (flushed_tag how f) n) s

-- a line that names f is emptied and not written; another stays
unfoldable pub purge_line : ℕ → ℕ → Store → Store
unfolding names empty
purge_line f n s = when (names (tag_at s n) f) (empty n) s

-- the two orders on frame f in cache page c
unfoldable pub flush_by : Board → FlushKind → ℕ → ℕ → Store → Store
unfolding sweep flush_line page_lines
flush_by b how f c s = sweep b (flush_line b how f) c (page_lines b) s

abbrev pub flush : Board → ℕ → ℕ → Store → Store
flush b f c s = flush_by b leaving f c s

unfoldable pub purge : Board → ℕ → ℕ → Store → Store
unfolding sweep purge_line page_lines
purge b f c s = sweep b (purge_line f) c (page_lines b) s

-- ---- a processor's access, to offset o of frame f through cache page c

-- line n is written back and filled from frame f
unfoldable pub replace : Board → ℕ → ℕ → Store → Store
unfolding fill write_back
replace b f n s = fill b f n (write_back b n s)

-- nothing on a hit, that is if the line's tag names f; on a miss the line is replaced
unfoldable pub access : Board → ℕ → ℕ → ℕ → Store → Store
unfolding names replace line_of
access b f c o s = when (not (names (tag_at s (line_of b c o)) f)) (replace b f (line_of b c o)) s

-- the word that a read finds, in the store after its access
unfoldable pub read_word : Board → ℕ → ℕ → ℕ → Store → ℕ
unfolding access cache_at
read_word b f c o s = word_at b (access b f c o s) c o

-- a write changes the word in the line and makes the line dirty
unfoldable pub put_word : Board → ℕ → ℕ → ℕ → ℕ → Store → Store
unfolding line_of cache_at
put_word b f c o v s = with_tag (line_of b c o) (dirty_tag f) (with_words (set s.words (cache_at b c o) v) s)

unfoldable pub write_word : Board → ℕ → ℕ → ℕ → ℕ → Store → Store
unfolding put_word access
write_word b f c o v s = put_word b f c o v (access b f c o s)

-- ---- a device's transfer of frame f

-- the frame's words in memory, in order of offset
unfoldable pub device_read : Board → ℕ → Store → List ℕ
unfolding part frame_at
device_read b f s = part s.memory (frame_at b f) b.page

-- memory with the buffer's words as the frame's from offset first on: all of them where it is 0 and the buffer has a page's length
unfoldable pub device_write : Board → ℕ → ℕ → List ℕ → Store → Store
unfolding overlay memory_at
device_write b f first buffer s = with_memory (overlay s.memory (memory_at b f first) buffer) s

-- memory with one word of the frame replaced, which a device brings (request N6); the one that it takes is `memory_word`
unfoldable pub bring_word : Board → ℕ → ℕ → ℕ → Store → Store
unfolding memory_at
bring_word b f o v s = with_memory (set s.memory (memory_at b f o) v) s
