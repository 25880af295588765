-- What a step of the cache asks for, of document 01's board.
use Rattle.std.proofs.Common.{◌≡◌, ℕ, List, true, length, refl}
use Rattle.board.specs.Board.{Regular, board01, cache_words, lines, memory_words}
use Rattle.board.proofs.Geometry.{board01_regular}
use Rattle.cache.specs.Store.{WellFormedStore, store}
use Rattle.cache.specs.Tag.{tags_keep_rules}

pub regular : Regular board01
regular = board01_regular

pub memory_words_is : memory_words board01 ≡ 4096
unfolding memory_words
memory_words_is = refl

pub cache_words_is : cache_words board01 ≡ 1024
unfolding cache_words
cache_words_is = refl

pub lines_is : lines board01 ≡ 128
unfolding lines
lines_is = refl

pub well_formed : (memory words tags : List ℕ) → length memory ≡ 4096 → length words ≡ 1024 → length tags ≡ 128 → tags_keep_rules board01 tags ≡ true → WellFormedStore board01 (store memory words tags)
unfolding memory_words cache_words lines
well_formed memory words tags m w t k = record { memory_length = m; words_length = w; tags_length = t; tags_rules = k }
