-- The hardware's state: memory, and the words and tags of both caches' lines. Document 01, "The board as modelled".
use Rattle.std.specs.Prelude.{Bool, true, false, ◌≡◌, List, ℕ, length, get_or, set}
use Rattle.board.specs.declared.Board.{Board}
use Rattle.board.specs.Board.{memory_words, cache_words, lines, memory_at, cache_at}
use Rattle.cache.specs.Tag.{tags_keep_rules}

pub record Store : Type 0 where
  pub memory : List ℕ
  pub words : List ℕ
  pub tags : List ℕ

abbrev pub store : List ℕ → List ℕ → List ℕ → Store
store memory words tags = record { memory = memory; words = words; tags = tags }

-- a store of the board's lengths, whose tags keep the rules
pub record WellFormedStore (b : Board) (s : Store) : Type 0 where
  pub memory_length : length s.memory ≡ memory_words b
  pub words_length : length s.words ≡ cache_words b
  pub tags_length : length s.tags ≡ lines b
  pub tags_rules : tags_keep_rules b s.tags ≡ true

-- ---- what stands where

-- the tag of line n
abbrev pub tag_at : Store → ℕ → ℕ
tag_at s n = get_or s.tags n 0

-- the word at offset o in page c of the caches, and memory's word at offset o of frame f
abbrev pub word_at : Board → Store → ℕ → ℕ → ℕ
word_at b s c o = get_or s.words (cache_at b c o) 0

abbrev pub memory_word : Board → Store → ℕ → ℕ → ℕ
memory_word b s f o = get_or s.memory (memory_at b f o) 0

-- ---- one field replaced

abbrev pub with_memory : List ℕ → Store → Store
with_memory memory s = store memory s.words s.tags

abbrev pub with_words : List ℕ → Store → Store
with_words words s = store s.memory words s.tags

abbrev pub with_tag : ℕ → ℕ → Store → Store
with_tag n tag s = store s.memory s.words (set s.tags n tag)

-- g's outcome if a test holds, else the store as it is
abbrev pub when : Bool → (Store → Store) → Store → Store
when true g s = g s
when false g s = s
