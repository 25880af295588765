-- Document 01, "The board as modelled": the four numbers, and which line, word and colour belong to which page and offset.
use Rattle.std.specs.Prelude.{ℕ, ◌+◌, ◌*◌, ◌/◌, ◌%◌, ◌≤◌, ◌<◌, ◌≡◌}
-- a board by its four numbers: words in a page and in a line, colours, frames. It is the code's struct
pub use Rattle.board.specs.declared.Board.{Board}

-- document 01's board
abbrev pub board01 : Board
board01 = record { page = 64; line = 8; colours = 8; frames = 64 }

-- the address spaces, and the virtual pages of each; the same on every board
abbrev pub spaces : ℕ
spaces = 16

abbrev pub pages : ℕ
pages = 1024

-- ---- sizes

-- the pages of both caches: one for each colour of the data cache, and behind them one for each of the instruction cache
abbrev pub cache_pages : Board → ℕ
cache_pages b = 2 * b.colours

-- the lines of one page, of the data cache, and of both caches
unfoldable pub page_lines : Board → ℕ
page_lines b = b.page / b.line

unfoldable pub data_lines : Board → ℕ
unfolding page_lines
data_lines b = b.colours * page_lines b

unfoldable pub lines : Board → ℕ
unfolding page_lines
lines b = cache_pages b * page_lines b

unfoldable pub cache_words : Board → ℕ
cache_words b = cache_pages b * b.page

unfoldable pub memory_words : Board → ℕ
memory_words b = b.frames * b.page

-- ---- places

-- the colour of a virtual page
unfoldable pub colour_of : Board → ℕ → ℕ
colour_of b page = page % b.colours

-- the page of the instruction cache that a colour has
abbrev pub instruction_page : Board → ℕ → ℕ
instruction_page b c = b.colours + c

-- the line in which offset o lies in cache page c: a colour's line in the data cache, from the number of colours on in the instruction cache
unfoldable pub line_of : Board → ℕ → ℕ → ℕ
unfolding page_lines
line_of b c o = c * page_lines b + o / b.line

-- line i of the lines of cache page c, in rising order
unfoldable pub colour_line : Board → ℕ → ℕ → ℕ
unfolding page_lines
colour_line b c i = c * page_lines b + i

-- the first word of line n in the caches
unfoldable pub line_at : Board → ℕ → ℕ
line_at b n = n * b.line

-- the word of the caches that holds offset o in page c of them
unfoldable pub cache_at : Board → ℕ → ℕ → ℕ
unfolding line_of line_at
cache_at b c o = line_at b (line_of b c o) + o % b.line

-- the cache page that line n belongs to, and the first offset of a page that lies in it
unfoldable pub line_colour : Board → ℕ → ℕ
unfolding page_lines
line_colour b n = n / page_lines b

unfoldable pub line_offset : Board → ℕ → ℕ
unfolding page_lines
line_offset b n = n % page_lines b * b.line

-- the first word of frame f in memory, and its word at offset o
unfoldable pub frame_at : Board → ℕ → ℕ
frame_at b f = f * b.page

unfoldable pub memory_at : Board → ℕ → ℕ → ℕ
unfolding frame_at
memory_at b f o = frame_at b f + o

-- ---- the boards of which the laws hold

-- a board has words and colours, its line divides its page, and no number passes its limit
pub record Regular (b : Board) : Type 0 where
  pub has_line_words : 0 < b.line
  pub has_page_words : 0 < b.page
  pub has_colours : 0 < b.colours
  pub divides : page_lines b * b.line ≡ b.page
  pub few_words : b.page ≤ 1024
  pub few_colours : b.colours ≤ 32
  pub few_frames : b.frames ≤ 64
