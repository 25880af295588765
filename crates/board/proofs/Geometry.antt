-- The laws of the board's geometry, for any board whose line divides its page.
use mathlib.Core.Path.{◌≡◌, refl, sym, ap, ap₂, ◌∙◌, subst, subst⁻¹}
use Prim.Native.Nat.{ℕ, ◌+◌, ◌-◌, ◌*◌, ◌/◌, ◌%◌, ◌≤◌, ◌<◌}
use native.Mathlib.Omega.{arith}
use native.Mathlib.Nat.{mod-lt, mod-eq_of_lt, add-mod_left, mul_assoc, mul-le-mul, mul-le-mul_left, mul-le-mul_right, add-mul, add_assoc, div-add-mod', div-lt_iff_lt-mul, suc-mul}
use lib.Arith.{digits_lt, digits_div, digits_mod}
use Rattle.board.specs.Board.{Board, Regular, board01, cache_pages, page_lines, data_lines, lines, cache_words, memory_words, colour_of, instruction_page, line_of, colour_line, line_at, cache_at, line_colour, line_offset, frame_at, memory_at}

-- document 01's board
pub board01_regular : Regular board01
unfolding page_lines
board01_regular =
    record {
      has_line_words = omega arith;
      has_page_words = omega arith;
      has_colours = omega arith;
      divides = refl;
      few_words = omega arith;
      few_colours = omega arith;
      few_frames = omega arith;
    }

-- a row of w words below the last of n ends within n rows
after : (i n w : ℕ) → i < n → i * w + w ≤ n * w
after i n w h = subst (λ (x : ℕ). x ≤ n * w) (suc-mul i w) (mul-le-mul_right w h)

module _ (b : Board) (reg : Regular b) where
  -- ---- colours

  pub colour_of_lt : (page : ℕ) → colour_of b page < b.colours
  unfolding colour_of
  colour_of_lt page = mod-lt page reg.has_colours

  -- ---- the pages of the caches

  -- a colour is a page of the data cache, and has one of the instruction cache
  pub data_page : (c : ℕ) → c < b.colours → c < cache_pages b
  data_page c h = omega arith

  pub instruction_page_lem : (c : ℕ) → c < b.colours → instruction_page b c < cache_pages b
  instruction_page_lem c h = omega arith

  -- and it is the colour of the virtual pages of these numbers
  pub colour_of_data : (c : ℕ) → c < b.colours → colour_of b c ≡ c
  unfolding colour_of
  colour_of_data c h = mod-eq_of_lt h

  pub colour_of_instruction : (c : ℕ) → c < b.colours → colour_of b (instruction_page b c) ≡ c
  unfolding colour_of
  colour_of_instruction c h = add-mod_left b.colours c ∙ mod-eq_of_lt h

  -- ---- a line and the offsets in it

  -- which of a page's lines an offset lies in
  pub offset_line_lt : (o : ℕ) → o < b.page → o / b.line < page_lines b
  offset_line_lt o h = (div-lt_iff_lt-mul reg.has_line_words).1 (subst (λ (w : ℕ). o < w) (sym reg.divides) h)

  pub line_of_lt : (c o : ℕ) → c < cache_pages b → o < b.page → line_of b c o < lines b
  unfolding line_of lines
  line_of_lt c o hc ho = digits_lt hc (offset_line_lt o ho)

  -- the lines of a colour's page are data lines, and those of an instruction page are not
  pub line_of_data : (c o : ℕ) → c < b.colours → o < b.page → line_of b c o < data_lines b
  unfolding line_of data_lines
  line_of_data c o hc ho = digits_lt hc (offset_line_lt o ho)

  pub line_of_instruction : (c o : ℕ) → b.colours ≤ c → data_lines b ≤ line_of b c o
  unfolding line_of data_lines
  line_of_instruction c o h = let m = mul-le-mul_right (page_lines b) h in omega arith

  pub line_of_colour : (c o : ℕ) → o < b.page → line_colour b (line_of b c o) ≡ c
  unfolding line_of line_colour
  line_of_colour c o ho = digits_div c (offset_line_lt o ho)

  pub line_of_offset : (c o : ℕ) → o < b.page → line_offset b (line_of b c o) + o % b.line ≡ o
  unfolding line_of line_offset
  line_of_offset c o ho = ap (λ (x : ℕ). x * b.line + o % b.line) (digits_mod c (offset_line_lt o ho)) ∙ div-add-mod' o b.line

  pub page_lines_pos : 0 < page_lines b
  page_lines_pos = let some = offset_line_lt 0 reg.has_page_words in omega arith

  pub line_colour_lt : (n : ℕ) → n < lines b → line_colour b n < cache_pages b
  unfolding line_colour lines
  line_colour_lt n h = (div-lt_iff_lt-mul page_lines_pos).1 h

  -- a line of a colour's page is a data line
  pub data_line_line : (n : ℕ) → line_colour b n < b.colours → n < data_lines b
  unfolding line_colour data_lines
  data_line_line n h = (div-lt_iff_lt-mul page_lines_pos).0 h

  -- a line's words lie in the page
  pub line_offset_end : (n : ℕ) → line_offset b n + b.line ≤ b.page
  unfolding line_offset
  line_offset_end n = subst (λ (w : ℕ). line_offset b n + b.line ≤ w) reg.divides (after (n % page_lines b) (page_lines b) b.line (mod-lt n page_lines_pos))

  -- a word of line n is the word of its colour at its offset
  pub line_of_line : (n i : ℕ) → i < b.line → line_of b (line_colour b n) (line_offset b n + i) ≡ n
  unfolding line_of line_colour line_offset
  line_of_line n i h = ap (λ (x : ℕ). n / page_lines b * page_lines b + x) (digits_div (n % page_lines b) h) ∙ div-add-mod' n (page_lines b)

  -- ---- the lines of a colour

  pub colour_line_lt : (c i : ℕ) → c < cache_pages b → i < page_lines b → colour_line b c i < lines b
  unfolding colour_line lines
  colour_line_lt c i hc hi = digits_lt hc hi

  pub colour_line_colour : (c i : ℕ) → i < page_lines b → line_colour b (colour_line b c i) ≡ c
  unfolding colour_line line_colour
  colour_line_colour c i h = digits_div c h

  -- a line is one of its colour's
  pub colour_line_index : (n : ℕ) → n % page_lines b < page_lines b
  colour_line_index n = mod-lt n page_lines_pos

  pub colour_line_split : (n : ℕ) → colour_line b (line_colour b n) (n % page_lines b) ≡ n
  unfolding colour_line line_colour
  colour_line_split n = div-add-mod' n (page_lines b)

  pub colour_line_inj : (c i j : ℕ) → colour_line b c i ≡ colour_line b c j → i ≡ j
  unfolding colour_line
  colour_line_inj c i j e = omega arith

  -- ---- words of the cache and of memory

  -- the words of a colour lie in the cache as the offsets of a page do
  pub cache_at_flat : (c o : ℕ) → cache_at b c o ≡ c * b.page + o
  unfolding cache_at
  cache_at_flat c o =
      ap (λ (x : ℕ). x + o % b.line) (add-mul (c * page_lines b) (o / b.line) b.line)
      ∙ add_assoc (c * page_lines b * b.line) (o / b.line * b.line) (o % b.line)
      ∙ ap₂ ◌+◌ (mul_assoc c (page_lines b) b.line ∙ ap (λ (x : ℕ). c * x) reg.divides) (div-add-mod' o b.line)

  pub cache_at_lt : (c o : ℕ) → c < cache_pages b → o < b.page → cache_at b c o < cache_words b
  unfolding cache_words
  cache_at_lt c o hc ho = subst⁻¹ (λ (x : ℕ). x < cache_pages b * b.page) (cache_at_flat c o) (digits_lt hc ho)

  pub line_at_end : (n : ℕ) → n < lines b → line_at b n + b.line ≤ cache_words b
  unfolding line_at lines cache_words
  line_at_end n h =
      subst (λ (w : ℕ). line_at b n + b.line ≤ w) (mul_assoc (cache_pages b) (page_lines b) b.line ∙ ap (λ (x : ℕ). cache_pages b * x) reg.divides)
      (after n (lines b) b.line h)

  pub frame_at_end : (f : ℕ) → f < b.frames → frame_at b f + b.page ≤ memory_words b
  unfolding frame_at memory_words
  frame_at_end f h = after f b.frames b.page h

  pub memory_at_zero : (f : ℕ) → memory_at b f 0 ≡ frame_at b f
  unfolding memory_at
  memory_at_zero f = omega arith

  -- ---- the words of a line and of a frame

  -- a place in a row of w words is that row's
  in_row : (i j r w : ℕ) → i * w ≤ j * w + r → j * w + r < i * w + w → r < w → j ≡ i
  in_row i j r w low high h =
      let k : ℕ = j * w + r - i * w in
      sym (digits_div j h) ∙ ap (λ (x : ℕ). x / w) (omega arith) ∙ digits_div i {m = w} {r = k} (omega arith)

  -- a word of the cache that lies in line n is a word of line n
  pub cache_at_within : (n c o : ℕ) → line_at b n ≤ cache_at b c o → cache_at b c o < line_at b n + b.line → line_of b c o ≡ n
  unfolding cache_at line_at
  cache_at_within n c o low high = in_row n (line_of b c o) (o % b.line) b.line low high (mod-lt o reg.has_line_words)

  -- a word of memory that lies in frame g is of frame g
  pub frame_at_within : (g f o : ℕ) → o < b.page → frame_at b g ≤ memory_at b f o → memory_at b f o < frame_at b g + b.page → f ≡ g
  unfolding memory_at frame_at
  frame_at_within g f o ho low high = in_row g f o b.page low high ho

  -- line n's words of a frame lie in memory one after another
  pub memory_at_line : (f n i : ℕ) → memory_at b f (line_offset b n) + i ≡ memory_at b f (line_offset b n + i)
  unfolding memory_at
  memory_at_line f n i = omega arith

  pub memory_at_line_end : (f n : ℕ) → f < b.frames → memory_at b f (line_offset b n) + b.line ≤ memory_words b
  unfolding memory_at
  memory_at_line_end f n h = omega (arith, frame_at_end f h, line_offset_end n)

  -- and no other word of memory lies among them
  pub memory_at_within_frame : (g n f o : ℕ) → o < b.page → memory_at b g (line_offset b n) ≤ memory_at b f o → memory_at b f o < memory_at b g (line_offset b n) + b.line → f ≡ g
  unfolding memory_at
  memory_at_within_frame g n f o ho low high = frame_at_within g f o ho (omega arith) (omega (arith, line_offset_end n))

  pub memory_at_within_line : (f n o : ℕ) → memory_at b f (line_offset b n) ≤ memory_at b f o → memory_at b f o < memory_at b f (line_offset b n) + b.line → line_of b (line_colour b n) o ≡ n
  unfolding memory_at
  memory_at_within_line f n o low high =
      let i : ℕ = o - line_offset b n in
      ap (λ (x : ℕ). line_of b (line_colour b n) x) (omega arith) ∙ line_of_line n i (omega arith)

  -- a word of the cache is of one line, and in one colour of one offset
  pub cache_at_line_inj : (c o d p : ℕ) → cache_at b c o ≡ cache_at b d p → line_of b c o ≡ line_of b d p
  unfolding cache_at
  cache_at_line_inj c o d p e = cache_at_within (line_of b d p) c o (omega arith) (omega (arith, mod-lt p reg.has_line_words))

  pub cache_at_offset_inj : (c o p : ℕ) → cache_at b c o ≡ cache_at b c p → o ≡ p
  cache_at_offset_inj c o p e = omega (arith, cache_at_flat c o, cache_at_flat c p)

  -- ---- every size and place is small

  few_pages : cache_pages b ≤ 64
  few_pages = let few = reg.few_colours in omega arith

  pub memory_words_small : memory_words b ≤ 65536
  unfolding memory_words
  memory_words_small = mul-le-mul reg.few_frames reg.few_words

  pub cache_words_small : cache_words b ≤ 65536
  unfolding cache_words
  cache_words_small = mul-le-mul few_pages reg.few_words

  pub page_lines_small : page_lines b ≤ 1024
  page_lines_small = omega (arith, mul-le-mul_left (page_lines b) reg.has_line_words, reg.divides, reg.few_words)

  pub lines_small : lines b ≤ 65536
  unfolding lines
  lines_small = mul-le-mul few_pages page_lines_small

  pub data_lines_small : data_lines b ≤ 32768
  unfolding data_lines
  data_lines_small = mul-le-mul reg.few_colours page_lines_small

  pub memory_at_lt : (f o : ℕ) → f < b.frames → o < b.page → memory_at b f o < memory_words b
  unfolding memory_at
  memory_at_lt f o hf ho = omega (arith, frame_at_end f hf)

  pub memory_at_small : (f o : ℕ) → f < b.frames → o < b.page → memory_at b f o < 65536
  memory_at_small f o hf ho = omega (arith, memory_at_lt f o hf ho, memory_words_small)

  pub cache_at_small : (c o : ℕ) → c < cache_pages b → o < b.page → cache_at b c o < 65536
  cache_at_small c o hc ho = omega (arith, cache_at_lt c o hc ho, cache_words_small)

  pub line_of_small : (c o : ℕ) → c < cache_pages b → o < b.page → line_of b c o < 65536
  line_of_small c o hc ho = omega (arith, line_of_lt c o hc ho, lines_small)

  pub colour_line_small : (c i : ℕ) → c < cache_pages b → i < page_lines b → colour_line b c i < 65536
  colour_line_small c i hc hi = omega (arith, colour_line_lt c i hc hi, lines_small)

  pub line_at_small : (n : ℕ) → n < lines b → line_at b n < 65536
  line_at_small n h = omega (arith, line_at_end n h, cache_words_small, reg.has_line_words)

  pub line_offset_small : (n : ℕ) → line_offset b n < 1024
  line_offset_small n = omega (arith, line_offset_end n, reg.has_line_words, reg.few_words)
