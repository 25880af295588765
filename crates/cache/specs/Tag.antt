-- Document 01, "The board as modelled": what a line's tag byte says, and which bytes keep the rules.
use Rattle.std.specs.Prelude.{Bool, true, not, ◌&&◌, ◌||◌, cond, List, [], ◌∷◌, ℕ, suc, ◌+◌, ◌-◌, ◌≡◌, ◌<◌, eqb, leb, ltb}
use Rattle.board.specs.declared.Board.{Board}
use Rattle.board.specs.Board.{data_lines}
use Rattle.cache.specs.declared.tag.Tag.{Tag}
use Rattle.cache.specs.declared.tag.Tag.TheVariants.{Empty, Clean, Dirty}

-- an empty line; a clean line of frame f; a line of frame f that was written and not written back since
abbrev pub empty_tag : ℕ
empty_tag = 0

abbrev pub clean_tag : ℕ → ℕ
clean_tag f = 1 + f

abbrev pub dirty_tag : ℕ → ℕ
dirty_tag f = 129 + f

-- a byte says a tag of the code's type
abbrev pub Says : ℕ → Tag → Type 0
Says byte Empty = byte ≡ empty_tag
Says byte (Clean f) = (byte ≡ clean_tag f) × (byte < dirty_tag 0)
Says byte (Dirty f) = byte ≡ dirty_tag f

-- there is a byte that says it
abbrev pub HasByte : Tag → Type 0
HasByte Empty = Unit {0}
HasByte (Clean f) = clean_tag f < dirty_tag 0
HasByte (Dirty f) = dirty_tag f < 256

-- whether a tag says dirty, that is 129 or more
unfoldable pub is_dirty_tag : ℕ → Bool
is_dirty_tag tag = leb (dirty_tag 0) tag

-- whether a tag names frame f
unfoldable pub names : ℕ → ℕ → Bool
names tag f = eqb tag (clean_tag f) || eqb tag (dirty_tag f)

-- the frame that a tag names, if it is not the empty one
unfoldable pub frame_of : ℕ → ℕ
unfolding is_dirty_tag
frame_of tag = cond (is_dirty_tag tag) (tag - dirty_tag 0) (tag - clean_tag 0)

-- a tag keeps the rules: it is empty, or names a frame of the board
unfoldable pub tag_keeps_rules : Board → ℕ → Bool
unfolding frame_of
tag_keeps_rules b tag = eqb tag empty_tag || ltb (frame_of tag) b.frames

-- the tag of line n keeps the rules: an instruction line's is not dirty (request N8)
unfoldable pub line_keeps_rules : Board → ℕ → ℕ → Bool
unfolding tag_keeps_rules is_dirty_tag data_lines
line_keeps_rules b n tag = tag_keeps_rules b tag && (not (is_dirty_tag tag) || ltb n (data_lines b))

-- every one of the tags keeps the rules, as those of the lines from n on, and as those of all lines
unfoldable pub tags_from : Board → ℕ → List ℕ → Bool
unfolding line_keeps_rules
tags_from b n [] = true
tags_from b n (tag ∷ tags) = line_keeps_rules b n tag && tags_from b (suc n) tags

unfoldable pub tags_keep_rules : Board → List ℕ → Bool
unfolding tags_from
tags_keep_rules b tags = tags_from b 0 tags
