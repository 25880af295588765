-- Document 01, "Frame records and mapping list": what the manager is lent, and the protections that agree with it.
use Rattle.std.specs.Prelude.{Bool, cond, ◌&&◌, List, [], ◌∷◌, ◌++◌, ℕ, zero, suc, ◌+◌, ◌*◌, ◌%◌, ◌≤◌, ◌<◌, eqb, ltb, length, get_or, set, drop}
use Rattle.bits.specs.Mask.{width, digit, all}
use Rattle.board.specs.declared.Board.{Board}
use Rattle.board.specs.Board.{colour_of}
use Rattle.page_model.specs.declared.FrameRecord.{FrameRecord}
use Rattle.page_model.specs.Instructions.{InstructionState}
use Rattle.page_model.specs.Record as frame_record
use Rattle.page_model.specs.Table.{ColourState}
use Rattle.mapping.specs.declared.Mapping.{Mapping}
use Rattle.mapping.specs.declared.MappingList.{MappingList}
use Rattle.mapping.specs.Entry.{capacity, read_write, read_fetch, mapping_at}
use Rattle.mapping.specs.Rules as list_of

-- the mapping list, the frame records as words, and the protections
pub record Tables : Type 0 where
  pub list : MappingList
  pub records : List ℕ
  pub protections : List ℕ

abbrev pub tables : MappingList → List ℕ → List ℕ → Tables
tables l rs ps = record { list = l; records = rs; protections = ps }

-- ---- frame records, one after the other

-- the words of a record, in order: held, stale, dirty, busy, dirty colour; of the instruction cache (request N8) held, stale
abbrev pub words_of : FrameRecord → List ℕ
words_of r = r.masks.held ∷ r.masks.stale ∷ r.dirty ∷ r.busy ∷ r.dirty_colour ∷ r.instructions.held ∷ r.instructions.stale ∷ []

abbrev pub record_words : ℕ
record_words = 7

-- the record whose words come first in a list, and that of frame f
unfoldable pub record_of : List ℕ → FrameRecord
record_of ws =
    record {
      masks = record { held = get_or ws 0 0; stale = get_or ws 1 0 };
      dirty = get_or ws 2 0;
      busy = get_or ws 3 0;
      dirty_colour = get_or ws 4 0;
      instructions = record { held = get_or ws 5 0; stale = get_or ws 6 0 };
    }

unfoldable pub record_at : List ℕ → ℕ → FrameRecord
unfolding record_of
record_at rs f = record_of (drop (f * record_words) rs)

-- the words of a list stored one after the other, the first at place i + j
unfoldable pub put_words : List ℕ → ℕ → ℕ → List ℕ → List ℕ
put_words rs i j [] = rs
put_words rs i j (w ∷ ws) = put_words (set rs (i + j) w) i (suc j) ws

unfoldable pub put_record : List ℕ → ℕ → FrameRecord → List ℕ
unfolding put_words
put_record rs f r = put_words rs (f * record_words) 0 (words_of r)

-- the records of so many frames at the start, where there are n colours: nothing is cached, and none is dirty
unfoldable pub start_records : ℕ → ℕ → List ℕ
start_records zero n = []
start_records (suc frames) n = words_of (frame_record.start_record n) ++ start_records frames n

-- and the word at place i of them
abbrev pub start_word : ℕ → ℕ → ℕ
start_word n i = cond (eqb (i % record_words) 4) n 0

unfoldable pub records_keep_rules : Board → List ℕ → Bool
records_keep_rules b rs = all b.frames (λ f. frame_record.keeps_rules b.colours (record_at rs f))

-- ---- lengths and rules

unfoldable pub lengths_right : Board → Tables → Bool
lengths_right b t =
    eqb (length t.list.items) capacity && eqb (length t.records) (b.frames * record_words) && eqb (length t.protections) capacity

unfoldable pub rules_kept : Board → Tables → Bool
rules_kept b t = list_of.keeps_rules b t.list && records_keep_rules b t.records

-- ---- protections: 0 none, 1 read, 2 read and write, and 4 more for fetch (request N8)

-- Read is allowed if the colour is present or dirty, write if it is dirty and the rights are to read and write; fetch if the colour is held for
-- instructions and the rights are to read and fetch.
unfoldable pub protection : ColourState → InstructionState → ℕ → ℕ
protection s i rights =
    cond (frame_record.is_dirty s && eqb rights read_write) 2 (digit (frame_record.is_held s)) + cond (frame_record.is_fetched i && eqb rights read_fetch) 4 0

-- how a protection is read: read passes by its part below 4 if that is 1 or 2, write if it is 2, and fetch by the 4
abbrev pub data_part : ℕ → ℕ
data_part protection = protection % 4

-- the state of the colour through which a mapping goes, for its words and for instructions
unfoldable pub mapping_state : Board → List ℕ → Mapping → ColourState
mapping_state b rs m = frame_record.state_of (record_at rs m.frame) (colour_of b m.page)

unfoldable pub instructions_of : Board → List ℕ → Mapping → InstructionState
instructions_of b rs m = frame_record.instruction_state_of (record_at rs m.frame) (colour_of b m.page)

-- the protection at place i, 0 past the count
unfoldable pub protection_at : Board → MappingList → List ℕ → ℕ → ℕ
protection_at b l rs i = cond (ltb i l.count) (protection (mapping_state b rs (mapping_at l i)) (instructions_of b rs (mapping_at l i)) (mapping_at l i).rights) 0

-- a number of colours that a board may have: the colour of a page is its number modulo this one, and a mask has a bit for each
abbrev pub Colours : ℕ → Type 0
Colours n = (0 < n) × (n ≤ width)

-- f at each place below n
unfoldable pub tabulate : ℕ → (ℕ → ℕ) → List ℕ
tabulate zero f = []
tabulate (suc n) f = f 0 ∷ tabulate n (λ i. f (suc i))

-- the tables with each protection as the list and the records say
unfoldable pub refill : Board → Tables → Tables
refill b t = tables t.list t.records (tabulate (length t.protections) (protection_at b t.list t.records))
