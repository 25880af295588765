-- What was last sent, computed on document 01's board: calls from the start in their order, then a frame and an offset, and the word, if any.
use Rattle.std.specs.Prelude.{List, [], ◌∷◌, ◌≡◌, ℕ, replicate}
use Rattle.std.proofs.Math.Option.{Option, none, some}
use Rattle.board.specs.Board.{board01, memory_words, cache_words}
use Rattle.mapping.specs.declared.Mapping.{Mapping}
use Rattle.mapping.specs.Entry.{capacity}
use Rattle.machine.specs.State.{State, Single, map, unmap, read, write, device_read, device_write, device_write_part, evict, begin_read, begin_write, bring_word, take_word, end_transfer, fetch, single, map_all}
use Rattle.consistency.specs.Demand3.{start_state}
use Rattle.position_hold.specs.Sent.{last_sent, LeftBy, SentBy}
use Rattle.position_hold.specs.Theorems.{Act, call, look, accepted_in}

pub record Row : Type 0 where
  pub acts : List Act
  pub frame : ℕ
  pub offset : ℕ
  pub sent : Option ℕ

abbrev pub start01 : State
start01 = start_state board01 (replicate (memory_words board01) 0) (replicate (cache_words board01) 0) (replicate capacity 0)

abbrev pub EveryRowHolds : List Row → Type 0
EveryRowHolds [] = Unit {0}
EveryRowHolds (r ∷ rows) = (last_sent (accepted_in board01 start01 r.acts []) r.frame r.offset ≡ r.sent) × EveryRowHolds rows

abbrev pub row : List Act → ℕ → ℕ → Option ℕ → Row
row acts frame offset sent = record { acts = acts; frame = frame; offset = offset; sent = sent }

-- a single call
abbrev pub one : Single → Act
one c = call (single c)

-- frame 3 behind two pages
abbrev pub chart : Act
chart = one (map 0 0 3 2)

abbrev alarm : Act
alarm = one (map 1 9 3 2)

-- transfers to frame 3: four words, two from offset 2 on, and a whole page
abbrev four : Act
four = one (device_write_part 3 0 4 (1 ∷ 1000 ∷ 5 ∷ 6 ∷ []))

abbrev two : Act
two = one (device_write_part 3 2 2 (50 ∷ 60 ∷ []))

abbrev page : Act
page = one (device_write 3 (1 ∷ 1000 ∷ 5 ∷ 6 ∷ replicate 60 7))

-- a transfer that takes a while, to frame 3: its beginning, a word to offset 2, and its end
abbrev begins : Act
begins = one (begin_write 3)

abbrev brings : ℕ → Act
brings w = one (bring_word 3 2 w)

abbrev ends : Act
ends = one (end_transfer 3)

-- pages 0 and 1 of space 0 at once
abbrev item : ℕ → Mapping
item p = record { space = 0; page = p; frame = 3; rights = 2 }

abbrev both : List ℕ → Act
both answers = call (map_all (item 0 ∷ item 1 ∷ []) answers)

abbrev pub part_rows : List Row
part_rows =
    -- a part sends its words, to its frame, and no others
    row (chart ∷ four ∷ []) 3 0 (some 1)
    ∷ row (chart ∷ four ∷ []) 3 3 (some 6)
    ∷ row (chart ∷ four ∷ []) 3 4 none
    ∷ row (chart ∷ two ∷ []) 3 1 none
    ∷ row (one (device_write_part 63 0 2 (8 ∷ 9 ∷ [])) ∷ []) 63 1 (some 9)
    ∷ row (one (device_write_part 63 0 2 (8 ∷ 9 ∷ [])) ∷ []) 3 1 none
    -- a page sends all of them
    ∷ row (chart ∷ page ∷ []) 3 0 (some 1)
    ∷ row (chart ∷ page ∷ []) 3 3 (some 6)
    ∷ row (chart ∷ page ∷ []) 3 63 (some 7)
    -- of two transfers the later that reaches the word
    ∷ row (chart ∷ four ∷ two ∷ []) 3 1 (some 1000)
    ∷ row (chart ∷ four ∷ two ∷ []) 3 2 (some 50)
    ∷ row (chart ∷ two ∷ four ∷ []) 3 2 (some 5)
    ∷ []

-- transfers beside other calls
abbrev pub beside_rows : List Row
beside_rows =
    -- a program's write, through either page, and a transfer after it
    row (chart ∷ four ∷ one (write 0 0 3 100) ∷ []) 3 3 none
    ∷ row (chart ∷ four ∷ one (write 0 0 3 100) ∷ []) 3 2 (some 5)
    ∷ row (chart ∷ alarm ∷ four ∷ one (write 1 9 3 100) ∷ []) 3 3 none
    ∷ row (chart ∷ four ∷ one (write 0 0 3 100) ∷ two ∷ []) 3 3 (some 60)
    -- a page that is mapped to another frame, after the write and before it
    ∷ row (chart ∷ four ∷ one (write 0 0 3 100) ∷ one (unmap 0 0) ∷ one (map 0 0 4 2) ∷ []) 3 3 none
    ∷ row (chart ∷ four ∷ one (unmap 0 0) ∷ one (map 0 0 4 2) ∷ one (write 0 0 3 100) ∷ []) 3 3 (some 6)
    -- maps, unmaps, reads, fetches, device reads, evictions and looks send nothing and write nothing
    ∷ row (chart ∷ four ∷ one (read 0 0 3) ∷ look 0 0 1000 2 ∷ one (evict 0) ∷ one (device_read 3 (replicate 64 0)) ∷ alarm ∷ one (map 0 8 3 3) ∷ one (fetch 0 8 3) ∷ one (unmap 0 0) ∷ []) 3 3 (some 6)
    -- refused: a transfer by its buffer, a write by its rights
    ∷ row (chart ∷ four ∷ one (device_write_part 3 2 3 (50 ∷ 60 ∷ [])) ∷ []) 3 3 (some 6)
    ∷ row (one (map 0 0 3 1) ∷ four ∷ one (write 0 0 3 100) ∷ []) 3 3 (some 6)
    -- of a list of mappings the first item is refused, so page 0 stays frame 4's; or the whole is
    ∷ row (one (map 0 0 4 2) ∷ four ∷ both (0 ∷ 0 ∷ []) ∷ one (write 0 0 3 100) ∷ []) 3 3 (some 6)
    ∷ row (one (map 0 0 4 2) ∷ four ∷ both (0 ∷ 0 ∷ []) ∷ one (write 0 1 3 100) ∷ []) 3 3 none
    ∷ row (four ∷ both [] ∷ one (write 0 1 3 100) ∷ []) 3 3 (some 6)
    ∷ []

-- transfers that take a while
abbrev pub begun_rows : List Row
begun_rows =
    -- a word that is brought is sent as it is, to its frame and offset alone; the last one counts
    row (chart ∷ four ∷ begins ∷ []) 3 2 (some 5)
    ∷ row (chart ∷ four ∷ begins ∷ brings 70 ∷ []) 3 2 (some 70)
    ∷ row (chart ∷ four ∷ begins ∷ brings 70 ∷ []) 3 3 (some 6)
    ∷ row (chart ∷ four ∷ begins ∷ brings 70 ∷ brings 80 ∷ ends ∷ []) 3 2 (some 80)
    ∷ row (one (begin_write 63) ∷ one (bring_word 63 2 70) ∷ []) 63 2 (some 70)
    ∷ row (one (begin_write 63) ∷ one (bring_word 63 2 70) ∷ []) 3 2 none
    -- a program's write during the transfer is refused, and after it is not
    ∷ row (chart ∷ begins ∷ brings 70 ∷ one (write 0 0 2 100) ∷ ends ∷ []) 3 2 (some 70)
    ∷ row (chart ∷ begins ∷ brings 70 ∷ ends ∷ one (write 0 0 2 100) ∷ []) 3 2 none
    -- refused: a word without its transfer, and during a device's read, which sends nothing; a part during the transfer
    ∷ row (chart ∷ four ∷ brings 70 ∷ []) 3 2 (some 5)
    ∷ row (chart ∷ four ∷ one (begin_read 3) ∷ brings 70 ∷ one (take_word 3 2) ∷ ends ∷ []) 3 2 (some 5)
    ∷ row (chart ∷ four ∷ begins ∷ two ∷ []) 3 2 (some 5)
    ∷ []

-- a word of a transfer's one call, one of a transfer that takes a while, and one that later calls leave
abbrev pub SentRows : Type 0
SentRows =
    SentBy (device_write_part 3 0 4 (1 ∷ 1000 ∷ 5 ∷ 6 ∷ []) ∷ []) [] 3 2 5
    × SentBy (end_transfer 3 ∷ bring_word 3 3 80 ∷ bring_word 3 2 70 ∷ begin_write 3 ∷ []) [] 3 2 70
    × LeftBy (write 0 0 3 100 ∷ read 0 0 2 ∷ []) (map 0 0 3 2 ∷ []) 3 2

abbrev pub LastSentRows : Type 0
LastSentRows = EveryRowHolds part_rows × EveryRowHolds beside_rows × EveryRowHolds begun_rows × SentRows
