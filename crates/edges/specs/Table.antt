-- Document 01, "At the edges" and the sheet of "The run sheet", with spaces, flags and tags at their limits, and at theirs the lists of mappings
-- of request N1, the order of N2, the parts of N3, the transfers of N6, the dirty colours of N7 and the fetches of N8; a sheet of each kind of
-- step and every cell of the page model. Each row is a case and what it must give, and every row holds.
use Rattle.std.specs.Prelude.{List, [], ◌∷◌, ◌++◌, ◌+◌, ◌*◌, replicate, get_or}
use Rattle.std.proofs.Math.Option.{none, some}
use Rattle.bits.specs.Mask.{digit}
use Rattle.board.specs.Board.{board01, instruction_page, line_of}
use Rattle.page_model.specs.declared.Op.TheVariants.{Flush, Purge}
use Rattle.manager.specs.Tables.{tabulate}
use Rattle.cache.specs.Tag.{frame_of, is_dirty_tag}
use Rattle.machine.specs.Call.{perform}
use Rattle.machine.specs.Step.{result_of}
use Rattle.run_sheet.specs.Run.{sheet_text}
use Rattle.edges.specs.Calls.{ask, map, unmap, read, write, device_write, evict, refuses, accepts, only, done, written, finds, fresh, recorded, listing, tagged, read_once, wrote_once, wrote_last, sevens}
use Rattle.edges.specs.Cells.{cells, instruction_cells}
use Rattle.edges.specs.DirtyColours.{dirty_colours}
use Rattle.edges.specs.Fetches.{fetches}
use Rattle.edges.specs.Flushes.{flushes}
use Rattle.edges.specs.Lists.{lists}
use Rattle.edges.specs.Order.{order}
use Rattle.edges.specs.Rows.{text, answers, outcome, numbers, Row, ◌gives◌, EveryRowHolds}
use Rattle.edges.specs.Sheets.{example_sheet, example_text, one_step, one_line, card_sheet, card_text, overlay_sheet, overlay_text}
use Rattle.edges.specs.Transfers.{transfers}

-- those of case 4, which take the longest to compute
abbrev pub room_for_one : Row
room_for_one = answers (ask (listing 255) (map 1 0 0 1 ∷ [])) gives answers (done ∷ [])

abbrev pub fresh_pair : Row
fresh_pair = answers (ask (listing 256) (map 1 0 0 1 ∷ [])) gives answers (refuses 9 ∷ [])

abbrev pub mapped_pair : Row
mapped_pair = answers (ask (listing 256) (map 0 255 0 1 ∷ [])) gives answers (refuses 7 ∷ [])

-- that of case 9, whose states are compared
abbrev pub second_read : Row
second_read = outcome (perform board01 read_once (read 0 2 3)) gives outcome (result_of (finds 5 0) read_once)

-- document 01's cases, with spaces, flags, tags and the parts of N3 at their limits
abbrev pub cases : List Row
cases =
    -- the sheet of "The run sheet"
    (text (sheet_text board01 example_sheet) gives text example_text)
    -- 1. page 1023 is accepted, 1024 gets 3
    ∷ (answers (ask fresh (map 0 1023 0 1 ∷ map 0 1024 0 1 ∷ [])) gives answers (done ∷ refuses 3 ∷ []))
    -- space 15 is accepted, 16 gets 3, and so by each call that names a space and a page
    ∷ (answers (ask fresh (map 15 1023 5 2 ∷ map 16 0 5 1 ∷ write 15 1023 0 42 ∷ write 16 0 0 42 ∷ write 0 1024 0 42 ∷ read 15 1023 0 ∷ read 16 0 0 ∷ read 0 1024 0 ∷ unmap 16 0 ∷ unmap 0 1024 ∷ unmap 15 1023 ∷ [])) gives answers (done ∷ refuses 3 ∷ written 5 ∷ refuses 3 ∷ refuses 3 ∷ finds 5 42 ∷ refuses 3 ∷ refuses 3 ∷ refuses 3 ∷ refuses 3 ∷ done ∷ []))
    -- 2. frame 63 is accepted, 64 gets 4
    ∷ (answers (ask fresh (map 0 0 63 1 ∷ map 0 1 64 1 ∷ [])) gives answers (done ∷ refuses 4 ∷ []))
    -- 3. offset 63 lies in line 8c + 7; 64 gets 6
    ∷ (numbers (tabulate 8 (λ c. line_of board01 c 63)) gives numbers (tabulate 8 (λ c. 8 * c + 7)))
    -- and of the instruction cache in line 64 + 8c + 7
    ∷ (numbers (tabulate 8 (λ c. line_of board01 (instruction_page board01 c) 63)) gives numbers (tabulate 8 (λ c. 64 + (8 * c + 7))))
    ∷ (answers (ask fresh (map 0 0 0 1 ∷ read 0 0 63 ∷ read 0 0 64 ∷ [])) gives answers (done ∷ finds 0 0 ∷ refuses 6 ∷ []))
    -- 4. a map at count 255 is accepted; at 256 a fresh pair gets 9, a mapped pair 7
    ∷ room_for_one
    ∷ fresh_pair
    ∷ mapped_pair
    -- 5. pages 1 and 9 of one frame: write through one, read through the other, no order
    ∷ (answers (ask fresh (map 0 1 5 2 ∷ map 0 9 5 1 ∷ write 0 1 3 42 ∷ read 0 9 3 ∷ [])) gives answers (done ∷ done ∷ written 5 ∷ finds 5 42 ∷ []))
    -- 6. pages 0 and 1: write, then write: one flush
    ∷ (answers (ask fresh (map 0 0 5 2 ∷ map 0 1 5 2 ∷ write 0 0 3 42 ∷ write 0 1 3 43 ∷ [])) gives answers (done ∷ done ∷ written 5 ∷ accepts 5 (only (Flush 0)) none ∷ []))
    -- 7. held mask 3 with the flag set: 2
    ∷ (answers (ask (recorded 3 0 1 0 0) (map 0 0 0 1 ∷ [])) gives answers (refuses 2 ∷ []))
    -- a flag of 2 with one held bit: 2, whether the dirty colour is that bit's place or none
    ∷ (answers (ask (recorded 4 0 2 0 2) (map 0 0 0 1 ∷ [])) gives answers (refuses 2 ∷ []))
    ∷ (answers (ask (recorded 4 0 2 0 8) (map 0 0 0 1 ∷ [])) gives answers (refuses 2 ∷ []))
    -- 8. device write over a dirty page: one purge
    ∷ (answers (ask fresh (map 0 2 5 2 ∷ write 0 2 3 42 ∷ device_write 5 (replicate 64 7) ∷ [])) gives answers (done ∷ written 5 ∷ accepts 5 (only (Purge 2)) none ∷ []))
    -- 9. second read of one word in a row: no order, no change
    ∷ second_read
    -- 10. tag 65: 2; tag 64: clean, frame 63
    ∷ (answers (ask (tagged 65) (evict 1 ∷ [])) gives answers (refuses 2 ∷ []))
    ∷ (answers (ask (tagged 64) (map 0 0 63 1 ∷ read 0 0 0 ∷ [])) gives answers (done ∷ finds 63 77 ∷ []))
    ∷ (numbers (frame_of 64 ∷ digit (is_dirty_tag 64) ∷ []) gives numbers (63 ∷ 0 ∷ []))
    -- a word that is written lies in its line, whose tag is 129 + frame, and not in memory
    ∷ (numbers (get_or wrote_once.store.tags 0 0 ∷ get_or wrote_once.store.words 0 0 ∷ get_or wrote_once.store.memory 192 0 ∷ []) gives numbers (132 ∷ 17 ∷ 0 ∷ []))
    -- tags 128 and 193: 2; 129 and 192: dirty, frames 0 and 63, whose word an eviction brings to memory
    ∷ (answers (ask (tagged 128) (evict 1 ∷ [])) gives answers (refuses 2 ∷ []))
    ∷ (answers (ask (tagged 193) (evict 1 ∷ [])) gives answers (refuses 2 ∷ []))
    ∷ (answers (ask (tagged 129) (evict 0 ∷ map 0 0 0 1 ∷ read 0 0 0 ∷ [])) gives answers (done ∷ done ∷ finds 0 77 ∷ []))
    ∷ (answers (ask (tagged 192) (evict 0 ∷ map 0 0 63 1 ∷ read 0 0 0 ∷ [])) gives answers (done ∷ done ∷ finds 63 77 ∷ []))
    -- a part's words up to offset 63 are accepted; one more, or none, gets 13
    ∷ (answers (ask fresh (sevens 52 12 ∷ sevens 53 12 ∷ sevens 63 1 ∷ sevens 64 1 ∷ sevens 0 65 ∷ sevens 52 0 ∷ [])) gives answers (written 5 ∷ refuses 13 ∷ written 5 ∷ refuses 13 ∷ refuses 13 ∷ refuses 13 ∷ []))
    -- all 64 words from 0 over a dirty page: one purge; 63 words: one flush, after which the page is stale, and the word that was not sent survives
    ∷ (answers (ask wrote_last (sevens 0 64 ∷ read 0 2 63 ∷ [])) gives answers (accepts 5 (only (Purge 2)) none ∷ finds 5 7 ∷ []))
    ∷ (answers (ask wrote_last (sevens 0 63 ∷ read 0 2 63 ∷ read 0 2 62 ∷ [])) gives answers (accepts 5 (only (Flush 2)) none ∷ accepts 5 (only (Purge 2)) (some 42) ∷ finds 5 7 ∷ []))
    ∷ []

-- a sheet of each kind of step
abbrev pub kinds : List Row
kinds =
    -- kind 1, read: offset 64 gets 6
    (text (sheet_text board01 (one_step (1 ∷ 0 ∷ 0 ∷ 0 ∷ 64 ∷ 0 ∷ 0 ∷ 0 ∷ 0 ∷ []))) gives text (one_line (54 ∷ []) 45))
    -- kind 2, write: the page is read only, 10
    ∷ (text (sheet_text board01 (one_step (2 ∷ 0 ∷ 0 ∷ 0 ∷ 0 ∷ 0 ∷ 0 ∷ 0 ∷ 0 ∷ []))) gives text (one_line (49 ∷ 48 ∷ []) 45))
    -- kind 3, device read: the frame's first word
    ∷ (text (sheet_text board01 (one_step (3 ∷ 3 ∷ 0 ∷ 0 ∷ 0 ∷ 0 ∷ 0 ∷ 0 ∷ 0 ∷ []))) gives text (one_line (48 ∷ []) 48))
    -- kind 4, device write
    ∷ (text (sheet_text board01 (one_step (4 ∷ 3 ∷ 0 ∷ 0 ∷ 0 ∷ 5 ∷ 0 ∷ 0 ∷ 0 ∷ []))) gives text (one_line (48 ∷ []) 45))
    -- kind 5, evict: line 128 gets 6
    ∷ (text (sheet_text board01 (one_step (5 ∷ 128 ∷ 0 ∷ 0 ∷ 0 ∷ 0 ∷ 0 ∷ 0 ∷ 0 ∷ []))) gives text (one_line (54 ∷ []) 45))
    -- kind 6, unmap: page 1 is not mapped, 8
    ∷ (text (sheet_text board01 (one_step (6 ∷ 0 ∷ 1 ∷ 0 ∷ 0 ∷ 0 ∷ 0 ∷ 0 ∷ 0 ∷ []))) gives text (one_line (56 ∷ []) 45))
    -- kind 7, device write of a part: 12 words from offset 52 on; from 53 on, and none, 13
    ∷ (text (sheet_text board01 (one_step (7 ∷ 3 ∷ 52 ∷ 0 ∷ 12 ∷ 5 ∷ 0 ∷ 0 ∷ 0 ∷ []))) gives text (one_line (48 ∷ []) 45))
    ∷ (text (sheet_text board01 (one_step (7 ∷ 3 ∷ 53 ∷ 0 ∷ 12 ∷ 5 ∷ 0 ∷ 0 ∷ 0 ∷ []))) gives text (one_line (49 ∷ 51 ∷ []) 45))
    ∷ (text (sheet_text board01 (one_step (7 ∷ 3 ∷ 52 ∷ 0 ∷ 0 ∷ 5 ∷ 0 ∷ 0 ∷ 0 ∷ []))) gives text (one_line (49 ∷ 51 ∷ []) 45))
    -- kinds 8 and 9, begin read and begin write
    ∷ (text (sheet_text board01 (one_step (8 ∷ 3 ∷ 0 ∷ 0 ∷ 0 ∷ 0 ∷ 0 ∷ 0 ∷ 0 ∷ []))) gives text (one_line (48 ∷ []) 45))
    ∷ (text (sheet_text board01 (one_step (9 ∷ 3 ∷ 0 ∷ 0 ∷ 0 ∷ 0 ∷ 0 ∷ 0 ∷ 0 ∷ []))) gives text (one_line (48 ∷ []) 45))
    -- kinds 10, 11 and 12, a word brought, a word taken and an end: without a transfer, 16
    ∷ (text (sheet_text board01 (one_step (10 ∷ 3 ∷ 0 ∷ 0 ∷ 63 ∷ 5 ∷ 0 ∷ 0 ∷ 0 ∷ []))) gives text (one_line (49 ∷ 54 ∷ []) 45))
    ∷ (text (sheet_text board01 (one_step (11 ∷ 3 ∷ 0 ∷ 0 ∷ 63 ∷ 0 ∷ 0 ∷ 0 ∷ 0 ∷ []))) gives text (one_line (49 ∷ 54 ∷ []) 45))
    ∷ (text (sheet_text board01 (one_step (12 ∷ 3 ∷ 0 ∷ 0 ∷ 0 ∷ 0 ∷ 0 ∷ 0 ∷ 0 ∷ []))) gives text (one_line (49 ∷ 54 ∷ []) 45))
    -- and within one: the word that was brought is taken, and shown
    ∷ (text (sheet_text board01 card_sheet) gives text card_text)
    -- kind 13, fetch: the page is read only, 17
    ∷ (text (sheet_text board01 (one_step (13 ∷ 0 ∷ 0 ∷ 0 ∷ 0 ∷ 0 ∷ 0 ∷ 0 ∷ 0 ∷ []))) gives text (one_line (49 ∷ 55 ∷ []) 45))
    -- and of an overlay: its purge is printed as I, and counts with the purges
    ∷ (text (sheet_text board01 overlay_sheet) gives text overlay_text)
    ∷ []

-- these, request N1's lists of mappings, request N2's order, request N6's transfers, request N7's dirty colours, request N8's fetches, request N9's
-- flushes, and the cells of the page model
abbrev pub table : List Row
table = cases ++ (kinds ++ (lists ++ (order ++ (transfers ++ (dirty_colours ++ (fetches ++ (flushes ++ (cells ++ instruction_cells))))))))

-- every row of the table holds
abbrev pub Edges : Type 0
Edges = EveryRowHolds table
