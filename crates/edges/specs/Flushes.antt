-- Request N9, a flush that leaves the line in, at its edges: what it leaves of the frame's lines and of other frames', by each step that flushes, and
-- what the flushed colour is then good for.
use Rattle.std.specs.Prelude.{List, [], ◌∷◌, ℕ, replicate, get_or, set}
use Rattle.std.proofs.Math.Option.{none, some}
use Rattle.page_model.specs.declared.Op.TheVariants.{Flush, Purge}
use Rattle.machine.specs.State.{State, Call}
use Rattle.edges.specs.Calls.{mapping, after, ask, map, read, write, device_read, device_write, evict, begin_read, begin_write, fetch, accepts, only, done, written, finds, leaves, listed_with, fresh, with_cache, sevens}
use Rattle.edges.specs.Rows.{answers, numbers, Row, ◌gives◌}

-- frame 5 mapped at pages 1, 2 and 10 of space 0 with rights 2, 2 and 3, frame 4 at page 18 with rights 2: colours 1, 2, 2 and 2. Words of frame 4
-- are written at offset 8, and of frame 5 read at offset 0 and written at offset 63, all in colour 2
abbrev pub wrote_both : State
wrote_both = after fresh (map 0 1 5 2 ∷ map 0 2 5 2 ∷ map 0 10 5 3 ∷ map 0 18 4 2 ∷ write 0 18 8 9 ∷ read 0 2 0 ∷ write 0 2 63 42 ∷ [])

-- the tags of lines 16, 17 and 23, which have offsets 0, 8 and 63 of colour 2; the word there, 191, of the last; memory's words at offset 8 of frame 4,
-- 264, and at offset 63 of frame 5, 383
abbrev pub colour_two : State → List ℕ
colour_two st =
    get_or st.store.tags 16 0 ∷ get_or st.store.tags 17 0 ∷ get_or st.store.tags 23 0 ∷ get_or st.store.words 191 0 ∷ get_or st.store.memory 264 0 ∷ get_or st.store.memory 383 0 ∷ []

-- after a flush: frame 5's clean line stays, frame 4's stays dirty and in the cache alone, frame 5's dirty one is clean, and its word is in memory too
abbrev pub leaves_lines : Call → Row
leaves_lines call = numbers (colour_two (after wrote_both (call ∷ []))) gives numbers (6 ∷ 133 ∷ 6 ∷ 42 ∷ 0 ∷ 42 ∷ [])

-- the same with another word in frame 5's clean line than memory has: the line's first word is 128, and memory's 320
abbrev pub other_word : State
other_word = with_cache (set wrote_both.store.words 128 99) wrote_both.store.tags wrote_both

abbrev pub offset_zero : State → List ℕ
offset_zero st = get_or st.store.words 128 0 ∷ get_or st.store.memory 320 0 ∷ []

abbrev pub flushes : List Row
flushes =
    -- before it
    (numbers (colour_two wrote_both) gives numbers (6 ∷ 133 ∷ 134 ∷ 42 ∷ 0 ∷ 0 ∷ []))
    -- by each step that flushes: a read and a write through another colour, a device's read, a part, a begin read, a begin write, a fetch
    ∷ leaves_lines (read 0 1 16)
    ∷ leaves_lines (write 0 1 16 7)
    ∷ leaves_lines (device_read 5 (replicate 64 0))
    ∷ leaves_lines (sevens 16 1)
    ∷ leaves_lines (begin_read 5)
    ∷ leaves_lines (begin_write 5)
    ∷ leaves_lines (fetch 0 10 16)
    -- a clean line is not written back
    ∷ (numbers (offset_zero (after other_word (read 0 1 16 ∷ []))) gives numbers (99 ∷ 0 ∷ []))
    -- a device's write of the page purges: both lines of frame 5 are emptied, and their words keep their values
    ∷ (numbers (colour_two (after wrote_both (device_write 5 (replicate 64 7) ∷ []))) gives numbers (0 ∷ 133 ∷ 0 ∷ 42 ∷ 0 ∷ 7 ∷ []))
    -- flushed for a read, a colour is held: it is read with no order, and written with none, which makes the other stale
    ∷ (answers (ask wrote_both (read 0 1 63 ∷ read 0 2 63 ∷ write 0 2 63 43 ∷ read 0 1 63 ∷ [])) gives answers (accepts 5 (only (Flush 2)) (some 42) ∷ finds 5 42 ∷ written 5 ∷ accepts 5 (record { first = Flush 2; second = Purge 1 }) (some 43) ∷ []))
    -- flushed for a write, it is stale: a read through it flushes the one that was written, and purges it
    ∷ (answers (ask wrote_both (write 0 1 63 43 ∷ read 0 2 63 ∷ [])) gives answers (accepts 5 (only (Flush 2)) none ∷ accepts 5 (record { first = Flush 1; second = Purge 2 }) (some 43) ∷ []))
    -- its line may be evicted though the colour is held: the next read fills it, with no order
    ∷ (answers (ask wrote_both (read 0 1 63 ∷ evict 23 ∷ read 0 2 63 ∷ [])) gives answers (accepts 5 (only (Flush 2)) (some 42) ∷ done ∷ finds 5 42 ∷ []))
    -- protections: dirty; flushed for a read, for a write, for a fetch
    ∷ (leaves wrote_both gives listed_with (mapping 0 1 5 2 ∷ mapping 0 2 5 2 ∷ mapping 0 10 5 3 ∷ mapping 0 18 4 2 ∷ []) (0 ∷ 2 ∷ 1 ∷ 2 ∷ []))
    ∷ (leaves (after wrote_both (read 0 1 16 ∷ [])) gives listed_with (mapping 0 1 5 2 ∷ mapping 0 2 5 2 ∷ mapping 0 10 5 3 ∷ mapping 0 18 4 2 ∷ []) (1 ∷ 1 ∷ 1 ∷ 2 ∷ []))
    ∷ (leaves (after wrote_both (write 0 1 16 7 ∷ [])) gives listed_with (mapping 0 1 5 2 ∷ mapping 0 2 5 2 ∷ mapping 0 10 5 3 ∷ mapping 0 18 4 2 ∷ []) (2 ∷ 0 ∷ 0 ∷ 2 ∷ []))
    ∷ (leaves (after wrote_both (fetch 0 10 16 ∷ [])) gives listed_with (mapping 0 1 5 2 ∷ mapping 0 2 5 2 ∷ mapping 0 10 5 3 ∷ mapping 0 18 4 2 ∷ []) (0 ∷ 1 ∷ 5 ∷ 2 ∷ []))
    ∷ []
