-- Request N7, the dirty colour written in a record, at its edges: what flag and held mask let it be, and what each step makes of it.
use Rattle.std.specs.Prelude.{List, [], ◌∷◌, ℕ, ◌+◌, ◌*◌, replicate, get_or}
use Rattle.std.proofs.Math.Option.{none, some}
use Rattle.page_model.specs.declared.Op.TheVariants.{Flush, Purge}
use Rattle.manager.specs.Tables.{record_words, tabulate}
use Rattle.machine.specs.State.{State}
use Rattle.edges.specs.Calls.{after, ask, map, unmap, read, write, device_read, device_write, begin_read, begin_write, end_transfer, refuses, accepts, only, done, begun, fresh, recorded, recorded_both, wrote_last, sevens}
use Rattle.edges.specs.Rows.{answers, numbers, Row, ◌gives◌}

-- the words of frame f's record: held, stale, dirty, busy, dirty colour; of the instruction colours held, stale
abbrev pub record_of : ℕ → State → List ℕ
record_of f st = tabulate record_words (λ k. get_or st.tables.records (f * record_words + k) 0)

abbrev pub dirty_colours : List Row
dirty_colours =
    -- with the flag set it is the place of the held bit, and the flush names it; another place, none and a number past 8 get 2
    (answers (ask (recorded 4 1 1 0 2) (begin_read 0 ∷ [])) gives answers (accepts 0 (only (Flush 2)) none ∷ []))
    ∷ (answers (ask (recorded 128 127 1 0 7) (begin_read 0 ∷ [])) gives answers (accepts 0 (only (Flush 7)) none ∷ []))
    ∷ (answers (ask (recorded 4 1 1 0 0) (begin_read 0 ∷ [])) gives answers (refuses 2 ∷ []))
    ∷ (answers (ask (recorded 4 1 1 0 3) (begin_read 0 ∷ [])) gives answers (refuses 2 ∷ []))
    ∷ (answers (ask (recorded 4 1 1 0 8) (begin_read 0 ∷ [])) gives answers (refuses 2 ∷ []))
    ∷ (answers (ask (recorded 4 1 1 0 10) (begin_read 0 ∷ [])) gives answers (refuses 2 ∷ []))
    -- without the flag it is 8: a held colour, a stale one, an empty one and a number past 8 get 2
    ∷ (answers (ask (recorded 4 1 0 0 8) (begin_read 0 ∷ [])) gives answers (begun 0 ∷ []))
    ∷ (answers (ask (recorded 4 1 0 0 2) (begin_read 0 ∷ [])) gives answers (refuses 2 ∷ []))
    ∷ (answers (ask (recorded 4 1 0 0 0) (begin_read 0 ∷ [])) gives answers (refuses 2 ∷ []))
    ∷ (answers (ask (recorded 0 0 0 0 0) (begin_read 0 ∷ [])) gives answers (refuses 2 ∷ []))
    ∷ (answers (ask (recorded 4 1 0 0 9) (begin_read 0 ∷ [])) gives answers (refuses 2 ∷ []))
    -- at the start; after a write through colour 2, which an unmap leaves, and then one through colour 1; after a read through another colour
    ∷ (numbers (record_of 5 fresh) gives numbers (0 ∷ 0 ∷ 0 ∷ 0 ∷ 8 ∷ 0 ∷ 0 ∷ []))
    ∷ (numbers (record_of 5 (after wrote_last (unmap 0 2 ∷ []))) gives numbers (4 ∷ 0 ∷ 1 ∷ 0 ∷ 2 ∷ 0 ∷ 0 ∷ []))
    ∷ (numbers (record_of 5 (after wrote_last (map 0 1 5 2 ∷ write 0 1 3 43 ∷ []))) gives numbers (2 ∷ 4 ∷ 1 ∷ 0 ∷ 1 ∷ 0 ∷ 0 ∷ []))
    ∷ (numbers (record_of 5 (after wrote_last (map 0 1 5 2 ∷ read 0 1 3 ∷ []))) gives numbers (6 ∷ 0 ∷ 0 ∷ 0 ∷ 8 ∷ 0 ∷ 0 ∷ []))
    -- after each transfer of the dirty page, and at the end of one that was begun
    ∷ (numbers (record_of 5 (after wrote_last (device_read 5 (replicate 64 0) ∷ []))) gives numbers (4 ∷ 0 ∷ 0 ∷ 0 ∷ 8 ∷ 0 ∷ 0 ∷ []))
    ∷ (numbers (record_of 5 (after wrote_last (device_write 5 (replicate 64 7) ∷ []))) gives numbers (0 ∷ 0 ∷ 0 ∷ 0 ∷ 8 ∷ 0 ∷ 0 ∷ []))
    ∷ (numbers (record_of 5 (after wrote_last (sevens 0 12 ∷ []))) gives numbers (0 ∷ 4 ∷ 0 ∷ 0 ∷ 8 ∷ 0 ∷ 0 ∷ []))
    ∷ (numbers (record_of 5 (after wrote_last (begin_write 5 ∷ []))) gives numbers (0 ∷ 4 ∷ 0 ∷ 2 ∷ 8 ∷ 0 ∷ 0 ∷ []))
    ∷ (numbers (record_of 5 (after wrote_last (begin_read 5 ∷ end_transfer 5 ∷ []))) gives numbers (4 ∷ 0 ∷ 0 ∷ 0 ∷ 8 ∷ 0 ∷ 0 ∷ []))
    -- the dump of docs/KERNEL.md, in frame 0: a read through colour 1
    ∷ (answers (ask (recorded_both 4 3 1 0 2 0 34) (map 0 1 0 1 ∷ read 0 1 0 ∷ [])) gives answers (done ∷ accepts 0 (record { first = Flush 2; second = Purge 1 }) (some 0) ∷ []))
    ∷ (numbers (record_of 0 (after (recorded_both 4 3 1 0 2 0 34) (map 0 1 0 1 ∷ read 0 1 0 ∷ []))) gives numbers (6 ∷ 1 ∷ 0 ∷ 0 ∷ 8 ∷ 0 ∷ 34 ∷ []))
    ∷ []
