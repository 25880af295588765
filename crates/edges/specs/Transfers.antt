-- Request N6, transfers that take a while, at their edges: the busy marks that a record may have, what a frame takes meanwhile, and refusals 15
-- and 16 in their places.
use Rattle.std.specs.Prelude.{List, [], ◌∷◌, replicate}
use Rattle.std.proofs.Math.Option.{none, some}
use Rattle.page_model.specs.declared.Op.TheVariants.{Flush, Purge}
use Rattle.manager.specs.Answers.{refused}
use Rattle.machine.specs.State.{Call, Answer}
use Rattle.machine.specs.Step.{answer}
use Rattle.edges.specs.Calls.{ask, map, unmap, read, write, device_read, device_write, evict, begin_read, begin_write, bring_word, take_word, end_transfer, refuses, accepts, only, done, written, finds, begun, takes, fresh, recorded, read_once, wrote_last, device_reads, device_writes, sevens}
use Rattle.edges.specs.Rows.{answers, Row, ◌gives◌}

-- each new transfer of frame 5, and one of frame 4
abbrev pub new_transfers : List Call
new_transfers =
    device_read 5 (replicate 64 0) ∷ device_write 5 (replicate 64 7) ∷ sevens 0 64 ∷ sevens 63 1 ∷ sevens 64 1 ∷ begin_read 5 ∷ begin_write 5 ∷ begin_read 4 ∷ []

-- those of frame 5 get 15, where 13 does not stand before it
abbrev pub new_answers : List Answer
new_answers =
    answer (refused 15) none (replicate 64 0) ∷ refuses 15 ∷ refuses 15 ∷ refuses 15 ∷ refuses 13 ∷ refuses 15 ∷ refuses 15 ∷ begun 4 ∷ []

abbrev pub transfers : List Row
transfers =
    -- a device reads: no colour is dirty; it writes: none is held or dirty; a mark of 3: 2
    (answers (ask (recorded 1 0 0 1 8) (map 0 0 0 1 ∷ [])) gives answers (done ∷ []))
    ∷ (answers (ask (recorded 1 0 1 1 0) (map 0 0 0 1 ∷ [])) gives answers (refuses 2 ∷ []))
    ∷ (answers (ask (recorded 0 1 0 2 8) (map 0 0 0 1 ∷ [])) gives answers (done ∷ []))
    ∷ (answers (ask (recorded 1 0 0 2 8) (map 0 0 0 1 ∷ [])) gives answers (refuses 2 ∷ []))
    ∷ (answers (ask (recorded 1 0 1 2 0) (map 0 0 0 1 ∷ [])) gives answers (refuses 2 ∷ []))
    ∷ (answers (ask (recorded 0 0 0 3 8) (map 0 0 0 1 ∷ [])) gives answers (refuses 2 ∷ []))
    -- begin read over a dirty page: one flush, and its word is taken; until the end the page is read and not written
    ∷ (answers (ask wrote_last (begin_read 5 ∷ take_word 5 63 ∷ read 0 2 63 ∷ write 0 2 63 43 ∷ end_transfer 5 ∷ write 0 2 63 43 ∷ [])) gives answers (accepts 5 (only (Flush 2)) none ∷ takes 42 ∷ finds 5 42 ∷ refuses 15 ∷ done ∷ written 5 ∷ []))
    -- begin write over a dirty page: one flush, and the page is stale; until the end it is neither read nor written
    ∷ (answers (ask wrote_last (begin_write 5 ∷ bring_word 5 62 7 ∷ read 0 2 62 ∷ write 0 2 62 43 ∷ end_transfer 5 ∷ read 0 2 62 ∷ read 0 2 63 ∷ [])) gives answers (accepts 5 (only (Flush 2)) none ∷ done ∷ refuses 15 ∷ refuses 15 ∷ done ∷ accepts 5 (only (Purge 2)) (some 7) ∷ finds 5 42 ∷ []))
    -- begin write over a held page, which goes stale: the read after the end is purged first
    ∷ (answers (ask read_once (begin_write 5 ∷ bring_word 5 3 7 ∷ end_transfer 5 ∷ read 0 2 3 ∷ [])) gives answers (begun 5 ∷ done ∷ done ∷ accepts 5 (only (Purge 2)) (some 7) ∷ []))
    -- frame 63 is accepted, 64 gets 4
    ∷ (answers (ask fresh (begin_read 63 ∷ begin_read 64 ∷ end_transfer 63 ∷ begin_write 63 ∷ begin_write 64 ∷ [])) gives answers (begun 63 ∷ refuses 4 ∷ done ∷ begun 63 ∷ refuses 4 ∷ []))
    -- a new transfer of a busy frame gets 15
    ∷ (answers (ask device_reads new_transfers) gives answers new_answers)
    ∷ (answers (ask device_writes new_transfers) gives answers new_answers)
    -- 15 after 6, 8 and 10; map, unmap and an eviction do not look at the mark
    ∷ (answers (ask read_once (begin_write 5 ∷ read 0 2 64 ∷ read 0 3 3 ∷ write 0 2 3 9 ∷ read 0 2 3 ∷ map 0 3 5 1 ∷ unmap 0 3 ∷ evict 16 ∷ [])) gives answers (begun 5 ∷ refuses 6 ∷ refuses 8 ∷ refuses 10 ∷ refuses 15 ∷ done ∷ done ∷ done ∷ []))
    -- a word or an end without its transfer gets 16, after 4 and 6
    ∷ (answers (ask fresh (bring_word 5 63 7 ∷ take_word 5 63 ∷ end_transfer 5 ∷ bring_word 5 64 7 ∷ take_word 5 64 ∷ bring_word 64 64 7 ∷ take_word 64 64 ∷ end_transfer 64 ∷ [])) gives answers (refuses 16 ∷ refuses 16 ∷ refuses 16 ∷ refuses 6 ∷ refuses 6 ∷ refuses 4 ∷ refuses 4 ∷ refuses 4 ∷ []))
    -- so does one in the wrong direction, of another frame, or after the end; offset 63 is accepted, 64 gets 6
    ∷ (answers (ask device_reads (bring_word 5 63 7 ∷ take_word 5 63 ∷ take_word 5 64 ∷ take_word 4 63 ∷ end_transfer 5 ∷ take_word 5 63 ∷ end_transfer 5 ∷ [])) gives answers (refuses 16 ∷ takes 0 ∷ refuses 6 ∷ refuses 16 ∷ done ∷ refuses 16 ∷ refuses 16 ∷ []))
    ∷ (answers (ask device_writes (take_word 5 63 ∷ bring_word 5 63 7 ∷ bring_word 5 64 7 ∷ bring_word 4 63 7 ∷ end_transfer 5 ∷ bring_word 5 63 7 ∷ end_transfer 5 ∷ [])) gives answers (refuses 16 ∷ done ∷ refuses 6 ∷ refuses 16 ∷ done ∷ refuses 16 ∷ refuses 16 ∷ []))
    ∷ []
