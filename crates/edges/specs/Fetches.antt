-- Request N8, overlay programs run through an instruction cache, at their edges: the masks that a record may have, what each step makes of them, a
-- fetch's orders and words, its protection, rights 3, refusal 17 in its place, and the instruction cache's lines and tags.
use Rattle.std.specs.Prelude.{List, [], ◌∷◌, ◌++◌, ℕ, ◌+◌, replicate, get_or}
use Rattle.std.proofs.Math.Option.{some}
use Rattle.page_model.specs.declared.Op.TheVariants.{Flush, PurgeInstructions}
use Rattle.manager.specs.Tables.{tabulate}
use Rattle.machine.specs.State.{State}
use Rattle.edges.specs.Calls.{mapping, after, ask, map, unmap, read, write, device_read, device_write, evict, begin_read, begin_write, end_transfer, fetch, refuses, accepts, only, done, written, finds, begun, leaves, listed_with, fresh, with_cache, holding, unfilled, recorded_both, line_tagged, tagged, instruction_tagged, overlay, fetched_once, sevens}
use Rattle.edges.specs.DirtyColours.{record_of}
use Rattle.edges.specs.Rows.{answers, numbers, Row, ◌gives◌}

-- tag, word and memory word that stand for offset 3 of frame 5 in colour 2: lines 16 and 80, words 131 and 643, memory word 323
abbrev pub offset_three : State → List ℕ
offset_three st =
    get_or st.store.tags 16 0 ∷ get_or st.store.words 131 0 ∷ get_or st.store.tags 80 0 ∷ get_or st.store.words 643 0 ∷ get_or st.store.memory 323 0 ∷ []

abbrev pub fetches : List Row
fetches =
    -- the masks for instructions share no bit, and have none past colour 7
    (answers (ask (recorded_both 0 0 0 0 8 128 127) (map 0 0 0 1 ∷ [])) gives answers (done ∷ []))
    ∷ (answers (ask (recorded_both 0 0 0 0 8 1 1) (map 0 0 0 1 ∷ [])) gives answers (refuses 2 ∷ []))
    ∷ (answers (ask (recorded_both 0 0 0 0 8 256 0) (map 0 0 0 1 ∷ [])) gives answers (refuses 2 ∷ []))
    ∷ (answers (ask (recorded_both 0 0 0 0 8 0 256) (map 0 0 0 1 ∷ [])) gives answers (refuses 2 ∷ []))
    -- a held instruction colour, that colour or another, beside a dirty colour or mark 2: 2; beside held colours and mark 1 it may stand, and a stale one may
    -- beside each
    ∷ (answers (ask (recorded_both 4 0 1 0 2 4 0) (map 0 0 0 1 ∷ [])) gives answers (refuses 2 ∷ []))
    ∷ (answers (ask (recorded_both 4 0 1 0 2 1 0) (map 0 0 0 1 ∷ [])) gives answers (refuses 2 ∷ []))
    ∷ (answers (ask (recorded_both 4 0 1 0 2 0 4) (map 0 0 0 1 ∷ [])) gives answers (done ∷ []))
    ∷ (answers (ask (recorded_both 0 0 0 2 8 4 0) (map 0 0 0 1 ∷ [])) gives answers (refuses 2 ∷ []))
    ∷ (answers (ask (recorded_both 0 0 0 2 8 0 4) (map 0 0 0 1 ∷ [])) gives answers (done ∷ []))
    ∷ (answers (ask (recorded_both 6 0 0 1 8 4 0) (map 0 0 0 1 ∷ [])) gives answers (done ∷ []))
    -- a fetch flushes the dirty colour, its own included, which is then held (request N9); held and stale colours stay
    ∷ (answers (ask overlay (write 0 2 3 42 ∷ fetch 0 10 3 ∷ fetch 0 10 3 ∷ [])) gives answers (written 5 ∷ accepts 5 (only (Flush 2)) (some 42) ∷ finds 5 42 ∷ []))
    ∷ (numbers (record_of 5 (after overlay (write 0 2 3 42 ∷ fetch 0 10 3 ∷ []))) gives numbers (4 ∷ 0 ∷ 0 ∷ 0 ∷ 8 ∷ 4 ∷ 0 ∷ []))
    ∷ (answers (ask overlay (map 0 3 5 3 ∷ write 0 2 3 42 ∷ fetch 0 3 3 ∷ [])) gives answers (done ∷ written 5 ∷ accepts 5 (only (Flush 2)) (some 42) ∷ []))
    ∷ (numbers (record_of 0 (after (recorded_both 6 40 0 0 8 64 128) (map 0 1 0 3 ∷ fetch 0 1 0 ∷ []))) gives numbers (6 ∷ 40 ∷ 0 ∷ 0 ∷ 8 ∷ 66 ∷ 128 ∷ []))
    -- it purges its colour in the instruction cache if that is stale there, after the flush; the others stay (the dump of docs/KERNEL.md, in frame 0)
    ∷ (answers (ask (recorded_both 4 3 1 0 2 0 34) (map 0 1 0 3 ∷ fetch 0 1 0 ∷ [])) gives answers (done ∷ accepts 0 (record { first = Flush 2; second = PurgeInstructions 1 }) (some 0) ∷ []))
    ∷ (numbers (record_of 0 (after (recorded_both 4 3 1 0 2 0 34) (map 0 1 0 3 ∷ fetch 0 1 0 ∷ []))) gives numbers (4 ∷ 3 ∷ 0 ∷ 0 ∷ 8 ∷ 2 ∷ 32 ∷ []))
    -- a write, a device's write of a page and of a part, and a begin write make it stale and order nothing for it; the next fetch finds the new word
    ∷ (answers (ask fetched_once (write 0 2 3 9 ∷ fetch 0 10 3 ∷ [])) gives answers (written 5 ∷ accepts 5 (record { first = Flush 2; second = PurgeInstructions 2 }) (some 9) ∷ []))
    ∷ (answers (ask fetched_once (device_write 5 (replicate 64 7) ∷ fetch 0 10 3 ∷ [])) gives answers (written 5 ∷ accepts 5 (only (PurgeInstructions 2)) (some 7) ∷ []))
    ∷ (answers (ask fetched_once (sevens 3 1 ∷ fetch 0 10 3 ∷ [])) gives answers (written 5 ∷ accepts 5 (only (PurgeInstructions 2)) (some 7) ∷ []))
    ∷ (answers (ask fetched_once (begin_write 5 ∷ end_transfer 5 ∷ fetch 0 10 3 ∷ [])) gives answers (begun 5 ∷ done ∷ accepts 5 (only (PurgeInstructions 2)) (some 0) ∷ []))
    ∷ (numbers (record_of 5 (after fetched_once (begin_write 5 ∷ []))) gives numbers (0 ∷ 0 ∷ 0 ∷ 2 ∷ 8 ∷ 0 ∷ 4 ∷ []))
    -- a read, a device's read, a begin read, an eviction of its line and an unmap of its page leave it held
    ∷ (answers (ask fetched_once (read 0 2 3 ∷ fetch 0 10 3 ∷ begin_read 5 ∷ fetch 0 10 3 ∷ [])) gives answers (finds 5 0 ∷ finds 5 0 ∷ begun 5 ∷ finds 5 0 ∷ []))
    ∷ (numbers (record_of 5 (after fetched_once (evict 80 ∷ unmap 0 10 ∷ []))) gives numbers (0 ∷ 0 ∷ 0 ∷ 0 ∷ 8 ∷ 4 ∷ 0 ∷ []))
    ∷ (numbers (record_of 5 (after fetched_once (device_read 5 (replicate 64 0) ∷ []))) gives numbers (0 ∷ 0 ∷ 0 ∷ 0 ∷ 8 ∷ 4 ∷ 0 ∷ []))
    -- the word comes through the instruction cache: its line is filled, the data line and memory stay, and a word that lies there is found though the data
    -- line has another
    ∷ (numbers (offset_three (after overlay (write 0 2 3 42 ∷ fetch 0 10 3 ∷ []))) gives numbers (6 ∷ 42 ∷ 6 ∷ 42 ∷ 42 ∷ []))
    ∷ (numbers (offset_three (after fetched_once (write 0 2 3 9 ∷ []))) gives numbers (134 ∷ 9 ∷ 6 ∷ 0 ∷ 0 ∷ []))
    -- one line is filled and no other; a purge empties the frame's lines of the colour and no other frame's
    ∷ (numbers fetched_once.store.tags gives numbers (replicate 80 0 ++ (6 ∷ replicate 47 0)))
    ∷ (numbers (tabulate 3 (λ k. get_or (after overlay (map 0 18 4 3 ∷ fetch 0 10 3 ∷ fetch 0 10 8 ∷ fetch 0 18 16 ∷ write 0 2 3 9 ∷ fetch 0 10 3 ∷ [])).store.tags (80 + k) 0)) gives numbers (6 ∷ 0 ∷ 5 ∷ []))
    ∷ (answers (ask (instruction_tagged 1) (map 0 0 0 3 ∷ fetch 0 0 0 ∷ read 0 0 0 ∷ [])) gives answers (done ∷ finds 0 77 ∷ finds 0 0 ∷ []))
    ∷ (answers (ask (tagged 1) (map 0 0 0 3 ∷ fetch 0 0 0 ∷ read 0 0 0 ∷ [])) gives answers (done ∷ finds 0 0 ∷ finds 0 77 ∷ []))
    -- a tag of the instruction cache is 0 to 64, from its first line to its last; the data cache's last line may be dirty
    ∷ (answers (ask (instruction_tagged 64) (evict 1 ∷ [])) gives answers (done ∷ []))
    ∷ (answers (ask (instruction_tagged 65) (evict 1 ∷ fetch 0 0 0 ∷ [])) gives answers (refuses 2 ∷ refuses 2 ∷ []))
    ∷ (answers (ask (instruction_tagged 129) (evict 1 ∷ [])) gives answers (refuses 2 ∷ []))
    ∷ (answers (ask (line_tagged 127 129) (evict 1 ∷ [])) gives answers (refuses 2 ∷ []))
    ∷ (answers (ask (line_tagged 63 129) (evict 1 ∷ [])) gives answers (done ∷ []))
    -- and the cache that is lent has both: half of its words, or of its tags, get 1
    ∷ (answers (ask (with_cache (replicate 512 0) (replicate 128 0) fresh) (evict 1 ∷ fetch 0 0 0 ∷ [])) gives answers (refuses 1 ∷ refuses 1 ∷ []))
    ∷ (answers (ask (with_cache (replicate 1024 0) (replicate 64 0) fresh) (evict 1 ∷ fetch 0 0 0 ∷ [])) gives answers (refuses 1 ∷ refuses 1 ∷ []))
    -- lines 64 to 127 are the instruction cache's: an eviction empties one, and the next fetch fills it again; 128 gets 6
    ∷ (numbers (offset_three (after fetched_once (evict 80 ∷ []))) gives numbers (0 ∷ 0 ∷ 0 ∷ 0 ∷ 0 ∷ []))
    ∷ (answers (ask fetched_once (evict 64 ∷ evict 80 ∷ evict 127 ∷ evict 128 ∷ fetch 0 10 3 ∷ [])) gives answers (done ∷ done ∷ done ∷ refuses 6 ∷ finds 5 0 ∷ []))
    -- a listed mapping's rights may be 3, and 4 get 2
    ∷ (answers (ask (holding (mapping 0 1 5 3 ∷ []) unfilled) (map 0 3 5 1 ∷ [])) gives answers (done ∷ []))
    ∷ (answers (ask (holding (mapping 0 1 5 4 ∷ []) unfilled) (map 0 3 5 1 ∷ [])) gives answers (refuses 2 ∷ []))
    -- rights 3 are accepted, 0 and 4 get 5; a write through 3 gets 10, a fetch through 1 or 2 gets 17, and a read passes through each
    ∷ (answers (ask fresh (map 0 0 5 3 ∷ map 0 1 5 4 ∷ map 0 1 5 0 ∷ map 0 1 5 1 ∷ map 0 2 5 2 ∷ [])) gives answers (done ∷ refuses 5 ∷ refuses 5 ∷ done ∷ done ∷ []))
    ∷ (answers (ask overlay (map 0 3 5 1 ∷ write 0 10 3 9 ∷ fetch 0 3 3 ∷ fetch 0 2 3 ∷ read 0 10 3 ∷ [])) gives answers (done ∷ refuses 10 ∷ refuses 17 ∷ refuses 17 ∷ finds 5 0 ∷ []))
    -- a fetch gets 3, 6, 8, 17 and 15 in this order; a frame that a device reads takes it, one that it writes does not
    ∷ (answers (ask overlay (begin_write 5 ∷ fetch 16 0 64 ∷ fetch 0 1024 64 ∷ fetch 0 3 64 ∷ fetch 0 2 64 ∷ fetch 0 3 3 ∷ fetch 0 2 3 ∷ fetch 0 10 3 ∷ write 0 10 3 9 ∷ [])) gives answers (begun 5 ∷ refuses 3 ∷ refuses 3 ∷ refuses 6 ∷ refuses 6 ∷ refuses 8 ∷ refuses 17 ∷ refuses 15 ∷ refuses 10 ∷ []))
    ∷ (answers (ask overlay (begin_read 5 ∷ fetch 0 10 63 ∷ end_transfer 5 ∷ fetch 15 1023 63 ∷ [])) gives answers (begun 5 ∷ finds 5 0 ∷ done ∷ refuses 8 ∷ []))
    -- a protection gains 4 if the rights are 3 and the colour is held for instructions: pages 2, 10 and 18 of one colour, with rights 2, 3 and 1
    ∷ (leaves (after overlay (map 0 18 5 1 ∷ fetch 0 10 3 ∷ [])) gives listed_with (mapping 0 2 5 2 ∷ mapping 0 10 5 3 ∷ mapping 0 18 5 1 ∷ []) (0 ∷ 4 ∷ 0 ∷ []))
    ∷ (leaves (after overlay (map 0 18 5 1 ∷ fetch 0 10 3 ∷ read 0 18 3 ∷ [])) gives listed_with (mapping 0 2 5 2 ∷ mapping 0 10 5 3 ∷ mapping 0 18 5 1 ∷ []) (1 ∷ 5 ∷ 1 ∷ []))
    ∷ (leaves (after overlay (map 0 18 5 1 ∷ fetch 0 10 3 ∷ write 0 2 3 9 ∷ [])) gives listed_with (mapping 0 2 5 2 ∷ mapping 0 10 5 3 ∷ mapping 0 18 5 1 ∷ []) (2 ∷ 1 ∷ 1 ∷ []))
    ∷ []
