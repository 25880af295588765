-- Document 01, "Answers": for each single call of the machine the causes of refusal, its own and the manager's, in the order of the table.
use Rattle.std.specs.Prelude.{Bool, true, not, ◌&&◌, List, [], ◌∷◌, ◌++◌, ℕ, eqb, length}
use Rattle.board.specs.declared.Board.{Board}
use Rattle.board.specs.Board.{memory_words, cache_words, lines, colour_of}
use Rattle.page_model.specs.Busy.{reading, writing}
use Rattle.page_model.specs.Table as table
use Rattle.mapping.specs.declared.MappingList.{MappingList}
use Rattle.manager.specs.Refusals.{Cause, ◌if◌, space_cause, frame_cause, offset_cause, part_cause, unmapped_cause, write_rights_cause, fetch_rights_cause, busy_cause, word_cause, end_cause, mapping_causes}
use Rattle.manager.specs.Tables.{lengths_right, rules_kept}
use Rattle.cache.specs.Store.{Store}
use Rattle.cache.specs.Tag.{tags_keep_rules}
use Rattle.machine.specs.State.{State, listed_frame, listed_rights, Single, map, unmap, read, write, device_read, device_write, device_write_part, evict, begin_read, begin_write, bring_word, take_word, end_transfer, fetch, Exchange, no_words, word_out, page_out, page_in, part_in, exchange_of}

-- memory, cache words and tags have their lengths
unfoldable pub store_lengths : Board → Store → Bool
store_lengths b s = eqb (length s.memory) (memory_words b) && eqb (length s.words) (cache_words b) && eqb (length s.tags) (lines b)

-- a buffer has a page's length, or that of its part
abbrev pub length_right : Board → Exchange → Bool
length_right b no_words = true
length_right b word_out = true
length_right b (page_out buffer) = eqb (length buffer) b.page
length_right b (page_in buffer) = eqb (length buffer) b.page
length_right b (part_in number buffer) = eqb (length buffer) number

abbrev pub buffer_right : Board → Single → Bool
buffer_right b call = length_right b (exchange_of call)

-- what each tests of all that it is lent
unfoldable pub lent_causes : Board → State → Single → List Cause
unfolding store_lengths
lent_causes b st call =
    (1 if not (lengths_right b st.tables && store_lengths b st.store && buffer_right b call))
    ∷ (2 if not (rules_kept b st.tables && tags_keep_rules b st.store.tags))
    ∷ []

-- the mark of a page's frame bars this step
abbrev pub page_busy : MappingList → List ℕ → ℕ → ℕ → table.Step → Cause
page_busy l records space page s = busy_cause records (listed_frame l space page) s

-- and of its own numbers, and of the frame's mark, by the list and the records
abbrev pub causes_in : Board → MappingList → List ℕ → Single → List Cause
causes_in b l records (map space page frame rights) = mapping_causes b l space page frame rights
causes_in b l records (unmap space page) = space_cause space page ∷ unmapped_cause l space page ∷ []
causes_in b l records (read space page offset) =
    space_cause space page
    ∷ offset_cause b.page offset
    ∷ unmapped_cause l space page
    ∷ page_busy l records space page (table.read (colour_of b page))
    ∷ []
causes_in b l records (write space page offset word) =
    space_cause space page
    ∷ offset_cause b.page offset
    ∷ unmapped_cause l space page
    ∷ write_rights_cause (listed_rights l space page)
    ∷ page_busy l records space page (table.write (colour_of b page))
    ∷ []
causes_in b l records (device_read frame buffer) = frame_cause b frame ∷ busy_cause records frame table.device_read ∷ []
causes_in b l records (device_write frame buffer) = frame_cause b frame ∷ busy_cause records frame table.device_write ∷ []
causes_in b l records (device_write_part frame first number buffer) =
    frame_cause b frame
    ∷ part_cause b first number
    ∷ busy_cause records frame table.device_write_part
    ∷ []
causes_in b l records (evict line) = offset_cause (lines b) line ∷ []
causes_in b l records (begin_read frame) = frame_cause b frame ∷ busy_cause records frame table.begin_read ∷ []
causes_in b l records (begin_write frame) = frame_cause b frame ∷ busy_cause records frame table.begin_write ∷ []
causes_in b l records (bring_word frame offset word) =
    frame_cause b frame
    ∷ offset_cause b.page offset
    ∷ word_cause records frame writing
    ∷ []
causes_in b l records (take_word frame offset) =
    frame_cause b frame
    ∷ offset_cause b.page offset
    ∷ word_cause records frame reading
    ∷ []
causes_in b l records (end_transfer frame) = frame_cause b frame ∷ end_cause records frame ∷ []
causes_in b l records (fetch space page offset) =
    space_cause space page
    ∷ offset_cause b.page offset
    ∷ unmapped_cause l space page
    ∷ fetch_rights_cause (listed_rights l space page)
    ∷ page_busy l records space page (table.fetch (colour_of b page))
    ∷ []

unfoldable pub own_causes : Board → State → Single → List Cause
own_causes b st = causes_in b st.tables.list st.tables.records

unfoldable pub causes : Board → State → Single → List Cause
unfolding lent_causes own_causes
causes b st call = lent_causes b st call ++ own_causes b st call
