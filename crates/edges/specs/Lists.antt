-- Request N1, a list of mappings in one call, at its edges: each item is answered, and all tables are left, as if the items were mapped singly
-- in that order. Only 1 and 12 refuse the whole, and then the list of answers stays as it was lent.
use Rattle.std.specs.Prelude.{List, [], ◌∷◌, ◌++◌, ◌-◌, replicate}
use Rattle.mapping.specs.declared.Mapping.{Mapping}
use Rattle.machine.specs.State.{State, Call, map_all}
use Rattle.edges.specs.Calls.{after, ask, map_these, each, refuses_whole, unanswered, fresh, listing, recorded, tagged, with_cache, wrote_last, mapping, page_mapping, mappings_by, pages_mapped, list_of, holding, unfilled, leaves, listed_with}
use Rattle.edges.specs.Rows.{answers, tables, Row, ◌gives◌}

-- ---- the rows of long lists, which take the longest to compute

-- pages 63 to 0, each of which goes before those that are listed
abbrev pub sixty_four : List Mapping
sixty_four = mappings_by 64 (λ i. page_mapping (63 - i))

abbrev pub most_items : Row
most_items = answers (ask fresh (map_these sixty_four ∷ [])) gives answers (each (replicate 64 0) ∷ [])

abbrev pub most_left : Row
most_left = leaves (after fresh (map_these sixty_four ∷ [])) gives tables (pages_mapped 64) (replicate 256 0)

-- beside pages 0 to 253: two pages for which there is room, a third, a listed page and a space out of its range
abbrev pub overflowing : List Mapping
overflowing = mapping 1 0 0 1 ∷ mapping 1 1 0 1 ∷ mapping 1 2 0 1 ∷ mapping 0 5 0 1 ∷ mapping 16 0 0 1 ∷ []

abbrev pub full_within : Row
full_within = answers (ask (listing 254) (map_these overflowing ∷ [])) gives answers (each (0 ∷ 0 ∷ 9 ∷ 7 ∷ 3 ∷ []) ∷ [])

abbrev pub full_left : Row
full_left =
    leaves (after (listing 254) (map_these overflowing ∷ []))
    gives tables (list_of (mappings_by 254 page_mapping ++ (mapping 1 0 0 1 ∷ mapping 1 1 0 1 ∷ []))) (replicate 256 0)

-- ---- calls and states

-- page 10, page 10 again, and page 1, beside page 2, which `wrote_last` has mapped to frame 5 and written
abbrev pub double : Call
double = map_these (mapping 0 10 5 1 ∷ mapping 0 10 6 2 ∷ mapping 0 1 5 2 ∷ [])

-- an item for each cause that lies in a mapping's numbers, and one at their limits
abbrev pub numbered : Call
numbered =
    map_these (mapping 16 0 0 1 ∷ mapping 0 1024 0 1 ∷ mapping 0 0 64 1 ∷ mapping 0 0 0 0 ∷ mapping 0 0 0 4 ∷ mapping 15 1023 63 3 ∷ [])

-- page 1 mapped, with protections that no call has filled
abbrev pub one_page : State
one_page = holding (mapping 0 1 5 1 ∷ []) unfilled

-- that page again, and a page out of its range
abbrev pub none_taken : Call
none_taken = map_these (mapping 0 1 6 2 ∷ mapping 0 1024 5 1 ∷ [])

-- a list out of order
abbrev pub broken : State
broken = holding (mapping 0 9 5 1 ∷ mapping 0 1 5 1 ∷ []) unfilled

-- a free page, and a number out of its range
abbrev pub two : List Mapping
two = mapping 0 3 5 1 ∷ mapping 16 0 5 1 ∷ []

-- one protection too few, and one tag too few
abbrev pub short_protections : State
short_protections = holding [] (replicate 255 9)

abbrev pub short_tags : State
short_tags = with_cache (replicate 1024 0) (replicate 127 0) fresh

-- ---- the rows

abbrev pub lists : List Row
lists =
    -- up to 64 items are taken; 65 get 12
    most_items
    ∷ most_left
    ∷ (answers (ask fresh (map_these (mappings_by 65 page_mapping) ∷ [])) gives answers (refuses_whole 12 (unanswered 65) ∷ []))
    -- too few answers, too many, and one for no item: 12
    ∷ (answers (ask fresh (map_all two (unanswered 1) ∷ map_all two (unanswered 3) ∷ map_all two [] ∷ map_all [] (unanswered 1) ∷ [])) gives answers (refuses_whole 12 (unanswered 1) ∷ refuses_whole 12 (unanswered 3) ∷ refuses_whole 12 [] ∷ refuses_whole 12 (unanswered 1) ∷ []))
    -- the list gets full within: then 9, and 7 and 3 before it
    ∷ full_within
    ∷ full_left
    -- a double within the list gets 7, and the next item goes to its place; made again, all get 7
    ∷ (answers (ask wrote_last (double ∷ double ∷ [])) gives answers (each (0 ∷ 7 ∷ 0 ∷ []) ∷ each (7 ∷ 7 ∷ 7 ∷ []) ∷ []))
    ∷ (leaves (after wrote_last (double ∷ [])) gives listed_with (mapping 0 1 5 2 ∷ mapping 0 2 5 2 ∷ mapping 0 10 5 1 ∷ []) (0 ∷ 2 ∷ 1 ∷ []))
    -- each item by its own cause
    ∷ (answers (ask fresh (numbered ∷ [])) gives answers (each (3 ∷ 3 ∷ 4 ∷ 5 ∷ 5 ∷ 0 ∷ []) ∷ []))
    ∷ (leaves (after fresh (numbered ∷ [])) gives listed_with (mapping 15 1023 63 3 ∷ []) (0 ∷ []))
    -- no item, or none accepted: the protections stay as they were lent; with one accepted all are filled
    ∷ (answers (ask one_page (map_these [] ∷ none_taken ∷ [])) gives answers (each [] ∷ each (7 ∷ 3 ∷ []) ∷ []))
    ∷ (leaves (after one_page (map_these [] ∷ none_taken ∷ [])) gives tables (list_of (mapping 0 1 5 1 ∷ [])) unfilled)
    ∷ (leaves (after one_page (map_these (mapping 0 1 6 2 ∷ mapping 0 0 5 1 ∷ []) ∷ [])) gives listed_with (mapping 0 0 5 1 ∷ mapping 0 1 5 1 ∷ []) (0 ∷ 0 ∷ []))
    -- a broken list, record or tag: 2 for each item and not for the whole, and before 3
    ∷ (answers (ask broken (map_these two ∷ map_these [] ∷ [])) gives answers (each (2 ∷ 2 ∷ []) ∷ each [] ∷ []))
    ∷ (leaves (after broken (map_these two ∷ [])) gives tables (list_of (mapping 0 9 5 1 ∷ mapping 0 1 5 1 ∷ [])) unfilled)
    ∷ (answers (ask (recorded 3 0 1 0 0) (map_these two ∷ [])) gives answers (each (2 ∷ 2 ∷ []) ∷ []))
    ∷ (answers (ask (tagged 65) (map_these two ∷ [])) gives answers (each (2 ∷ 2 ∷ []) ∷ []))
    -- 12 before 2, and 1 before both, each for the whole
    ∷ (answers (ask broken (map_all two (unanswered 1) ∷ [])) gives answers (refuses_whole 12 (unanswered 1) ∷ []))
    ∷ (answers (ask short_protections (map_all two (unanswered 1) ∷ map_these two ∷ map_these [] ∷ [])) gives answers (refuses_whole 1 (unanswered 1) ∷ refuses_whole 1 (unanswered 2) ∷ refuses_whole 1 [] ∷ []))
    ∷ (answers (ask short_tags (map_these (mappings_by 65 page_mapping) ∷ map_these two ∷ [])) gives answers (refuses_whole 1 (unanswered 65) ∷ refuses_whole 1 (unanswered 2) ∷ []))
    ∷ []
