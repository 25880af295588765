-- Request N2, the mapping list in rising order of space, then page, at its edges: where a new mapping goes, the protections that move with the
-- later ones, and lists that are out of order.
use Rattle.std.specs.Prelude.{List, [], ◌∷◌, replicate}
use Rattle.std.proofs.Math.Option.{none}
use Rattle.manager.specs.Answers.{refused}
use Rattle.machine.specs.State.{State, Call, Answer}
use Rattle.machine.specs.Step.{answer}
use Rattle.edges.specs.Calls.{after, ask, map, unmap, read, write, device_read, device_write, evict, begin_read, begin_write, bring_word, take_word, end_transfer, fetch, map_these, refuses, each, done, fresh, wrote_last, sevens, mapping, holding, unfilled, leaves, listed_with}
use Rattle.edges.specs.Rows.{answers, Row, ◌gives◌}

-- page 2 of spaces 0 and 1, both of frame 5, whose colour 2 is dirty: the one to read and write, the other to read
abbrev pub two_spaces : State
two_spaces = after wrote_last (map 1 2 5 1 ∷ [])

-- each call
abbrev pub every_call : List Call
every_call =
    map 0 3 5 1 ∷ unmap 0 9 ∷ read 0 9 0 ∷ write 0 9 0 7 ∷ fetch 0 9 0 ∷ device_read 5 (replicate 64 7) ∷ device_write 5 (replicate 64 7) ∷ sevens 0 12 ∷ evict 0
    ∷ begin_read 5 ∷ begin_write 5 ∷ bring_word 5 0 7 ∷ take_word 5 0 ∷ end_transfer 5 ∷ map_these (mapping 0 3 5 1 ∷ []) ∷ []

-- 2 for each, and for the item of the list
abbrev pub every_refusal : List Answer
every_refusal =
    refuses 2 ∷ refuses 2 ∷ refuses 2 ∷ refuses 2 ∷ refuses 2 ∷ answer (refused 2) none (replicate 64 7) ∷ refuses 2 ∷ refuses 2 ∷ refuses 2
    ∷ refuses 2 ∷ refuses 2 ∷ refuses 2 ∷ refuses 2 ∷ refuses 2 ∷ each (2 ∷ []) ∷ []

abbrev pub order : List Row
order =
    -- a page between two goes to the place between them, and the later one's protection moves up with it
    (leaves two_spaces gives listed_with (mapping 0 2 5 2 ∷ mapping 1 2 5 1 ∷ []) (2 ∷ 1 ∷ []))
    ∷ (leaves (after two_spaces (map 0 10 4 2 ∷ [])) gives listed_with (mapping 0 2 5 2 ∷ mapping 0 10 4 2 ∷ mapping 1 2 5 1 ∷ []) (2 ∷ 0 ∷ 1 ∷ []))
    -- so does one before all, and one behind all moves none; an unmap moves the later ones down
    ∷ (leaves (after two_spaces (map 0 1 4 1 ∷ map 1 3 4 1 ∷ [])) gives listed_with (mapping 0 1 4 1 ∷ mapping 0 2 5 2 ∷ mapping 1 2 5 1 ∷ mapping 1 3 4 1 ∷ []) (0 ∷ 2 ∷ 1 ∷ 0 ∷ []))
    ∷ (leaves (after two_spaces (unmap 0 2 ∷ [])) gives listed_with (mapping 1 2 5 1 ∷ []) (1 ∷ []))
    -- items of a list go to their places too
    ∷ (leaves (after two_spaces (map_these (mapping 1 0 4 1 ∷ mapping 0 10 4 2 ∷ []) ∷ [])) gives listed_with (mapping 0 2 5 2 ∷ mapping 0 10 4 2 ∷ mapping 1 0 4 1 ∷ mapping 1 2 5 1 ∷ []) (2 ∷ 0 ∷ 0 ∷ 1 ∷ []))
    -- the same page in two spaces is no double; page 9 of space 0 stands before page 0 of space 1
    ∷ (answers (ask fresh (map 1 0 5 1 ∷ map 0 9 5 1 ∷ map 0 0 5 1 ∷ map 1 0 5 1 ∷ [])) gives answers (done ∷ done ∷ done ∷ refuses 7 ∷ []))
    ∷ (leaves (after fresh (map 1 0 5 1 ∷ map 0 9 5 1 ∷ map 0 0 5 1 ∷ [])) gives listed_with (mapping 0 0 5 1 ∷ mapping 0 9 5 1 ∷ mapping 1 0 5 1 ∷ []) (0 ∷ 0 ∷ 0 ∷ []))
    ∷ (answers (ask (holding (mapping 0 9 5 1 ∷ mapping 1 0 5 1 ∷ []) unfilled) (map 0 3 5 1 ∷ [])) gives answers (done ∷ []))
    -- exchanged neighbours get 2, by each call
    ∷ (answers (ask (holding (mapping 1 0 5 1 ∷ mapping 0 9 5 1 ∷ []) unfilled) every_call) gives answers every_refusal)
    ∷ (answers (ask (holding (mapping 0 9 5 1 ∷ mapping 0 1 5 1 ∷ []) unfilled) (map 0 3 5 1 ∷ [])) gives answers (refuses 2 ∷ []))
    ∷ (answers (ask (holding (mapping 0 5 5 1 ∷ mapping 0 1 5 1 ∷ mapping 0 9 5 1 ∷ []) unfilled) (map 0 3 5 1 ∷ [])) gives answers (refuses 2 ∷ []))
    ∷ (answers (ask (holding (mapping 0 1 5 1 ∷ mapping 0 9 5 1 ∷ mapping 0 5 5 1 ∷ []) unfilled) (map 0 3 5 1 ∷ [])) gives answers (refuses 2 ∷ []))
    -- so do equal ones, whatever their frames and rights
    ∷ (answers (ask (holding (mapping 0 1 5 1 ∷ mapping 0 1 5 1 ∷ []) unfilled) (map 0 3 5 1 ∷ [])) gives answers (refuses 2 ∷ []))
    ∷ (answers (ask (holding (mapping 0 1 5 1 ∷ mapping 0 9 5 1 ∷ mapping 0 9 6 2 ∷ []) unfilled) (map 0 3 5 1 ∷ [])) gives answers (refuses 2 ∷ []))
    ∷ []
