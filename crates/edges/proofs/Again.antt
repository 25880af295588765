-- Case 9: the state after the first read, in numbers, and that the second leaves it. Compared as calls, the two states take too long.
use mathlib.Core.List.{◌∷◌, ◌++◌}
use mathlib.Core.Path.{◌≡◌, refl, sym, ap, ◌∙◌}
use lib.ListN.{replicate}
use Rattle.board.specs.Board.{board01}
use Rattle.mapping.specs.declared.MappingList.{MappingList}
use Rattle.mapping.specs.Entry.{zero_mapping}
use Rattle.manager.specs.Tables.{start_records}
use Rattle.machine.specs.Call.{perform}
use Rattle.machine.specs.State.{State, machine_of}
use Rattle.machine.specs.Step.{result_of}
use Rattle.edges.proofs.Opened.{opened}
use Rattle.edges.specs.Calls.{read, finds, read_once}
use Rattle.edges.specs.Rows.{Holds, outcome}
use Rattle.edges.specs.Table.{second_read}

-- page 2 of space 0 mapped to frame 5, to read
abbrev page_two_mapped : MappingList
page_two_mapped = record { items = record { space = 0; page = 2; frame = 5; rights = 1 } ∷ replicate 255 zero_mapping; count = 1 }

-- frame 5 has colour 2 held, the page may be read, and line 16 names the frame
abbrev known : State
known =
    machine_of page_two_mapped (start_records 5 8 ++ (4 ∷ 0 ∷ 0 ∷ 0 ∷ 8 ∷ 0 ∷ 0 ∷ start_records 58 8)) (1 ∷ replicate 255 0)
    (replicate 4096 0)
    (replicate 1024 0)
    (replicate 16 0 ++ (6 ∷ replicate 111 0))

first_leaves : read_once ≡ known
unfolding opened
first_leaves = refl

second_leaves : perform board01 known (read 0 2 3) ≡ result_of (finds 5 0) known
unfolding opened
second_leaves = refl

pub second_read_lem : Holds second_read
second_read_lem =
    ap (λ (st : State). outcome (perform board01 st (read 0 2 3))) first_leaves
    ∙ ap outcome second_leaves
    ∙ ap (λ (st : State). outcome (result_of (finds 5 0) st)) (sym first_leaves)
