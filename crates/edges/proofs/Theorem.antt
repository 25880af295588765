-- Every row of the table holds, by computing the definitions.
use mathlib.Core.List.{List, [], ◌∷◌, ◌++◌}
use mathlib.Core.Path.{refl}
use Rattle.edges.proofs.Again.{second_read_lem}
use Rattle.edges.proofs.Full.{room_for_one_lem, fresh_pair_lem, mapped_pair_lem}
use Rattle.edges.proofs.Lists.{lists_hold}
use Rattle.edges.proofs.Opened.{opened}
use Rattle.edges.proofs.Order.{order_holds}
use Rattle.edges.specs.Cells.{cells, instruction_cells, AnyColour}
use Rattle.edges.specs.DirtyColours.{dirty_colours}
use Rattle.edges.specs.Fetches.{fetches}
use Rattle.edges.specs.Flushes.{flushes}
use Rattle.edges.specs.Lists.{lists}
use Rattle.edges.specs.Order.{order}
use Rattle.edges.specs.Rows.{Row, EveryRowHolds}
use Rattle.edges.specs.Table.{cases, kinds, Edges}
use Rattle.edges.specs.Transfers.{transfers}

-- the cells of the page model
cells_hold : EveryRowHolds cells
cells_hold = (refl, (refl, (refl, (refl, (refl, (refl, (refl, (refl, (refl, (refl, (refl, (refl, (refl, (refl, (refl, (refl, (refl, (refl, (refl, (refl, (refl, (refl, (refl, (refl, (refl, (refl, (refl, (refl, (refl, (refl, (refl, (refl, (refl, (refl, (refl, (refl, (refl, (refl, (refl, (refl, tt))))))))))))))))))))))))))))))))))))))))

instruction_cells_hold : EveryRowHolds instruction_cells
instruction_cells_hold = (refl, (refl, (refl, (refl, (refl, (refl, (refl, (refl, (refl, (refl, (refl, (refl, (refl, (refl, (refl, (refl, (refl, (refl, (refl, (refl, (refl, (refl, (refl, (refl, (refl, (refl, (refl, tt)))))))))))))))))))))))))))

pub any_colour : AnyColour
any_colour c =
    (λ own. (λ state. refl, λ state. refl), λ own. (λ state. refl, λ state. refl), λ own. (λ state. refl, λ state. refl))

-- the rows of two lists
both_hold : (xs ys : List Row) → EveryRowHolds xs → EveryRowHolds ys → EveryRowHolds (xs ++ ys)
both_hold [] ys a b = b
both_hold (x ∷ xs) ys a b = (a.0, both_hold xs ys a.1 b)

transfers_hold : EveryRowHolds transfers
unfolding opened
transfers_hold = (refl, (refl, (refl, (refl, (refl, (refl, (refl, (refl, (refl, (refl, (refl, (refl, (refl, (refl, (refl, (refl, tt))))))))))))))))

dirty_colours_hold : EveryRowHolds dirty_colours
unfolding opened
dirty_colours_hold = (refl, (refl, (refl, (refl, (refl, (refl, (refl, (refl, (refl, (refl, (refl, (refl, (refl, (refl, (refl, (refl, (refl, (refl, (refl, (refl, (refl, (refl, tt))))))))))))))))))))))

fetches_hold : EveryRowHolds fetches
unfolding opened
fetches_hold = (refl, (refl, (refl, (refl, (refl, (refl, (refl, (refl, (refl, (refl, (refl, (refl, (refl, (refl, (refl, (refl, (refl, (refl, (refl, (refl, (refl, (refl, (refl, (refl, (refl, (refl, (refl, (refl, (refl, (refl, (refl, (refl, (refl, (refl, (refl, (refl, (refl, (refl, (refl, (refl, (refl, (refl, (refl, (refl, (refl, (refl, (refl, (refl, tt))))))))))))))))))))))))))))))))))))))))))))))))

flushes_hold : EveryRowHolds flushes
unfolding opened
flushes_hold = (refl, (refl, (refl, (refl, (refl, (refl, (refl, (refl, (refl, (refl, (refl, (refl, (refl, (refl, (refl, (refl, (refl, tt)))))))))))))))))

-- the rows of the requests and of the page model
abbrev requests : List Row
requests = lists ++ (order ++ (transfers ++ (dirty_colours ++ (fetches ++ (flushes ++ (cells ++ instruction_cells))))))

requests_hold : EveryRowHolds requests
requests_hold =
    both_hold lists (order ++ (transfers ++ (dirty_colours ++ (fetches ++ (flushes ++ (cells ++ instruction_cells)))))) lists_hold
    (both_hold order (transfers ++ (dirty_colours ++ (fetches ++ (flushes ++ (cells ++ instruction_cells))))) order_holds
    (both_hold transfers (dirty_colours ++ (fetches ++ (flushes ++ (cells ++ instruction_cells)))) transfers_hold
    (both_hold dirty_colours (fetches ++ (flushes ++ (cells ++ instruction_cells))) dirty_colours_hold
    (both_hold fetches (flushes ++ (cells ++ instruction_cells)) fetches_hold
    (both_hold flushes (cells ++ instruction_cells) flushes_hold (both_hold cells instruction_cells cells_hold instruction_cells_hold))))))

cases_hold : EveryRowHolds cases
unfolding opened
cases_hold = (refl, (refl, (refl, (refl, (refl, (refl, (refl, (room_for_one_lem, (fresh_pair_lem, (mapped_pair_lem, (refl, (refl, (refl, (refl, (refl, (refl, (second_read_lem, (refl, (refl, (refl, (refl, (refl, (refl, (refl, (refl, (refl, (refl, (refl, tt))))))))))))))))))))))))))))

kinds_hold : EveryRowHolds kinds
unfolding opened
kinds_hold = (refl, (refl, (refl, (refl, (refl, (refl, (refl, (refl, (refl, (refl, (refl, (refl, (refl, (refl, (refl, (refl, (refl, tt)))))))))))))))))

pub edges : Edges
edges = both_hold cases (kinds ++ requests) cases_hold (both_hold kinds requests kinds_hold requests_hold)
