-- The rows of request N1's lists of mappings hold, by computing the definitions; for the long lists, their items in turn.
use mathlib.Core.Path.{◌≡◌, refl, ap}
use mathlib.Core.List.{[], ◌∷◌}
use Rattle.board.specs.Board.{board01}
use Rattle.manager.specs.Scaffold.Inserted.{whole_refusal}
use Rattle.machine.specs.Call.{perform}
use Rattle.machine.specs.State.{map_all, Result}
use Rattle.edges.proofs.Full.{full_within_lem, full_left_lem}
use Rattle.edges.proofs.Items.{refusals_of, list_with, in_turn, in_turn_lem}
use Rattle.edges.proofs.Opened.{opened}
use Rattle.edges.specs.Calls.{unanswered, fresh, leaves}
use Rattle.edges.specs.Lists.{sixty_four, most_items, most_left, lists}
use Rattle.edges.specs.Rows.{answers, Holds, EveryRowHolds}

most_mapped : perform board01 fresh (map_all sixty_four (unanswered 64)) ≡ in_turn board01 fresh sixty_four
unfolding opened whole_refusal
most_mapped = in_turn_lem board01 fresh sixty_four (unanswered 64) refl refl

most_items_lem : Holds most_items
unfolding opened refusals_of
most_items_lem = ap (λ (r : Result). answers (r.answer ∷ [])) most_mapped

most_left_lem : Holds most_left
unfolding opened list_with
most_left_lem = ap (λ (r : Result). leaves r.after) most_mapped

pub lists_hold : EveryRowHolds lists
unfolding opened
lists_hold = (most_items_lem, (most_left_lem, (refl, (refl, (full_within_lem, (full_left_lem, (refl, (refl, (refl, (refl, (refl, (refl, (refl, (refl, (refl, (refl, (refl, (refl, (refl, (refl, tt))))))))))))))))))))
