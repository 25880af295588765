-- A whole call: a single one, or request N1's list of mappings, of which answer k, and all that is left at the end, are what mapping them singly
-- in that order would give. Only 1 and 12 refuse the list whole.
use Rattle.std.specs.Prelude.{not, ◌&&◌, List, [], ◌∷◌, ℕ, zero, suc, length}
use Rattle.std.proofs.Math.Option.{none}
use Rattle.board.specs.declared.Board.{Board}
use Rattle.mapping.specs.declared.Mapping.{Mapping}
use Rattle.manager.specs.Answers.{refused, accepted, number_of}
use Rattle.manager.specs.Batch.{item_at}
use Rattle.manager.specs.Calls.{no_ops}
use Rattle.manager.specs.Refusals.{Cause, ◌if◌, first_refusal, batch_cause}
use Rattle.manager.specs.Tables.{lengths_right, tabulate}
use Rattle.machine.specs.Refusals.{store_lengths, causes}
use Rattle.machine.specs.State.{State, Single, map, Call, single, map_all, Result, lent_buffer}
use Rattle.machine.specs.Step.{answer, result_of, step}

-- ---- the items in turn

abbrev pub map_of : Mapping → Single
map_of m = map m.space m.page m.frame m.rights

-- the state after the first k items, each mapped singly, whatever became of those before it
unfoldable pub after_items : Board → State → List Mapping → ℕ → State
after_items b st items zero = st
after_items b st items (suc k) = (step b (after_items b st items k) (map_of (item_at items k))).after

-- answer k: 0, or the number of item k's refusal
unfoldable pub item_answer : Board → State → List Mapping → ℕ → ℕ
unfolding after_items
item_answer b st items k = number_of (step b (after_items b st items k) (map_of (item_at items k))).answer.outcome

-- ---- a call

-- the causes of refusal of the whole, in the order of the table
unfoldable pub call_causes : Board → State → Call → List Cause
call_causes b st (single call) = causes b st call
call_causes b st (map_all items answers) =
    (1 if not (lengths_right b st.tables && store_lengths b st.store))
    ∷ batch_cause (length items) (length answers)
    ∷ []

-- the buffer that it is lent for a device read, or for answers
abbrev pub call_buffer : Call → List ℕ
call_buffer (single call) = lent_buffer call
call_buffer (map_all items answers) = answers

unfoldable pub perform : Board → State → Call → Result
unfolding item_answer call_causes
perform b st (single call) = step b st call
perform b st (map_all items answers) =
    elim (first_refusal (call_causes b st (map_all items answers))) [
      | zero ↦ result_of (answer (accepted 0 no_ops) none (tabulate (length items) (item_answer b st items))) (after_items b st items (length items))
      | suc n ↦ result_of (answer (refused (suc n)) none answers) st
    ]
