-- Request N1, a list of mappings in one call: answer k, and all tables at the end, are what mapping them singly in that order would give. Only 1
-- and 12 refuse the whole.
use Rattle.std.specs.Prelude.{not, List, [], ◌∷◌, ℕ, zero, suc, length, get_or}
use Rattle.board.specs.declared.Board.{Board}
use Rattle.mapping.specs.declared.Mapping.{Mapping}
use Rattle.mapping.specs.Entry.{zero_mapping}
use Rattle.manager.specs.Answers.{Outcome, refused, accepted, number_of}
use Rattle.manager.specs.Calls.{Result, no_ops, map_call}
use Rattle.manager.specs.Refusals.{Cause, ◌if◌, first_refusal, batch_cause}
use Rattle.manager.specs.Tables.{Tables, lengths_right, tabulate}

-- ---- the items in turn

-- item k
abbrev pub item_at : List Mapping → ℕ → Mapping
item_at items k = get_or items k zero_mapping

abbrev pub map_item : Board → Tables → Mapping → Result
map_item b t m = map_call b t m.space m.page m.frame m.rights

-- the tables after the first k items, each mapped singly, whatever became of those before it
unfoldable pub tables_after : Board → Tables → List Mapping → ℕ → Tables
tables_after b t items zero = t
tables_after b t items (suc k) = (map_item b (tables_after b t items k) (item_at items k)).after

-- answer k: 0, or the number of item k's refusal
unfoldable pub answer_at : Board → Tables → List Mapping → ℕ → ℕ
unfolding tables_after
answer_at b t items k = number_of (map_item b (tables_after b t items k) (item_at items k)).answer

-- ---- the call

-- the answer to the whole, the answers to its items, and the tables after it
pub record BatchResult : Type 0 where
  pub answer : Outcome
  pub answers : List ℕ
  pub after : Tables

abbrev pub batch_result : Outcome → List ℕ → Tables → BatchResult
batch_result o answers t = record { answer = o; answers = answers; after = t }

-- what refuses the whole
abbrev pub map_all_causes : Board → Tables → List Mapping → List ℕ → List Cause
map_all_causes b t items answers = (1 if not (lengths_right b t)) ∷ batch_cause (length items) (length answers) ∷ []

-- a whole refusal leaves the answers and the tables as they were
abbrev pub whole_result : ℕ → List ℕ → Tables → BatchResult → BatchResult
whole_result zero answers t made = made
whole_result (suc n) answers t made = batch_result (refused (suc n)) answers t

-- the items in order; where none is accepted the protections stay as they were, since a refused map fills none
unfoldable pub map_all_call : Board → Tables → List Mapping → List ℕ → BatchResult
unfolding answer_at
map_all_call b t items answers =
    whole_result (first_refusal (map_all_causes b t items answers)) answers t
    (batch_result (accepted 0 no_ops) (tabulate (length items) (answer_at b t items)) (tables_after b t items (length items)))
