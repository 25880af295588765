-- How the code lists a list of mappings at once: what is lent is tested once, the items are inserted one after the other, and the protections
-- are filled once, if a mapping was listed. It is proved to be `map_all_call` (`map-all-made`).
use Rattle.std.specs.Prelude.{cond, List, [], ◌∷◌, ℕ, zero, suc, eqb, length}
use Rattle.board.specs.declared.Board.{Board}
use Rattle.mapping.specs.declared.Mapping.{Mapping}
use Rattle.mapping.specs.declared.MappingList.{MappingList}
use Rattle.mapping.specs.Change.{insert}
use Rattle.manager.specs.Answers.{accepted}
use Rattle.manager.specs.Batch.{item_at, BatchResult, batch_result, whole_result}
use Rattle.manager.specs.Calls.{no_ops}
use Rattle.manager.specs.Refusals.{◌if◌, first_refusal, mapping_causes, batch_cause}
use Rattle.manager.specs.Tables.{Tables, tables, tabulate, refill}

-- ---- the list

-- the refusal of a mapping in its numbers and the list, or 0
unfoldable pub mapping_refusal : Board → MappingList → Mapping → ℕ
mapping_refusal b l m = first_refusal (mapping_causes b l m.space m.page m.frame m.rights)

-- the list with the mapping, unless that is refused
abbrev pub listed_by : ℕ → MappingList → Mapping → MappingList
listed_by zero l m = insert l m
listed_by (suc n) l m = l

-- the list after the first k items
unfoldable pub list_after_items : Board → MappingList → List Mapping → ℕ → MappingList
unfolding mapping_refusal
list_after_items b l items zero = l
list_after_items b l items (suc k) = listed_by (mapping_refusal b (list_after_items b l items k) (item_at items k)) (list_after_items b l items k) (item_at items k)

-- the refusal of item k, or 0
unfoldable pub refusal_at : Board → MappingList → List Mapping → ℕ → ℕ
unfolding list_after_items
refusal_at b l items k = mapping_refusal b (list_after_items b l items k) (item_at items k)

-- ---- the tables

-- the tables with the list after the items; the protections stay as they are where nothing was listed
abbrev pub relisted : Board → Tables → MappingList → Tables
relisted b t l =
    cond (eqb l.count t.list.count) (tables l t.records t.protections) (refill b (tables l t.records t.protections))

-- where `lent` is the refusal in what is lent, or 0: each item has it
unfoldable pub listed_all : Board → ℕ → Tables → List Mapping → BatchResult
unfolding refusal_at
listed_all b zero t items =
    batch_result (accepted 0 no_ops) (tabulate (length items) (refusal_at b t.list items)) (relisted b t (list_after_items b t.list items (length items)))
listed_all b (suc lent) t items = batch_result (accepted 0 no_ops) (tabulate (length items) (λ k. suc lent)) t

-- the refusal of the whole, of so many items and answers: lengths in what is lent, or 12
unfoldable pub whole_refusal : ℕ → ℕ → ℕ → ℕ
whole_refusal lent items answers = first_refusal ((1 if eqb lent 1) ∷ batch_cause items answers ∷ [])

-- the call, where `lent` is the refusal in what is lent, or 0
unfoldable pub batch_made : Board → ℕ → Tables → List Mapping → List ℕ → BatchResult
unfolding listed_all whole_refusal
batch_made b lent t items answers = whole_result (whole_refusal lent (length items) (length answers)) answers t (listed_all b lent t items)
