-- The items of a list one after the other, each in the list that those before it left. `perform` says of each item anew what those before it
-- leave, which for 64 items takes too long to compute.
use mathlib.Core.Path.{◌≡◌, refl, sym, ap, ◌∙◌}
use mathlib.Core.List.{List, [], ◌∷◌}
use Prim.Native.Nat.{ℕ, zero, suc}
use lib.ListN.{length}
use Rattle.board.specs.declared.Board.{Board}
use Rattle.mapping.specs.declared.Mapping.{Mapping}
use Rattle.mapping.specs.declared.MappingList.{MappingList}
use Rattle.mapping.specs.Entry.{zero_mapping}
use Rattle.manager.specs.Answers.{accepted}
use Rattle.manager.specs.Batch.{item_at, batch_result, whole_result}
use Rattle.manager.specs.Calls.{no_ops}
use Rattle.manager.specs.Scaffold.Inserted.{mapping_refusal, listed_by, list_after_items, refusal_at, relisted, listed_all, whole_refusal, batch_made}
use Rattle.manager.specs.Refusals.{first_refusal}
use Rattle.manager.specs.Tables.{tabulate}
use Rattle.machine.specs.Call.{map_of, perform}
use Rattle.machine.specs.Refusals.{lent_causes}
use Rattle.machine.specs.State.{State, map_all, Result}
use Rattle.machine.proofs.ItemLaws.{beside, map_all_performed}

-- the list with an item, unless that is refused
abbrev pub next : Board → MappingList → Mapping → MappingList
next b l m = listed_by (mapping_refusal b l m) l m

-- the refusal of each item, or 0, and the list after all
unfoldable pub refusals_of : Board → MappingList → List Mapping → List ℕ
unfolding mapping_refusal
refusals_of b l [] = []
refusals_of b l (m ∷ ms) = mapping_refusal b l m ∷ refusals_of b (next b l m) ms

unfoldable pub list_with : Board → MappingList → List Mapping → MappingList
unfolding mapping_refusal
list_with b l [] = l
list_with b l (m ∷ ms) = list_with b (next b l m) ms

-- the first item mapped, the others are those of a list by itself
later : (b : Board) (l : MappingList) (m : Mapping) (ms : List Mapping) (k : ℕ) → list_after_items b l (m ∷ ms) (suc k) ≡ list_after_items b (next b l m) ms k
unfolding list_after_items
later b l m ms zero = refl
later b l m ms (suc k) = ap (λ (x : MappingList). next b x (item_at ms k)) (later b l m ms k)

refusals_are : (b : Board) (l : MappingList) (ms : List Mapping) → tabulate (length ms) (refusal_at b l ms) ≡ refusals_of b l ms
unfolding tabulate refusal_at refusals_of
refusals_are b l [] = refl
refusals_are b l (m ∷ ms) =
    (λ i. mapping_refusal b l m ∷ tabulate (length ms) (λ k. mapping_refusal b (later b l m ms k i) (item_at ms k)))
    ∙ ap (λ (ns : List ℕ). mapping_refusal b l m ∷ ns) (refusals_are b (next b l m) ms)

list_is : (b : Board) (l : MappingList) (ms : List Mapping) → list_after_items b l ms (length ms) ≡ list_with b l ms
unfolding list_after_items list_with
list_is b l [] = refl
list_is b l (m ∷ ms) = later b l m ms (length ms) ∙ list_is b (next b l m) ms

-- a list of mappings, where nothing that is lent gives a refusal and the whole is not refused
abbrev pub in_turn : Board → State → List Mapping → Result
in_turn b st items =
    let l : MappingList = st.tables.list in
    beside st.store (batch_result (accepted 0 no_ops) (refusals_of b l items) (relisted b st.tables (list_with b l items)))

pub in_turn_lem : (b : Board) (st : State) (items : List Mapping) (answers : List ℕ)
    → first_refusal (lent_causes b st (map_of zero_mapping)) ≡ 0
    → whole_refusal 0 (length items) (length answers) ≡ 0
    → perform b st (map_all items answers) ≡ in_turn b st items
unfolding batch_made
in_turn_lem b st items answers clear whole =
    let l = st.tables.list in
    sym (map_all_performed b st items answers)
    ∙ ap (λ (n : ℕ). beside st.store (batch_made b n st.tables items answers)) clear
    ∙ ap (λ (n : ℕ). beside st.store (whole_result n answers st.tables (listed_all b 0 st.tables items))) whole
    ∙ (λ i. beside st.store (batch_result (accepted 0 no_ops) (refusals_are b l items i) (relisted b st.tables (list_is b l items i))))
