-- The manager's own single calls agree with the machine's: where the machine's own causes do not apply, the first of all causes is the manager's.
use mathlib.Core.Path.{◌≡◌, refl, ap, ◌∙◌}
use mathlib.Core.Bool.{true}
use mathlib.Core.List.{List, [], ◌∷◌, ◌++◌}
use Prim.Native.Nat.{ℕ, zero, suc, ◌<◌}
use native.Mathlib.Omega.{arith}
use borrow.Author.Tests.{eq-eqb, lt-leb}
use lib.ListN.{drop}
use Rattle.board.specs.declared.Board.{Board}
use Rattle.board.specs.Board.{colour_of}
use Rattle.page_model.specs.Busy.{reading, writing}
use Rattle.page_model.specs.Table as table
use Rattle.mapping.specs.Lookup.{lookup, place_of, place_for}
use Rattle.manager.specs.Answers.{refused}
use Rattle.manager.specs.Calls.{Result, call_result, change_of, write_step, planned, step_result, list_result, commit_map, commit_unmap, plain_result, ended_tables}
use Rattle.manager.specs.Refusals.{Cause, first_refusal, place_in, refusal_place, in_order, offset_cause, table_causes, map_causes, page_causes, read_causes, write_causes, fetch_causes, transfer_causes, part_causes, word_causes, end_causes}
use Rattle.manager.specs.Tables.{refill}
use Rattle.cache.specs.Store.{WellFormedStore}
use Rattle.machine.specs.Scaffold.Plans.{store_causes, earlier}
use Rattle.machine.specs.Refusals.{buffer_right, own_causes, causes}
use Rattle.machine.specs.State.{State, page_frame, Single, map, unmap, read, write, device_read, device_write, device_write_part, evict, begin_read, begin_write, bring_word, take_word, end_transfer, fetch, single}
use Rattle.machine.specs.State as state_of
use Rattle.machine.specs.Step.{accept}
use Rattle.machine.proofs.MergeLaws.{own_place, merge, causes_merged}
use Rattle.machine.proofs.StepLaws.{step_refused, step_accepted}
use Rattle.machine.proofs.StoreLaws.{lengths_right_lem}
use Rattle.demands.specs.Manager.{Agrees, ManagerCall}

module _ (b : Board) (st : State) (call : Single) where
  -- a call that is its refusal, which leaves the tables, or what the machine's accepted call answers and leaves in them
  agrees : (r : ℕ → Result) → r 0 ≡ call_result (accept b st call).answer.outcome (accept b st call).after.tables
      → ((n : ℕ) → r (suc n) ≡ call_result (refused (suc n)) st.tables) → (n : ℕ) → first_refusal (causes b st call) ≡ n → Agrees b st call (r n)
  agrees r taken left zero e = taken ∙ ap (λ (x : state_of.Result). call_result x.answer.outcome x.after.tables) (step_accepted b st call e)
  agrees r taken left (suc n) e =
      left n ∙ ap (λ (x : state_of.Result). call_result x.answer.outcome x.after.tables) (step_refused b st call (suc n) (e, λ z. omega arith))

  -- Where no cause of the machine's own, `mine`, applies, the first is the manager's, of which the first two are those of the tables.
  managers_first : WellFormedStore b st.store → buffer_right b call ≡ true → (mine managers : List Cause) → in_order own_place mine ≡ true → in_order own_place (drop 2 managers) ≡ true
      → own_causes b st call ≡ merge mine (drop 2 managers) → first_refusal mine ≡ 0 → table_causes b st.tables ++ drop 2 managers ≡ managers
      → first_refusal (causes b st call) ≡ first_refusal managers
  unfolding first_refusal store_causes earlier
  managers_first wf buffer mine managers om on own clear all =
      let mine-clear : first_refusal (store_causes b st.store (buffer_right b call) ++ mine) ≡ 0 =
      rw (lengths_right_lem b st.store wf.memory_length wf.words_length wf.tags_length, buffer, wf.tags_rules) clear in
      causes_merged b st call mine (drop 2 managers) om on own ∙ ap (λ (n : ℕ). earlier n (first_refusal (table_causes b st.tables ++ drop 2 managers))) mine-clear ∙ ap first_refusal all

-- an offset in the page is no cause
offset_clear : (b : Board) (offset : ℕ) → offset < b.page → first_refusal (offset_cause b.page offset ∷ []) ≡ 0
unfolding first_refusal
offset_clear b offset h = rw (lt-leb b.page offset h)

-- a call that is a step of a frame's record, by its refusal
abbrev stepping : Board → State → ℕ → table.Step → ℕ → Result
stepping b st frame s n = step_result b st.tables (planned n (change_of b st.tables frame s))

pub single_agrees : (b : Board) (st : State) (call : Single) → WellFormedStore b st.store → ManagerCall b st (single call)
unfolding accept own_causes in_order refusal_place place_in first_refusal map_causes page_causes read_causes write_causes fetch_causes transfer_causes part_causes word_causes end_causes
single_agrees b st (map space page frame rights) wf =
    agrees b st (map space page frame rights)
    (λ n. list_result st.tables (λ place. commit_map b st.tables place (record { space = space; page = page; frame = frame; rights = rights })) (planned n (place_for st.tables.list space page)))
    refl (λ n. refl) _ (managers_first b st (map space page frame rights) wf refl [] (map_causes b st.tables space page frame rights) refl refl refl refl refl)
single_agrees b st (unmap space page) wf =
    agrees b st (unmap space page) (λ n. list_result st.tables (commit_unmap b st.tables) (planned n (place_of (lookup st.tables.list space page))))
    refl (λ n. refl) _ (managers_first b st (unmap space page) wf refl [] (page_causes b st.tables space page) refl refl refl refl refl)
single_agrees b st (read space page offset) wf = λ h.
    agrees b st (read space page offset) (stepping b st (page_frame st space page) (table.read (colour_of b page))) refl (λ n. refl) _
    (managers_first b st (read space page offset) wf refl (offset_cause b.page offset ∷ []) (read_causes b st.tables space page) refl refl refl (offset_clear b offset h) refl)
single_agrees b st (write space page offset word) wf = λ h.
    agrees b st (write space page offset word) (stepping b st (page_frame st space page) (table.write (colour_of b page))) refl (λ n. refl) _
    (managers_first b st (write space page offset word) wf refl (offset_cause b.page offset ∷ []) (write_causes b st.tables space page) refl refl refl (offset_clear b offset h) refl)
single_agrees b st (device_read frame buffer) wf = λ h.
    agrees b st (device_read frame buffer) (stepping b st frame table.device_read) refl (λ n. refl) _
    (managers_first b st (device_read frame buffer) wf (eq-eqb _ _ h) [] (transfer_causes b st.tables frame table.device_read) refl refl refl refl refl)
single_agrees b st (device_write frame buffer) wf = λ h.
    agrees b st (device_write frame buffer) (stepping b st frame table.device_write) refl (λ n. refl) _
    (managers_first b st (device_write frame buffer) wf (eq-eqb _ _ h) [] (transfer_causes b st.tables frame table.device_write) refl refl refl refl refl)
single_agrees b st (device_write_part frame first number buffer) wf = λ h.
    agrees b st (device_write_part frame first number buffer) (stepping b st frame (write_step b number)) refl (λ n. refl) _
    (managers_first b st (device_write_part frame first number buffer) wf (eq-eqb _ _ h) [] (part_causes b st.tables frame first number) refl refl refl refl refl)
single_agrees b st (evict line) wf = tt
single_agrees b st (begin_read frame) wf =
    agrees b st (begin_read frame) (stepping b st frame table.begin_read) refl (λ n. refl) _
    (managers_first b st (begin_read frame) wf refl [] (transfer_causes b st.tables frame table.begin_read) refl refl refl refl refl)
single_agrees b st (begin_write frame) wf =
    agrees b st (begin_write frame) (stepping b st frame table.begin_write) refl (λ n. refl) _
    (managers_first b st (begin_write frame) wf refl [] (transfer_causes b st.tables frame table.begin_write) refl refl refl refl refl)
single_agrees b st (bring_word frame offset word) wf =
    agrees b st (bring_word frame offset word) (λ n. plain_result n st.tables (refill b st.tables)) refl (λ n. refl) _
    (managers_first b st (bring_word frame offset word) wf refl [] (word_causes b st.tables frame offset writing) refl refl refl refl refl)
single_agrees b st (take_word frame offset) wf =
    agrees b st (take_word frame offset) (λ n. plain_result n st.tables (refill b st.tables)) refl (λ n. refl) _
    (managers_first b st (take_word frame offset) wf refl [] (word_causes b st.tables frame offset reading) refl refl refl refl refl)
single_agrees b st (end_transfer frame) wf =
    agrees b st (end_transfer frame) (λ n. plain_result n st.tables (ended_tables b st.tables frame)) refl (λ n. refl) _
    (managers_first b st (end_transfer frame) wf refl [] (end_causes b st.tables frame) refl refl refl refl refl)
single_agrees b st (fetch space page offset) wf = λ h.
    agrees b st (fetch space page offset) (stepping b st (page_frame st space page) (table.fetch (colour_of b page))) refl (λ n. refl) _
    (managers_first b st (fetch space page offset) wf refl (offset_cause b.page offset ∷ []) (fetch_causes b st.tables space page) refl refl refl (offset_clear b offset h) refl)
