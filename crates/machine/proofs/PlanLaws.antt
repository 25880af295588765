-- Each call's plan, by the machine's own refusal and the manager's plan, and the refusal of a call that has none. Of the manager's causes the first
-- two are those of the tables.
use mathlib.Core.Path.{◌≡◌, refl, sym, ap₂, ◌∙◌}
use mathlib.Core.Bool.{Bool, true, false}
use mathlib.Core.List.{List, [], ◌∷◌, ◌++◌}
use Prim.Native.Nat.{ℕ}
use lib.Dec.{eqb}
use lib.ListN.{length, drop}
use Rattle.board.specs.declared.Board.{Board}
use Rattle.board.specs.Board.{lines, colour_of}
use Rattle.page_model.specs.Busy.{reading, writing}
use Rattle.page_model.specs.Table as table
use Rattle.mapping.specs.Entry.{capacity}
use Rattle.mapping.specs.Lookup.{lookup, place_of, place_for}
use Rattle.mapping.specs.Rules.{keeps_rules}
use Rattle.manager.specs.Calls.{Plan, ListPlan, change_of, plan_access, write_step, plan_map, plan_unmap, plan_read, plan_write, plan_fetch, plan_transfer, plan_device_write_part}
use Rattle.manager.specs.Refusals.{Cause, first_refusal, refusal_place, in_order, table_causes, frame_cause, offset_cause, word_cause, end_cause, map_causes, page_causes, read_causes, write_causes, fetch_causes, transfer_causes, part_causes}
use Rattle.manager.specs.Scaffold.Told.{told_tables}
use Rattle.manager.proofs.CauseLaws.{told_tables_lem, told_own}
use Rattle.machine.specs.Refusals.{own_causes, causes}
use Rattle.machine.specs.State.{State, page_frame, map, unmap, read, write, device_read, device_write_part, evict, bring_word, take_word, end_transfer, fetch}
use Rattle.machine.specs.Scaffold.Plans.{store_causes, access_causes, earlier, with_own, plan_call, begins, begin_step}
use Rattle.machine.specs.declared.accesses.Cache.{Cache}
use Rattle.machine.specs.declared.accesses.Cache.TheVariants.{Data, Instructions}
use Rattle.machine.specs.Scaffold.Loads.{access_through, load_step, loads}
use Rattle.machine.proofs.MergeLaws.{causes_merged, plan_merged}

module _ (b : Board) (st : State) {own : ℕ} where
  pub map_planned : (space page frame rights : ℕ) {plan with : ListPlan} → with ≡ with_own own plan → own ≡ first_refusal (store_causes b st.store true)
      → plan ≡ plan_map b st.tables space page frame rights → with ≡ plan_call b st (map space page frame rights) (place_for st.tables.list space page)
  unfolding in_order refusal_place own_causes store_causes map_causes
  map_planned space page frame rights = plan_merged _ _ _ [] (drop 2 (map_causes b st.tables space page frame rights)) refl refl refl _

  pub unmap_planned : (space page : ℕ) {plan with : ListPlan} → with ≡ with_own own plan → own ≡ first_refusal (store_causes b st.store true)
      → plan ≡ plan_unmap b st.tables space page → with ≡ plan_call b st (unmap space page) (place_of (lookup st.tables.list space page))
  unfolding in_order refusal_place own_causes store_causes page_causes
  unmap_planned space page = plan_merged _ _ _ [] (drop 2 (page_causes b st.tables space page)) refl refl refl _

  pub read_planned : (space page offset : ℕ) {plan with : Plan} → with ≡ with_own own plan → own ≡ first_refusal (access_causes b st.store b.page offset)
      → plan ≡ plan_read b st.tables space page
      → with ≡ plan_call b st (read space page offset) (change_of b st.tables (page_frame st space page) (table.read (colour_of b page)))
  unfolding in_order refusal_place own_causes access_causes read_causes
  read_planned space page offset =
      plan_merged _ _ _ (offset_cause b.page offset ∷ []) (drop 2 (read_causes b st.tables space page)) refl refl refl _

  pub write_planned : (space page offset word : ℕ) {plan with : Plan} → with ≡ with_own own plan → own ≡ first_refusal (access_causes b st.store b.page offset)
      → plan ≡ plan_write b st.tables space page
      → with ≡ plan_call b st (write space page offset word) (change_of b st.tables (page_frame st space page) (table.write (colour_of b page)))
  unfolding in_order refusal_place own_causes access_causes write_causes
  write_planned space page offset word =
      plan_merged _ _ _ (offset_cause b.page offset ∷ []) (drop 2 (write_causes b st.tables space page)) refl refl refl _

  pub fetch_planned : (space page offset : ℕ) {plan with : Plan} → with ≡ with_own own plan → own ≡ first_refusal (access_causes b st.store b.page offset)
      → plan ≡ plan_fetch b st.tables space page
      → with ≡ plan_call b st (fetch space page offset) (change_of b st.tables (page_frame st space page) (table.fetch (colour_of b page)))
  unfolding in_order refusal_place own_causes access_causes fetch_causes
  fetch_planned space page offset =
      plan_merged _ _ _ (offset_cause b.page offset ∷ []) (drop 2 (fetch_causes b st.tables space page)) refl refl refl _

  -- a read and a fetch alike
  pub load_planned : (cache : Cache) (space page offset : ℕ) {plan with : Plan} → with ≡ with_own own plan → own ≡ first_refusal (access_causes b st.store b.page offset)
      → plan ≡ plan_access b st.tables space page (access_through cache)
      → with ≡ plan_call b st (loads cache space page offset) (change_of b st.tables (page_frame st space page) (load_step cache (colour_of b page)))
  load_planned Data = read_planned
  load_planned Instructions = fetch_planned

  pub device_read_planned : (frame : ℕ) (buffer : List ℕ) {plan with : Plan} → with ≡ with_own own plan → own ≡ first_refusal (store_causes b st.store (eqb (length buffer) b.page))
      → plan ≡ plan_transfer b st.tables frame table.device_read → with ≡ plan_call b st (device_read frame buffer) (change_of b st.tables frame table.device_read)
  unfolding in_order refusal_place own_causes store_causes transfer_causes
  device_read_planned frame buffer = plan_merged _ _ _ [] (drop 2 (transfer_causes b st.tables frame table.device_read)) refl refl refl _

  pub part_planned : (frame first number : ℕ) (buffer : List ℕ) {plan with : Plan} → with ≡ with_own own plan
      → own ≡ first_refusal (store_causes b st.store (eqb (length buffer) number))
      → plan ≡ plan_device_write_part b st.tables frame first number
      → with ≡ plan_call b st (device_write_part frame first number buffer) (change_of b st.tables frame (write_step b number))
  unfolding in_order refusal_place own_causes store_causes part_causes
  part_planned frame first number buffer =
      plan_merged _ _ _ [] (drop 2 (part_causes b st.tables frame first number)) refl refl refl _

  pub begin_planned : (frame : ℕ) (writes : Bool) {plan with : Plan} → with ≡ with_own own plan → own ≡ first_refusal (store_causes b st.store true)
      → plan ≡ plan_transfer b st.tables frame (begin_step writes) → with ≡ plan_call b st (begins writes frame) (change_of b st.tables frame (begin_step writes))
  unfolding in_order refusal_place own_causes store_causes transfer_causes
  begin_planned frame true = plan_merged _ _ _ [] (drop 2 (transfer_causes b st.tables frame table.begin_write)) refl refl refl _
  begin_planned frame false = plan_merged _ _ _ [] (drop 2 (transfer_causes b st.tables frame table.begin_read)) refl refl refl _

-- ---- the calls that have a refusal and no plan: the manager was told whether the list keeps its rules

abbrev told_refusal : Board → State → Bool → List Cause → ℕ
told_refusal b st kept cs = first_refusal (told_tables b kept st.tables.records st.tables.protections ++ cs)

module _ (b : Board) (st : State) {kept : Bool} (long : length st.tables.list.items ≡ capacity) (e : kept ≡ keeps_rules b st.tables.list) where
  pub lent_refused : {own managers refusal : ℕ} → refusal ≡ earlier own managers → own ≡ first_refusal (store_causes b st.store true)
      → managers ≡ first_refusal (told_tables b kept st.tables.records st.tables.protections)
      → refusal ≡ earlier (first_refusal (store_causes b st.store true)) (first_refusal (table_causes b st.tables))
  lent_refused er eo em = er ∙ ap₂ earlier eo (em ∙ told_tables_lem b st.tables.list _ _ long e)

  pub evict_refused : (line : ℕ) {own managers refusal : ℕ} → refusal ≡ earlier own managers → own ≡ first_refusal (access_causes b st.store (lines b) line)
      → managers ≡ first_refusal (told_tables b kept st.tables.records st.tables.protections) → refusal ≡ first_refusal (causes b st (evict line))
  unfolding in_order refusal_place own_causes access_causes table_causes
  evict_refused line er eo em =
      er ∙ ap₂ earlier eo (em ∙ told_tables_lem b st.tables.list _ _ long e) ∙ sym (causes_merged b st (evict line) (offset_cause (lines b) line ∷ []) [] refl refl refl)

  pub bring_refused : (frame offset word : ℕ) {own managers refusal : ℕ} → refusal ≡ earlier own managers → own ≡ first_refusal (store_causes b st.store true)
      → managers ≡ told_refusal b st kept (frame_cause b frame ∷ offset_cause b.page offset ∷ word_cause st.tables.records frame writing ∷ [])
      → refusal ≡ first_refusal (causes b st (bring_word frame offset word))
  unfolding in_order refusal_place own_causes store_causes
  bring_refused frame offset word er eo em =
      er ∙ ap₂ earlier eo (em ∙ told_own b st.tables.list _ _ _ long e)
      ∙ sym (causes_merged b st (bring_word frame offset word) [] (frame_cause b frame ∷ offset_cause b.page offset ∷ word_cause st.tables.records frame writing ∷ []) refl refl refl)

  pub take_refused : (frame offset : ℕ) {own managers refusal : ℕ} → refusal ≡ earlier own managers → own ≡ first_refusal (store_causes b st.store true)
      → managers ≡ told_refusal b st kept (frame_cause b frame ∷ offset_cause b.page offset ∷ word_cause st.tables.records frame reading ∷ [])
      → refusal ≡ first_refusal (causes b st (take_word frame offset))
  unfolding in_order refusal_place own_causes store_causes
  take_refused frame offset er eo em =
      er ∙ ap₂ earlier eo (em ∙ told_own b st.tables.list _ _ _ long e)
      ∙ sym (causes_merged b st (take_word frame offset) [] (frame_cause b frame ∷ offset_cause b.page offset ∷ word_cause st.tables.records frame reading ∷ []) refl refl refl)

  pub end_refused : (frame : ℕ) {own managers refusal : ℕ} → refusal ≡ earlier own managers → own ≡ first_refusal (store_causes b st.store true)
      → managers ≡ told_refusal b st kept (frame_cause b frame ∷ end_cause st.tables.records frame ∷ []) → refusal ≡ first_refusal (causes b st (end_transfer frame))
  unfolding in_order refusal_place own_causes store_causes
  end_refused frame er eo em =
      er ∙ ap₂ earlier eo (em ∙ told_own b st.tables.list _ _ _ long e)
      ∙ sym (causes_merged b st (end_transfer frame) [] (frame_cause b frame ∷ end_cause st.tables.records frame ∷ []) refl refl refl)
