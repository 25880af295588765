-- Demand 2: what an accepted call leaves.
use mathlib.Core.Path.{◌≡◌, refl, sym, ap, subst⁻¹, ◌∙◌}
use mathlib.Core.Bool.{true}
use mathlib.Core.List.{List}
use mathlib.Core.Logic.{◌↔◌}
use Prim.Native.Nat.{ℕ, ◌≤◌, ◌<◌}
use native.Mathlib.Omega.{arith}
use borrow.Author.Tests.{not-false, leb-false}
use lib.ListN.{length, get_or}
use Rattle.bits.proofs.Tautology.{and_left}
use Rattle.board.specs.declared.Board.{Board}
use Rattle.board.specs.Board.{Regular, colour_of, instruction_page}
use Rattle.board.proofs.Geometry.{colour_of_lt, data_page, instruction_page_lem}
use Rattle.page_model.specs.declared.FrameRecord.{FrameRecord}
use Rattle.page_model.specs.Record.{state_of, instruction_state_of, encode, freed}
use Rattle.page_model.specs.Step.{cell_of, instruction_cell_of, record_after, stepped}
use Rattle.page_model.specs.Table as table
use Rattle.page_model.specs.Theorems.{Idle}
use Rattle.page_model.proofs.Theorems.{few_operations, operations_below, state_after_lem, instruction_state_after}
use Rattle.mapping.specs.declared.MappingList.{MappingList}
use Rattle.mapping.specs.Entry.{capacity, is_rights, read_write, read_fetch, mapping_at}
use Rattle.manager.specs.Answers.{accepted}
use Rattle.manager.specs.Calls.{no_ops}
use Rattle.manager.specs.Refusals.{first_refusal}
use Rattle.manager.specs.Tables.{Tables, tables, record_at, put_record, lengths_right, rules_kept, protection_at, data_part, tabulate, refill}
use Rattle.manager.specs.Theorems.{WellFormedTables}
use Rattle.manager.proofs.AcceptedLaws.{lengths_known, records_rules}
use Rattle.manager.proofs.CauseLaws.{list_rules, record_rules}
use Rattle.manager.proofs.KeepsRules.{refill_keeps, step_keeps_lem, end_keeps, map_keeps, unmap_keeps}
use Rattle.manager.proofs.Laws.{get_d_tabulate}
use Rattle.manager.proofs.ProtectionBuffer.{refill_filled}
use Rattle.manager.proofs.RecordLaws.{record_at_put_record_same, record_at_put_record_other}
use Rattle.manager.proofs.Theorems.{read_protection, write_protection, fetch_protection}
use Rattle.cache.specs.Store as hardware
use Rattle.cache.proofs.Laws.Access.{access_kept, write_word_kept}
use Rattle.cache.proofs.Laws.Device.{device_write_kept, bring_word_kept}
use Rattle.cache.proofs.Laws.Evict.{evict_kept}
use Rattle.machine.specs.Refusals.{store_lengths, lent_causes, own_causes, buffer_right, causes}
use Rattle.machine.specs.State.{State, state, Single, map, unmap, read, write, device_read, device_write, device_write_part, evict, begin_read, begin_write, bring_word, take_word, end_transfer, fetch}
use Rattle.machine.specs.Parts.{Effect, steps, ends, nothing, effect_of, outcome_of, records_after, list_after, accessed, access_of}
use Rattle.cache.specs.Cache.{leaving}
use Rattle.machine.specs.Step.{operate_by, carry_out_by, carry_out, tables_left, accept, step}
use Rattle.machine.proofs.StoreLaws.{carry_out_kept}
use Rattle.machine.proofs.StepLaws.{cleared, lengths_clear, store_clear, tables_clear, buffer_length, Tested, effect_tested, part_ready, evict_ready, step_accepted}
use Rattle.consistency.proofs.Map.{map_clear}
use Rattle.demands.specs.Demands.{ByTable, ByEnd, Modelled, Left}
use Rattle.demands.proofs.Instructions.{instruction_cache_after}

module _ (b : Board) (st : State) (call : Single) (e : first_refusal (causes b st call) ≡ 0) where
  -- an accepted call was lent tables of their lengths that keep the rules
  pub tables_lent : WellFormedTables b st.tables
  tables_lent =
      (and_left (lengths_right b st.tables) (store_lengths b st.store) (and_left _ (buffer_right b call) (lengths_clear b st call e)), tables_clear b st call e)

-- ---- the tables

-- the records after an effect, with the list as it was
effect_keeps : (b : Board) (t : Tables) → WellFormedTables b t → (x : Effect) → Tested b t.records x
    → WellFormedTables b (refill b (tables t.list (records_after b t.records x) t.protections))
effect_keeps b t w (steps f s) r = step_keeps_lem b t w f s r.0 r.1
effect_keeps b t w (ends f) r = end_keeps b t w f r
effect_keeps b t w nothing r =
    let n = lengths_known b t w.0 in
    refill_keeps b t n.0 n.1 n.2 (list_rules b t w.1) (records_rules b t w.1)

module _ (b : Board) (st : State) where
  pub tables_after_lem : (call : Single) → first_refusal (causes b st call) ≡ 0 → WellFormedTables b (accept b st call).after.tables
  unfolding accept causes
  tables_after_lem call e = go call e (effect_keeps b st.tables (tables_lent b st call e) (effect_of b st call) (effect_tested b st call e))
    where
      -- but for two calls the list stays
      go : (call : Single) → first_refusal (causes b st call) ≡ 0
          → WellFormedTables b (refill b (tables st.tables.list (records_after b st.tables.records (effect_of b st call)) st.tables.protections))
          → WellFormedTables b (tables_left b st call)
      go (map space page frame rights) e w =
          let a = map_clear b st (record { space = space; page = page; frame = frame; rights = rights }) e in map_keeps b st.tables a.0 _ a.1 a.2 a.3
      go (unmap space page) e w =
          unmap_keeps b st.tables (tables_lent b st (unmap space page) e) space page (not-false _ (cleared b st (unmap space page) 8 e))
      go (read space page offset) e w = w
      go (write space page offset word) e w = w
      go (device_read frame buffer) e w = w
      go (device_write frame buffer) e w = w
      go (device_write_part frame first number buffer) e w = w
      go (evict line) e w = w
      go (begin_read frame) e w = w
      go (begin_write frame) e w = w
      go (bring_word frame offset word) e w = w
      go (take_word frame offset) e w = w
      go (end_transfer frame) e w = w
      go (fetch space page offset) e w = w

-- ---- memory and cache

-- the store after an effect's orders
effect_ordered : (b : Board) → Regular b → (st : State) → WellFormedTables b st.tables → hardware.WellFormedStore b st.store
    → (x : Effect) → Tested b st.tables.records x → hardware.WellFormedStore b (carry_out b (outcome_of b st.tables.records x) st.store)
unfolding carry_out_by operate_by
effect_ordered b reg st w kept (steps f s) r =
    let below = operations_below b.colours s (record_at st.tables.records f) in
    carry_out_kept b reg leaving f r.0 (stepped b.colours s (record_at st.tables.records f)).ops below.1 below.2 st.store kept
effect_ordered b reg st w kept (ends f) r = kept
effect_ordered b reg st w kept nothing r = kept

module _ (b : Board) (reg : Regular b) (st : State) where
  pub store_after : (call : Single) → first_refusal (causes b st call) ≡ 0 → hardware.WellFormedStore b (accept b st call).after.store
  unfolding accept causes
  store_after call e =
      go call e (carry_out b (outcome_of b st.tables.records (effect_of b st call)) st.store)
      (effect_ordered b reg st (tables_lent b st call e) (store_clear b st call e) (effect_of b st call) (effect_tested b st call e))
    where
      -- the access, in the store that the orders leave
      go : (call : Single) → first_refusal (causes b st call) ≡ 0 → (s : hardware.Store) → hardware.WellFormedStore b s → hardware.WellFormedStore b (access_of b st call s).store
      go (map space page frame rights) e s w = w
      go (unmap space page) e s w = w
      go (read space page offset) e s w =
          access_kept b reg _ (colour_of b page) offset (effect_tested b st (read space page offset) e).0 (data_page b reg _ (colour_of_lt b reg page))
          (leb-false b.page offset (cleared b st (read space page offset) 6 e)) s w
      go (write space page offset word) e s w =
          write_word_kept b reg _ (colour_of b page) offset (effect_tested b st (write space page offset word) e).0 (data_page b reg _ (colour_of_lt b reg page))
          (leb-false b.page offset (cleared b st (write space page offset word) 6 e)) s w (colour_of_lt b reg page) word
      go (device_read frame buffer) e s w = w
      go (device_write frame buffer) e s w =
          let long = buffer_length b st (device_write frame buffer) buffer b.page refl e in
          device_write_kept b reg frame (effect_tested b st (device_write frame buffer) e).0 s w 0 buffer (omega arith)
      go (device_write_part frame first number buffer) e s w =
          let r = part_ready b st frame first number buffer e in
          let long = r.0 in
          let inside = r.2 in
          device_write_kept b reg frame (effect_tested b st (device_write_part frame first number buffer) e).0 s w first buffer (omega arith)
      go (evict line) e s w = evict_kept b reg s w line (evict_ready b st line e).1
      go (begin_read frame) e s w = w
      go (begin_write frame) e s w = w
      go (bring_word frame offset word) e s w =
          let call = bring_word frame offset word in
          bring_word_kept b reg frame (leb-false b.frames frame (cleared b st call 4 e)) s w offset word (leb-false b.page offset (cleared b st call 6 e))
      go (take_word frame offset) e s w = w
      go (end_transfer frame) e s w = w
      go (fetch space page offset) e s w =
          access_kept b reg _ (instruction_page b (colour_of b page)) offset (effect_tested b st (fetch space page offset) e).0 (instruction_page_lem b reg _ (colour_of_lt b reg page))
          (leb-false b.page offset (cleared b st (fetch space page offset) 6 e)) s w

-- ---- orders and states

-- whatever becomes of the list
module _ (b : Board) (t : Tables) (w : WellFormedTables b t) (f : ℕ) (h : f < b.frames) (list : MappingList) where
  pub stepped_by : (s : table.Step)
      → let change = stepped b.colours s (record_at t.records f) in
      ByTable b t (refill b (tables list (put_record t.records f change.next) t.protections)) (accepted f change.ops) f s
  unfolding refill cell_of instruction_cell_of record_after encode
  stepped_by s =
      let change = stepped b.colours s (record_at t.records f) in
      let kept = record_rules b t w.1 f h in
      let n = lengths_known b t w.0 in
      record {
        few = (few_operations b.colours s (record_at t.records f) kept).0;
        ordered = refl;
        states = λ k hk. ap (λ (r : FrameRecord). state_of r k) (record_at_put_record_same t.records f change.next (omega arith)) ∙ state_after_lem b.colours s (record_at t.records f) kept k hk;
        instructions = λ k hk. ap (λ (r : FrameRecord). instruction_state_of r k) (record_at_put_record_same t.records f change.next (omega arith)) ∙ instruction_state_after b.colours s (record_at t.records f) kept k hk;
        mark = ap (λ (r : FrameRecord). r.busy) (record_at_put_record_same t.records f change.next (omega arith));
        others = λ g ne. record_at_put_record_other t.records f change.next g ne;
      }

  pub ended_by : ByEnd t (refill b (tables list (put_record t.records f (freed (record_at t.records f))) t.protections)) (accepted 0 no_ops) f
  unfolding refill
  ended_by =
      let n = lengths_known b t w.0 in
      let next = freed (record_at t.records f) in
      record {
        ordered = refl;
        unmarked = record_at_put_record_same t.records f next (omega arith);
        others = λ g ne. record_at_put_record_other t.records f next g ne;
      }

module _ (b : Board) (st : State) where
  pub modelled_after : (call : Single) → first_refusal (causes b st call) ≡ 0
      → Modelled b st.tables (accept b st call).after.tables (accept b st call).answer.outcome (effect_of b st call)
  unfolding accept refill
  modelled_after call e = go (effect_of b st call) (effect_tested b st call e)
    where
      w : WellFormedTables b st.tables
      w = tables_lent b st call e

      go : (x : Effect) → Tested b st.tables.records x
          → Modelled b st.tables (refill b (tables (list_after st.tables.list call) (records_after b st.tables.records x) st.tables.protections)) (outcome_of b st.tables.records x) x
      go (steps f s) r = stepped_by b st.tables w f r.0 (list_after st.tables.list call) s
      go (ends f) r = ended_by b st.tables w f r (list_after st.tables.list call)
      go nothing r = (refl, refl)

-- ---- list, memory and cache

module _ (b : Board) (st : State) (call : Single) where
  pub listed_after : (accept b st call).after.tables.list ≡ list_after st.tables.list call
  unfolding accept refill
  listed_after = refl

  pub made_after : accessed (accept b st call).answer.word (accept b st call).answer.buffer (accept b st call).after.store
      ≡ access_of b st call (carry_out b (accept b st call).answer.outcome st.store)
  unfolding accept
  made_after = refl

-- ---- protections

-- the protections are those that list and records give
abbrev Agreeing : Board → Tables → Type 0
Agreeing b t = t.protections ≡ tabulate capacity (protection_at b t.list t.records)

module _ (b : Board) (st : State) where
  pub protections_after : (call : Single) → first_refusal (causes b st call) ≡ 0 → Agreeing b (accept b st call).after.tables
  unfolding accept
  protections_after call e = (refill_filled b _ (lengths_known b st.tables (tables_lent b st call e).0).2).0

  -- what they held before is not read
  module _ (ps : List ℕ) (same : length ps ≡ length st.tables.protections) where
    abbrev other : State
    other = state (tables st.tables.list st.tables.records ps) st.store

    causes_same : (call : Single) → causes b other call ≡ causes b st call
    unfolding causes lent_causes own_causes lengths_right rules_kept
    causes_same call = rw same

    accept_same : (call : Single) → accept b other call ≡ accept b st call
    unfolding accept refill
    accept_same call = rw same

    pub unread_after : (call : Single) → first_refusal (causes b st call) ≡ 0 → step b other call ≡ step b st call
    unread_after call e = sym (step_accepted b other call (ap first_refusal (causes_same call) ∙ e)) ∙ accept_same call ∙ step_accepted b st call e

-- a listed mapping's byte is its protection
module _ (b : Board) (t : Tables) (w : WellFormedTables b t) (agree : Agreeing b t) (i : ℕ) (listed : i < t.list.count) where
  pub byte_at : get_or t.protections i 0 ≡ protection_at b t.list t.records i
  byte_at =
      let room = (list_rules b t w.1).count_le in
      ap (λ (l : List ℕ). get_or l i 0) agree ∙ get_d_tabulate capacity (protection_at b t.list t.records) i (omega arith)

-- ---- all of it

module _ (b : Board) (reg : Regular b) (st : State) (call : Single) (e : first_refusal (causes b st call) ≡ 0) where
  pub left : Left b st call (accept b st call).after (accept b st call).answer
  left =
      let w = tables_after_lem b st call e in
      let agree = protections_after b st call e in
      let t = (accept b st call).after.tables in
      record {
        tables_kept = w;
        store_kept = store_after b reg st call e;
        modelled = modelled_after b st call e;
        list_left = listed_after b st call;
        made = made_after b st call;
        instruction_cache = instruction_cache_after b reg st call e (effect_ordered b reg st (tables_lent b st call e) (store_clear b st call e) (effect_of b st call) (effect_tested b st call e));
        protections = agree;
        unread = λ ps same. unread_after b st ps same call e;
        read_passes = λ i h.
            subst⁻¹ (λ (p : ℕ). (1 ≤ data_part p) ↔ ((is_rights (mapping_at t.list i).rights ≡ true) × Idle b.colours (table.read (colour_of b (mapping_at t.list i).page)) (record_at t.records (mapping_at t.list i).frame)))
            (byte_at b t w agree i h) (read_protection b t i reg w h);
        write_passes = λ i h.
            subst⁻¹ (λ (p : ℕ). (2 ≤ data_part p) ↔ (((mapping_at t.list i).rights ≡ read_write) × Idle b.colours (table.write (colour_of b (mapping_at t.list i).page)) (record_at t.records (mapping_at t.list i).frame)))
            (byte_at b t w agree i h) (write_protection b t i reg w h);
        fetch_passes = λ i h.
            subst⁻¹ (λ (p : ℕ). (4 ≤ p) ↔ (((mapping_at t.list i).rights ≡ read_fetch) × Idle b.colours (table.fetch (colour_of b (mapping_at t.list i).page)) (record_at t.records (mapping_at t.list i).frame)))
            (byte_at b t w agree i h) (fetch_protection b t i reg w h);
      }
