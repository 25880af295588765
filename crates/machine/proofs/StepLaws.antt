-- What a plan tells of a call: where it is a refusal, the call's answer; where it is a change, what the call is ready for and what it leaves.
-- Each law is over any call of its shape.
use mathlib.Core.Path.{◌≡◌, refl, sym, ap, ap₂, subst, ◌∙◌}
use mathlib.Core.Bool.{Bool, true, false, not, cond, ◌&&◌, ◌||◌, true≢false}
use mathlib.Core.List.{List, []}
use mathlib.Core.Option.{Option, none}
use Prim.Native.Nat.{ℕ, zero, suc, ◌+◌, ◌≤◌, ◌<◌}
use native.Mathlib.Omega.{arith}
use borrow.Author.Tests.{not-false, leb-false, ltb-false, eqb-true, eqb-false}
use lib.Dec.{eqb, leb, ltb}
use lib.ListN.{length}
use Rattle.bits.proofs.Tautology.{and_left, and_right}
use Rattle.board.specs.declared.Board.{Board}
use Rattle.board.specs.Board.{Regular, cache_pages, lines}
use Rattle.page_model.specs.Busy.{bars}
use Rattle.page_model.specs.Table as table
use Rattle.page_model.proofs.Theorems.{operations_below}
use Rattle.mapping.specs.declared.MappingList.{MappingList}
use Rattle.manager.specs.declared.Change.{Change}
use Rattle.std.proofs.Common.{Ok, Err}
use Rattle.std.proofs.Common as std
use Rattle.std.proofs.lemmas.Result.{err_from_is_err_and}
use Rattle.std.specs.Result.{IsErrAnd}
use Rattle.manager.specs.declared.FrameOps.{FrameOps}
use Rattle.manager.specs.declared.refusal.Refusal.{Refusal}
use Rattle.manager.specs.Answers.{Outcome, refused, refusal_number, accepted, outcome}
use Rattle.manager.specs.Calls.{no_ops, list_outcome, list_left, planned, change_of, write_step, commit_change}
use Rattle.manager.specs.Refusals.{first_refusal, place_in, refusal_place, in_order, out_of_page}
use Rattle.manager.specs.Tables.{Tables, tables, lengths_right, rules_kept, record_at}
use Rattle.manager.specs.Theorems.{WellFormedTables}
use Rattle.manager.proofs.CauseLaws.{some_number, NoneApplies, none_refused, applies_in, cleared_in, mapped_range}
use Rattle.manager.proofs.FirstRefusal.{in_order_numbered}
use Rattle.cache.specs.Store.{Store, WellFormedStore}
use Rattle.cache.specs.Tag.{tags_keep_rules}
use Rattle.machine.specs.Scaffold.Ready.{OperationsReady, AccessReady, TransferReady, PartReady}
use Rattle.machine.specs.Refusals.{store_lengths, buffer_right, own_causes, causes}
use Rattle.machine.specs.State.{State, state, Single, map, unmap, read, write, device_read, device_write, device_write_part, evict, begin_read, begin_write, bring_word, take_word, end_transfer, fetch, Result, lent_buffer}
use Rattle.machine.specs.Parts.{Effect, steps, ends, nothing, effect_of, outcome_of, Access, accessed, access_of}
use Rattle.machine.specs.declared.Loaded.{Loaded}
use Rattle.machine.specs.Step.{loaded, operate_by, carry_out_by, carry_out, answer, result_of, tables_left, accept, step}
use Rattle.machine.specs.Scaffold.Plans.{plan_call}
use Rattle.machine.proofs.StoreLaws.{lengths_right_lem, well_formed}

-- ---- a plan that was made

planned_made : (n : ℕ) {A : Type 0} (made told : A) → planned n made ≡ Ok told → (n ≡ 0) × (made ≡ told)
planned_made zero made told e = (refl, cc)
planned_made (suc n) made told e = absurd (let z : ◌≡◌ {A = ℕ} 0 1 = cc in omega arith)

planned_refusal : (n k : ℕ) {A : Type 0} (made : A) → planned n made ≡ Err k → (n ≡ k) × (n ≡ 0 → ⊥)
planned_refusal zero k made e = absurd (let z : ◌≡◌ {A = ℕ} 0 1 = cc in omega arith)
planned_refusal (suc n) k made e = (cc, λ z. omega arith)

-- ---- a step, by its refusal

module _ (b : Board) (st : State) (call : Single) where
  pub step_refused : (k : ℕ) → (first_refusal (causes b st call) ≡ k) × (first_refusal (causes b st call) ≡ 0 → ⊥)
      → result_of (answer (refused k) none (lent_buffer call)) st ≡ step b st call
  unfolding step
  step_refused k h = go (first_refusal (causes b st call)) h.0 h.1
    where
      go : (n : ℕ) → n ≡ k → (n ≡ 0 → ⊥)
          → result_of (answer (refused k) none (lent_buffer call)) st
          ≡ (elim n as (λ m. Result) [ zero ↦ accept b st call | suc m ↦ result_of (answer (refused (suc m)) none (lent_buffer call)) st ])
      go zero e h = absurd (h refl)
      go (suc n) e h = ap (λ (m : ℕ). result_of (answer (refused m) none (lent_buffer call)) st) (sym e)

  pub step_accepted : first_refusal (causes b st call) ≡ 0 → accept b st call ≡ step b st call
  unfolding step
  step_accepted e =
      ap (λ (n : ℕ). elim n as (λ m. Result) [ zero ↦ accept b st call | suc m ↦ result_of (answer (refused (suc m)) none (lent_buffer call)) st ]) (sym e)

  -- the causes stand in the order of the refusals
  pub causes_in_order : in_order 0 (causes b st call) ≡ true
  unfolding causes in_order refusal_place place_in
  causes_in_order = go call
    where
      go : (call : Single) → in_order 0 (causes b st call) ≡ true
      go (map space page frame rights) = refl
      go (unmap space page) = refl
      go (read space page offset) = refl
      go (write space page offset word) = refl
      go (device_read frame buffer) = refl
      go (device_write frame buffer) = refl
      go (device_write_part frame first number buffer) = refl
      go (evict line) = refl
      go (begin_read frame) = refl
      go (begin_write frame) = refl
      go (bring_word frame offset word) = refl
      go (take_word frame offset) = refl
      go (end_transfer frame) = refl
      go (fetch space page offset) = refl

  -- no refusal: no cause applies, whatever its number
  pub cleared : (n : ℕ) → first_refusal (causes b st call) ≡ 0 → applies_in n (causes b st call) ≡ false
  cleared n e = cleared_in (causes b st call) n (in_order_numbered 0 (causes b st call) causes_in_order) e

  -- and where tables, store and buffer are in order, and no cause of the call's own applies, there is no refusal
  pub own_clear : WellFormedTables b st.tables → WellFormedStore b st.store → buffer_right b call ≡ true → NoneApplies (own_causes b st call) → first_refusal (causes b st call) ≡ 0
  unfolding causes
  own_clear kept_tables kept buffer rest =
      none_refused (causes b st call) (
        ap not (ap₂ ◌&&◌ (ap₂ ◌&&◌ kept_tables.0 (lengths_right_lem b st.store kept.memory_length kept.words_length kept.tags_length)) buffer),
        (ap not (ap₂ ◌&&◌ kept_tables.1 kept.tags_rules), rest),
      )

  pub lengths_clear : first_refusal (causes b st call) ≡ 0 → (lengths_right b st.tables && store_lengths b st.store && buffer_right b call) ≡ true
  unfolding causes
  lengths_clear e = not-false _ (cleared 1 e)

  pub rules_clear : first_refusal (causes b st call) ≡ 0 → (rules_kept b st.tables && tags_keep_rules b st.store.tags) ≡ true
  unfolding causes
  rules_clear e = not-false _ (cleared 2 e)

  pub store_clear : first_refusal (causes b st call) ≡ 0 → WellFormedStore b st.store
  store_clear e =
      well_formed b st.store
      (and_right (lengths_right b st.tables) _ (and_left _ (buffer_right b call) (lengths_clear e)))
      (and_right (rules_kept b st.tables) _ (rules_clear e))

  pub tables_clear : first_refusal (causes b st call) ≡ 0 → rules_kept b st.tables ≡ true
  tables_clear e = and_left _ (tags_keep_rules b st.store.tags) (rules_clear e)

  -- a device's buffer has the length that is tested
  pub buffer_length : (buffer : List ℕ) (number : ℕ) → buffer_right b call ≡ eqb (length buffer) number → first_refusal (causes b st call) ≡ 0 → length buffer ≡ number
  buffer_length buffer number tested e =
      eqb-true (length buffer) number (sym tested ∙ and_right (lengths_right b st.tables && store_lengths b st.store) _ (lengths_clear e))

-- ---- what an accepted call has tested of the frame whose record it changes

-- the frame is one of the board's, and its mark does not bar a step
abbrev pub Tested : Board → List ℕ → Effect → Type 0
Tested b records (steps f s) = (f < b.frames) × (bars (record_at records f).busy s ≡ false)
Tested b records (ends f) = f < b.frames
Tested b records nothing = Unit {0}

-- a mark bars a write of a part and of a page alike
part_barred : (mark : ℕ) (fewer : Bool) → bars mark table.device_write_part ≡ false → bars mark (cond fewer table.device_write_part table.device_write) ≡ false
part_barred mark true e = e
part_barred mark false e = e

module _ (b : Board) (st : State) where
  pub effect_tested : (call : Single) → first_refusal (causes b st call) ≡ 0 → Tested b st.tables.records (effect_of b st call)
  unfolding causes
  effect_tested call e = go call (tables_clear b st call e) (λ n. cleared b st call n e)
    where
      go : (call : Single) → rules_kept b st.tables ≡ true → ((n : ℕ) → applies_in n (causes b st call) ≡ false)
          → Tested b st.tables.records (effect_of b st call)
      go (map space page frame rights) kept clear = tt
      go (unmap space page) kept clear = tt
      go (read space page offset) kept clear = ((mapped_range b st.tables kept space page (not-false _ (clear 8))).frame_lt, clear 15)
      go (write space page offset word) kept clear = ((mapped_range b st.tables kept space page (not-false _ (clear 8))).frame_lt, clear 15)
      go (device_read frame buffer) kept clear = (leb-false b.frames frame (clear 4), clear 15)
      go (device_write frame buffer) kept clear = (leb-false b.frames frame (clear 4), clear 15)
      go (device_write_part frame first number buffer) kept clear = (leb-false b.frames frame (clear 4), part_barred _ (ltb number b.page) (clear 15))
      go (evict line) kept clear = tt
      go (begin_read frame) kept clear = (leb-false b.frames frame (clear 4), clear 15)
      go (begin_write frame) kept clear = (leb-false b.frames frame (clear 4), clear 15)
      go (bring_word frame offset word) kept clear = tt
      go (take_word frame offset) kept clear = tt
      go (end_transfer frame) kept clear = leb-false b.frames frame (clear 4)
      go (fetch space page offset) kept clear = ((mapped_range b st.tables kept space page (not-false _ (clear 8))).frame_lt, clear 15)

-- the operations of a change
abbrev pub ops_of : Change → FrameOps
ops_of change = record { frame = change.frame; ops = change.ops }

-- ---- what the machine's functions require of a call that is a step of a frame's record

module _ (b : Board) (st : State) (call : Single) (f : ℕ) (s : table.Step) (is : effect_of b st call ≡ steps f s) where
  -- the operations of the change that is told are what `carry_out` requires
  pub step_requires : {change : Change} {o : FrameOps} → Regular b → o ≡ ops_of change → plan_call b st call (change_of b st.tables f s) ≡ Ok change
      → OperationsReady b st.store o.frame o.ops
  step_requires {change} reg eo p =
      let q = planned_made _ _ change p in
      let tested = subst (Tested b st.tables.records) is (effect_tested b st call q.0) in
      let below = operations_below b.colours s (record_at st.tables.records f) in
      subst (λ (m : FrameOps). OperationsReady b st.store m.frame m.ops) (ap ops_of q.1 ∙ sym eo)
      (store_clear b st call q.0, tested.0, below.1, below.2, reg)

  -- with an offset and a page of the caches, what `load` and `put` require
  pub access_requires : {change : Change} {o : FrameOps} {colour : ℕ} (offset : ℕ) → Regular b → o ≡ ops_of change → plan_call b st call (change_of b st.tables f s) ≡ Ok change
      → applies_in 6 (causes b st call) ≡ leb b.page offset → colour < cache_pages b
      → AccessReady b st.store o.frame o.ops colour offset
  access_requires {change} offset reg eo p tested below =
      let r = step_requires {change = change} reg eo p in
      let h = leb-false b.page offset (sym tested ∙ cleared b st call 6 (planned_made _ _ change p).0) in
      (r.0, r.1, r.2, r.3, below, h, reg)

  -- with a buffer of a page's words, what `send` requires
  pub transfer_requires : {change : Change} {o : FrameOps} (buffer : List ℕ) → Regular b → o ≡ ops_of change → plan_call b st call (change_of b st.tables f s) ≡ Ok change
      → buffer_right b call ≡ eqb (length buffer) b.page
      → TransferReady b st.store o.frame o.ops buffer
  transfer_requires {change} buffer reg eo p tested =
      let r = step_requires {change = change} reg eo p in
      (r.0, r.1, r.2, r.3, buffer_length b st call buffer b.page tested (planned_made _ _ change p).0, reg)

pub evict_ready : (b : Board) (st : State) (line : ℕ) → first_refusal (causes b st (evict line)) ≡ 0 → WellFormedStore b st.store × (line < lines b)
unfolding causes
evict_ready b st line e = (store_clear b st (evict line) e, leb-false (lines b) line (cleared b st (evict line) 6 e))

-- words that are not out of the page
inside_page : (b : Board) (first number : ℕ) → out_of_page b first number ≡ false → (0 < number) × (first + number ≤ b.page)
inside_page b first number e = go (eqb number 0) (ltb b.page (first + number)) refl refl e
  where
    go : (n p : Bool) → eqb number 0 ≡ n → ltb b.page (first + number) ≡ p → (n || p) ≡ false → (0 < number) × (first + number ≤ b.page)
    go true p en ep z = absurd (true≢false z)
    go false true en ep z = absurd (true≢false z)
    go false false en ep z = let some = eqb-false number 0 en in (omega arith, ltb-false b.page (first + number) ep)

module _ (b : Board) (st : State) (frame first number : ℕ) (buffer : List ℕ) where
  -- of a part there are words, all are in the page, and the buffer has as many
  pub part_ready : first_refusal (causes b st (device_write_part frame first number buffer)) ≡ 0 → (length buffer ≡ number) × (0 < number) × (first + number ≤ b.page)
  unfolding causes
  part_ready e =
      let call = device_write_part frame first number buffer in
      let inside = inside_page b first number (cleared b st call 13 e) in
      (buffer_length b st call buffer number refl e, inside.0, inside.1)

  -- so the change that its plan told is what `receive` requires
  pub part_requires : {change : Change} {o : FrameOps} → Regular b → o ≡ ops_of change
      → plan_call b st (device_write_part frame first number buffer) (change_of b st.tables frame (write_step b number)) ≡ Ok change
      → PartReady b st.store o.frame o.ops first buffer
  part_requires {change} reg eo p =
      let made = part_ready (planned_made _ _ change p).0 in
      let r = step_requires b st (device_write_part frame first number buffer) frame (write_step b number) refl {change = change} reg eo p in
      let long = made.0 in
      (r.0, r.1, r.2, r.3, (omega arith), (omega arith), reg)

-- ---- what a call answers and leaves, by the parts of its answer and of what is left

-- a step of a frame's record: the tables are the manager's, and the access is made in the store after the orders
abbrev pub stepped_call : Board → State → Change → (Store → Option ℕ) → (Store → List ℕ) → (Store → Store) → Result
stepped_call b st change word buffer access =
    let o : Outcome = accepted change.frame change.ops in
    let s : Store = carry_out b o st.store in
    result_of (answer o (word s) (buffer s)) (state (commit_change b st.tables change.frame change.next) (access s))

made : {o o' : Outcome} {w w' : Option ℕ} {l l' : List ℕ} {t t' : Tables} {s s' : Store} → o ≡ o' → w ≡ w' → l ≡ l' → t ≡ t' → s ≡ s'
    → result_of (answer o w l) (state t s) ≡ result_of (answer o' w' l') (state t' s')
made eo ew el et es = λ i. result_of (answer (eo i) (ew i) (el i)) (state (et i) (es i))

-- the store after a frame's operations
abbrev pub after_ops : Board → State → FrameOps → Store
after_ops b st o = carry_out b (accepted o.frame o.ops) st.store

module _ (b : Board) (st : State) (call : Single) where
  -- the exit of a `?`: the call is refused with this number
  refused_call : (e : Refusal) → refusal_number e ≡ first_refusal (causes b st call)
      → result_of (answer (refused (refusal_number e)) none (lent_buffer call)) st ≡ step b st call
  refused_call e told = step_refused b st call _ (sym told, λ z. some_number e (told ∙ z))

  -- as the plan tells
  pub plan_refused : {A : Type 0} (made : A) (e : Refusal) → Err (refusal_number e) ≡ plan_call b st call made → refusal_number e ≡ first_refusal (causes b st call)
  plan_refused made e told = sym (planned_refusal _ _ made (sym told)).0

  pub call_refused : (r : std.Result FrameOps Refusal) (e : Refusal) → lent_buffer call ≡ [] → refusal_number e ≡ first_refusal (causes b st call) → IsErrAnd r (λ y. y ≡ e)
      → result_of (answer (outcome r) none []) st ≡ step b st call
  call_refused r e lent told is =
      let p = err_from_is_err_and r is in
      rw (p.1, p.2) (ap (λ (l : List ℕ). result_of (answer (refused (refusal_number e)) none l) st) (sym lent) ∙ refused_call e told)

  pub transfer_refused : (r : std.Result FrameOps Refusal) (e : Refusal) → refusal_number e ≡ first_refusal (causes b st call) → IsErrAnd r (λ y. y ≡ e)
      → result_of (answer (outcome r) none (lent_buffer call)) st ≡ step b st call
  transfer_refused r e told is = let p = err_from_is_err_and r is in rw (p.1, p.2) (refused_call e told)

  pub loaded_refused : (r : std.Result Loaded Refusal) (e : Refusal) → lent_buffer call ≡ [] → refusal_number e ≡ first_refusal (causes b st call) → IsErrAnd r (λ y. y ≡ e)
      → result_of (loaded r) st ≡ step b st call
  loaded_refused r e lent told is =
      let p = err_from_is_err_and r is in
      rw (p.1, p.2) (ap (λ (l : List ℕ). result_of (answer (refused (refusal_number e)) none l) st) (sym lent) ∙ refused_call e told)

  pub listed_refused : (r : std.Result MappingList Refusal) (e : Refusal) → lent_buffer call ≡ [] → refusal_number e ≡ first_refusal (causes b st call) → IsErrAnd r (λ y. y ≡ e)
      → result_of (answer (list_outcome r) none []) (state (tables (list_left st.tables.list r) st.tables.records st.tables.protections) st.store) ≡ step b st call
  listed_refused r e lent told is =
      let p = err_from_is_err_and r is in
      rw (p.1, p.2) (ap (λ (l : List ℕ). result_of (answer (refused (refusal_number e)) none l) st) (sym lent) ∙ refused_call e told)

  -- the plan was a change, of a call that is a step of a frame's record
  pub stepped_made : (change : Change) {told : Change} {o : FrameOps} → plan_call b st call change ≡ Ok told → o ≡ ops_of told
      → (word : ℕ → Store → Option ℕ) (buffer : ℕ → Store → List ℕ) (access : ℕ → Store → Store)
      → accept b st call ≡ stepped_call b st change (word change.frame) (buffer change.frame) (access change.frame)
      → {w : Option ℕ} {l : List ℕ} {t : Tables} {s : Store}
      → w ≡ word o.frame (after_ops b st o)
      → l ≡ buffer o.frame (after_ops b st o)
      → t ≡ commit_change b st.tables told.frame told.next
      → s ≡ access o.frame (after_ops b st o)
      → result_of (answer (accepted o.frame o.ops) w l) (state t s) ≡ step b st call
  stepped_made change {told} p eo word buffer access a ew el et es =
      let q = planned_made _ change told p in
      made (ap (λ (o : FrameOps). accepted o.frame o.ops) eo) (ew ∙ ap (λ (o : FrameOps). word o.frame (after_ops b st o)) eo)
      (el ∙ ap (λ (o : FrameOps). buffer o.frame (after_ops b st o)) eo) et (es ∙ ap (λ (o : FrameOps). access o.frame (after_ops b st o)) eo)
      ∙ ap (λ (m : Change). stepped_call b st m (word m.frame) (buffer m.frame) (access m.frame)) (sym q.1)
      ∙ sym a
      ∙ step_accepted b st call q.0

  -- and makes an access through a page's colour
  pub access_made : (change : Change) {told : Change} {o : FrameOps} → plan_call b st call change ≡ Ok told → o ≡ ops_of told
      → (colour : ℕ) (word : ℕ → ℕ → Store → Option ℕ) (access : ℕ → ℕ → Store → Store)
      → accept b st call ≡ stepped_call b st change (word change.frame colour) (λ s. []) (access change.frame colour)
      → {k : ℕ} {w : Option ℕ} {t : Tables} {s : Store}
      → k ≡ colour
      → w ≡ word o.frame k (after_ops b st o)
      → t ≡ commit_change b st.tables told.frame told.next
      → s ≡ access o.frame k (after_ops b st o)
      → result_of (answer (accepted o.frame o.ops) w []) (state t s) ≡ step b st call
  access_made change {told} {o} p eo colour word access a ek ew et es =
      stepped_made change p eo (λ f. word f colour) (λ f s. []) (λ f. access f colour) a
      (ew ∙ ap (λ (k : ℕ). word o.frame k (after_ops b st o)) ek) refl et
      (es ∙ ap (λ (k : ℕ). access o.frame k (after_ops b st o)) ek)

  -- an accepted call without orders: its access is made in the store as it was
  pub plain_made : first_refusal (causes b st call) ≡ 0 → outcome_of b st.tables.records (effect_of b st call) ≡ accepted 0 no_ops
      → {o : Outcome} {w : Option ℕ} {l : List ℕ} {t : Tables} {s : Store}
      → o ≡ accepted 0 no_ops
      → w ≡ (access_of b st call st.store).word
      → l ≡ (access_of b st call st.store).buffer
      → t ≡ tables_left b st call
      → s ≡ (access_of b st call st.store).store
      → result_of (answer o w l) (state t s) ≡ step b st call
  unfolding accept carry_out_by operate_by
  plain_made e unordered eo ew el et es = made eo ew el et es ∙ ap taken (sym unordered) ∙ step_accepted b st call e
    where
      taken : Outcome → Result
      taken o =
          let a : Access = access_of b st call (carry_out b o st.store) in
          result_of (answer o a.word a.buffer) (state (tables_left b st call) a.store)

  -- the plan of the list was a place, at which the tables change
  pub placed_made : (place : ℕ) {told : ℕ} → plan_call b st call place ≡ Ok told
      → (commit : ℕ → Tables) → commit place ≡ tables_left b st call
      → outcome_of b st.tables.records (effect_of b st call) ≡ accepted 0 no_ops → access_of b st call st.store ≡ accessed none [] st.store
      → {t : Tables} → t ≡ commit told
      → result_of (answer (accepted 0 no_ops) none []) (state t st.store) ≡ step b st call
  placed_made place {told} p commit left unordered only et =
      let q = planned_made _ place told p in
      plain_made q.0 unordered refl (ap (λ (a : Access). a.word) (sym only)) (ap (λ (a : Access). a.buffer) (sym only))
      (et ∙ ap commit (sym q.1) ∙ left) (ap (λ (a : Access). a.store) (sym only))
