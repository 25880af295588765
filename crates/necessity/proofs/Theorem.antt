-- Request N10: each single order of an accepted step is needed. A stale page that is not purged keeps an old line; a dirty one that is not flushed leaves
-- memory old; a dirty one that is not purged keeps a line that is hit later.
use mathlib.Core.Path.{◌≡◌, refl, sym, ap, subst, subst⁻¹, ◌∙◌}
use mathlib.Core.Bool.{Bool, true, false, cond, true≢false}
use mathlib.Core.List.{List}
use mathlib.Core.Logic.{inr, ◌≢◌, ⊎_elim}
use Prim.Native.Nat.{ℕ, ◌+◌, ◌-◌, ◌≤◌, ◌<◌}
use native.Mathlib.Omega.{arith}
use borrow.Author.Tests.{eqb-true, eqb-false, ltb-true, ltb-false}
use lib.Dec.{eqb, ltb}
use lib.ListN.{length, get_or}
use Rattle.board.specs.declared.Board.{Board}
use Rattle.board.specs.Board.{Regular, cache_pages, memory_words, cache_words, board01}
use Rattle.board.proofs.Geometry.{board01_regular, data_page, instruction_page_lem}
use Rattle.page_model.specs.declared.FrameRecord.{FrameRecord}
use Rattle.page_model.specs.declared.Op.TheVariants.{None}
use Rattle.page_model.specs.declared.Ops.{Ops}
use Rattle.page_model.specs.Busy as busy
use Rattle.page_model.specs.Busy.{bars}
use Rattle.page_model.specs.Record.{state_of, keeps_rules}
use Rattle.page_model.specs.Step.{is_flush, is_purge, operations, stepped}
use Rattle.page_model.specs.Table as table
use Rattle.page_model.specs.Table.{ColourState, empty, present, dirty, stale}
use Rattle.page_model.proofs.Records.{dirty_free}
use Rattle.mapping.specs.Entry.{capacity}
use Rattle.manager.specs.Calls.{write_step}
use Rattle.manager.specs.Tables.{record_at}
use Rattle.manager.proofs.CauseLaws.{record_rules}
use Rattle.cache.specs.Store.{Store, WellFormedStore, memory_word}
use Rattle.cache.proofs.Laws.Device.{device_write_memory_rest}
use Rattle.machine.specs.Call.{perform}
use Rattle.machine.specs.State.{State, single, Result}
use Rattle.machine.proofs.CallLaws.{accept_accepted}
use Rattle.consistency.specs.Cacheless.{Cacheless, start_cacheless, is_refused, fed, after_accepted}
use Rattle.consistency.specs.Demand3.{start_state, state_after, cacheless_after}
use Rattle.consistency.proofs.Operate.{states_left}
use Rattle.consistency.proofs.Pages.{page_states}
use Rattle.consistency.proofs.Lines.{Elsewhere}
use Rattle.necessity.specs.Action.{Action, read, fetch, write, device_read, device_write, device_write_part, begin_read, begin_write, step_of, InRange}
use Rattle.necessity.specs.Necessity.{Needed, NoOrderWithoutNeed, Board01}
use Rattle.necessity.specs.Without.{leave_out, FindsWrong}
use Rattle.necessity.proofs.Acted.{store_of, ordered, acted, effect_is, clear, without_is}
use Rattle.necessity.proofs.CellLaws.{through_flush, through_purge, through_stale, Flushing, device, part, begins, begins_write, flushing_flush, flushing_purge, whole_flush, whole_purge}
use Rattle.necessity.proofs.Differs.{other, other_differs, other_lt}
use Rattle.necessity.proofs.Ends.{Later}
use Rattle.necessity.proofs.Here.{Here, part_inside, part_outside, sent_word_lem}
use Rattle.necessity.proofs.In.{made, page_of}
use Rattle.necessity.proofs.Lacking.{Processor, loads_at, writes_at, through, processor_open, left_empty, left_purged, purge_lacked, flush_lacked, transfer_lacked, whole_lacked}
use Rattle.necessity.proofs.Accesses.{Beside}
use Rattle.necessity.proofs.Loads.{reads_at, fetches_at}
use Rattle.necessity.proofs.Orders.{FlushOut, LeftOut, left_out}
use Rattle.necessity.proofs.PageCells.{page_cell}
use Rattle.necessity.proofs.PageStates.{page_data, same_pages, dirty_data, one_dirty, none_present}
use Rattle.necessity.proofs.Reach.{Ahead, reach_line, reach_memory, reach_stale}
use Rattle.necessity.proofs.Run.{Run, step_is}
use Rattle.necessity.proofs.Turns.{Off}

module _ (b : Board) (reg : Regular b) (two : 2 ≤ b.page) (memory words protections : List ℕ) (full : length memory ≡ memory_words b) (wide : length words ≡ cache_words b)
    (long : length protections ≡ capacity) (f : ℕ) (r : FrameRecord) (hf : f < b.frames) (rules : keeps_rules b.colours r ≡ true) where
  abbrev from : State
  from = start_state b memory words protections

  abbrev ref_at : Cacheless
  ref_at = start_cacheless b memory

  abbrev states : ℕ → ColourState
  states = page_states b.colours r

  -- ---- a run and what is found after it make the claim

  record_is : (mark : ℕ) (st : State) (m : Cacheless) → r.busy ≡ mark → Here b f states mark st m → record_at st.tables.records f ≡ r
  record_is mark st m e here =
      same_pages b.colours r rules (record_at st.tables.records f) (record_rules b st.tables here.tables_in.tables_kept.1 f hf) (here.tables_in.mark_is ∙ sym e)
      here.tables_in.states_are

  module _ (a : Action) (h : InRange b a) (unbarred : bars r.busy (step_of b a) ≡ false) (j : ℕ) (lack : LeftOut b.colours (step_of b a) r rules j) where
    needed : (mark : ℕ) → r.busy ≡ mark → (Extra : State → Cacheless → Type 0) → Run b from ref_at (λ st m. Here b f states mark st m × Extra st m)
        → ((st : State) (m : Cacheless) → record_at st.tables.records f ≡ r → Here b f states mark st m → bars mark (step_of b a) ≡ false → Extra st m
        → Later b (acted b st f a (ordered b st f (record { first = lack.rest; second = None }))).after (after_accepted m (made b f a)))
        → Needed b from ref_at f r a j
    needed mark marked Extra run found =
        let st = state_after (perform b) from run.calls in
        let m = cacheless_after (perform b) from ref_at run.calls in
        let here = run.ends.0 in
        let now = here.tables_in in
        let kept = here.inv.kept in
        let open-mark : bars mark (step_of b a) ≡ false = ap (λ (x : ℕ). bars x (step_of b a)) (sym marked) ∙ unbarred in
        let same = record_is mark st m marked here in
        let later = found st m same here open-mark run.ends.1 in
        let without = without_is b reg f hf states mark st m now kept a h open-mark j
        ∙ ap (λ (ops : Ops). acted b st f a (ordered b st f ops)) (ap (λ (x : FrameRecord). leave_out j (stepped b.colours (step_of b a) x).ops) same ∙ lack.others) in
        record {
          before = run.calls;
          space = 0;
          page = page_of b a;
          later = later.calls;
          words = (run.sends, later.sends);
          reached = same;
          makes = effect_is b reg f hf states mark st m now kept a h;
          accepted = ap (λ (x : Result). is_refused x.answer) (step_is b st (made b f a) (clear b reg f hf states mark st m now kept a h open-mark)) ∙ accept_accepted b st (single (made b f a));
          wrong = inr (subst⁻¹ (λ (x : Result). FindsWrong b x.after (fed m (single (made b f a)) x.answer) later.calls) without later.wrong);
        }

    -- ---- the processor's actions

    module _ (x o : ℕ) (hx : x < cache_pages b) (ho : o < b.page) (acts : Processor b o x a) where
      -- another offset of the page
      abbrev away : ℕ
      away = other o

      inside : away < b.page
      inside = let small = other_lt o in omega arith

      apart : o ≢ away
      apart e = other_differs o (sym e)

      -- the page of the action is empty once the order that is left is carried out, where the flush of another is left out
      emptied : (out : FlushOut b.colours (step_of b a) r rules lack.rest) → state_of r out.colour ≡ dirty → x ≢ out.colour → states_left b.colours lack.rest states x ≡ empty
      emptied out dirties ne = go (states x) refl
        where
          go : (z : ColourState) → states x ≡ z → states_left b.colours lack.rest states x ≡ empty
          go empty e = left_empty b.colours lack.rest states x out.quiet e
          go present e = absurd (none_present b.colours r rules out.colour out.below dirties x hx e)
          go dirty e = absurd (ne (one_dirty b.colours r rules out.colour out.below dirties x e))
          go stale e = left_purged b.colours lack.rest states x (out.purges x hx (through_stale (through acts) (states x) e))

      processor_needed : Needed b from ref_at f r a j
      processor_needed =
          ⊎_elim
          (λ out.
          let d = out.colour in
          let hd = out.below in
          let cell = through_flush (through acts) (states d) d out.flushes in
          let dirties = sym (page_data b.colours r d hd) ∙ cell.1 in
          needed busy.free (dirty_free b.colours r rules d hd dirties) (λ st m. memory_word b st.store f away ≢ m.word f away)
          (reach_memory b reg f hf r rules memory words protections full wide long d hd dirties away inside)
          (λ st m same here open-mark off.
          flush_lacked b reg f hf states busy.free st m here.tables_in here.inv.kept a h open-mark lack.rest lack.rest_below x o away hx ho inside apart acts here.inv out.quiet
          (ap (λ (y : FrameRecord). states_left b.colours lack.rest (page_states b.colours y) x) same ∙ emptied out dirties cell.0) off))
          (λ out.
          let cell = through_purge (through acts) (states out.page) out.page out.purges in
          needed r.busy refl (λ st m. Off b f x away st.store m)
          (reach_stale b reg f hf r rules memory words protections full wide long x hx (ap states cell.0 ∙ cell.1) o away ho inside apart
          (processor_open acts r.busy unbarred))
          (λ st m same here open-mark off.
          purge_lacked b reg f hf states r.busy st m here.tables_in here.inv.kept a h open-mark lack.rest lack.rest_below x o away hx ho inside apart acts (subst (λ (k : ℕ). Elsewhere b.colours k lack.rest) (sym cell.0) out.elsewhere) off))
          lack.cause

    -- ---- transfers

    -- one that flushes, and an offset at which it leaves memory and the cacheless memory
    flush_needed : Flushing (step_of b a) → (o : ℕ) → o < b.page → ((s : Store) → WellFormedStore b s → memory_word b (store_of b f a s) f o ≡ memory_word b s f o)
        → ((m : Cacheless) → (after_accepted m (made b f a)).word f o ≡ m.word f o)
        → Needed b from ref_at f r a j
    flush_needed flushing o ho same_memory same_word =
        ⊎_elim
        (λ out.
        let d = out.colour in
        let dirties = sym (page_data b.colours r d out.below) ∙ flushing_flush flushing b.colours d (states d) out.flushes in
        needed busy.free (dirty_free b.colours r rules d out.below dirties) (λ st m. memory_word b st.store f o ≢ m.word f o)
        (reach_memory b reg f hf r rules memory words protections full wide long d out.below dirties o ho)
        (λ st m same here open-mark off.
        transfer_lacked b reg f hf states busy.free st m here.tables_in here.inv.kept a h open-mark lack.rest lack.rest_below flushing out.quiet o ho same_memory
        (same_word m) off))
        (λ out. absurd (true≢false (sym out.purges ∙ flushing_purge flushing b.colours out.page (states out.page)))) lack.cause

    -- a device's write of the whole page, of whose words one is known
    whole_needed : step_of b a ≡ table.device_write → ((d : ℕ) → Beside b d a) → (p v : ℕ) → p < b.page → ((m : Cacheless) → (after_accepted m (made b f a)).word f p ≡ v)
        → Needed b from ref_at f r a j
    whole_needed step beside p v hp sends =
        ⊎_elim
        (λ out.
        absurd (true≢false (sym (subst (λ (s : table.Step). is_flush (page_cell b.colours s out.colour (states out.colour)).operation ≡ true) step out.flushes) ∙ whole_flush b.colours out.colour (states out.colour))))
        (λ out.
        let d = out.page in
        let dirty-page = whole_purge b.colours d (states d) (subst (λ (s : table.Step). is_purge (page_cell b.colours s d (states d)).operation ≡ true) step out.purges) in
        let here = dirty_data b.colours r d dirty-page in
        let hd = here.0 in
        let dirties = here.1 in
        needed busy.free (dirty_free b.colours r rules d hd dirties) (λ st m. Ahead b f d p v st.store m)
        (reach_line b reg f hf r rules memory words protections full wide long d hd dirties p hp v)
        (λ st m same here open-mark ahead.
        whole_lacked b reg f hf states busy.free st m here.tables_in here.inv.kept a h open-mark lack.rest lack.rest_below step refl d p hd hp (beside d)
        dirty-page out.elsewhere ahead.named (λ q. ahead.avoids (sym ahead.word ∙ q ∙ sends m))))
        lack.cause

  -- ---- every action

  -- an offset that a part leaves
  abbrev outside : ℕ → ℕ → ℕ
  outside first number = cond (eqb first 0) number 0

  outside_of : (first number : ℕ) → number < b.page → (outside first number < b.page) × (first ≤ outside first number → outside first number < first + number → ⊥)
  outside_of first number fewer = go (eqb first 0) refl
    where
      go : (t : Bool) → eqb first 0 ≡ t → (cond t number 0 < b.page) × (first ≤ cond t number 0 → cond t number 0 < first + number → ⊥)
      go true e = let z = eqb-true first 0 e in (fewer, λ low high. omega arith)
      go false e = let z = eqb-false first 0 e in (omega arith, λ low high. z (omega arith))

  -- a part of fewer words than a page, or of all
  part_needed : (first number : ℕ) (buffer : List ℕ) (h : InRange b (device_write_part first number buffer)) → bars r.busy (write_step b number) ≡ false → (j : ℕ)
      → LeftOut b.colours (write_step b number) r rules j
      → Needed b from ref_at f r (device_write_part first number buffer) j
  part_needed first number buffer h unbarred j lack = go (ltb number b.page) refl
    where
      step_at : (t : Bool) → ltb number b.page ≡ t → cond t table.device_write_part table.device_write ≡ write_step b number
      step_at t e = ap (λ (x : Bool). cond x table.device_write_part table.device_write) (sym e)

      go : (t : Bool) → ltb number b.page ≡ t → Needed b from ref_at f r (device_write_part first number buffer) j
      go true e =
          let fewer = ltb-true number b.page e in
          let o = outside first number in
          let out = outside_of first number fewer in
          let long = h.2 in
          flush_needed (device_write_part first number buffer) h unbarred j lack (subst Flushing (step_at true e) part) o out.0
          (λ s w. device_write_memory_rest b reg f hf s w first buffer (let i = h.1 in omega arith) o (λ low high. out.1 low (omega arith)))
          (λ m. part_outside m b f first number buffer o (λ low high. out.1 low (omega arith)))
      go false e =
          let all = ltb-false number b.page e in
          let some = h.0 in
          let inside = h.1 in
          let long = h.2 in
          whole_needed (device_write_part first number buffer) h unbarred j lack (sym (step_at false e)) (λ d. tt) first (get_or buffer (first - first) 0) (omega arith)
          (λ m. part_inside m b f first number buffer first (omega arith) (omega arith))

  pub each : (a : Action) → InRange b a → bars r.busy (step_of b a) ≡ false → (j : ℕ) → j < length (operations b.colours (step_of b a) r) → Needed b from ref_at f r a j
  unfolding after_accepted
  each (read c o) h unbarred j l =
      processor_needed (read c o) h unbarred j (left_out b.colours (table.read c) r rules j l) c o (data_page b reg c h.0) h.1 (loads_at _ _ (reads_at c h.0))
  each (fetch c o) h unbarred j l =
      processor_needed (fetch c o) h unbarred j (left_out b.colours (table.fetch c) r rules j l) _ o (instruction_page_lem b reg c h.0) h.1 (loads_at _ _ (fetches_at c h.0))
  each (write c o v) h unbarred j l =
      processor_needed (write c o v) h unbarred j (left_out b.colours (table.write c) r rules j l) c o (data_page b reg c h.0) h.1 (writes_at c h.0 v)
  each (device_read buffer) h unbarred j l =
      flush_needed (device_read buffer) h unbarred j (left_out b.colours table.device_read r rules j l) device 0 reg.has_page_words (λ s w. refl) (λ m. refl)
  each (device_write buffer) h unbarred j l =
      whole_needed (device_write buffer) h unbarred j (left_out b.colours table.device_write r rules j l) refl (λ d. tt) 0 (get_or buffer 0 0) reg.has_page_words
      (λ m. sent_word_lem m b f buffer 0 (let e = reg.has_page_words in omega arith))
  each (device_write_part first number buffer) h unbarred j l = part_needed first number buffer h unbarred j (left_out b.colours (write_step b number) r rules j l)
  each begin_read h unbarred j l = flush_needed begin_read h unbarred j (left_out b.colours table.begin_read r rules j l) begins 0 reg.has_page_words (λ s w. refl) (λ m. refl)
  each begin_write h unbarred j l =
      flush_needed begin_write h unbarred j (left_out b.colours table.begin_write r rules j l) begins_write 0 reg.has_page_words (λ s w. refl) (λ m. refl)

pub no_order_without_need : NoOrderWithoutNeed
no_order_without_need b reg two memory words protections full wide long f r a j hf rules h unbarred l =
    each b reg (omega arith) memory words protections full wide long f r hf rules a h unbarred j l

pub board_01 : Board01
board_01 = no_order_without_need board01 board01_regular (omega arith)
