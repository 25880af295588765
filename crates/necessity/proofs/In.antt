-- The tables of the proof's runs: page k of space 0, for each page k of the caches, is mapped to frame f, with the right to read and write, or to read
-- and fetch from the number of colours on; each page of the caches is in a state, and the frame has a mark. What calls are accepted there, and what they
-- leave of it.
use mathlib.Core.Path.{◌≡◌, refl, ap, ap₂, ◌∙◌}
use mathlib.Core.Bool.{Bool, true, false, not, cond, ◌||◌}
use mathlib.Core.Option.{some}
use Prim.Native.Nat.{ℕ, ◌+◌, ◌<◌}
use native.Mathlib.Omega.{arith}
use borrow.Author.Tests.{eq-eqb, ne_eqb, lt-leb, lt-ltb, le-ltb}
use lib.Dec.{eqb, ltb}
use Rattle.board.specs.declared.Board.{Board}
use Rattle.board.specs.Board.{Regular, cache_pages, instruction_page, pages}
use Rattle.board.proofs.Geometry.{data_page, instruction_page_lem, colour_of_data, colour_of_instruction}
use Rattle.page_model.specs.declared.FrameRecord.{FrameRecord}
use Rattle.page_model.specs.Busy.{free, bars, mark_after}
use Rattle.page_model.specs.Record.{state_of, instruction_state_of, keeps_rules, encode, freed}
use Rattle.page_model.specs.Step.{record_after, stepped}
use Rattle.page_model.specs.Table as table
use Rattle.page_model.specs.Table.{ColourState}
use Rattle.mapping.specs.declared.Mapping.{Mapping}
use Rattle.mapping.specs.Entry.{read_write, read_fetch}
use Rattle.mapping.specs.Lookup.{mapping_of, is_mapped, listed_mapping}
use Rattle.mapping.proofs.Laws.{found_listed}
use Rattle.manager.specs.Calls.{write_step, commit_change, ended_tables}
use Rattle.manager.specs.Refusals.{first_refusal, out_of_space}
use Rattle.manager.specs.Tables.{Tables, record_at, refill}
use Rattle.manager.specs.Theorems.{WellFormedTables}
use Rattle.manager.proofs.AcceptedLaws.{lengths_known}
use Rattle.manager.proofs.CauseLaws.{NoneApplies, record_rules}
use Rattle.manager.proofs.KeepsRules.{step_keeps_lem, end_keeps}
use Rattle.manager.proofs.RecordLaws.{record_at_put_record_same}
use Rattle.cache.specs.Store as hardware
use Rattle.machine.specs.Refusals.{buffer_right, own_causes, causes}
use Rattle.machine.specs.State as call
use Rattle.machine.specs.State.{State, Single, page_frame}
use Rattle.machine.proofs.StepLaws.{own_clear}
use Rattle.consistency.specs.Cacheless.{Cacheless}
use Rattle.consistency.proofs.Pages.{page_states, pages_after_lem}
use Rattle.necessity.specs.Action.{Action, read, fetch, write, device_read, device_write, device_write_part, begin_read, begin_write, step_of, InRange, call_of}
use Rattle.necessity.proofs.PageCells.{page_cell, page_next}

-- ---- the tables

abbrev pub rights_of : Board → ℕ → ℕ
rights_of b k = cond (ltb k b.colours) read_write read_fetch

-- the mapping of page k
abbrev pub mapping : Board → ℕ → ℕ → Mapping
mapping b f k = record { space = 0; page = k; frame = f; rights = rights_of b k }

pub record In (b : Board) (f : ℕ) (states : ℕ → ColourState) (mark : ℕ) (t : Tables) (m : Cacheless) : Type 0 where
  pub tables_kept : WellFormedTables b t
  pub mapped : (k : ℕ) → k < cache_pages b → mapping_of t.list 0 k ≡ some (mapping b f k)
  pub framed : (k : ℕ) → k < cache_pages b → m.frame 0 k ≡ some f
  pub states_are : (k : ℕ) → k < cache_pages b → page_states b.colours (record_at t.records f) k ≡ states k
  pub mark_is : (record_at t.records f).busy ≡ mark

-- the page through which an action goes: that of its colour, for instructions behind those for data
abbrev pub page_of : Board → Action → ℕ
page_of b (read c o) = c
page_of b (fetch c o) = instruction_page b c
page_of b (write c o v) = c
page_of b (device_read buffer) = 0
page_of b (device_write buffer) = 0
page_of b (device_write_part first number buffer) = 0
page_of b begin_read = 0
page_of b begin_write = 0

abbrev pub made : Board → ℕ → Action → Single
made b f a = call_of f 0 (page_of b a) a

-- a mark bars a write of a part and of a page alike
part_bars : (mark : ℕ) (b : Board) (number : ℕ) → bars mark (write_step b number) ≡ false → bars mark table.device_write_part ≡ false
part_bars mark b number = go (ltb number b.page)
  where
    go : (t : Bool) → bars mark (cond t table.device_write_part table.device_write) ≡ false → bars mark table.device_write_part ≡ false
    go true e = e
    go false e = e

module _ (b : Board) (reg : Regular b) (f : ℕ) (hf : f < b.frames) (states : ℕ → ColourState) (mark : ℕ) where
  module _ (st : State) (m : Cacheless) (now : In b f states mark st.tables m) (kept : hardware.WellFormedStore b st.store) where
    -- the mapping of a page
    module _ (k : ℕ) (hk : k < cache_pages b) where
      listed : (is_mapped st.tables.list 0 k ≡ true) × (listed_mapping st.tables.list 0 k ≡ mapping b f k)
      listed = found_listed st.tables.list 0 k (mapping b f k) (now.mapped k hk)

      pub page_frame_lem : page_frame st 0 k ≡ f
      page_frame_lem = ap (λ (x : Mapping). x.frame) listed.1

      page_rights : call.listed_rights st.tables.list 0 k ≡ rights_of b k
      page_rights = ap (λ (x : Mapping). x.rights) listed.1

      in_space : out_of_space 0 k ≡ false
      in_space = let few = reg.few_colours in lt-leb pages k (omega arith)

      -- a mark that does not bar the step
      page_free : (s t : table.Step) → t ≡ s → bars mark s ≡ false → bars (record_at st.tables.records (page_frame st 0 k)).busy t ≡ false
      page_free s t e unbarred = rw (e, page_frame_lem, now.mark_is) unbarred

    free_frame : (s : table.Step) → bars mark s ≡ false → bars (record_at st.tables.records f).busy s ≡ false
    free_frame s unbarred = rw now.mark_is unbarred

    frame_clear : (call : Single) → buffer_right b call ≡ true → NoneApplies (own_causes b st call) → first_refusal (causes b st call) ≡ 0
    frame_clear call = own_clear b st call now.tables_kept kept

    pub accepts : (a : Action) → InRange b a → bars mark (step_of b a) ≡ false → first_refusal (causes b st (made b f a)) ≡ 0
    unfolding own_causes
    accepts (read c o) h unbarred =
        let hk = data_page b reg c h.0 in
        frame_clear (made b f (read c o)) refl (
          in_space c hk,
          (lt-leb b.page o h.1, (ap not (listed c hk).0, (page_free c hk (table.read c) _ (ap table.read (colour_of_data b reg c h.0)) unbarred, tt))),
        )
    accepts (fetch c o) h unbarred =
        let hk = instruction_page_lem b reg c h.0 in
        frame_clear (made b f (fetch c o)) refl (
          in_space (instruction_page b c) hk,
          (
            lt-leb b.page o h.1,
            (
              ap not (listed (instruction_page b c) hk).0,
              (
                rw (page_rights (instruction_page b c) hk, le-ltb (instruction_page b c) b.colours (omega arith)),
                (page_free (instruction_page b c) hk (table.fetch c) _ (ap table.fetch (colour_of_instruction b reg c h.0)) unbarred, tt),
              ),
            ),
          ),
        )
    accepts (write c o v) h unbarred =
        let hk = data_page b reg c h.0 in
        frame_clear (made b f (write c o v)) refl (
          in_space c hk,
          (
            lt-leb b.page o h.1,
            (
              ap not (listed c hk).0,
              (rw (page_rights c hk, lt-ltb c b.colours h.0), (page_free c hk (table.write c) _ (ap table.write (colour_of_data b reg c h.0)) unbarred, tt)),
            ),
          ),
        )
    accepts (device_read buffer) h unbarred =
        frame_clear (made b f (device_read buffer)) (eq-eqb _ _ h) (lt-leb b.frames f hf, (free_frame table.device_read unbarred, tt))
    accepts (device_write buffer) h unbarred =
        frame_clear (made b f (device_write buffer)) (eq-eqb _ _ h) (lt-leb b.frames f hf, (free_frame table.device_write unbarred, tt))
    accepts (device_write_part first number buffer) h unbarred =
        frame_clear (made b f (device_write_part first number buffer)) (eq-eqb _ _ h.2) (
          lt-leb b.frames f hf,
          (
            ap₂ ◌||◌ (ne_eqb number 0 (λ e. omega arith)) (le-ltb b.page (first + number) h.1),
            (free_frame table.device_write_part (part_bars mark b number unbarred), tt),
          ),
        )
    accepts begin_read h unbarred = frame_clear (made b f begin_read) refl (lt-leb b.frames f hf, (free_frame table.begin_read unbarred, tt))
    accepts begin_write h unbarred = frame_clear (made b f begin_write) refl (lt-leb b.frames f hf, (free_frame table.begin_write unbarred, tt))

    -- the end of a transfer
    pub accepts_end : eqb mark free ≡ false → first_refusal (causes b st (call.end_transfer f)) ≡ 0
    unfolding own_causes
    accepts_end busy = frame_clear (call.end_transfer f) refl (lt-leb b.frames f hf, (rw now.mark_is busy, tt))

  -- ---- the tables after a step of f, and after the end of a transfer

  module _ (t : Tables) (m : Cacheless) (now : In b f states mark t m) where
    pub rules : keeps_rules b.colours (record_at t.records f) ≡ true
    rules = record_rules b t now.tables_kept.1 f hf

  module _ (t : Tables) (m : Cacheless) (now : In b f states mark t m) (n : Cacheless) (same : n.frame ≡ m.frame) where
    -- with another record of f
    in-next : (r : FrameRecord) (others : ℕ → ColourState) (next : ℕ) → WellFormedTables b (commit_change b t f r)
        → ((k : ℕ) → k < cache_pages b → page_states b.colours r k ≡ others k) → r.busy ≡ next → In b f others next (commit_change b t f r) n
    unfolding refill
    in-next r others next kept-after states-after mark_after_lem =
        let put = record_at_put_record_same t.records f r (let l = (lengths_known b t now.tables_kept.0).1 in omega arith) in
        record {
          tables_kept = kept-after;
          mapped = now.mapped;
          framed = λ k hk. rw same (now.framed k hk);
          states_are = λ k hk. ap (λ (x : FrameRecord). page_states b.colours x k) put ∙ states-after k hk;
          mark_is = ap (λ (x : FrameRecord). x.busy) put ∙ mark_after_lem;
        }

    pub in_step : (s : table.Step) → bars mark s ≡ false
        → In b f (λ k. (page_cell b.colours s k (states k)).next) (mark_after s mark) (commit_change b t f (stepped b.colours s (record_at t.records f)).next) n
    unfolding record_after encode
    in_step s unbarred =
        let r = record_at t.records f in
        in-next (record_after b.colours s r) _ _ (step_keeps_lem b t now.tables_kept f s hf (rw now.mark_is unbarred))
        (λ k hk. pages_after_lem b.colours r s (rules t m now) k hk ∙ page_next b.colours s r k ∙ ap (λ (z : ColourState). (page_cell b.colours s k z).next) (now.states_are k hk))
        (ap (mark_after s) now.mark_is)

    pub in_end : In b f states free (ended_tables b t f) n
    unfolding state_of instruction_state_of
    in_end = in-next (freed (record_at t.records f)) states free (end_keeps b t now.tables_kept f hf) now.states_are refl
