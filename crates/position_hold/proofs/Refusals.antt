-- Demand 1 of a look: once its first read is accepted, so are the others.
use mathlib.Core.Path.{◌≡◌, refl, sym, ap, subst⁻¹, ◌∙◌}
use mathlib.Core.Bool.{Bool, true, false}
use mathlib.Core.List.{List, []}
use mathlib.Core.Logic.{◌⊎◌, inl, inr}
use Prim.Native.Nat.{ℕ, zero, suc, ◌≤◌, ◌<◌}
use native.Mathlib.Omega.{arith}
use borrow.Author.Tests.{lt-leb}
use Rattle.board.specs.declared.Board.{Board}
use Rattle.board.specs.Board.{Regular, colour_of}
use Rattle.page_model.specs.Busy.{bars}
use Rattle.page_model.specs.Table as table
use Rattle.mapping.specs.declared.MappingList.{MappingList}
use Rattle.mapping.specs.Lookup.{listed_mapping}
use Rattle.manager.specs.Refusals.{first_refusal, space_cause, unmapped_cause, busy_cause}
use Rattle.manager.specs.Theorems.{WellFormedTables}
use Rattle.cache.specs.Store as hardware
use Rattle.machine.specs.Call.{call_causes}
use Rattle.machine.specs.Refusals.{page_busy, causes}
use Rattle.machine.specs.State.{State, read, single}
use Rattle.machine.specs.Step.{accept}
use Rattle.machine.proofs.StepLaws.{cleared, store_clear, step_accepted, step_refused}
use Rattle.machine.proofs.StoreLaws as store
use Rattle.demands.specs.Demands.{Clear}
use Rattle.demands.proofs.Answers.{no_cause, first_cause}
use Rattle.demands.proofs.Kept.{tables_lent, left}
use Rattle.position_hold.specs.Fix.{hold_refused}
use Rattle.position_hold.specs.Look.{words, stopped, Reads, reads, first_reads, fix_words, fix_reads}
use Rattle.position_hold.specs.Refusals.{ByHold, ByFirstRead, Answered, LookRefusals}
use Rattle.position_hold.proofs.FirstReads.{reads_next, reads_stopped}
use Rattle.position_hold.proofs.Holds.{look_refused, look_accepted}

words_stopped : {ws : List ℕ} {n : ℕ} → words ws ≡ stopped n → ⊥
words_stopped e = let z : ◌≡◌ {A = ℕ} 0 1 = cc in omega arith

module _ (b : Board) (reg : Regular b) (space page : ℕ) where
  -- what a read of the page is lent where it is not refused, but by its offset
  record Ready (st : State) : Type 0 where
    pub tables_kept : WellFormedTables b st.tables
    pub store_kept : hardware.WellFormedStore b st.store
    pub in_space : (space_cause space page).applies ≡ false
    pub mapped : (unmapped_cause st.tables.list space page).applies ≡ false
    pub unbarred : (page_busy st.tables.list st.tables.records space page (table.read (colour_of b page))).applies ≡ false

  read_clear : (st : State) (k : ℕ) → Ready st → k < b.page → first_refusal (causes b st (read space page k)) ≡ 0
  unfolding causes first_refusal
  read_clear st k r h =
      let w = r.store_kept in
      rw (r.tables_kept.0, store.lengths_right_lem b st.store w.memory_length w.words_length w.tags_length, r.tables_kept.1, w.tags_rules, r.in_space, lt-leb b.page k h, r.mapped, r.unbarred)

  first_ready : (st : State) (k : ℕ) → first_refusal (causes b st (read space page k)) ≡ 0 → Ready st
  unfolding causes
  first_ready st k e =
      let call = read space page k in
      record { tables_kept = tables_lent b st call e; store_kept = store_clear b st call e; in_space = cleared b st call 3 e; mapped = cleared b st call 8 e; unbarred = cleared b st call 15 e }

  -- an accepted read leaves the next one ready
  next_ready : (st : State) (k : ℕ) → Ready st → first_refusal (causes b st (read space page k)) ≡ 0 → Ready (accept b st (read space page k)).after
  next_ready st k r e =
      let l = left b reg st (read space page k) e in
      record {
        tables_kept = l.tables_kept;
        store_kept = l.store_kept;
        in_space = r.in_space;
        mapped = subst⁻¹ (λ (list : MappingList). (unmapped_cause list space page).applies ≡ false) l.list_left r.mapped;
        unbarred =
            subst⁻¹ (λ (list : MappingList). (busy_cause (accept b st (read space page k)).after.tables.records (listed_mapping list space page).frame (table.read (colour_of b page))).applies ≡ false)
            l.list_left
            (subst⁻¹ (λ (mark : ℕ). bars mark (table.read (colour_of b page)) ≡ false) l.modelled.mark r.unbarred);
      }

  -- the first k reads are accepted
  record Accepted (st : State) (k : ℕ) : Type 0 where
    pub found : List ℕ
    pub after : State
    pub reads_are : reads (words found) after ≡ first_reads b st space page k
    pub ready : Ready after

  accepted : (st : State) → Ready st → (k : ℕ) → k ≤ b.page → Accepted st k
  unfolding first_reads accept
  accepted st r zero h = record { found = []; after = st; reads_are = refl; ready = r }
  accepted st r (suc k) h =
      let before = accepted st r k (omega arith) in
      let e = read_clear before.after k before.ready (omega arith) in
      record {
        found = _;
        after = _;
        reads_are = reads_next b st space page k before.reads_are (step_accepted b before.after (read space page k) e);
        ready = next_ready before.after k before.ready e;
      }

-- of any board, a refusal of the first read ends the reads, so where they find words no cause applies
module _ (b : Board) (st : State) (space page : ℕ) where
  stopped_first : (n : ℕ) → first_refusal (causes b st (read space page 0)) ≡ suc n → reads (stopped (suc n)) st ≡ fix_reads b st space page
  unfolding fix_reads first_reads
  stopped_first n e =
      reads_stopped b st space page 1 fix_words (omega arith)
      (reads_next b st space page 0 {ws = []} {s = st} refl (step_refused b st (read space page 0) (suc n) (e, λ z. omega arith)))

  pub found_clear : (ws : List ℕ) → (fix_reads b st space page).words ≡ words ws → Clear (causes b st (read space page 0))
  unfolding call_causes
  found_clear ws found = go (first_refusal (causes b st (read space page 0))) refl
    where
      go : (n : ℕ) → first_refusal (causes b st (read space page 0)) ≡ n → Clear (causes b st (read space page 0))
      go zero e = no_cause b st (single (read space page 0)) e
      go (suc n) e = absurd (words_stopped (sym (ap (λ (r : Reads). r.words) (stopped_first n e) ∙ found)))

pub look_refusals : LookRefusals
unfolding fix_reads call_causes
look_refusals b reg room st space page clock hold = go (hold_refused hold) (first_refusal (causes b st (read space page 0))) refl refl
  where
    go : (t : Bool) (n : ℕ) → hold_refused hold ≡ t → first_refusal (causes b st (read space page 0)) ≡ n
        → ByHold b st space page clock hold ⊎ (((n : ℕ) × ByFirstRead b st space page clock hold n) ⊎ Answered b st space page clock hold)
    go true n et en = inl (et, sym (look_refused b st space page clock hold et))
    go false (suc n) et en =
        inr (inl (suc n, (et, first_cause b st (single (read space page 0)) n en, sym (look_accepted b st space page clock hold et (stopped_first b st space page n en)))))
    go false zero et en =
        let a = accepted b reg space page st (first_ready b reg space page st 0 en) fix_words room in
        inr (inr (
          et,
          no_cause b st (single (read space page 0)) en,
          (a.found, a.after, sym a.reads_are, sym (look_accepted b st space page clock hold et a.reads_are)),
        ))
