-- The beginning of every run: for each page of the caches a page is mapped to the frame, whose colours are empty, for data and for instructions.
use mathlib.Core.Path.{◌≡◌, refl, ap, subst, ◌∙◌}
use mathlib.Core.Bool.{Bool, true, false, not, cond}
use mathlib.Core.List.{List}
use mathlib.Core.Logic.{◌≢◌}
use mathlib.Core.Option.{none, some}
use Prim.Native.Nat.{ℕ, suc, ◌-◌, ◌≤◌, ◌<◌}
use native.Mathlib.Omega.{arith}
use native.Mathlib.Decide.{ℕ_discrete}
use borrow.Author.Tests.{eq-eqb, ne_eqb, lt-leb}
use lib.Dec.{ltb}
use lib.ListN.{length}
use Rattle.board.specs.declared.Board.{Board}
use Rattle.board.specs.Board.{Regular, cache_pages, pages, memory_words, cache_words}
use Rattle.page_model.specs.declared.FrameRecord.{FrameRecord}
use Rattle.page_model.specs.Busy.{free}
use Rattle.page_model.specs.Record.{start_record}
use Rattle.page_model.specs.Table.{empty}
use Rattle.page_model.proofs.Theorems.{start_record_lem}
use Rattle.std.specs.Prelude.{None, is_some}
use Rattle.mapping.specs.declared.MappingList.{MappingList}
use Rattle.mapping.specs.Change.{insert}
use Rattle.mapping.specs.Entry.{capacity, read_write, read_fetch, is_rights}
use Rattle.mapping.specs.Facts as facts
use Rattle.mapping.specs.Lookup.{lookup, mapping_of}
use Rattle.mapping.proofs.Laws.{rights_known, none_found, empty_count, mapping_of_empty, inserted_count, mapping_of_inserted_same, mapping_of_inserted_other}
use Rattle.manager.specs.Refusals.{first_refusal}
use Rattle.manager.specs.Tables.{record_at, refill}
use Rattle.manager.specs.Theorems.{WellFormedTables}
use Rattle.manager.proofs.AcceptedLaws.{lengths_known}
use Rattle.manager.proofs.CauseLaws.{list_rules}
use Rattle.manager.proofs.RecordLaws.{record_at_start}
use Rattle.machine.specs.Refusals.{own_causes, causes}
use Rattle.machine.specs.State.{State, Single, map}
use Rattle.machine.specs.Step.{accept}
use Rattle.machine.proofs.StepLaws.{own_clear}
use Rattle.consistency.specs.Cacheless.{Cacheless, start_cacheless, replaced, after_accepted}
use Rattle.consistency.specs.Demand3.{start_state}
use Rattle.consistency.proofs.Invariant.{sound_kept, Invariant}
use Rattle.consistency.proofs.Pages.{as_page, page_states, page_cases}
use Rattle.consistency.proofs.Start.{start_invariant}
use Rattle.demands.proofs.Kept.{tables_after_lem}
use Rattle.necessity.proofs.Here.{Here}
use Rattle.necessity.proofs.In.{rights_of, In, mapping}
use Rattle.necessity.proofs.Run.{Run, stay, then, repeated, one, invariant_call}

-- the rights of a page of the caches
is_rights_lem : (b : Board) (i : ℕ) → is_rights (rights_of b i) ≡ true
is_rights_lem b i = go (ltb i b.colours)
  where
    go : (t : Bool) → is_rights (cond t read_write read_fetch) ≡ true
    go true = refl
    go false = refl

module _ (b : Board) (reg : Regular b) (f : ℕ) (hf : f < b.frames) where
  -- the first i pages are mapped, and no others; the frame's record is the start's
  record Upto (i : ℕ) (st : State) (m : Cacheless) : Type 0 where
    inv : Invariant b st m
    tables_kept : WellFormedTables b st.tables
    count : st.tables.list.count ≡ i
    mapped : (k : ℕ) → k < i → mapping_of st.tables.list 0 k ≡ some (mapping b f k)
    unmapped : (k : ℕ) → i ≤ k → mapping_of st.tables.list 0 k ≡ none
    framed : (k : ℕ) → k < i → m.frame 0 k ≡ some f
    at_start_lem : record_at st.tables.records f ≡ start_record b.colours

  module _ (i : ℕ) (hi : i < cache_pages b) (st : State) (m : Cacheless) (u : Upto i st m) where
    abbrev call : Single
    call = map 0 i f (rights_of b i)

    fresh : lookup st.tables.list 0 i ≡ None
    fresh = none_found st.tables.list 0 i (u.unmapped i (omega arith))

    room : st.tables.list.count < capacity
    room = let few = reg.few_colours in let c = u.count in omega arith

    range : facts.InRange b (mapping b f i)
    range = let few = reg.few_colours in record { space_lt = omega arith; page_lt = omega arith; frame_lt = hf; rights_of_holds = rights_known _ (is_rights_lem b i) }

    map_clear : first_refusal (causes b st call) ≡ 0
    unfolding own_causes
    map_clear =
        let few = reg.few_colours in
        own_clear b st call u.tables_kept u.inv.kept refl (
          lt-leb pages i (omega arith),
          (lt-leb b.frames f hf, (ap not (is_rights_lem b i), (ap is_some fresh, (ne_eqb st.tables.list.count capacity (λ e. let r = room in omega arith), tt)))),
        )

    list_length : length st.tables.list.items ≡ capacity
    list_length = (lengths_known b st.tables u.tables_kept.0).0

    new : MappingList
    new = insert st.tables.list (mapping b f i)

    same_mapped : mapping_of new 0 i ≡ some (mapping b f i)
    unfolding new
    same_mapped = mapping_of_inserted_same st.tables.list (mapping b f i) list_length room b (list_rules b st.tables u.tables_kept.1) range fresh

    other_mapped : (k : ℕ) → i ≢ k → mapping_of new 0 k ≡ mapping_of st.tables.list 0 k
    unfolding new
    other_mapped k ne = mapping_of_inserted_other st.tables.list (mapping b f i) list_length room b (list_rules b st.tables u.tables_kept.1) range fresh 0 k (λ e. ne e.1)

    next : Upto (suc i) (accept b st call).after (after_accepted m call)
    unfolding accept after_accepted refill new
    next =
        record {
          inv = invariant_call b st call map_clear reg m u.inv;
          tables_kept = tables_after_lem b st call map_clear;
          count = inserted_count st.tables.list (mapping b f i) list_length room b (list_rules b st.tables u.tables_kept.1) ∙ let c = u.count in omega arith;
          mapped = λ k hk. mapped_next k hk (ℕ_discrete i k);
          unmapped = λ k hk. other_mapped k (λ e. omega arith) ∙ u.unmapped k (omega arith);
          framed = λ k hk. framed_next k hk (ℕ_discrete i k);
          at_start_lem = u.at_start_lem;
        }
      where
        mapped_next : (k : ℕ) → k < suc i → Dec (i ≡ k) → mapping_of (insert st.tables.list (mapping b f i)) 0 k ≡ some (mapping b f k)
        mapped_next k hk (yes e) = subst (λ (x : ℕ). mapping_of (insert st.tables.list (mapping b f i)) 0 x ≡ some (mapping b f x)) e same_mapped
        mapped_next k hk (no ne) = other_mapped k ne ∙ u.mapped k (omega arith)

        framed_next : (k : ℕ) → k < suc i → Dec (i ≡ k) → replaced m.frame 0 i (some f) 0 k ≡ some f
        framed_next k hk (yes e) = ap (λ (t : Bool). cond t (some f) (m.frame 0 k)) (eq-eqb i k e)
        framed_next k hk (no ne) = ap (λ (t : Bool). cond t (some f) (m.frame 0 k)) (ne_eqb i k ne) ∙ u.framed k (omega arith)

    turn : Run b st m (Upto (suc i))
    turn = one b st m (Upto (suc i)) call tt map_clear next

  pub map_all_lem : (memory words protections : List ℕ) → length memory ≡ memory_words b → length words ≡ cache_words b → length protections ≡ capacity
      → Run b (start_state b memory words protections) (start_cacheless b memory) (λ st m. Here b f (λ k. empty) free st m)
  map_all_lem memory words protections full wide long =
      let inv = start_invariant b reg memory words protections full wide long in
      let st = start_state b memory words protections in
      then b st (start_cacheless b memory) (Upto (cache_pages b)) _ (repeated b Upto (cache_pages b) turn st (start_cacheless b memory) (begins inv))
      (λ t n u. stay b t n _ (record { tables_in = ready t n u; inv = u.inv }))
    where
      begins : Invariant b (start_state b memory words protections) (start_cacheless b memory) → Upto 0 (start_state b memory words protections) (start_cacheless b memory)
      begins inv =
          record {
            inv = inv;
            tables_kept = sound_kept b (start_state b memory words protections).tables inv.sound;
            count = empty_count;
            mapped = λ k hk. absurd (omega arith);
            unmapped = λ k hk. mapping_of_empty 0 k;
            framed = λ k hk. absurd (omega arith);
            at_start_lem = record_at_start b.frames b.colours f hf;
          }

      start_states : (k : ℕ) → page_states b.colours (start_record b.colours) k ≡ empty
      start_states k =
          page_cases (λ z. z ≡ empty) b.colours k (λ _. (start_record_lem b.colours).1 k) (λ _. ap as_page ((start_record_lem b.colours).2 (k - b.colours)))

      ready : (t : State) (n : Cacheless) → Upto (cache_pages b) t n → In b f (λ k. empty) free t.tables n
      ready t n u =
          record {
            tables_kept = u.tables_kept;
            mapped = u.mapped;
            framed = u.framed;
            states_are = λ k hk. ap (λ (r : FrameRecord). page_states b.colours r k) u.at_start_lem ∙ start_states k;
            mark_is = ap (λ (r : FrameRecord). r.busy) u.at_start_lem;
          }
