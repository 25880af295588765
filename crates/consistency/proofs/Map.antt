-- Accepted map and unmap: records and store stay, and the list changes as the cacheless memory's frames do.
use mathlib.Core.Path.{◌≡◌, refl, sym, ap, ap₂, ◌∙◌}
use mathlib.Core.Bool.{Bool, true, false, cond, ◌&&◌}
use mathlib.Core.Option.{Option, none, some}
use Prim.Native.Nat.{ℕ, ◌<◌}
use lib.Dec.{eqb}
use lib.ListN.{length}
use borrow.Author.Tests.{eqb-true, eqb-false, not-false}
use Rattle.bits.proofs.Tautology.{and_left}
use Rattle.board.specs.declared.Board.{Board}
use Rattle.std.specs.Prelude.{None}
use Rattle.mapping.specs.declared.Mapping.{Mapping}
use Rattle.mapping.specs.declared.MappingList.{MappingList}
use Rattle.mapping.specs.Change.{insert, remove}
use Rattle.mapping.specs.Entry.{capacity}
use Rattle.mapping.specs.Facts.{InRange, Rules, FoundAt}
use Rattle.mapping.specs.Lookup.{lookup, mapping_of, place_of}
use Rattle.mapping.proofs.Laws.{inserted_length, inserted_rules, mapping_of_inserted_same, mapping_of_inserted_other, remove_length, remove_rules, mapping_of_remove_same, mapping_of_remove_other}
use Rattle.manager.specs.Calls.{commit_unmap}
use Rattle.manager.specs.Refusals.{first_refusal, map_causes}
use Rattle.manager.specs.Tables.{tables, lengths_right, refill}
use Rattle.manager.specs.Theorems.{WellFormedTables}
use Rattle.manager.proofs.AcceptedLaws.{map_accepted}
use Rattle.manager.proofs.CauseLaws.{mapped_found}
use Rattle.machine.specs.Refusals.{store_lengths, lent_causes, own_causes, causes}
use Rattle.machine.specs.State.{State, state, map, unmap}
use Rattle.machine.proofs.StepLaws.{cleared, lengths_clear, tables_clear}
use Rattle.cache.specs.Cache.{FlushKind}
use Rattle.machine.specs.Step.{operate_by, carry_out_by}
use Rattle.consistency.specs.Cacheless.{Cacheless, cacheless, replaced, after_accepted}
use Rattle.consistency.specs.Flushes.{accept_by}
use Rattle.consistency.proofs.Commit.{refill_sound}
use Rattle.consistency.proofs.Invariant.{Sound, frame_in, Invariant, Taken}
use Rattle.consistency.proofs.Refused.{rest_clear}

-- a function with one value replaced, at that place and at another
replaced_cases : (P : Option ℕ → Type 0) (g : ℕ → ℕ → Option ℕ) (i j : ℕ) (a : Option ℕ) (x y : ℕ) → (i ≡ x → j ≡ y → P a)
    → ((i ≡ x → j ≡ y → ⊥) → P (g x y)) → P (replaced g i j a x y)
replaced_cases P g i j a x y same other = go (eqb i x) (eqb j y) refl refl
  where
    go : (s t : Bool) → eqb i x ≡ s → eqb j y ≡ t → P (cond (s && t) a (g x y))
    go true true p q = same (eqb-true i x p) (eqb-true j y q)
    go true false p q = other (λ _ e. eqb-false j y q e)
    go false t p q = other (λ e _. eqb-false i x p e)

-- what an accepted map tells of its mapping
pub map_clear : (b : Board) (st : State) (m : Mapping) → first_refusal (causes b st (map m.space m.page m.frame m.rights)) ≡ 0
    → WellFormedTables b st.tables × InRange b m × (lookup st.tables.list m.space m.page ≡ None) × (st.tables.list.count < capacity)
unfolding causes map_causes first_refusal
map_clear b st m e =
    let call = map m.space m.page m.frame m.rights in
    let lengths = and_left (lengths_right b st.tables) (store_lengths b st.store) (and_left _ true (lengths_clear b st call e)) in
    map_accepted b st.tables m (rw (lengths, tables_clear b st call e) (rest_clear (lent_causes b st call) (own_causes b st call) refl e))

module _ (b : Board) (st : State) (m : Cacheless) (inv : Invariant b st m) where
  -- another list that has its length and keeps the rules
  list_sound : (new : MappingList) → length new.items ≡ capacity → Rules b new → Sound b (tables new st.tables.records st.tables.protections)
  list_sound new long rules =
      record {
        items_length = long;
        records_length = inv.sound.records_length;
        protections_length = inv.sound.protections_length;
        list_rules = rules;
        record_rules = inv.sound.record_rules;
      }

  -- another list, with the frames that the cacheless memory then has
  relisted : (new : MappingList) (frame : ℕ → ℕ → Option ℕ) → Sound b (tables new st.tables.records st.tables.protections)
      → ((x y : ℕ) → frame x y ≡ frame_in (mapping_of new x y))
      → Invariant b (state (refill b (tables new st.tables.records st.tables.protections)) st.store) (cacheless m.word frame)
  unfolding refill
  relisted new frame sound listed =
      record { sound = refill_sound b (tables new st.tables.records st.tables.protections) sound; kept = inv.kept; agrees = inv.agrees; frames_listed = listed }

  -- ---- map

  module _ (mp : Mapping) (range : InRange b mp) (new : lookup st.tables.list mp.space mp.page ≡ None) (room : st.tables.list.count < capacity) where
    map_sound : Sound b (tables (insert st.tables.list mp) st.tables.records st.tables.protections)
    map_sound =
        list_sound (insert st.tables.list mp) (inserted_length st.tables.list mp inv.sound.items_length room b inv.sound.list_rules ∙ inv.sound.items_length)
        (inserted_rules st.tables.list mp inv.sound.items_length room b inv.sound.list_rules range new)

    map_listed : (x y : ℕ) → replaced m.frame mp.space mp.page (some mp.frame) x y ≡ frame_in (mapping_of (insert st.tables.list mp) x y)
    map_listed x y =
        replaced_cases (λ v. v ≡ frame_in (mapping_of (insert st.tables.list mp) x y)) m.frame mp.space mp.page (some mp.frame) x y
        (λ p q. sym (ap frame_in (ap₂ (mapping_of (insert st.tables.list mp)) (sym p) (sym q) ∙ mapping_of_inserted_same st.tables.list mp inv.sound.items_length room b inv.sound.list_rules range new)))
        (λ ne. inv.frames_listed x y ∙ sym (ap frame_in (mapping_of_inserted_other st.tables.list mp inv.sound.items_length room b inv.sound.list_rules range new x y (λ e. ne e.0 e.1))))

    map_kept : Invariant b (state (refill b (tables (insert st.tables.list mp) st.tables.records st.tables.protections)) st.store)
        (cacheless m.word (replaced m.frame mp.space mp.page (some mp.frame)))
    map_kept = relisted (insert st.tables.list mp) (replaced m.frame mp.space mp.page (some mp.frame)) map_sound map_listed

  pub map_taken : (how : FlushKind) (space page frame rights : ℕ) → first_refusal (causes b st (map space page frame rights)) ≡ 0 → Taken b how st m (map space page frame rights)
  unfolding accept_by carry_out_by operate_by after_accepted
  map_taken how space page frame rights e = let a = map_clear b st (record { space = space; page = page; frame = frame; rights = rights }) e in (tt, map_kept _ a.1 a.2 a.3)

  -- ---- unmap

  module _ (space page i : ℕ) (at : FoundAt st.tables.list space page i) where
    unmap_sound : Sound b (tables (remove st.tables.list i) st.tables.records st.tables.protections)
    unmap_sound =
        list_sound (remove st.tables.list i) (remove_length st.tables.list i at.listed inv.sound.list_rules.count_le at.inside ∙ inv.sound.items_length)
        (remove_rules b st.tables.list i inv.sound.list_rules at.listed)

    unmap_listed : (x y : ℕ) → replaced m.frame space page none x y ≡ frame_in (mapping_of (remove st.tables.list i) x y)
    unmap_listed x y =
        replaced_cases (λ v. v ≡ frame_in (mapping_of (remove st.tables.list i) x y)) m.frame space page none x y
        (λ p q. sym (ap frame_in (ap₂ (mapping_of (remove st.tables.list i)) (sym (at.maps.0 ∙ p)) (sym (at.maps.1 ∙ q)) ∙ mapping_of_remove_same b st.tables.list i inv.sound.list_rules at.listed)))
        (λ ne. inv.frames_listed x y ∙ sym (ap frame_in (mapping_of_remove_other b st.tables.list i inv.sound.list_rules at.listed x y (λ e. ne (sym at.maps.0 ∙ e.0) (sym at.maps.1 ∙ e.1)))))

    unmap_kept : Invariant b (state (commit_unmap b st.tables i) st.store) (cacheless m.word (replaced m.frame space page none))
    unmap_kept = relisted (remove st.tables.list i) (replaced m.frame space page none) unmap_sound unmap_listed

  pub unmap_taken : (how : FlushKind) (space page : ℕ) → first_refusal (causes b st (unmap space page)) ≡ 0 → Taken b how st m (unmap space page)
  unfolding causes accept_by carry_out_by operate_by after_accepted
  unmap_taken how space page e =
      let mapped = not-false _ (cleared b st (unmap space page) 8 e) in
      (tt, unmap_kept space page (place_of (lookup st.tables.list space page)) (mapped_found b st.tables (tables_clear b st (unmap space page) e) space page mapped))
