-- The invariant after a change of the tables: a step of a frame's record, or another list.
use mathlib.Core.Path.{◌≡◌, refl, ◌∙◌, subst⁻¹}
use mathlib.Core.Bool.{true, false}
use mathlib.Core.Logic.{◌≢◌}
use mathlib.Core.List.{List}
use Prim.Native.Nat.{ℕ, ◌<◌}
use native.Mathlib.Omega.{arith}
use native.Mathlib.Decide.{ℕ_discrete}
use Rattle.bits.proofs.Mask.{all_at, all_of}
use Rattle.board.specs.declared.Board.{Board}
use Rattle.page_model.specs.declared.FrameRecord.{FrameRecord}
use Rattle.page_model.specs.Busy.{bars}
use Rattle.page_model.specs.Record.{keeps_rules}
use Rattle.page_model.specs.Step.{record_after}
use Rattle.page_model.specs.Table.{ColourState, Step}
use Rattle.page_model.proofs.Cells.{each_state}
use Rattle.page_model.proofs.Theorems.{step_keeps_rules}
use Rattle.manager.specs.Calls.{change_of, commit_change}
use Rattle.manager.specs.Tables.{Tables, tables, record_at, put_record, records_keep_rules, refill}
use Rattle.manager.proofs.Laws.{length_tabulate}
use Rattle.manager.proofs.RecordLaws.{length_put_record, record_at_put_record_same, record_at_put_record_other, put_record_rules}
use Rattle.cache.specs.Store.{Store, WellFormedStore}
use Rattle.machine.specs.State.{State, state}
use Rattle.consistency.specs.Cacheless.{Cacheless}
use Rattle.consistency.proofs.Pages.{page_states, pages_after, pages_after_lem}
use Rattle.consistency.proofs.Agrees.{Agrees}
use Rattle.consistency.proofs.Invariant.{Sound, Invariant}
use Rattle.consistency.proofs.Weaker.{weaker, weaken}

-- protections filled anew leave the tables sound
pub refill_sound : (b : Board) (t : Tables) → Sound b t → Sound b (refill b t)
unfolding refill
refill_sound b t s =
    record {
      items_length = s.items_length;
      records_length = s.records_length;
      protections_length = length_tabulate _ _ ∙ s.protections_length;
      list_rules = s.list_rules;
      record_rules = s.record_rules;
    }

weaker_self : (s : ColourState) → weaker s s ≡ true
weaker_self s = each_state (λ s. weaker s s) refl s

module _ (b : Board) (st : State) (m : Cacheless) (inv : Invariant b st m) where
  -- the invariant after a call that changes neither list nor records, if every frame's states agree with the store
  pub refill_invariant : (s : Store) (words : ℕ → ℕ → ℕ) → WellFormedStore b s → ((f : ℕ) → f < b.frames → Agrees b f (page_states b.colours (record_at st.tables.records f)) (words f) s)
      → Invariant b (state (refill b st.tables) s) (record { word = words; frame = m.frame })
  unfolding refill
  refill_invariant s words kept agrees = record { sound = refill_sound b st.tables inv.sound; kept = kept; agrees = agrees; frames_listed = inv.frames_listed }

  module _ (f : ℕ) (hf : f < b.frames) where
    -- ---- another record of f

    module _ (next : FrameRecord) (next-rules : keeps_rules b.colours next ≡ true) where
      put : List ℕ
      put = put_record st.tables.records f next

      at_same : record_at put f ≡ next
      unfolding put
      at_same = let e = inv.sound.records_length in record_at_put_record_same st.tables.records f next (omega arith)

      at_other_lem : (g : ℕ) → g ≢ f → record_at put g ≡ record_at st.tables.records g
      unfolding put
      at_other_lem g ne = record_at_put_record_other st.tables.records f next g ne

      put_sound : Sound b (commit_change b st.tables f next)
      unfolding put records_keep_rules
      put_sound =
          refill_sound b (tables st.tables.list put st.tables.protections) (record {
            items_length = inv.sound.items_length;
            records_length = length_put_record st.tables.records f next ∙ inv.sound.records_length;
            protections_length = inv.sound.protections_length;
            list_rules = inv.sound.list_rules;
            record_rules = all_at b.frames _ (put_record_rules b st.tables.records f next inv.sound.records_length hf (all_of _ _ inv.sound.record_rules) next-rules);
          })

      -- the invariant, if f's states in that record and the other frames' as they were agree with the store
      module _ (s : Store) (words : ℕ → ℕ → ℕ) (kept : WellFormedStore b s) (own : Agrees b f (page_states b.colours next) (words f) s)
          (others : (g : ℕ) → g < b.frames → g ≢ f → Agrees b g (page_states b.colours (record_at st.tables.records g)) (words g) s) where
        agrees_after : (g : ℕ) → g < b.frames → Dec (g ≡ f) → Agrees b g (page_states b.colours (record_at put g)) (words g) s
        agrees_after g hg (no ne) = subst⁻¹ (λ (x : FrameRecord). Agrees b g (page_states b.colours x) (words g) s) (at_other_lem g ne) (others g hg ne)
        agrees_after g hg (yes e) =
            subst⁻¹ (λ (x : ℕ). Agrees b x (page_states b.colours (record_at put x)) (words x) s) e (subst⁻¹ (λ (x : FrameRecord). Agrees b f (page_states b.colours x) (words f) s) at_same own)

        pub record_invariant : Invariant b (state (commit_change b st.tables f next) s) (record { word = words; frame = m.frame })
        unfolding refill put
        record_invariant =
            record {
              sound = put_sound;
              kept = kept;
              agrees = λ g hg. agrees_after g hg (ℕ_discrete g f);
              frames_listed = inv.frames_listed;
            }

    -- ---- a step of f's record, which its mark does not bar

    module _ (step : Step) (free : bars (record_at st.tables.records f).busy step ≡ false) (s : Store) (words : ℕ → ℕ → ℕ) (kept : WellFormedStore b s)
        (own : Agrees b f (pages_after b.colours step (record_at st.tables.records f)) (words f) s)
        (others : (g : ℕ) → g < b.frames → g ≢ f → Agrees b g (page_states b.colours (record_at st.tables.records g)) (words g) s) where
      pub commit_invariant : Invariant b (state (commit_change b st.tables f (change_of b st.tables f step).next) s) (record { word = words; frame = m.frame })
      commit_invariant =
          let r = record_at st.tables.records f in
          let rules = inv.sound.record_rules f hf in
          record_invariant (record_after b.colours step r) (step_keeps_rules b.colours step r rules free) s words kept
          (weaken b f (pages_after b.colours step r) (page_states b.colours (record_after b.colours step r))
          (λ k h. rw (pages_after_lem b.colours r step rules k h) (weaker_self (pages_after b.colours step r k))) s (words f) own)
          others
