-- An access through a colour that lets it pass changes nothing.
use mathlib.Core.Path.{◌≡◌, refl, sym, ap, ap₂, ◌∙◌}
use mathlib.Core.Bool.{Bool, true, false, not, ◌&&◌, beq, false≢true}
use mathlib.Core.List.{◌++◌, map}
use Prim.Native.Nat.{ℕ, ◌<◌}
use borrow.Author.Tests.{eqb-true}
use lib.Dec.{eqb}
use Rattle.bits.specs.Mask.{bit, digit}
use Rattle.bits.proofs.Mask.{bit_one, at_place, any_cong, first_cong, places_none}
use Rattle.bits.proofs.Tautology.{beq_of, and_left, and_right}
use Rattle.page_model.specs.declared.FrameRecord.{FrameRecord}
use Rattle.page_model.specs.declared.Op.TheVariants.{Flush, Purge, PurgeInstructions}
use Rattle.page_model.specs.Busy.{mark_after}
use Rattle.page_model.specs.Record.{state_of, instruction_state_of, is_held, is_dirty, is_stale, is_fetched}
use Rattle.page_model.specs.Instructions.{InstructionCell, ◌⇛◌, fetched_cell}
use Rattle.page_model.specs.Step.{is_flush, is_purge, instruction_cell_of, record_after, operations}
use Rattle.page_model.specs.Table.{none, Step, read, write, fetch, role_if, own_of}
use Rattle.page_model.specs.Theorems.{Idle}
use Rattle.page_model.proofs.Rules.{Keeps, flag, flag_digit, dirty_only, any_dirty, first_dirty}
use Rattle.page_model.proofs.Instructions.{left_stays, outdated_stays, own_stays, other_stays, not_held, instructions_are, beside_held}
use Rattle.page_model.proofs.Cells.{Test, Agree, apart, next_test, operation_test, at, next_law, operation_law, kept_state}
use Rattle.page_model.proofs.Encoding.{encode_is}
use Rattle.page_model.proofs.Moving.{masks_of_is}

module _ (n : ℕ) (r : FrameRecord) (kr : Keeps n r) (c : ℕ) (lc : c < n) where
  -- a colour that is held is the dirty one, if one is
  own_dirty : bit r.masks.held c ≡ true → (k : ℕ) → (flag r && bit r.masks.held k) ≡ (flag r && eqb c k)
  own_dirty z k = go (flag r) refl
    where
      go : (b : Bool) → flag r ≡ b → (b && bit r.masks.held k) ≡ (b && eqb c k)
      go true e =
          let only = (dirty_only n r kr e).1 in
          let own = eqb-true r.dirty_colour c (sym (bit_one _ c) ∙ ap (λ (m : ℕ). bit m c) (sym only) ∙ z) in
          ap (λ (m : ℕ). bit m k) only ∙ bit_one _ k ∙ ap (λ (d : ℕ). eqb d k) own
      go false e = refl

  -- the tests of a colour where c is held
  abbrev own_held : Test
  own_held o s h d = apart o s h d && beq (o && h) o && beq (d && h) (d && o)

  own_held_lem : bit r.masks.held c ≡ true → (k : ℕ) → k < n → at r c k own_held ≡ true
  own_held_lem z k l =
      ap₂ ◌&&◌ (ap₂ ◌&&◌ (kr.masks.apart k l) (beq_of _ _ (at_place (bit r.masks.held) c k ∙ ap (λ (b : Bool). b && eqb c k) z))) (beq_of _ _ (own_dirty z k))

  -- a row that keeps the states of colours of which given holds, and of all colours for instructions
  idle_of : (step : Step) (given : Test) → (holds : (k : ℕ) → k < n → at r (own_of step) k given ≡ true)
      → Agree given (λ o s h d. h) (next_test step is_held)
      → Agree given (λ o s h d. s) (next_test step is_stale)
      → Agree given (λ o s h d. d && h) (next_test step is_dirty)
      → Agree given (λ o s h d. false) (operation_test step is_flush)
      → Agree given (λ o s h d. false) (operation_test step is_purge)
      → r.busy ≡ mark_after step r.busy
      → ((k : ℕ) → k < n → instruction_cell_of step r k ≡ none ⇛ instruction_state_of r k)
      → Idle n step r
  unfolding operations record_after
  idle_of step given holds eh es ed ef ep eb stays =
      let next = next_law n r step given holds in
      let dirties = next is_dirty (λ o s h d. d && h) ed in
      let operation = operation_law n r step given holds in (
        ap₂ ◌++◌
            (ap₂ ◌++◌ (ap (map Flush) (places_none n _ (λ k l. sym (operation is_flush (λ o s h d. false) ef k l)))) (ap (map Purge) (places_none n _ (λ k l. sym (operation is_purge (λ o s h d. false) ep k l)))))
            (ap (map PurgeInstructions) (places_none n _ (λ k l. ap (λ (x : InstructionCell). is_purge x.operation) (stays k l)))),
        sym (encode_is n _ _ _ r (masks_of_is n _ _ r.masks kr.masks (next is_held (λ o s h d. h) eh) (next is_stale (λ o s h d. s) es))
            (flag_digit kr.flag_le ∙ ap digit (sym (any_dirty n r kr) ∙ any_cong n _ _ dirties)) eb (sym (first_dirty n r kr) ∙ first_cong n _ _ dirties)
            (instructions_are n r kr _ (λ k l. sym (ap (λ (x : InstructionCell). x.next) (stays k l))))),
      )

  pub read_idle : bit r.masks.held c ≡ true → Idle n (read c) r
  unfolding instruction_cell_of
  read_idle z = idle_of (read c) own_held (own_held_lem z) refl refl refl refl refl refl (λ k l. left_stays (instruction_state_of r k))

  pub write_idle : is_dirty (state_of r c) ≡ true → Idle n (write c) r
  unfolding instruction_cell_of
  write_idle z =
      let both = kept_state n r kr is_dirty (λ o s h d. d && h) refl c lc ∙ z in
      idle_of (write c) (λ o s h d. own_held o s h d && d) (λ k l. ap₂ ◌&&◌ (own_held_lem (and_right (flag r) _ both) k l) (and_left (flag r) _ both)) refl refl refl refl refl refl
      (λ k l. outdated_stays (instruction_state_of r k) (not_held _ (λ e. false≢true (sym (beside_held n r kr k l e).0 ∙ and_left (flag r) _ both))))

  pub fetch_idle : is_fetched (instruction_state_of r c) ≡ true → Idle n (fetch c) r
  unfolding instruction_cell_of
  fetch_idle z =
      idle_of (fetch c) (λ o s h d. apart o s h d && not d) (λ k l. ap₂ ◌&&◌ (kr.masks.apart k l) (ap not (beside_held n r kr c lc z).0)) refl refl refl refl refl refl
      (λ k l. go k (eqb c k) refl)
    where
      go : (k : ℕ) (o : Bool) → eqb c k ≡ o → fetched_cell (role_if o) (instruction_state_of r k) ≡ none ⇛ instruction_state_of r k
      go k true e = own_stays (instruction_state_of r k) (ap (λ (j : ℕ). is_fetched (instruction_state_of r j)) (sym (eqb-true c k e)) ∙ z)
      go k false e = other_stays (instruction_state_of r k)
