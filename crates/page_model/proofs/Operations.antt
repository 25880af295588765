-- The operations of a step: there are few, the answer has them all, and each is on a colour below n.
use mathlib.Core.Path.{◌≡◌, refl, sym, ap, ◌∙◌, subst}
use mathlib.Core.Bool.{Bool, true, false, ◌&&◌}
use mathlib.Core.List.{List, [], ◌∷◌, ◌++◌, map, Memᴰ}
use Prim.Native.Nat.{ℕ, ◌+◌, ◌≤◌, ◌<◌}
use native.Mathlib.Omega.{arith}
use borrow.Author.Tests.{eqb-true}
use lib.Dec.{eqb}
use lib.ListN.{length, length-append, length-map}
use Rattle.bits.specs.Mask.{places_of}
use Rattle.bits.proofs.Mask.{places_none, places_few}
use Rattle.bits.proofs.Tautology.{and_right}
use Rattle.page_model.specs.declared.FrameRecord.{FrameRecord}
use Rattle.page_model.specs.declared.Op.{Op}
use Rattle.page_model.specs.declared.Op.TheVariants.{Flush, Purge, PurgeInstructions}
use Rattle.page_model.specs.Step.{is_flush, is_purge, cell_of, instruction_cell_of, operations, op_list, first_two, OpBelow}
use Rattle.page_model.specs.Table.{Operation, Step, read, write, device_read, device_write, device_write_part, begin_read, begin_write, fetch, own_of}
use Rattle.page_model.specs.Instructions.{left_cell, outdated_cell}
use Rattle.page_model.specs.Record.{instruction_state_of}
use Rattle.page_model.specs.Theorems.{FewOperations, OpsComplete, OperationsBelow}
use Rattle.page_model.proofs.Rules.{Keeps, keeps, flag, dirty_at}
use Rattle.page_model.proofs.Instructions.{no_purge, purged_by_fetch}
use Rattle.page_model.proofs.Listed.{listed_cases}
use Rattle.page_model.proofs.Cells.{Test, Agree, apart, operation_test, at, kept_operation}

-- the colours on which a step has an operation that f picks
abbrev pub places_with : ℕ → Step → FrameRecord → (Operation → Bool) → List ℕ
places_with n step r f = places_of n (λ k. f (cell_of step r k).operation)

-- and those that it purges in the instruction cache
abbrev pub instruction_places : ℕ → Step → FrameRecord → List ℕ
instruction_places n step r = places_of n (λ k. is_purge (instruction_cell_of step r k).operation)

-- ---- there are few

module _ (n : ℕ) (r : FrameRecord) (kr : Keeps n r) where
  module _ (step : Step) (f : Operation → Bool) where
    -- if only colours of which q holds have one, and q holds of c alone
    few : (q : Test) (c : ℕ) → ((k : ℕ) → at r (own_of step) k q ≡ true → eqb c k ≡ true)
        → Agree apart (λ o s h d. operation_test step f o s h d && q o s h d) (operation_test step f) → length (places_with n step r f) ≤ 1
    few q c only a = places_few n _ (λ j k lj lk ej ek. sym (at_c j lj ej) ∙ at_c k lk ek)
      where
        at_c : (k : ℕ) → k < n → f (cell_of step r k).operation ≡ true → c ≡ k
        at_c k l e =
            eqb-true c k
            (only k (and_right (at r (own_of step) k (operation_test step f)) _ (kept_operation n r kr step f (λ o s h d. operation_test step f o s h d && q o s h d) a k l ∙ e)))

    on_dirty_lem : Agree apart (λ o s h d. operation_test step f o s h d && (d && h)) (operation_test step f) → length (places_with n step r f) ≤ 1
    on_dirty_lem = few (λ o s h d. d && h) r.dirty_colour (λ k e. and_right (flag r) _ (sym (dirty_at n r kr k) ∙ e))

    on_own : Agree apart (λ o s h d. operation_test step f o s h d && o) (operation_test step f) → length (places_with n step r f) ≤ 1
    on_own = few (λ o s h d. o) (own_of step) (λ k e. e)

  pub few_flushes : (step : Step) → length (places_with n step r is_flush) ≤ 1
  few_flushes (read c) = on_dirty_lem (read c) is_flush refl
  few_flushes (write c) = on_dirty_lem (write c) is_flush refl
  few_flushes device_read = on_dirty_lem device_read is_flush refl
  few_flushes device_write = on_dirty_lem device_write is_flush refl
  few_flushes device_write_part = on_dirty_lem device_write_part is_flush refl
  few_flushes begin_read = on_dirty_lem begin_read is_flush refl
  few_flushes begin_write = on_dirty_lem begin_write is_flush refl
  few_flushes (fetch c) = on_dirty_lem (fetch c) is_flush refl

  pub few_purges : (step : Step) → length (places_with n step r is_purge) ≤ 1
  few_purges (read c) = on_own (read c) is_purge refl
  few_purges (write c) = on_own (write c) is_purge refl
  few_purges device_read = on_dirty_lem device_read is_purge refl
  few_purges device_write = on_dirty_lem device_write is_purge refl
  few_purges device_write_part = on_dirty_lem device_write_part is_purge refl
  few_purges begin_read = on_dirty_lem begin_read is_purge refl
  few_purges begin_write = on_dirty_lem begin_write is_purge refl
  few_purges (fetch c) = on_dirty_lem (fetch c) is_purge refl

  -- a step that leaves the instruction cache alone, and a fetch, which purges no data
  alone : (step : Step) → ((k : ℕ) → k < n → is_purge (instruction_cell_of step r k).operation ≡ false) → length (places_with n step r is_purge) + length (instruction_places n step r) ≤ 1
  alone step h = let f = few_purges step in let z = ap length (places_none n _ h) in omega arith

  pub few_all : (step : Step) → length (places_with n step r is_purge) + length (instruction_places n step r) ≤ 1
  unfolding instruction_cell_of
  few_all (read c) = alone (read c) (λ k l. no_purge left_cell refl (instruction_state_of r k))
  few_all (write c) = alone (write c) (λ k l. no_purge outdated_cell refl (instruction_state_of r k))
  few_all device_read = alone device_read (λ k l. no_purge left_cell refl (instruction_state_of r k))
  few_all device_write = alone device_write (λ k l. no_purge outdated_cell refl (instruction_state_of r k))
  few_all device_write_part = alone device_write_part (λ k l. no_purge outdated_cell refl (instruction_state_of r k))
  few_all begin_read = alone begin_read (λ k l. no_purge left_cell refl (instruction_state_of r k))
  few_all begin_write = alone begin_write (λ k l. no_purge outdated_cell refl (instruction_state_of r k))
  few_all (fetch c) =
      let p = ap length (places_none n _ (λ k l. sym (kept_operation n r kr (fetch c) is_purge (λ o s h d. false) refl k l))) in
      let i = places_few n (λ k. is_purge (instruction_cell_of (fetch c) r k).operation) (λ j k lj lk ej ek. sym (at_c j ej) ∙ at_c k ek) in
      omega arith
    where
      at_c : (k : ℕ) → is_purge (instruction_cell_of (fetch c) r k).operation ≡ true → c ≡ k
      at_c k e = ap own_of (purged_by_fetch (fetch c) r k e)

pub few_operations : FewOperations
unfolding operations
few_operations n step r e =
    let kr = keeps n r e in
    let f = few_flushes n r kr step in
    let p = few_all n r kr step in (
      simp (length-append, length-map) (omega arith),
      places_with n step r is_flush,
      places_with n step r is_purge,
      instruction_places n step r,
      refl,
    )

-- ---- the answer has them all

abbrev in_order : List ℕ → List ℕ → List ℕ → List Op
in_order a b i = (map Flush a ++ map Purge b) ++ map PurgeInstructions i

complete : (a b i : List ℕ) → length a ≤ 1 → length b + length i ≤ 1 → op_list (first_two (in_order a b i)).first ++ op_list (first_two (in_order a b i)).second ≡ in_order a b i
complete [] [] [] la lb = refl
complete [] [] (e ∷ []) la lb = refl
complete [] (d ∷ []) [] la lb = refl
complete (c ∷ []) [] [] la lb = refl
complete (c ∷ []) [] (e ∷ []) la lb = refl
complete (c ∷ []) (d ∷ []) [] la lb = refl
complete (c ∷ (x ∷ l)) b i la lb = absurd (omega arith)
complete [] (d ∷ []) (x ∷ l) la lb = absurd (omega arith)
complete [] (d ∷ (x ∷ l)) i la lb = absurd (omega arith)
complete [] [] (e ∷ (x ∷ l)) la lb = absurd (omega arith)
complete (c ∷ []) (d ∷ []) (x ∷ l) la lb = absurd (omega arith)
complete (c ∷ []) (d ∷ (x ∷ l)) i la lb = absurd (omega arith)
complete (c ∷ []) [] (e ∷ (x ∷ l)) la lb = absurd (omega arith)

pub ops_complete : OpsComplete
unfolding operations
ops_complete n step r e = let kr = keeps n r e in complete (places_with n step r is_flush) (places_with n step r is_purge) (instruction_places n step r) (few_flushes n r kr step) (few_all n r kr step)

-- ---- each is on a colour below n

two_below : (n : ℕ) (l : List Op) → ((o : Op) → Memᴰ o l → OpBelow n o) → OpBelow n (first_two l).first × OpBelow n (first_two l).second
two_below n [] h = (tt, tt)
two_below n (a ∷ []) h = (h a (Memᴰ.head refl), tt)
two_below n (a ∷ (b ∷ l)) h = (h a (Memᴰ.head refl), h b (Memᴰ.tail (Memᴰ.head refl)))

pub operations_below : OperationsBelow
operations_below n step r =
    let each : (o : Op) → Memᴰ o (operations n step r) → OpBelow n o
    = λ o. listed_cases n step r (λ k l p e. subst (OpBelow n) e l) (λ k l p e. subst (OpBelow n) e l) (λ k l p e. subst (OpBelow n) e l) in
    let two = two_below n _ each in (each, two.0, two.1)
