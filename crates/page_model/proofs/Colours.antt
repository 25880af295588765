-- A step as the code takes it: one cell for its own colour, and one for each class of the others.
use mathlib.Core.Path.{◌≡◌, refl, sym, ap, ap₂, ◌∙◌}
use mathlib.Core.Bool.{Bool, true, false, not, ◌&&◌, ◌||◌, cond, or-false, and-false, and-true, false≢true}
use mathlib.Core.List.{[], ◌∷◌, ◌++◌, map, append_assoc}
use Prim.Native.Nat.{ℕ, ◌≤◌, ◌<◌}
use native.Mathlib.Decide.{dec_lt}
use native.Mathlib.Omega.{arith}
use borrow.Author.Tests.{eqb-true, eqb-false, eq-eqb, ne_eqb}
use lib.Dec.{eqb}
use Rattle.bits.specs.Mask.{width, bit, digit, places_of}
use Rattle.bits.proofs.Mask.{bit_past, bit_one, at_place, any_one, first_one, places_none, places_one}
use Rattle.bits.proofs.Tautology.{all4, equal_if, law4, and_left, and_right}
use Rattle.page_model.specs.declared.FrameRecord.{FrameRecord}
use Rattle.page_model.specs.declared.masks.Classes.{Classes}
use Rattle.page_model.specs.declared.Op.{Op}
use Rattle.page_model.specs.declared.Op.TheVariants.{None, Flush, Purge, PurgeInstructions}
use Rattle.page_model.specs.declared.Ops.{Ops}
use Rattle.page_model.specs.declared.masks.MaskState.{MaskState}
use Rattle.page_model.specs.Cases.{mask_state_of, row_of, code_instruction, instruction_row_of, instruction_classes, operation_at, instruction_operation_at}
use Rattle.page_model.specs.Busy.{mark_after}
use Rattle.page_model.specs.Masks.{in_held, in_stale, moved}
use Rattle.page_model.specs.Record.{state_from, state_of, instruction_state_from, instruction_state_of, is_held, is_dirty, is_stale, is_fetched, is_outdated}
use Rattle.page_model.specs.Step.{is_flush, is_purge, cell_of, instruction_cell_of, record_after, instruction_operations, operations, op_list, first_two, stepped}
use Rattle.page_model.specs.Table.{ColourState, empty, present, dirty, stale, Operation, none, flush, purge, Cell, ◌⇒◌, own, other, Step, read, write, device_read, device_write, device_write_part, begin_read, begin_write, fetch, role_if, own_of, reach}
use Rattle.page_model.specs.Instructions.{InstructionState, unfetched, fetched, outdated, InstructionCell}
use Rattle.page_model.proofs.Rules.{Keeps, flag, dirty_only, dirty_at}
use Rattle.page_model.proofs.Cells.{Test, Agree, apart, row_cell, next_test, operation_test, kept_next, kept_operation}
use Rattle.page_model.proofs.Encoding.{encode_is}
use Rattle.page_model.proofs.Moving.{moved_of}
use Rattle.page_model.proofs.Instructions.{instruction_row_lem, not_held, purged_by_fetch}

-- a step that reaches no colour past a board's goes through one that a mask has
pub below_width : (s : Step) (n : ℕ) → n ≤ width → reach s ≤ n → own_of s < width
below_width (read c) n l h = omega arith
below_width (write c) n l h = omega arith
below_width device_read n l h = omega arith
below_width device_write n l h = omega arith
below_width device_write_part n l h = omega arith
below_width begin_read n l h = omega arith
below_width begin_write n l h = omega arith
below_width (fetch c) n l h = omega arith

-- ---- the cells: of the own colour in a state, and of the other colours that are held, by the flag

abbrev own_cell : Step → ColourState → Cell
own_cell s = row_of s own

abbrev others_cell : Step → Bool → Cell
others_cell s d = row_of s other (state_from false true d)

-- what computes to true at each step holds of every step
each_step : (p : Step → Bool)
    → ((c : ℕ) → (p (read c) && p (write c) && p device_read && p device_write && p device_write_part && p begin_read && p begin_write && p (fetch c)) ≡ true)
    → (s : Step) → p s ≡ true
each_step p e (read c) = let h = e c in search (and_left, and_right) depth 10
each_step p e (write c) = let h = e c in search (and_left, and_right) depth 10
each_step p e device_read = let h = e 0 in search (and_left, and_right) depth 10
each_step p e device_write = let h = e 0 in search (and_left, and_right) depth 10
each_step p e device_write_part = let h = e 0 in search (and_left, and_right) depth 10
each_step p e begin_read = let h = e 0 in search (and_left, and_right) depth 10
each_step p e begin_write = let h = e 0 in search (and_left, and_right) depth 10
each_step p e (fetch c) = let h = e c in search (and_left, and_right) depth 10

-- what they tell of any colour: whether it is dirty after the step, and its operation
abbrev dirty_after : Step → Test
dirty_after s o t h d = o && is_dirty (own_cell s (state_from t h d)).next

abbrev operation_after : (Operation → Bool) → Step → Test
operation_after f s o t h d = f (others_cell s d).operation && ((d && h) && not o) || (o && f (own_cell s (state_from t h d)).operation)

-- so two tests of each step's row agree
abbrev agree : (Step → Test) → (Step → Test) → Step → Bool
agree p q s = all4 (λ o t h d. equal_if (apart o t h d) (p s o t h d) (q s o t h d))

dirty_after_lem : (s : Step) → Agree apart (dirty_after s) (next_test s is_dirty)
dirty_after_lem = each_step (agree dirty_after (λ s. next_test s is_dirty)) (λ c. refl)

flush_after : (s : Step) → Agree apart (operation_after is_flush s) (operation_test s is_flush)
flush_after = each_step (agree (operation_after is_flush) (λ s. operation_test s is_flush)) (λ c. refl)

purge_after : (s : Step) → Agree apart (operation_after is_purge s) (operation_test s is_purge)
purge_after = each_step (agree (operation_after is_purge) (λ s. operation_test s is_purge)) (λ c. refl)

-- ---- the record after the step

-- in which mask the colours in a state stand
in_masks : (state : ColourState) → (in_held (mask_state_of state) ≡ is_held state) × (in_stale (mask_state_of state) ≡ is_stale state)
in_masks empty = (refl, refl)
in_masks present = (refl, refl)
in_masks dirty = (refl, refl)
in_masks stale = (refl, refl)

-- and for instructions
in_instruction_masks : (state : InstructionState) → (in_held (code_instruction state) ≡ is_fetched state) × (in_stale (code_instruction state) ≡ is_outdated state)
in_instruction_masks unfetched = (refl, refl)
in_instruction_masks fetched = (refl, refl)
in_instruction_masks outdated = (refl, refl)

-- a colour past the board's is empty, and only a transfer goes through it
past_state : (n : ℕ) (r : FrameRecord) → Keeps n r → (k : ℕ) → n ≤ k → state_of r k ≡ empty
unfolding state_of
past_state n r kr k l = rw (bit_past n r.masks.stale k kr.masks.stale_lt l, bit_past n r.masks.held k kr.masks.held_lt l)

past_own : (n : ℕ) (r : FrameRecord) → Keeps n r → (s : Step) → reach s ≤ n → n ≤ own_of s → own_cell s (state_of r (own_of s)) ≡ none ⇒ empty
past_own n r kr (read c) t l = absurd (omega arith)
past_own n r kr (write c) t l = absurd (omega arith)
past_own n r kr device_read t l = rw (past_state n r kr 0 l)
past_own n r kr device_write t l = rw (past_state n r kr 0 l)
past_own n r kr device_write_part t l = rw (past_state n r kr 0 l)
past_own n r kr begin_read t l = rw (past_state n r kr 0 l)
past_own n r kr begin_write t l = rw (past_state n r kr 0 l)
past_own n r kr (fetch c) t l = absurd (omega arith)

-- ---- its operations, on the dirty colour and on the own colour

-- two operations in order: no purge before another, and no two flushes
abbrev in_order : Operation → Operation → Bool
in_order none b = true
in_order flush none = true
in_order flush flush = false
in_order flush purge = true
in_order purge none = true
in_order purge flush = false
in_order purge purge = false

abbrev is_none : Operation → Bool
is_none none = true
is_none flush = false
is_none purge = false

-- the places of two operations in order
two_places : (n d c : ℕ) (a b : Operation) (p q : ℕ → Bool) → in_order a b ≡ true → (not (is_none a) ≡ true → d < n) → (not (is_none b) ≡ true → c < n)
    → ((k : ℕ) → k < n → p k ≡ (is_flush a && eqb d k || is_flush b && eqb c k))
    → ((k : ℕ) → k < n → q k ≡ (is_purge a && eqb d k || is_purge b && eqb c k))
    → op_list (operation_at a d) ++ op_list (operation_at b c) ≡ map Flush (places_of n p) ++ map Purge (places_of n q)
two_places n d c none none p q e ld lc hp hq = rw (places_none n p hp, places_none n q hq)
two_places n d c none flush p q e ld lc hp hq = rw (places_one n c true p lc hp, places_none n q hq)
two_places n d c none purge p q e ld lc hp hq = rw (places_none n p hp, places_one n c true q lc hq)
two_places n d c flush none p q e ld lc hp hq = rw (places_one n d true p ld (λ k l. hp k l ∙ or-false _), places_none n q hq)
two_places n d c flush flush p q e ld lc hp hq = absurd (false≢true e)
two_places n d c flush purge p q e ld lc hp hq = rw (places_one n d true p ld (λ k l. hp k l ∙ or-false _), places_one n c true q lc hq)
two_places n d c purge none p q e ld lc hp hq = rw (places_none n p hp, places_one n d true q ld (λ k l. hq k l ∙ or-false _))
two_places n d c purge flush p q e ld lc hp hq = absurd (false≢true e)
two_places n d c purge purge p q e ld lc hp hq = absurd (false≢true e)

-- an operation on d, if that is not c
not_own : (f : Operation → Bool) → f none ≡ false → (a : Operation) (d c k : ℕ) → (f a && (eqb d k && not (eqb c k))) ≡ (f (cond (not (eqb d c)) a none) && eqb d k)
not_own f z a d c k = go (eqb d c) (eqb d k) refl refl
  where
    go : (q t : Bool) → eqb d c ≡ q → eqb d k ≡ t → (f a && (t && not (eqb c k))) ≡ (f (cond (not q) a none) && t)
    go true true e h =
        let same : eqb c k ≡ true = eq-eqb c k (sym (eqb-true d c e) ∙ eqb-true d k h) in
        rw (same, z) (and-false (f a))
    go false true e h =
        let apart : eqb c k ≡ false = ne_eqb c k (λ q. eqb-false d c e (eqb-true d k h ∙ sym q)) in
        rw apart
    go true false e h = rw (and-false (f a), and-false (f none))
    go false false e h = refl

-- the others that are held have no operation where none is dirty
none_elsewhere : (s : Step) → (others_cell s false).operation ≡ none
none_elsewhere (read c) = refl
none_elsewhere (write c) = refl
none_elsewhere device_read = refl
none_elsewhere device_write = refl
none_elsewhere device_write_part = refl
none_elsewhere begin_read = refl
none_elsewhere begin_write = refl
none_elsewhere (fetch c) = refl

orderly : (s : Step) (t h d : Bool) → in_order (cond (d && not h) (others_cell s d).operation none) (own_cell s (state_from t h d)).operation ≡ true
orderly s t h d =
    let first : Step → Test = λ s o t h d. in_order (cond (d && not h) (others_cell s d).operation none) (own_cell s (state_from t h d)).operation in
    law4 (λ o t h d. true) (first s) (λ o t h d. true)
    (each_step (λ s. all4 (λ o t h d. equal_if true (first s o t h d) true)) (λ c. refl) s) false t h d refl

-- ---- both

module _ (n : ℕ) (r : FrameRecord) (kr : Keeps n r) (s : Step) (reaches : reach s ≤ n) where
  abbrev c : ℕ
  c = own_of s

  abbrev own_now : Cell
  own_now = own_cell s (state_of r c)

  abbrev others_now : Cell
  others_now = others_cell s (flag r)

  -- what is true of the own colour's cell, where it is not of an empty colour without operation, is of a colour below n
  own_below : (f : Cell → Bool) → f (none ⇒ empty) ≡ false → f own_now ≡ true → c < n
  own_below f z e = go (dec_lt c n)
    where
      go : Dec (c < n) → c < n
      go (yes l) = l
      go (no l) = absurd (false≢true (sym z ∙ ap f (sym (past_own n r kr s reaches (omega arith))) ∙ e))

  -- the own colour's cell as a test of colour k
  at_own_lem : (f : Cell → Bool) (k : ℕ) → (f own_now && eqb c k) ≡ (eqb c k && f (own_cell s (state_of r k)))
  at_own_lem f k = sym (at_place (λ j. f (own_cell s (state_of r j))) c k)

  -- what each class of the record's colours becomes
  abbrev to : Classes
  to =
      record {
        own = mask_state_of own_now.next;
        held = mask_state_of others_now.next;
        stale = mask_state_of (row_of s other stale).next;
        empty = mask_state_of (row_of s other empty).next;
      }

  -- and what a colour becomes by its own cell, for data and for instructions
  abbrev becomes : Bool → Bool → Bool → MaskState
  becomes o t h = mask_state_of (row_of s (role_if o) (state_from t h (flag r))).next

  abbrev instruction_becomes : Bool → Bool → Bool → MaskState
  instruction_becomes o t h = code_instruction (instruction_row_of s (role_if o) (instruction_state_from t h)).next

  abbrev instruction_now : InstructionCell
  instruction_now = instruction_row_of s own (instruction_state_of r c)

  dirty_is : (k : ℕ) → k < n → is_dirty (cell_of s r k).next ≡ (is_dirty own_now.next && eqb c k)
  unfolding state_of
  dirty_is k l = sym (kept_next n r kr s is_dirty (dirty_after s) (dirty_after_lem s) k l) ∙ sym (at_own_lem (λ x. is_dirty x.next) k)

  -- the record that the code makes of them, by its parts
  pub step_record : (next : FrameRecord)
      → next.masks ≡ moved n c to r.masks
      → next.dirty ≡ digit (is_dirty own_now.next)
      → next.busy ≡ mark_after s r.busy
      → next.dirty_colour ≡ cond (is_dirty own_now.next) c n
      → next.instructions ≡ moved n c (instruction_classes s (code_instruction instruction_now.next)) r.instructions
      → next ≡ record_after n s r
  unfolding record_after state_of instruction_state_of
  step_record next masks flag mark colour instructions =
      let below = own_below (λ x. is_dirty x.next) refl in
      encode_is n (mark_after s r.busy) (λ k. (cell_of s r k).next) (λ k. (instruction_cell_of s r k).next) next
      (masks
      ∙ moved_of becomes refl c r.masks n _ _ (λ k. ap (λ (x : Cell). in_held (mask_state_of x.next)) (sym (row_cell s r k)) ∙ (in_masks (cell_of s r k).next).0)
      (λ k. ap (λ (x : Cell). in_stale (mask_state_of x.next)) (sym (row_cell s r k)) ∙ (in_masks (cell_of s r k).next).1))
      (flag ∙ ap digit (sym (any_one n c (is_dirty own_now.next) _ below dirty_is)))
      mark
      (colour ∙ sym (first_one n c (is_dirty own_now.next) _ below dirty_is))
      (instructions
      ∙ moved_of instruction_becomes refl c r.instructions n _ _ (λ k. ap (λ (x : InstructionCell). in_held (code_instruction x.next)) (sym (instruction_row_lem s r k)) ∙ (in_instruction_masks (instruction_cell_of s r k).next).0)
      (λ k. ap (λ (x : InstructionCell). in_stale (code_instruction x.next)) (sym (instruction_row_lem s r k)) ∙ (in_instruction_masks (instruction_cell_of s r k).next).1))

  -- the operation on the dirty colour, if that is not the own colour
  abbrev on_dirty : Operation
  on_dirty = cond (flag r && not (eqb r.dirty_colour c)) others_now.operation none

  on_dirty_lem : cond (eqb r.dirty_colour c) None (operation_at others_now.operation r.dirty_colour) ≡ operation_at on_dirty r.dirty_colour
  on_dirty_lem = go (flag r) (eqb r.dirty_colour c)
    where
      go : (b q : Bool) → cond q None (operation_at (others_cell s b).operation r.dirty_colour)
          ≡ operation_at (cond (b && not q) (others_cell s b).operation none) r.dirty_colour
      go true true = refl
      go true false = refl
      go false true = refl
      go false false = rw (none_elsewhere s)

  dirty_colour_below : not (is_none on_dirty) ≡ true → r.dirty_colour < n
  dirty_colour_below = go (flag r) refl
    where
      go : (b : Bool) → flag r ≡ b → not (is_none (cond (b && not (eqb r.dirty_colour c)) others_now.operation none)) ≡ true → r.dirty_colour < n
      go true z e = (dirty_only n r kr z).0
      go false z e = absurd (false≢true e)

  in_order_lem : in_order on_dirty own_now.operation ≡ true
  unfolding state_of
  in_order_lem = go (flag r) refl
    where
      go : (b : Bool) → flag r ≡ b → in_order (cond (b && not (eqb r.dirty_colour c)) (others_cell s b).operation none) (own_cell s (state_from (bit r.masks.stale c) (bit r.masks.held c) b)).operation ≡ true
      go true z =
          let own_held_lem : bit r.masks.held c ≡ eqb r.dirty_colour c = ap (λ (m : ℕ). bit m c) (dirty_only n r kr z).1 ∙ bit_one r.dirty_colour c in
          rw (← own_held_lem) (orderly s (bit r.masks.stale c) (bit r.masks.held c) true)
      go false z = orderly s (bit r.masks.stale c) (bit r.masks.held c) false

  picks : (f : Operation → Bool) → f none ≡ false → Agree apart (operation_after f s) (operation_test s f)
      → (k : ℕ) → k < n → f (cell_of s r k).operation ≡ (f on_dirty && eqb r.dirty_colour k || f own_now.operation && eqb c k)
  unfolding state_of
  picks f z agree k l =
      sym (kept_operation n r kr s f (operation_after f s) agree k l)
      ∙ ap₂ ◌||◌ (ap (λ (b : Bool). f others_now.operation && (b && not (eqb c k))) (dirty_at n r kr k) ∙ go (flag r) others_now.operation) (sym (at_own_lem (λ x. f x.operation) k))
    where
      go : (b : Bool) (a : Operation) → (f a && ((b && eqb r.dirty_colour k) && not (eqb c k))) ≡ (f (cond (b && not (eqb r.dirty_colour c)) a none) && eqb r.dirty_colour k)
      go true a = not_own f z a r.dirty_colour c k
      go false a = rw (and-false (f a), z)

  -- the operation on the own colour in the instruction cache, where a fetch alone has one
  instruction_operation : op_list (instruction_operation_at instruction_now.operation c) ≡ instruction_operations n s r
  instruction_operation = listed instruction_now.operation ∙ ap (map PurgeInstructions) (sym (places_one n c (is_purge instruction_now.operation) _ below (λ k l. at k (eqb c k) refl)))
    where
      listed : (o : Operation) → op_list (instruction_operation_at o c) ≡ map PurgeInstructions (cond (is_purge o) (c ∷ []) [])
      listed none = refl
      listed flush = refl
      listed purge = refl

      here : (k : ℕ) → eqb c k ≡ true → is_purge (instruction_cell_of s r k).operation ≡ is_purge instruction_now.operation
      here k q =
          ap (λ (x : InstructionCell). is_purge x.operation) (instruction_row_lem s r k ∙ ap (λ (b : Bool). instruction_row_of s (role_if b) (instruction_state_of r k)) q)
          ∙ ap (λ (j : ℕ). is_purge (instruction_row_of s own (instruction_state_of r j)).operation) (sym (eqb-true c k q))

      below : is_purge instruction_now.operation ≡ true → c < n
      below e = let q = ap reach (purged_by_fetch s r c (here c (eq-eqb c c refl) ∙ e)) in omega arith

      at : (k : ℕ) (o : Bool) → eqb c k ≡ o → is_purge (instruction_cell_of s r k).operation ≡ (is_purge instruction_now.operation && o)
      at k true q = here k q ∙ sym (and-true _)
      at k false q = not_held _ (λ e. false≢true (sym q ∙ eq-eqb c k (ap own_of (purged_by_fetch s r k e)))) ∙ sym (and-false (is_purge instruction_now.operation))

  abbrev first_now : Op
  first_now = cond (eqb r.dirty_colour c) None (operation_at others_now.operation r.dirty_colour)

  abbrev second_now : Op
  second_now = operation_at own_now.operation c

  abbrev third_now : Op
  third_now = instruction_operation_at instruction_now.operation c

  step_operations : op_list first_now ++ (op_list second_now ++ op_list third_now) ≡ operations n s r
  unfolding operations
  step_operations =
      sym (append_assoc (op_list first_now) (op_list second_now) (op_list third_now))
      ∙ ap₂ ◌++◌
      (ap (λ (a : Op). op_list a ++ op_list second_now) on_dirty_lem
      ∙ two_places n r.dirty_colour c on_dirty own_now.operation _ _ in_order_lem dirty_colour_below (own_below (λ x. not (is_none x.operation)) refl)
      (picks is_flush refl (flush_after s)) (picks is_purge refl (purge_after s)))
      instruction_operation

  pub step_is : {next : FrameRecord} {ops : Ops} {first second third : Op}
      → next ≡ record_after n s r
      → ops ≡ first_two (op_list first ++ (op_list second ++ op_list third))
      → first ≡ first_now
      → second ≡ second_now
      → third ≡ third_now
      → record { next = next; ops = ops } ≡ stepped n s r
  step_is next ops first second third =
      let all-ops = ops ∙ (λ i. first_two (op_list (first i) ++ (op_list (second i) ++ op_list (third i)))) ∙ ap first_two step_operations in
      λ i. record { next = next i; ops = all-ops i }
