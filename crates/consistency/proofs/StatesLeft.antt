-- The operations of a step as they change a frame's states: with their colours clean or empty, the states say at least what those after the step do.
use mathlib.Core.Path.{◌≡◌, refl, sym, ap, ◌∙◌, subst, subst⁻¹}
use mathlib.Core.Bool.{Bool, true, false, cond}
use mathlib.Core.List.Memᴰ
use mathlib.Core.List.{List, ◌++◌, Memᴰ}
use mathlib.Core.Logic.{◌≢◌, ⊎_elim}
use Prim.Native.Nat.{ℕ, ◌+◌, ◌-◌, ◌*◌, ◌≤◌, ◌<◌}
use native.Mathlib.Omega.{arith}
use lib.Dec.{eqb}
use borrow.Author.Tests.{eq-eqb, lt-ltb, le-ltb}
use Rattle.page_model.specs.declared.FrameRecord.{FrameRecord}
use Rattle.page_model.specs.declared.Op.{Op}
use Rattle.page_model.specs.declared.Op.TheVariants.{None, Flush, Purge, PurgeInstructions}
use Rattle.page_model.specs.Record.{instruction_state_of, keeps_rules}
use Rattle.page_model.specs.Step.{is_flush, is_purge, cell_of, instruction_cell_of, operations, op_list, stepped}
use Rattle.page_model.specs.Table.{ColourState, empty, dirty, Operation, none, flush, purge, Step}
use Rattle.page_model.proofs.Listed.{flush_listed, purge_listed, instruction_purge_listed, listed_purge}
use Rattle.page_model.proofs.Theorems.{ops_complete}
use Rattle.consistency.proofs.Operate.{states_left, SparesDirty}
use Rattle.consistency.proofs.Pages.{as_page, never_dirty, page_states, pages_after, page_cases, instruction_weaker, instruction_clean}
use Rattle.consistency.proofs.Table.{Spares, next_weaker_lem, purge_clean, empty_clean}
use Rattle.consistency.proofs.Weaker.{clean_state, clean_state_twice, clean_state_clean, weaker, weaker_clean}

-- what holds of an empty page, and of a clean page if it did of the page before, holds of a page after an operation if it did before
left_keeps : (P : ColourState → Type 0) → P empty → ((s : ColourState) → P s → P (clean_state s)) → (n : ℕ) (op : Op) (states : ℕ → ColourState) (k : ℕ) → P (states k)
    → P (states_left n op states k)
left_keeps P e clean n op states k h = go op
  where
    one : (act : ColourState → ColourState) → P (act (states k)) → (t : Bool) → P (cond t (act (states k)) (states k))
    one act p true = p
    one act p false = h

    go : (op : Op) → P (states_left n op states k)
    go None = h
    go (Flush c) = one clean_state (clean (states k) h) (eqb c k)
    go (Purge c) = one (λ s. empty) e (eqb c k)
    go (PurgeInstructions c) = one (λ s. empty) e (eqb (n + c) k)

-- the operation that a list of one or none holds
in_list : (a op : Op) → Memᴰ op (op_list a) → a ≡ op
in_list None op m = absurd (Memᴰ.not-nil m)
in_list (Flush c) op m = sym (Memᴰ.eq_of_singleton m)
in_list (Purge c) op m = sym (Memᴰ.eq_of_singleton m)
in_list (PurgeInstructions c) op m = sym (Memᴰ.eq_of_singleton m)

-- what an operation makes of a page of which R holds, two operations make if it is among them
either_makes : (P R : ColourState → Type 0) → P empty → ((s : ColourState) → P s → P (clean_state s)) → R empty → ((s : ColourState) → R s → R (clean_state s))
    → (n : ℕ) (a z op : Op) (states : ℕ → ColourState) (k : ℕ) → ((w : ℕ → ColourState) → R (w k) → P (states_left n op w k)) → R (states k)
    → Memᴰ op (op_list a ++ op_list z) → P (states_left n z (states_left n a states) k)
either_makes P R pe pc re rc n a z op states k makes r m =
    ⊎_elim (λ i. left_keeps P pe pc n z (states_left n a states) k (subst⁻¹ (λ (x : Op). P (states_left n x states k)) (in_list a op i) (makes states r)))
    (λ i. subst⁻¹ (λ (x : Op). P (states_left n x (states_left n a states) k)) (in_list z op i) (makes (states_left n a states) (left_keeps R re rc n a states k r)))
    (Memᴰ.append_cases (op_list a) m)

-- ---- the two operations of a step

abbrev pub first : ℕ → Step → FrameRecord → Op
first n step r = (stepped n step r).ops.first

abbrev pub second : ℕ → Step → FrameRecord → Op
second n step r = (stepped n step r).ops.second

-- the states once both are carried out
abbrev pub both_left : ℕ → Step → FrameRecord → ℕ → ColourState
both_left n step r = states_left n (second n step r) (states_left n (first n step r) (page_states n r))

module _ (n : ℕ) (step : Step) (r : FrameRecord) (rules : keeps_rules n r ≡ true) where
  complete : (op : Op) → Memᴰ op (operations n step r) → Memᴰ op (op_list (first n step r) ++ op_list (second n step r))
  complete op m = subst (λ (l : List Op). Memᴰ op l) (sym (ops_complete n step r rules)) m

  sound : (op : Op) → Memᴰ op (op_list (first n step r) ++ op_list (second n step r)) → Memᴰ op (operations n step r)
  sound op m = subst (λ (l : List Op). Memᴰ op l) (ops_complete n step r rules) m

  -- With their pages clean or empty, the states say at least what the states after the step do: of page k an operation sees to it, or they said
  -- as much before.
  module _ (k : ℕ) (after : ColourState) where
    abbrev Enough : ColourState → Type 0
    Enough s = weaker s after ≡ true

    by_operation : (R : ColourState → Type 0) → R empty → ((s : ColourState) → R s → R (clean_state s)) → (op : Op) → ((w : ℕ → ColourState) → R (w k) → Enough (states_left n op w k))
        → R (page_states n r k) → Memᴰ op (operations n step r) → Enough (both_left n step r k)
    by_operation R re rc op makes h m =
        either_makes Enough R refl (λ s. weaker_clean s after) re rc n (first n step r) (second n step r) op (page_states n r) k makes h (complete op m)

    by_purge : (op : Op) → ((w : ℕ → ColourState) → states_left n op w k ≡ empty) → Memᴰ op (operations n step r) → Enough (both_left n step r k)
    by_purge op empties = by_operation (λ s. Unit {0}) tt (λ s u. tt) op (λ w u. ap (λ (s : ColourState). weaker s after) (empties w)) tt

    by_flush : Enough (clean_state (page_states n r k)) → Memᴰ (Flush k) (operations n step r) → Enough (both_left n step r k)
    by_flush =
        by_operation (λ s. Enough (clean_state s)) refl (λ s h. ap (λ (x : ColourState). weaker x after) (clean_state_twice s) ∙ h) (Flush k) (λ w h. rw (eq-eqb k k refl) h)

    as_before : Enough (page_states n r k) → Enough (both_left n step r k)
    as_before h =
        left_keeps Enough refl (λ s. weaker_clean s after) n (second n step r) (states_left n (first n step r) (page_states n r)) k
        (left_keeps Enough refl (λ s. weaker_clean s after) n (first n step r) (page_states n r) k h)

  -- of a colour
  data_weaker : (k : ℕ) → k < n → weaker (both_left n step r k) (cell_of step r k).next ≡ true
  data_weaker k l = go (cell_of step r k).operation refl
    where
      go : (op : Operation) → (cell_of step r k).operation ≡ op → weaker (both_left n step r k) (cell_of step r k).next ≡ true
      go none e = as_before k (cell_of step r k).next (rw (lt-ltb k n l) (next_weaker_lem step r k e))
      go flush e = by_flush k (cell_of step r k).next (rw (lt-ltb k n l) (next_weaker_lem step r k e)) (flush_listed n step r k l (ap is_flush e))
      go purge e = by_purge k (cell_of step r k).next (Purge k) (λ w. rw (eq-eqb k k refl)) (purge_listed n step r k l (ap is_purge e))

  -- and of an instruction colour
  instructions_weaker : (k : ℕ) → n ≤ k → k < 2 * n → weaker (both_left n step r k) (as_page (instruction_cell_of step r (k - n)).next) ≡ true
  unfolding instruction_cell_of
  instructions_weaker k past l = go (is_purge (instruction_cell_of step r (k - n)).operation) refl
    where
      go : (t : Bool) → is_purge (instruction_cell_of step r (k - n)).operation ≡ t → weaker (both_left n step r k) (as_page (instruction_cell_of step r (k - n)).next) ≡ true
      go true e =
          by_purge k (as_page (instruction_cell_of step r (k - n)).next) (PurgeInstructions (k - n)) (λ w. rw (eq-eqb (n + (k - n)) k (omega arith)))
          (instruction_purge_listed n step r (k - n) (omega arith) e)
      go false e =
          as_before k (as_page (instruction_cell_of step r (k - n)).next) (rw (le-ltb k n past) (instruction_weaker step (k - n) (instruction_state_of r (k - n)) e))

  pub after_weaker : (k : ℕ) → k < 2 * n → weaker (both_left n step r k) (pages_after n step r k) ≡ true
  after_weaker k l =
      page_cases (λ s. weaker (both_left n step r k) s ≡ true) n k (data_weaker k) (λ past. instructions_weaker k past l)

  module _ (spares : Spares step) where
    purged_clean : (k : ℕ) → Memᴰ (Purge k) (op_list (first n step r) ++ op_list (second n step r)) → page_states n r k ≢ dirty
    purged_clean k m = page_cases (λ s. s ≢ dirty) n k (λ _. purge_clean step spares r k (listed_purge n step r k (sound (Purge k) m))) (λ _. never_dirty (instruction_state_of r (k - n)))

    pub spares_first : (a : Op) → first n step r ≡ a → SparesDirty n a (page_states n r)
    spares_first None e = tt
    spares_first (Flush c) e = tt
    spares_first (Purge c) e = purged_clean c (Memᴰ.append_left {s = op_list (first n step r)} (op_list (second n step r)) (rw e (Memᴰ.head refl)))
    spares_first (PurgeInstructions c) e = instruction_clean n r c

    pub spares_second : (a : Op) → second n step r ≡ a → SparesDirty n a (states_left n (first n step r) (page_states n r))
    spares_second None e = tt
    spares_second (Flush c) e = tt
    spares_second (Purge c) e =
        left_keeps (λ s. s ≢ dirty) empty_clean (λ s _. clean_state_clean s) n (first n step r) (page_states n r) c
        (purged_clean c (Memᴰ.append_right (op_list (first n step r)) (rw e (Memᴰ.head refl))))
    spares_second (PurgeInstructions c) e = left_keeps (λ s. s ≢ dirty) empty_clean (λ s _. clean_state_clean s) n (first n step r) (page_states n r) (n + c) (instruction_clean n r c)
