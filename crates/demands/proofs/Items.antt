-- Demand 2: what an accepted list of mappings leaves.
use mathlib.Core.Path.{◌≡◌, refl, sym, subst⁻¹, ◌∙◌}
use mathlib.Core.List.{List, []}
use mathlib.Core.Logic.{◌⊎◌, inl, inr}
use Prim.Native.Nat.{ℕ, zero, suc, ◌<◌}
use native.Mathlib.Omega.{arith}
use borrow.Author.Count.{below_more}
use lib.ListN.{length, get_or}
use Rattle.board.specs.declared.Board.{Board}
use Rattle.board.specs.Board.{Regular}
use Rattle.mapping.specs.declared.Mapping.{Mapping}
use Rattle.manager.specs.Answers.{number_of}
use Rattle.manager.specs.Batch.{item_at}
use Rattle.manager.specs.Tables.{tabulate}
use Rattle.manager.proofs.Laws.{length_tabulate, get_d_tabulate}
use Rattle.machine.specs.Call.{map_of, after_items, item_answer, call_causes, perform}
use Rattle.machine.specs.State.{State, single, map_all, Result}
use Rattle.machine.specs.Step.{accept, step}
use Rattle.machine.proofs.CallLaws.{accept_call, perform_cases}
use Rattle.demands.specs.Demands.{Left, mapped, ItemLeft, EachMapped}
use Rattle.demands.proofs.Answers.{no_cause, first_cause}
use Rattle.demands.proofs.Kept.{left}

module _ (b : Board) (reg : Regular b) where
  item : (st : State) (m : Mapping) → ItemLeft b st m (step b st (map_of m)).after (number_of (step b st (map_of m)).answer.outcome)
  unfolding perform call_causes accept
  item st m =
      perform_cases b st (single (map_of m)) (λ (r : Result). ItemLeft b st m r.after (number_of r.answer.outcome))
      (λ e. inl (no_cause b st (single (map_of m)) e, refl, left b reg st (map_of m) e))
      (λ n e. inr (λ z. omega arith, first_cause b st (single (map_of m)) n e, refl))

  module _ (st : State) (items : List Mapping) where
    item_at_lem : (k : ℕ) → ItemLeft b (after_items b st items k) (item_at items k) (after_items b st items (suc k)) (item_answer b st items k)
    unfolding after_items item_answer
    item_at_lem k = item (after_items b st items k) (item_at items k)

    -- the first n items: all refused, or the last that was not left all as it is
    abbrev Until : ℕ → Type 0
    Until n =
        (((k : ℕ) → k < n → item_answer b st items k ≡ 0 → ⊥) × (after_items b st items n ≡ st))
        ⊎ ((j : ℕ) × (j < n) × (item_answer b st items j ≡ 0) × Left b (after_items b st items j) (map_of (item_at items j)) (after_items b st items n) (mapped []))

    until : (n : ℕ) → Until n
    unfolding after_items
    until zero = inl (λ k h. absurd (omega arith), refl)
    until (suc n) = go (item_at_lem n) (until n)
      where
        go : ItemLeft b (after_items b st items n) (item_at items n) (after_items b st items (suc n)) (item_answer b st items n) → Until n → Until (suc n)
        go (inl a) before = inr (n, omega arith, a.1, a.2)
        go (inr a) (inl p) = inl (λ k h. below_more (λ k. item_answer b st items k ≡ 0 → ⊥) n p.0 a.0 k (omega arith), a.2 ∙ p.1)
        go (inr a) (inr l) =
            let h = l.1 in
            inr (l.0, omega arith, l.2, subst⁻¹ (λ (s : State). Left b (after_items b st items l.0) (map_of (item_at items l.0)) s (mapped [])) a.2 l.3)

    pub each_mapped : (answers : List ℕ) → EachMapped b st items (accept_call b st (map_all items answers)).after (accept_call b st (map_all items answers)).answer
    unfolding after_items
    each_mapped answers =
        record {
          answered = refl;
          counted = length_tabulate (length items) (item_answer b st items);
          between = after_items b st items;
          begun = refl;
          each = λ k h. subst⁻¹ (ItemLeft b (after_items b st items k) (item_at items k) (after_items b st items (suc k))) (at k h) (item_at_lem k);
          ended = refl;
          last = λ k h z. last_left (until (length items)) k h (sym (at k h) ∙ z);
          unchanged = λ none. none_left (until (length items)) (λ k h z. none k h (at k h ∙ z));
        }
      where
        at : (k : ℕ) → k < length items → get_or (tabulate (length items) (item_answer b st items)) k 0 ≡ item_answer b st items k
        at = get_d_tabulate (length items) (item_answer b st items)

        last_left : Until (length items) → (k : ℕ) → k < length items → item_answer b st items k ≡ 0
            → (j : ℕ) × (j < length items) × Left b (after_items b st items j) (map_of (item_at items j)) (after_items b st items (length items)) (mapped [])
        last_left (inl p) k h z = absurd (p.0 k h z)
        last_left (inr l) k h z = (l.0, l.1, l.3)

        none_left : Until (length items) → ((k : ℕ) → k < length items → item_answer b st items k ≡ 0 → ⊥) → after_items b st items (length items) ≡ st
        none_left (inl p) none = p.1
        none_left (inr l) none = absurd (none l.0 l.1 l.2)
