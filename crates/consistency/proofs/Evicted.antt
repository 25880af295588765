-- Every line evicted: none of the evictions is refused, and memory then holds the cacheless memory's words.
use mathlib.Core.Path.{◌≡◌, refl, ap, ◌∙◌, subst⁻¹}
use mathlib.Core.Bool.{false}
use mathlib.Core.List.{List, [], ◌∷◌}
use mathlib.Core.Logic.{◌⊎◌, inl, inr}
use Prim.Native.Nat.{ℕ, ◌<◌}
use native.Mathlib.Omega.{arith}
use native.Mathlib.Decide.{ℕ_discrete, dec_lt}
use borrow.Author.Tests.{lt-leb}
use Rattle.board.specs.declared.Board.{Board}
use Rattle.board.specs.Board.{Regular, data_lines, lines, line_of}
use Rattle.board.proofs.Geometry.{line_of_data}
use Rattle.manager.specs.Refusals.{first_refusal}
use Rattle.cache.specs.Store.{tag_at}
use Rattle.cache.specs.Tag.{empty_tag, dirty_tag}
use Rattle.cache.proofs.Laws.Evict.{evict_tag_same, evict_tag_other}
use Rattle.cache.proofs.Laws.Instructions.{dirty_colour}
use Rattle.machine.specs.Refusals.{own_causes, causes}
use Rattle.machine.specs.State.{State, evict, single, Result}
use Rattle.machine.proofs.StepLaws.{own_clear}
use Rattle.cache.specs.Cache.{FlushKind}
use Rattle.machine.specs.Step.{operate_by, carry_out_by}
use Rattle.consistency.specs.Cacheless.{Cacheless, is_refused}
use Rattle.consistency.specs.Demand3.{state_after, evictions, Occurs, NoneRefused, MemoryIs}
use Rattle.consistency.specs.Flushes.{accept_by, perform_by}
use Rattle.consistency.proofs.Evict.{evict_invariant}
use Rattle.consistency.proofs.Flushes.{single_cases}
use Rattle.consistency.proofs.Invariant.{sound_kept, Invariant}

module _ (b : Board) (reg : Regular b) (how : FlushKind) (m : Cacheless) where
  module _ (st : State) (inv : Invariant b st m) (n : ℕ) (h : n < lines b) where
    evict_clear : first_refusal (causes b st (evict n)) ≡ 0
    unfolding own_causes
    evict_clear = own_clear b st (evict n) (sound_kept b st.tables inv.sound) inv.kept refl (lt-leb (lines b) n h, tt)

    evict_step : perform_by b how st (single (evict n)) ≡ accept_by b how st (evict n)
    unfolding perform_by
    evict_step =
        let clear = evict_clear in
        single_cases b how st (evict n) (λ r. r ≡ accept_by b how st (evict n)) (λ _. refl) (λ k e. absurd (omega arith))

    -- it is not refused
    evict_not_refused : is_refused (perform_by b how st (single (evict n))).answer ≡ false
    unfolding accept_by
    evict_not_refused = ap (λ (r : Result). is_refused r.answer) evict_step

    evict_after : Invariant b (perform_by b how st (single (evict n))).after m
    unfolding accept_by carry_out_by operate_by
    evict_after = subst⁻¹ (λ (r : Result). Invariant b r.after m) evict_step (evict_invariant b reg st m inv n h)

    -- its line is empty, and an empty one stays empty
    evict_empties : (k : ℕ) → (k ≡ n) ⊎ (tag_at st.store k ≡ empty_tag) → tag_at (perform_by b how st (single (evict n))).after.store k ≡ empty_tag
    unfolding accept_by carry_out_by operate_by
    evict_empties k e = ap (λ (r : Result). tag_at r.after.store k) evict_step ∙ go (ℕ_discrete k n) e
      where
        go : Dec (k ≡ n) → (k ≡ n) ⊎ (tag_at st.store k ≡ empty_tag) → tag_at (accept_by b how st (evict n)).after.store k ≡ empty_tag
        go (yes q) e = ap (tag_at (accept_by b how st (evict n)).after.store) q ∙ evict_tag_same b reg st.store inv.kept n h
        go (no ne) (inl q) = absurd (ne q)
        go (no ne) (inr z) = evict_tag_other b reg st.store inv.kept n h k ne ∙ z

  -- ---- a list of evictions

  abbrev Lines : List ℕ → Type 0
  Lines ns = (n : ℕ) → Occurs n ns → n < lines b

  none_are_refused : (st : State) → Invariant b st m → (ns : List ℕ) → Lines ns → NoneRefused (perform_by b how) st (evictions ns)
  none_are_refused st inv [] h = tt
  none_are_refused st inv (n ∷ ns) h =
      (evict_not_refused st inv n (h n (inl refl)), none_are_refused (perform_by b how st (single (evict n))).after (evict_after st inv n (h n (inl refl))) ns (λ k e. h k (inr e)))

  invariant_after : (st : State) → Invariant b st m → (ns : List ℕ) → Lines ns → Invariant b (state_after (perform_by b how) st (evictions ns)) m
  invariant_after st inv [] h = inv
  invariant_after st inv (n ∷ ns) h = invariant_after (perform_by b how st (single (evict n))).after (evict_after st inv n (h n (inl refl))) ns (λ k e. h k (inr e))

  empty_after : (st : State) → Invariant b st m → (ns : List ℕ) → Lines ns → (k : ℕ) → Occurs k ns ⊎ (tag_at st.store k ≡ empty_tag)
      → tag_at (state_after (perform_by b how) st (evictions ns)).store k ≡ empty_tag
  empty_after st inv [] h k (inr e) = e
  empty_after st inv [] h k (inl e) = absurd e
  empty_after st inv (n ∷ ns) h k e = empty_after (perform_by b how st (single (evict n))).after (evict_after st inv n (h n (inl refl))) ns (λ j q. h j (inr q)) k (next e)
    where
      next : Occurs k (n ∷ ns) ⊎ (tag_at st.store k ≡ empty_tag) → Occurs k ns ⊎ (tag_at (perform_by b how st (single (evict n))).after.store k ≡ empty_tag)
      next (inl (inl q)) = inr (evict_empties st inv n (h n (inl refl)) k (inl q))
      next (inl (inr o)) = inl o
      next (inr z) = inr (evict_empties st inv n (h n (inl refl)) k (inr z))

  -- with no dirty line left, memory holds the words
  memory_is : (st : State) → Invariant b st m → ((n : ℕ) → n < data_lines b → tag_at st.store n ≡ empty_tag) → MemoryIs b m st
  memory_is st inv zero =
      record {
        memory_length = inv.kept.memory_length;
        memory_words_holds = λ f o hf ho. (inv.agrees f hf).current.in_memory o ho (λ c hc d. none f o ho c d (dec_lt c b.colours));
      }
    where
      none : (f o : ℕ) → o < b.page → (c : ℕ) → tag_at st.store (line_of b c o) ≡ dirty_tag f → Dec (c < b.colours) → ⊥
      none f o ho c d (yes h) = let z = zero (line_of b c o) (line_of_data b reg c o h ho) in omega arith
      none f o ho c d (no h) = dirty_colour b reg st.store inv.kept c o f d (omega arith)

  pub all_evicted : (st : State) → Invariant b st m → (ns : List ℕ) → Lines ns → ((n : ℕ) → n < data_lines b → Occurs n ns)
      → NoneRefused (perform_by b how) st (evictions ns) × MemoryIs b m (state_after (perform_by b how) st (evictions ns))
  all_evicted st inv ns h every =
      (none_are_refused st inv ns h, memory_is (state_after (perform_by b how) st (evictions ns)) (invariant_after st inv ns h) (λ n l. empty_after st inv ns h n (inl (every n l))))
