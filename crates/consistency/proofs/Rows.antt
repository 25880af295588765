-- Demand 3 admits no wrong word: each list of `specs/Rows` computes to an answer, or to words in memory, that it refuses. And each flush leaves what its
-- rows say.
use mathlib.Core.Bool.{true≢false}
use mathlib.Core.Path.{◌≡◌, refl, ap}
use mathlib.Core.Logic.{⊎_elim, inl, inr}
use mathlib.Core.Option.{Option, some}
use mathlib.Core.List.{List, [], ◌∷◌}
use Prim.Native.Nat.{ℕ, zero, suc, ◌<◌}
use native.Mathlib.Omega.{arith}
use lib.ListN.{get_or}
use Rattle.cache.specs.Cache.{FlushKind, leaving, emptying}
use Rattle.machine.proofs.Opened.{opened}
use Rattle.consistency.specs.Cacheless as cacheless
use Rattle.consistency.specs.Demand3.{Occurs}
use Rattle.consistency.specs.Flushes.{perform_by}
use Rattle.consistency.specs.Rows.{WrongWords, flushed_once, record_left, FlushRows}

-- an answer of 0 is none of 1, as a word and at the last place of a page
not_one : ◌≡◌ {A = Option ℕ} (some 0) (some 1) → ⊥
not_one e = let z : ◌≡◌ {A = ℕ} 0 1 = cc in omega arith

last_not_one : ◌≡◌ {A = List ℕ} (0 ∷ 0 ∷ 0 ∷ 0 ∷ []) (0 ∷ 0 ∷ 0 ∷ 1 ∷ []) → ⊥
last_not_one e = let z : ◌≡◌ {A = ℕ} 0 1 = ap (λ (l : List ℕ). get_or l 3 0) e in omega arith

-- the four data lines
abbrev four : List ℕ
four = 0 ∷ 1 ∷ 2 ∷ 3 ∷ []

below : (n : ℕ) → Occurs n four → n < 8
below n = ⊎_elim (λ e. omega arith) (⊎_elim (λ e. omega arith) (⊎_elim (λ e. omega arith) (⊎_elim (λ e. omega arith) (λ e. absurd e))))

every : (n : ℕ) → n < 4 → Occurs n four
every zero h = inl refl
every (suc zero) h = inr (inl refl)
every (suc (suc zero)) h = inr (inr (inl refl))
every (suc (suc (suc zero))) h = inr (inr (inr (inl refl)))
every (suc (suc (suc (suc n)))) h = absurd (omega arith)

pub wrong_words : WrongWords
unfolding opened cacheless.start_cacheless cacheless.after_accepted
wrong_words =
    record {
      read_word = λ h. not_one (h.finds.1.0 refl);
      page_read = λ h. last_not_one (h.finds.0 refl);
      word_taken = λ h. not_one (h.finds.1.0 refl);
      fetched_word = λ h. not_one (h.finds.1.0 refl);
      unmapped_write = λ h. h.finds.0 refl;
      eviction_refused = λ h. true≢false (h.evicted four below every).0.0;
      left_in_memory = λ h. let z : ◌≡◌ {A = ℕ} 0 1 = (h.evicted four below every).1.memory_words_holds 0 3 (omega arith) (omega arith) in omega arith;
    }

written_back : (how : FlushKind) → (flushed_once how).store.memory ≡ 5 ∷ 0 ∷ 0 ∷ 0 ∷ []
unfolding opened perform_by
written_back leaving = refl
written_back emptying = refl

both_present : (how : FlushKind) → record_left how ≡ 3 ∷ 0 ∷ 0 ∷ 0 ∷ 2 ∷ 0 ∷ 0 ∷ []
unfolding opened perform_by
both_present leaving = refl
both_present emptying = refl

pub flush_rows : FlushRows
unfolding opened perform_by
flush_rows = record { left_in = refl; emptied = refl; written_back = written_back; both_present = both_present }
