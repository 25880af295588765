-- Demand 2 admits none of the wrong stores of `specs/Lines`.
use mathlib.Core.List.{List, [], ◌∷◌}
use mathlib.Core.Path.{◌≡◌, refl, ap}
use Prim.Native.Nat.{ℕ}
use native.Mathlib.Omega.{arith}
use lib.ListN.{get_or}
use Rattle.machine.specs.State.{Single, read, evict, fetch}
use Rattle.machine.proofs.Opened.{opened}
use Rattle.demands.specs.Lines.{WrongLines}

-- the calls are not each other
read_no_fetch : (space page offset : ℕ) → ◌≡◌ {A = Single} (read 0 0 0) (fetch space page offset) → ⊥
read_no_fetch space page offset e = let z : ◌≡◌ {A = ℕ} 0 1 = cc in omega arith

read_no_evict : ◌≡◌ {A = Single} (read 0 0 0) (evict 4) → ⊥
read_no_evict e = let z : ◌≡◌ {A = ℕ} 0 1 = cc in omega arith

evict_no_fetch : (space page offset : ℕ) → ◌≡◌ {A = Single} (evict 4) (fetch space page offset) → ⊥
evict_no_fetch space page offset e = let z : ◌≡◌ {A = ℕ} 0 1 = cc in omega arith

evict_no_other : ◌≡◌ {A = Single} (evict 4) (evict 5) → ⊥
evict_no_other e = let z : ◌≡◌ {A = ℕ} 4 5 = cc in omega arith

differ : ◌≡◌ {A = ℕ} 1 0 → ⊥
differ e = omega arith

differ_back : ◌≡◌ {A = ℕ} 0 1 → ⊥
differ_back e = omega arith

first_differs : ◌≡◌ {A = List ℕ} (1 ∷ 0 ∷ 0 ∷ 0 ∷ []) (0 ∷ 0 ∷ 0 ∷ 0 ∷ []) → ⊥
first_differs e = differ (ap (λ (l : List ℕ). get_or l 0 0) e)

pub wrong_lines : WrongLines
unfolding opened
wrong_lines =
    record {
      tag_by_read = λ h. differ (h.tags_left read_no_fetch 4 (omega arith) read_no_evict);
      word_by_read = λ h. differ (h.words_left read_no_fetch 0 0);
      other_evicted = λ h. differ (h.tags_left evict_no_fetch 5 (omega arith) evict_no_other);
      line_left = λ h. differ (h.evicted 4 (omega arith) refl).0;
      memory_written = λ h. first_differs (h.evicted 4 (omega arith) refl).1;
      data_filled = λ h. differ ((h.fetched 0 0 0 refl).1 0 (λ e. omega arith));
      more_filled = λ h. differ ((h.fetched 0 0 0 refl).1 5 (λ e. omega arith));
      none_filled = λ h. differ_back (h.fetched 0 0 0 refl).3;
    }
