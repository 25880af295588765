-- A kernel's own list of mappings: the batch of it is that list to the call, also where it is too long.
use mathlib.Core.Path.{◌≡◌, refl, sym, ap, ◌∙◌}
use mathlib.Core.Bool.{Bool, not, ◌||◌, true≢false}
use mathlib.Core.List.{List, [], ◌∷◌}
use Prim.Native.Nat.{ℕ, zero, suc, ◌≤◌, ◌<◌}
use native.Mathlib.Decide.{dec_le}
use native.Mathlib.Omega.{arith}
use borrow.Author.Tests.{lt-ltb}
use lib.Dec.{eqb}
use lib.ListN.{length}
use Rattle.board.specs.declared.Board.{Board}
use Rattle.mapping.specs.declared.Mapping.{Mapping}
use Rattle.mapping.specs.Batch.{batch_size, batch_of, items_of}
use Rattle.mapping.proofs.Laws.{batch_of_items, batch_of_length}
use Rattle.manager.specs.Answers.{accepted}
use Rattle.manager.specs.Batch.{answer_at, tables_after, BatchResult, batch_result, map_all_causes, whole_result, map_all_call}
use Rattle.manager.specs.Calls.{no_ops}
use Rattle.manager.specs.Refusals.{Cause, ◌if◌, first_refusal, batch_cause}
use Rattle.manager.specs.Tables.{Tables, lengths_right, tabulate}
use Rattle.manager.proofs.CauseLaws.{cleared_in}

-- ---- what refuses the whole, whatever else is lent

module _ (lengths : Bool) (items : List Mapping) (answers : List ℕ) where
  abbrev whole_causes : List Mapping → List Cause
  whole_causes xs = (1 if not lengths) ∷ batch_cause (length xs) (length answers) ∷ []

  -- one that is too long is refused
  pub long_refused : batch_size < length items → first_refusal (whole_causes items) ≡ 0 → ⊥
  long_refused h e =
      true≢false (sym (ap (λ (l : Bool). l || not (eqb (length answers) (length items))) (lt-ltb batch_size (length items) h)) ∙ cleared_in (whole_causes items) 12 refl e)

  pub lent_refusal : first_refusal (whole_causes (items_of (batch_of items))) ≡ first_refusal (whole_causes items)
  lent_refusal = ap (λ (n : ℕ). first_refusal ((1 if not lengths) ∷ batch_cause n (length answers) ∷ [])) (batch_of_length items)

-- ---- the call

-- what an accepted list gives
abbrev made : Board → Tables → List Mapping → BatchResult
made b t items = batch_result (accepted 0 no_ops) (tabulate (length items) (answer_at b t items)) (tables_after b t items (length items))

-- a refusal is the same whatever the list would have given
refused_alike : (answers : List ℕ) (t : Tables) (n : ℕ) → (n ≡ 0 → ⊥) → (r r' : BatchResult) → whole_result n answers t r ≡ whole_result n answers t r'
refused_alike answers t zero h r r' = absurd (h refl)
refused_alike answers t (suc n) h r r' = refl

pub lent_items : (b : Board) (t : Tables) (items : List Mapping) (answers : List ℕ) → map_all_call b t (items_of (batch_of items)) answers ≡ map_all_call b t items answers
unfolding map_all_call
lent_items b t items answers = go (dec_le (length items) batch_size)
  where
    go : Dec (length items ≤ batch_size) → map_all_call b t (items_of (batch_of items)) answers ≡ map_all_call b t items answers
    go (yes fits) = ap (λ (xs : List Mapping). map_all_call b t xs answers) (batch_of_items items fits)
    go (no long) =
        ap (λ (n : ℕ). whole_result n answers t (made b t (items_of (batch_of items)))) (lent_refusal (lengths_right b t) items answers)
        ∙ refused_alike answers t (first_refusal (map_all_causes b t items answers)) (long_refused (lengths_right b t) items answers (omega arith)) _ _
