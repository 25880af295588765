-- Where causes give no refusal, those behind others give none.
use mathlib.Core.Path.{◌≡◌, ◌∙◌}
use mathlib.Core.Bool.{true}
use mathlib.Core.List.{List, ◌++◌}
use native.Mathlib.Decide.{ℕ_discrete}
use Rattle.manager.specs.Refusals.{Cause, first_refusal}
use Rattle.manager.proofs.CauseLaws.{numbered, refusal_prefix, refusal_rest}

pub rest_clear : (cs ds : List Cause) → numbered cs ≡ true → first_refusal (cs ++ ds) ≡ 0 → first_refusal ds ≡ 0
rest_clear cs ds n e = go (ℕ_discrete (first_refusal cs) 0)
  where
    go : Dec (first_refusal cs ≡ 0) → first_refusal ds ≡ 0
    go (yes z) = refusal_rest cs ds n z ∙ e
    go (no h) = absurd (h (refusal_prefix cs ds h ∙ e))
