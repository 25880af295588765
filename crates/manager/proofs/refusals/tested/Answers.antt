-- `manager::refusals::tested` meets its contract.
use mathlib.Core.Path.{◌≡◌, ap, ◌∙◌}
use mathlib.Core.Bool.{Bool, true, false, not, cond, ◌&&◌}
use mathlib.Core.List.{List}
use Prim.Native.Nat.{ℕ, ◌*◌}
use native.Mathlib.Omega.{arith}
use lib.Dec.{eqb}
use lib.ListN.{length}
use Rattle.std.specs.Prelude.{Option, Some, None, is_some}
use Rattle.std.specs.Option.{ok_or}
use Rattle.board.specs.declared.Board.{Board}
use Rattle.mapping.specs.declared.Seen.{Seen}
use Rattle.mapping.specs.Entry.{capacity}
use Rattle.manager.specs.declared.refusal.Refusal.TheVariants.{BrokenRules}
use Rattle.manager.specs.Answers.{refusal_in}
use Rattle.manager.specs.Refusals.{first_refusal}
use Rattle.manager.specs.Scaffold.Told.{told_tables}
use Rattle.manager.specs.Tables.{record_words}
use Rattle.manager.proofs.refusals.tested.Goals as goal

-- where nothing in what is lent is refused, the look told something
looked : (b : Board) (rs ps : List ℕ) (x : Option Seen) → 0 ≡ first_refusal (told_tables b (is_some x) rs ps)
    → refusal_in (ok_or x BrokenRules) ≡ first_refusal (told_tables b (is_some x) rs ps)
unfolding first_refusal told_tables
looked b rs ps (Some seen) none = none
looked b rs ps None none = absurd (broken (eqb (length rs) (b.frames * record_words) && eqb (length ps) capacity) none)
  where
    broken : (lengths : Bool) → ◌≡◌ {A = ℕ} 0 (cond (not lengths) 1 2) → ⊥
    broken true e = omega arith
    broken false e = omega arith

pub returns-clause-refusal : goal.returns-clause-refusal
returns-clause-refusal c =
    let a = c.args in
    ap refusal_in c.ok_or.ensures.value ∙ looked a.board a.records.now a.protections.now a.looked (c.in_ok-tables_refusal.ensures ∙ ap (λ (t : Bool). first_refusal (told_tables a.board t a.records.now a.protections.now)) c.is_some.ensures)
