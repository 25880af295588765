-- A row: a case, and what it must give.
use Rattle.std.specs.Prelude.{List, [], ◌∷◌, ◌≡◌, ℕ}
use Rattle.mapping.specs.declared.MappingList.{MappingList}
use Rattle.machine.specs.State.{Answer, Result}

-- what a case gives: a text, the answers of calls, a call's answer with the state after it, a mapping list with its protections, or numbers
pub data Seen : Type 0 where
  text : List ℕ → Seen
  answers : List Answer → Seen
  outcome : Result → Seen
  tables : MappingList → List ℕ → Seen
  numbers : List ℕ → Seen

pub record Row : Type 0 where
  pub given : Seen
  pub must : Seen

infix 20 ◌gives◌
abbrev pub ◌gives◌ : Seen → Seen → Row
given gives must = record { given = given; must = must }

abbrev pub Holds : Row → Type 0
Holds row = row.given ≡ row.must

abbrev pub EveryRowHolds : List Row → Type 0
EveryRowHolds [] = Unit {0}
EveryRowHolds (row ∷ rows) = Holds row × EveryRowHolds rows
