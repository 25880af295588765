-- `mapping::Mapping::content` meets its contract.
use Prim.Native.Nat.{ℕ, ◌*◌, ◌%◌, ◌<◌}
use mathlib.Core.Path.{◌≡◌}
use mathlib.Core.Bool.{and_assoc}
use Rattle.std.proofs.Common.{arith, eqb}
use Rattle.std.proofs.lemmas.Bool.Decides.{nat_tests}
use Rattle.mapping.specs.Entry.{is_zero}
use Rattle.mapping.proofs.Rules.{or_zero}
use Rattle.mapping.proofs.Mapping.content.Goals as goal

-- a byte moved up in the word is 0 if it is
moved_16 : (a : ℕ) → a < 256 → eqb (a * 65536 % 4294967296) 0 ≡ eqb a 0
moved_16 a h = grind (arith, nat_tests)

moved_24 : (a : ℕ) → a < 256 → eqb (a * 16777216 % 4294967296) 0 ≡ eqb a 0
moved_24 a h = grind (arith, nat_tests)

pub returns : goal.returns
unfolding is_zero
returns c =
    let m = c.args.self in
    simp (or_zero, c.from.ensures, c.from-2.ensures, c.from-3.ensures, c.from-4.ensures, moved_16 m.frame (omega arith), moved_24 m.rights (omega arith), and_assoc)
