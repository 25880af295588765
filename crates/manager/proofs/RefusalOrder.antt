-- The order of the refusals, as the code compares them, is that of their places: tested of all pairs.
use mathlib.Core.Path.{◌≡◌, refl, sym, ap₂, ◌∙◌}
use mathlib.Core.Bool.{Bool, true, false, not, cond}
use mathlib.Core.List.{List, [], ◌∷◌}
use Prim.Native.Nat.{ℕ, ◌<◌}
use native.Mathlib.Omega.{arith}
use lib.Dec.{leb}
use lib.ListN.{get_or}
use Rattle.std.specs.Ordering.{is_lt}
use Rattle.bits.specs.Mask.{all}
use Rattle.bits.proofs.Mask.{all_at}
use Rattle.manager.specs.declared.refusal.Refusal.{Refusal}
use Rattle.manager.specs.declared.refusal.Refusal.TheVariants.{WrongLength, WrongBatch, BrokenRules, NoSuchPage, NoSuchFrame, NoSuchRights, NoSuchOffset, NoSuchPart, AlreadyMapped, NotMapped, ListFull, NotWritable, NotFetchable, Busy, NoTransfer}
use Rattle.manager.specs.contracts.refusal.RefusalOrd.TheImpl.{cmp-value}
use Rattle.manager.specs.Answers.{refusal_number}
use Rattle.manager.specs.Refusals.{refusal_place}

-- the refusals in their order
refusals : List Refusal
refusals = WrongLength ∷ WrongBatch ∷ BrokenRules ∷ NoSuchPage ∷ NoSuchFrame ∷ NoSuchRights ∷ NoSuchOffset ∷ NoSuchPart ∷ AlreadyMapped ∷ NotMapped ∷ ListFull ∷ NotWritable ∷ NotFetchable ∷ Busy ∷ NoTransfer ∷ []

at : ℕ → Refusal
at n = get_or refusals n NoTransfer

record Placed (r : Refusal) : Type 0 where
  place : ℕ
  low : place < 15
  is : at place ≡ r

placed : (r : Refusal) → Placed r
unfolding at refusals
placed WrongLength = record { place = 0; low = omega arith; is = refl }
placed WrongBatch = record { place = 1; low = omega arith; is = refl }
placed BrokenRules = record { place = 2; low = omega arith; is = refl }
placed NoSuchPage = record { place = 3; low = omega arith; is = refl }
placed NoSuchFrame = record { place = 4; low = omega arith; is = refl }
placed NoSuchRights = record { place = 5; low = omega arith; is = refl }
placed NoSuchOffset = record { place = 6; low = omega arith; is = refl }
placed NoSuchPart = record { place = 7; low = omega arith; is = refl }
placed AlreadyMapped = record { place = 8; low = omega arith; is = refl }
placed NotMapped = record { place = 9; low = omega arith; is = refl }
placed ListFull = record { place = 10; low = omega arith; is = refl }
placed NotWritable = record { place = 11; low = omega arith; is = refl }
placed NotFetchable = record { place = 12; low = omega arith; is = refl }
placed Busy = record { place = 13; low = omega arith; is = refl }
placed NoTransfer = record { place = 14; low = omega arith; is = refl }

agree : Bool → Bool → Bool
agree x y = cond x y (not y)

agreed : (x y : Bool) → agree x y ≡ true → x ≡ y
unfolding agree
agreed true true e = refl
agreed true false e = sym e
agreed false true e = e
agreed false false e = refl

abbrev by_code : Refusal → Refusal → Bool
by_code r s = not (is_lt (cmp-value.it s r))

abbrev by_place : Refusal → Refusal → Bool
by_place r s = leb (refusal_place (refusal_number r)) (refusal_place (refusal_number s))

pairs : all 15 (λ i. all 15 (λ j. agree (by_code (at i) (at j)) (by_place (at i) (at j)))) ≡ true
unfolding at refusals agree refusal_place all
pairs = refl

pub refusals_in_order : (r s : Refusal) → by_code r s ≡ by_place r s
refusals_in_order r s =
    let p = placed r in
    let q = placed s in
    let row = all_at 15 (λ i. all 15 (λ j. agree (by_code (at i) (at j)) (by_place (at i) (at j)))) pairs p.place p.low in
    ap₂ by_code (sym p.is) (sym q.is)
    ∙ agreed _ _ (all_at 15 (λ j. agree (by_code (at p.place) (at j)) (by_place (at p.place) (at j))) row q.place q.low)
    ∙ ap₂ by_place p.is q.is
