-- The laws of one look at the list.
use mathlib.Core.Path.{◌≡◌, refl, sym, ap, ◌∙◌}
use mathlib.Core.Bool.{Bool, true, false, cond, false≢true}
use native.Mathlib.Omega.{arith}
use lib.ListN.{length, get_or-eq_default}
use borrow.Author.Tests.{ltb-true, lt-ltb}
use Prim.Native.Nat.{ℕ, ◌≤◌}
use Rattle.board.specs.declared.Board.{Board}
use Rattle.mapping.specs.declared.MappingList.{MappingList}
use Rattle.std.specs.Prelude.{Option, Some, None, is_some, option_map, unwrap_or}
use Rattle.mapping.specs.declared.Seen.{Seen}
use Rattle.mapping.specs.Entry.{capacity, zero_mapping, mapping_at}
use Rattle.mapping.specs.Lookup.{lookup, is_mapped, place_of, listed_mapping}
use Rattle.mapping.specs.Facts.{Rules, GoesTo}
use Rattle.mapping.specs.Look.{find, look, is_listed_at, told_at}
use Rattle.mapping.specs.Rules.{keeps_rules}
use Rattle.mapping.proofs.Tests.{cond_true, cond_false, and_both}
use Rattle.mapping.proofs.Entry.{is_at_true, maps_is_at}
use Rattle.mapping.proofs.Place.{goes_place, goes_found, goes_nothing}
use Rattle.mapping.proofs.Rules.{count_length}

module _ (b : Board) (l : MappingList) (s p : ℕ) where
  pub look_kept : keeps_rules b l ≡ true → look b l s p ≡ Some (find l s p)
  unfolding look
  look_kept = cond_true _ _ _

  pub look_broken : keeps_rules b l ≡ false → look b l s p ≡ None
  unfolding look
  look_broken = cond_false _ _ _

-- what the place tells at which a mapping of the page goes, in a list that keeps its rules
module _ (b : Board) (l : MappingList) (rules : Rules b l) (s p i : ℕ) (goes : GoesTo l s p i) where
  told : Option ℕ → ℕ → Seen
  told x place = record { count = l.count; place = place; mapping = option_map (mapping_at l) x }

  pub told_find : told_at l s p i ≡ find l s p
  unfolding told
  told_find = go (is_listed_at l s p i) refl ∙ ap (told (lookup l s p)) (sym (goes_place l s p i goes))
    where
      go : (t : Bool) → is_listed_at l s p i ≡ t → ◌≡◌ {A = Seen} (record { count = l.count; place = i; mapping = cond t (Some (mapping_at l i)) None }) (told (lookup l s p) i)
      go true e =
          let h = and_both _ _ e in
          ap (λ (x : Option ℕ). told x i) (sym (goes_found b l rules s p i goes (ltb-true _ _ (and_both _ _ h.0).0) (is_at_true _ _ _ h.1)))
      go false e =
          let n = count_length b l rules in
          ap (λ (x : Option ℕ). told x i) (sym (goes_nothing b l rules s p i goes (λ h m. false≢true (sym e ∙ rw (lt-ltb i l.count h, lt-ltb i (length l.items) (omega arith)) (maps_is_at _ _ _ m)))))

-- ---- what `find` tells, as the other words have it

module _ (l : MappingList) (s p : ℕ) where
  pub find_mapped : is_some (find l s p).mapping ≡ is_mapped l s p
  find_mapped = go (lookup l s p)
    where
      go : (x : Option ℕ) → is_some (option_map (mapping_at l) x) ≡ is_some x
      go (Some i) = refl
      go None = refl

  pub find_listed : length l.items ≤ capacity → unwrap_or (find l s p).mapping zero_mapping ≡ listed_mapping l s p
  find_listed h = go (lookup l s p)
    where
      go : (x : Option ℕ) → unwrap_or (option_map (mapping_at l) x) zero_mapping ≡ mapping_at l (place_of x)
      go (Some i) = refl
      go None = sym (get_or-eq_default l.items zero_mapping h)
