-- What the tests of one mapping say.
use mathlib.Core.Path.{◌≡◌, refl, sym, ap₂, subst, ◌∙◌}
use mathlib.Core.Bool.{Bool, true, false, ◌&&◌, false≢true}
use Prim.Native.Nat.{ℕ, ◌≤◌}
use borrow.Author.Tests.{ltb-true, lt-ltb, leb-true, le-leb, eqb-true, eq-eqb}
use Rattle.board.specs.declared.Board.{Board}
use Rattle.mapping.specs.declared.Mapping.{Mapping}
use Rattle.mapping.specs.Entry.{read_only, read_fetch, is_rights, zero_mapping, in_range, is_zero, is_at}
use Rattle.mapping.specs.Facts.{InRange, MapsTo}
use Rattle.mapping.proofs.Tests.{and_both, chain_last}

-- rights as a test and as a range
pub rights_known : (rights : ℕ) → is_rights rights ≡ true → (read_only ≤ rights) × (rights ≤ read_fetch)
rights_known rights e = let r = and_both _ _ e in (leb-true _ _ r.0, leb-true _ _ r.1)

pub known_rights : (rights : ℕ) → (read_only ≤ rights) × (rights ≤ read_fetch) → is_rights rights ≡ true
known_rights rights r = ap₂ ◌&&◌ (le-leb _ _ r.0) (le-leb _ _ r.1)

module _ (b : Board) (m : Mapping) where
  pub in_range_true : in_range b m ≡ true → InRange b m
  unfolding in_range
  in_range_true e =
      let s = and_both _ _ e in
      let t = and_both _ _ s.0 in
      let u = and_both _ _ t.0 in
      record {
        space_lt = ltb-true _ _ u.0;
        page_lt = ltb-true _ _ u.1;
        frame_lt = ltb-true _ _ t.1;
        rights_of_holds = rights_known m.rights s.1;
      }

  pub range_in_range : InRange b m → in_range b m ≡ true
  unfolding in_range
  range_in_range r =
      sym (chain_last _ _ _ _ true (lt-ltb _ _ r.space_lt) (lt-ltb _ _ r.page_lt) (lt-ltb _ _ r.frame_lt) (sym (known_rights m.rights r.rights_of_holds)))

-- the only mapping whose fields are all 0
pub is_zero_true : (m : Mapping) → is_zero m ≡ true → m ≡ zero_mapping
unfolding is_zero
is_zero_true m e =
    let s = and_both _ _ e in
    let t = and_both _ _ s.0 in
    let u = and_both _ _ t.0 in
    made (eqb-true m.space 0 u.0) (eqb-true m.page 0 u.1) (eqb-true m.frame 0 t.1) (eqb-true m.rights 0 s.1)
  where
    made : {s p f r : ℕ} → s ≡ 0 → p ≡ 0 → f ≡ 0 → r ≡ 0 → ◌≡◌ {A = Mapping} (record { space = s; page = p; frame = f; rights = r }) zero_mapping
    made a b c d = rw (a, b, c, d)

pub is_zero_zero : is_zero zero_mapping ≡ true
unfolding is_zero
is_zero_zero = refl

-- the mapping of a page of a space
module _ (m : Mapping) (s p : ℕ) where
  pub is_at_true : is_at m s p ≡ true → MapsTo m s p
  unfolding is_at
  is_at_true e = let b = and_both _ _ e in (eqb-true _ _ b.0, eqb-true _ _ b.1)

  pub maps_is_at : MapsTo m s p → is_at m s p ≡ true
  unfolding is_at
  maps_is_at h = ap₂ ◌&&◌ (eq-eqb _ _ h.0) (eq-eqb _ _ h.1)

  pub is_at_false : is_at m s p ≡ false → MapsTo m s p → ⊥
  is_at_false e h = false≢true (sym e ∙ maps_is_at h)

  pub not_is_at : (MapsTo m s p → ⊥) → is_at m s p ≡ false
  not_is_at h = go (is_at m s p) refl
    where
      go : (t : Bool) → is_at m s p ≡ t → t ≡ false
      go true z = absurd (h (is_at_true z))
      go false z = refl

-- mappings for others that they equal
pub maps_cong : {m n : Mapping} {s p : ℕ} → m ≡ n → MapsTo m s p → MapsTo n s p
maps_cong {s = s} {p = p} e = subst (λ (x : Mapping). MapsTo x s p) e
