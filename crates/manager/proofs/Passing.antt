-- A listed mapping's protection lets an access pass exactly if its rights allow it and the page model would order nothing and alter nothing.
use mathlib.Core.Path.{◌≡◌, refl, subst, subst⁻¹, ap, ◌∙◌}
use mathlib.Core.Bool.{Bool, true, false, cond, ◌&&◌, and-false, false≢true}
use mathlib.Core.Logic.{◌↔◌, ◌⊎◌, inl, inr}
use Prim.Native.Nat.{ℕ, zero, suc, ◌+◌, ◌%◌, ◌≤◌, ◌<◌}
use native.Mathlib.Decide.{ℕ_discrete}
use native.Mathlib.Omega.{arith}
use borrow.Author.Tests.{lt-ltb, eq-eqb, ne_eqb, eqb-true}
use lib.Dec.{eqb}
use Rattle.board.specs.declared.Board.{Board}
use Rattle.board.specs.Board.{Regular, colour_of}
use Rattle.board.proofs.Geometry.{colour_of_lt}
use Rattle.bits.specs.Mask.{digit}
use Rattle.page_model.specs.Instructions.{InstructionState}
use Rattle.page_model.specs.Record.{state_of, instruction_state_of, keeps_rules, is_held, is_dirty, is_fetched}
use Rattle.page_model.specs.Table.{ColourState, empty, present, dirty, stale}
use Rattle.page_model.specs.Theorems.{passes_read, passes_write}
use Rattle.page_model.proofs.Theorems.{read_passes, write_passes, fetch_passes}
use Rattle.mapping.specs.Entry.{read_write, read_fetch, mapping_at}
use Rattle.mapping.specs.Facts.{InRange}
use Rattle.mapping.proofs.Laws.{known_rights}
use Rattle.manager.specs.Tables.{Tables, record_at, protection, data_part, mapping_state, instructions_of, protection_at}
use Rattle.manager.specs.Theorems.{WellFormedTables, ProtectionNumbers, ReadProtection, WriteProtection, FetchProtection}
use Rattle.manager.proofs.CauseLaws.{list_rules, record_rules}

-- ---- what a protection lets pass, by the state of the colour

-- its part below 4
data_part_lem : (p : ℕ) (t : Bool) → p < 4 → (p + cond t 4 0) % 4 ≡ p
data_part_lem p true h = omega arith
data_part_lem p false h = omega arith

abbrev words_part : ColourState → ℕ → ℕ
words_part s rights = cond (is_dirty s && eqb rights read_write) 2 (digit (is_held s))

words_small : (s : ColourState) (rights : ℕ) → words_part s rights < 4
words_small s rights = go s (eqb rights read_write)
  where
    go : (s : ColourState) (t : Bool) → cond (is_dirty s && t) 2 (digit (is_held s)) < 4
    go empty t = omega arith
    go present t = omega arith
    go dirty true = omega arith
    go dirty false = omega arith
    go stale t = omega arith

protection_data : (s : ColourState) (i : InstructionState) (rights : ℕ) → data_part (protection s i rights) ≡ words_part s rights
unfolding protection
protection_data s i rights = data_part_lem (words_part s rights) (is_fetched i && eqb rights read_fetch) (words_small s rights)

read_allowed : (s : ColourState) (rights : ℕ) → (1 ≤ words_part s rights) ↔ (passes_read s ≡ true)
read_allowed empty rights = (λ h. absurd (omega arith), λ e. absurd (false≢true e))
read_allowed present rights = (λ h. refl, λ e. omega arith)
read_allowed dirty rights = (λ h. refl, λ e. go (eqb rights read_write))
  where
    go : (t : Bool) → 1 ≤ cond t 2 1
    go true = omega arith
    go false = omega arith
read_allowed stale rights = (λ h. absurd (omega arith), λ e. absurd (false≢true e))

write_allowed : (s : ColourState) (rights : ℕ) → (2 ≤ words_part s rights) ↔ ((rights ≡ read_write) × (passes_write s ≡ true))
write_allowed empty rights = (λ h. absurd (omega arith), λ e. absurd (false≢true e.1))
write_allowed present rights = (λ h. absurd (omega arith), λ e. absurd (false≢true e.1))
write_allowed dirty rights =
    (λ h. (eqb-true _ _ (go (eqb rights read_write) h), refl), λ e. subst⁻¹ (λ (t : Bool). 2 ≤ cond t 2 1) (eq-eqb _ _ e.0) (omega arith))
  where
    go : (t : Bool) → 2 ≤ cond t 2 1 → t ≡ true
    go true h = refl
    go false h = absurd (omega arith)
write_allowed stale rights = (λ h. absurd (omega arith), λ e. absurd (false≢true e.1))

fetch_allowed : (s : ColourState) (i : InstructionState) (rights : ℕ) → (4 ≤ protection s i rights) ↔ ((rights ≡ read_fetch) × (is_fetched i ≡ true))
unfolding protection
fetch_allowed s i rights =
    let small = words_small s rights in (
      λ h. let e = go (is_fetched i) (eqb rights read_fetch) small h in (eqb-true _ _ e.1, e.0),
      λ e. rw (e.1, eq-eqb _ _ e.0) (omega arith),
    )
  where
    go : {p : ℕ} (f t : Bool) → p < 4 → 4 ≤ p + cond (f && t) 4 0 → (f ≡ true) × (t ≡ true)
    go true true l h = (refl, refl)
    go true false l h = absurd (omega arith)
    go false t l h = absurd (omega arith)

-- rights are not both to write and to fetch
pub protection_numbers : ProtectionNumbers
unfolding protection
protection_numbers s i rights = go s (is_fetched i) (ℕ_discrete rights read_fetch)
  where
    small : (p : ℕ) (t : Bool) → p ≤ 1 → (p + cond t 4 0 ≤ 2) ⊎ ((p + cond t 4 0 ≡ 4) ⊎ (p + cond t 4 0 ≡ 5))
    small p false h = inl (omega arith)
    small zero true h = inr (inl refl)
    small (suc p) true h = inr (inr (omega arith))

    go : (s : ColourState) (f : Bool) → Dec (rights ≡ read_fetch)
        → let p = cond (is_dirty s && eqb rights read_write) 2 (digit (is_held s)) + cond (f && eqb rights read_fetch) 4 0 in (p ≤ 2) ⊎ ((p ≡ 4) ⊎ (p ≡ 5))
    go empty f d = small 0 (f && eqb rights read_fetch) (omega arith)
    go present f d = small 1 (f && eqb rights read_fetch) (omega arith)
    go stale f d = small 0 (f && eqb rights read_fetch) (omega arith)
    go dirty f (yes e) = rw (ne_eqb rights read_write (omega arith)) (small 1 (f && eqb rights read_fetch) (omega arith))
    go dirty f (no ne) = rw (ne_eqb rights read_fetch ne, and-false) (inl (most (eqb rights read_write)))
      where
        most : (t : Bool) → cond t 2 1 + 0 ≤ 2
        most true = omega arith
        most false = omega arith

-- ---- a listed mapping

module _ (b : Board) (t : Tables) (i : ℕ) (reg : Regular b) (w : WellFormedTables b t) (listed : i < t.list.count) where
  range : InRange b (mapping_at t.list i)
  range = (list_rules b t w.1).in_range_holds i listed

  kept : keeps_rules b.colours (record_at t.records (mapping_at t.list i).frame) ≡ true
  kept = record_rules b t w.1 _ range.frame_lt

  -- its protection, by the states of its colour
  at_place : let r = record_at t.records (mapping_at t.list i).frame in
      let c = colour_of b (mapping_at t.list i).page in
      protection_at b t.list t.records i ≡ protection (state_of r c) (instruction_state_of r c) (mapping_at t.list i).rights
  unfolding protection_at mapping_state instructions_of
  at_place = rw (lt-ltb _ _ listed)

  -- and its part below 4
  data_at : let r = record_at t.records (mapping_at t.list i).frame in
      data_part (protection_at b t.list t.records i) ≡ words_part (state_of r (colour_of b (mapping_at t.list i).page)) (mapping_at t.list i).rights
  data_at = ap data_part at_place ∙ protection_data _ _ _

pub read_protection : ReadProtection
read_protection b t i reg w listed =
    let m = mapping_at t.list i in
    let r = range b t i reg w listed in
    let allowed = read_allowed (state_of (record_at t.records m.frame) (colour_of b m.page)) m.rights in
    let passes = read_passes b.colours (colour_of b m.page) (record_at t.records m.frame) (colour_of_lt b reg m.page) (kept b t i reg w listed) in (
      λ h. (known_rights m.rights r.rights_of_holds, passes.0 (allowed.0 (subst (λ (p : ℕ). 1 ≤ p) (data_at b t i reg w listed) h))),
      λ e. subst⁻¹ (λ (p : ℕ). 1 ≤ p) (data_at b t i reg w listed) (allowed.1 (passes.1 e.1)),
    )

pub write_protection : WriteProtection
write_protection b t i reg w listed =
    let m = mapping_at t.list i in
    let allowed = write_allowed (state_of (record_at t.records m.frame) (colour_of b m.page)) m.rights in
    let passes = write_passes b.colours (colour_of b m.page) (record_at t.records m.frame) (colour_of_lt b reg m.page) (kept b t i reg w listed) in (
      λ h. let a = allowed.0 (subst (λ (p : ℕ). 2 ≤ p) (data_at b t i reg w listed) h) in (a.0, passes.0 a.1),
      λ e. subst⁻¹ (λ (p : ℕ). 2 ≤ p) (data_at b t i reg w listed) (allowed.1 (e.0, passes.1 e.1)),
    )

pub fetch_protection : FetchProtection
fetch_protection b t i reg w listed =
    let m = mapping_at t.list i in
    let r = record_at t.records m.frame in
    let allowed = fetch_allowed (state_of r (colour_of b m.page)) (instruction_state_of r (colour_of b m.page)) m.rights in
    let passes = fetch_passes b.colours (colour_of b m.page) r (colour_of_lt b reg m.page) (kept b t i reg w listed) in (
      λ h. let a = allowed.0 (subst (λ (p : ℕ). 4 ≤ p) (at_place b t i reg w listed) h) in (a.0, passes.0 a.1),
      λ e. subst⁻¹ (λ (p : ℕ). 4 ≤ p) (at_place b t i reg w listed) (allowed.1 (e.0, passes.1 e.1)),
    )
