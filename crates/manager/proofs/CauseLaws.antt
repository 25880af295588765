-- Laws of the causes of refusal: what a refusal, or none, tells of the conditions, and what the conditions of the tables tell of them.
use mathlib.Core.Path.{◌≡◌, refl, sym, ap, ap₂, ◌∙◌}
use mathlib.Core.Bool.{Bool, true, false, not, cond, ◌&&◌, false≢true}
use mathlib.Core.List.{List, [], ◌∷◌, ◌++◌}
use Rattle.std.proofs.Common.{Result}
use Rattle.std.proofs.lemmas.Result.{err_from_is_err_and}
use Rattle.std.specs.Result.{IsErrAnd}
use Prim.Native.Nat.{ℕ, zero, suc, ◌*◌, ◌<◌}
use native.Mathlib.Omega.{arith}
use borrow.Author.Tests.{eq-eqb, ltb-true, leb-false, not-false}
use lib.Dec.{eqb, ltb}
use lib.ListN.{length}
use Rattle.bits.proofs.Mask.{all_at}
use Rattle.bits.proofs.Tautology.{and_left, and_right}
use Rattle.board.specs.declared.Board.{Board}
use Rattle.page_model.specs.Record as frame_record
use Rattle.mapping.specs.declared.MappingList.{MappingList}
use Rattle.mapping.specs.declared.Mapping.{Mapping}
use Rattle.mapping.specs.Entry.{capacity, zero_mapping}
use Rattle.mapping.specs.declared.Seen.{Seen}
use Rattle.std.specs.Prelude.{Option, Some, None, is_some, unwrap_or}
use Rattle.mapping.specs.Facts.{InRange, Rules, FoundAt}
use Rattle.mapping.specs.Look.{find, look}
use Rattle.mapping.specs.Lookup.{lookup, is_mapped, place_of, listed_mapping, place_for}
use Rattle.mapping.specs.Rules as list_of
use Rattle.mapping.proofs.Laws.{keeps_rules_true, lookup_at, found_place, look_kept, look_broken, find_mapped, find_listed}
use Rattle.manager.specs.declared.refusal.Refusal.{Refusal}
use Rattle.manager.specs.declared.refusal.Refusal.TheVariants as refusal
use Rattle.manager.specs.Answers.{refusal_number, refusal_in}
use Rattle.manager.specs.Refusals.{Cause, ◌if◌, first_refusal, table_causes, page_causes, mapping_causes, space_cause, frame_cause, rights_cause, full_cause, unmapped_cause}
use Rattle.manager.specs.Scaffold.Told.{told_tables, told_mapping, told_page}
use Rattle.manager.specs.Tables.{Tables, tables, record_words, record_at, records_keep_rules, lengths_right, rules_kept}

-- ---- the lent tables

-- the refusal of lengths and rules, else another
abbrev refusal2 : Bool → Bool → ℕ → ℕ
refusal2 lengths rules rest = cond (not lengths) 1 (cond (not rules) 2 rest)

module _ (b : Board) (t : Tables) where
  pub lengths_right_lem : length t.list.items ≡ capacity → length t.records ≡ b.frames * record_words → length t.protections ≡ capacity
      → lengths_right b t ≡ true
  unfolding lengths_right
  lengths_right_lem l r p = ap₂ ◌&&◌ (ap₂ ◌&&◌ (eq-eqb _ _ l) (eq-eqb _ _ r)) (eq-eqb _ _ p)

  pub rules_kept_lem : list_of.keeps_rules b t.list ≡ true → records_keep_rules b t.records ≡ true → rules_kept b t ≡ true
  unfolding rules_kept
  rules_kept_lem l r = ap₂ ◌&&◌ l r

  -- where the tables give none, they have their lengths and keep their rules
  pub tables_clear : first_refusal (table_causes b t) ≡ 0 → (lengths_right b t ≡ true) × (rules_kept b t ≡ true)
  unfolding first_refusal table_causes
  tables_clear = go (lengths_right b t) (rules_kept b t)
    where
      go : (l r : Bool) → refusal2 l r 0 ≡ 0 → (l ≡ true) × (r ≡ true)
      go true true h = (refl, refl)
      go true false h = absurd (omega arith)
      go false r h = absurd (omega arith)

-- ---- no refusal: no cause applies

abbrev pub NoneApplies : List Cause → Type 0
NoneApplies [] = Unit {0}
NoneApplies (c ∷ cs) = (c.applies ≡ false) × NoneApplies cs

-- no number is 0
abbrev pub numbered : List Cause → Bool
numbered [] = true
numbered (c ∷ cs) = ltb 0 c.number && numbered cs

pub none_applies : (cs : List Cause) → numbered cs ≡ true → first_refusal cs ≡ 0 → NoneApplies cs
unfolding first_refusal
none_applies [] n e = tt
none_applies (c ∷ cs) n e = go c.applies refl (none_applies cs (and_right (ltb 0 c.number) _ n))
  where
    go : (a : Bool) → c.applies ≡ a → (first_refusal cs ≡ 0 → NoneApplies cs) → (c.applies ≡ false) × NoneApplies cs
    go true z rest = absurd (let p = ltb-true 0 c.number (and_left _ (numbered cs) n) in let q : c.number ≡ 0 = ap (λ (t : Bool). cond t c.number (first_refusal cs)) (sym z) ∙ e in omega arith)
    go false z rest = (z, rest (ap (λ (t : Bool). cond t c.number (first_refusal cs)) (sym z) ∙ e))

-- and where none applies there is no refusal
pub none_refused : (cs : List Cause) → NoneApplies cs → first_refusal cs ≡ 0
unfolding first_refusal
none_refused [] h = refl
none_refused (c ∷ cs) h = ap (λ (t : Bool). cond t c.number (first_refusal cs)) h.0 ∙ none_refused cs h.1

-- so none of a number does: whether the first cause of this number applies, and that it does not where none does
abbrev pub applies_in : ℕ → List Cause → Bool
applies_in n [] = false
applies_in n (c ∷ cs) = cond (eqb c.number n) c.applies (applies_in n cs)

by_number : (n : ℕ) (cs : List Cause) → NoneApplies cs → applies_in n cs ≡ false
by_number n [] h = refl
by_number n (c ∷ cs) h = go (eqb c.number n) (by_number n cs h.1)
  where
    go : (t : Bool) → applies_in n cs ≡ false → cond t c.applies (applies_in n cs) ≡ false
    go true rest = h.0
    go false rest = rest

pub cleared_in : (cs : List Cause) (n : ℕ) → numbered cs ≡ true → first_refusal cs ≡ 0 → applies_in n cs ≡ false
cleared_in cs n z e = by_number n cs (none_applies cs z e)

-- the causes before others give the refusal, if they give one
pub refusal_prefix : (cs ds : List Cause) → (first_refusal cs ≡ 0 → ⊥) → first_refusal cs ≡ first_refusal (cs ++ ds)
unfolding first_refusal
refusal_prefix [] ds h = absurd (h refl)
refusal_prefix (c ∷ cs) ds h = go c.applies (refusal_prefix cs ds) h
  where
    go : (a : Bool) → ((first_refusal cs ≡ 0 → ⊥) → first_refusal cs ≡ first_refusal (cs ++ ds)) → (cond a c.number (first_refusal cs) ≡ 0 → ⊥)
        → cond a c.number (first_refusal cs) ≡ cond a c.number (first_refusal (cs ++ ds))
    go true rest k = refl
    go false rest k = rest k

-- and where they give none, the others do
pub refusal_rest : (cs ds : List Cause) → numbered cs ≡ true → first_refusal cs ≡ 0 → first_refusal ds ≡ first_refusal (cs ++ ds)
unfolding first_refusal
refusal_rest [] ds n e = refl
refusal_rest (c ∷ cs) ds n e =
    let none = none_applies (c ∷ cs) n e in
    refusal_rest cs ds (and_right (ltb 0 c.number) _ n) (ap (λ (t : Bool). cond t c.number (first_refusal cs)) (sym none.0) ∙ e)
    ∙ ap (λ (t : Bool). cond t c.number (first_refusal (cs ++ ds))) (sym none.0)

-- no refusal's number is 0
pub some_number : (e : Refusal) → refusal_number e ≡ 0 → ⊥
some_number refusal.WrongLength z = omega arith
some_number refusal.WrongBatch z = omega arith
some_number refusal.BrokenRules z = omega arith
some_number refusal.NoSuchPage z = omega arith
some_number refusal.NoSuchFrame z = omega arith
some_number refusal.NoSuchRights z = omega arith
some_number refusal.NoSuchOffset z = omega arith
some_number refusal.NoSuchPart z = omega arith
some_number refusal.AlreadyMapped z = omega arith
some_number refusal.NotMapped z = omega arith
some_number refusal.ListFull z = omega arith
some_number refusal.NotWritable z = omega arith
some_number refusal.NotFetchable z = omega arith
some_number refusal.Busy z = omega arith
some_number refusal.NoTransfer z = omega arith

-- the exit of a `?`: what is tested first refuses, with the refusal that was handed on
pub refused_first : (cs ds : List Cause) {A : Type 0} (r : Result A Refusal) (e : Refusal) → refusal_number e ≡ first_refusal cs → IsErrAnd r (λ y. y ≡ e)
    → refusal_in r ≡ first_refusal (cs ++ ds)
refused_first cs ds r e told is =
    let p = err_from_is_err_and r is in
    rw (p.1, p.2) (told ∙ refusal_prefix cs ds (λ z. some_number e (told ∙ z)))

-- or it passes, and leaves it to the rest
pub refused_then : (cs ds : List Cause) {n : ℕ} → numbered cs ≡ true → 0 ≡ first_refusal cs → n ≡ first_refusal ds → n ≡ first_refusal (cs ++ ds)
refused_then cs ds n passed own = own ∙ refusal_rest cs ds n (sym passed)

-- the same of what every call of a device tests first: what is lent, and the frame
module _ (b : Board) (kept : Bool) (rs ps : List ℕ) (frame : ℕ) (ds : List Cause) where
  pub frame_first : {A : Type 0} (r : Result A Refusal) (e : Refusal) → refusal_number e ≡ first_refusal (told_tables b kept rs ps ++ frame_cause b frame ∷ []) → IsErrAnd r (λ y. y ≡ e)
      → refusal_in r ≡ first_refusal (told_tables b kept rs ps ++ frame_cause b frame ∷ ds)
  unfolding told_tables
  frame_first = refused_first (told_tables b kept rs ps ++ frame_cause b frame ∷ []) ds

  pub frame_then : {n : ℕ} → 0 ≡ first_refusal (told_tables b kept rs ps ++ frame_cause b frame ∷ []) → n ≡ first_refusal ds
      → n ≡ first_refusal (told_tables b kept rs ps ++ frame_cause b frame ∷ ds)
  unfolding told_tables
  frame_then = refused_then (told_tables b kept rs ps ++ frame_cause b frame ∷ []) ds refl

pub tables_numbered : (b : Board) (kept : Bool) (rs ps : List ℕ) → numbered (told_tables b kept rs ps) ≡ true
unfolding told_tables
tables_numbered b kept rs ps = refl

-- ---- what the tables' rules tell of a frame

module _ (b : Board) (t : Tables) (kept : rules_kept b t ≡ true) where
  pub list_rules : Rules b t.list
  unfolding rules_kept
  list_rules = keeps_rules_true b t.list (and_left _ (records_keep_rules b t.records) kept)

  pub record_rules : (f : ℕ) → f < b.frames → frame_record.keeps_rules b.colours (record_at t.records f) ≡ true
  unfolding rules_kept records_keep_rules
  record_rules = all_at b.frames (λ f. frame_record.keeps_rules b.colours (record_at t.records f)) (and_right (list_of.keeps_rules b t.list) _ kept)

  -- the place of a page that is mapped
  pub mapped_found : (space page : ℕ) → is_mapped t.list space page ≡ true → FoundAt t.list space page (place_of (lookup t.list space page))
  mapped_found space page e = go (lookup t.list space page) refl e
    where
      go : (f : Option ℕ) → lookup t.list space page ≡ f → is_some f ≡ true → FoundAt t.list space page (place_of f)
      go (Some i) z k = lookup_at t.list space page i z
      go None z k = absurd (false≢true k)

  pub mapped_range : (space page : ℕ) → is_mapped t.list space page ≡ true → InRange b (listed_mapping t.list space page)
  mapped_range space page e = list_rules.in_range_holds _ (mapped_found space page e).listed

  -- so the record of its frame keeps the rules
  pub mapped_rules : (space page : ℕ) → is_mapped t.list space page ≡ true
      → frame_record.keeps_rules b.colours (record_at t.records (listed_mapping t.list space page).frame) ≡ true
  mapped_rules space page e = record_rules _ (mapped_range space page e).frame_lt

-- ---- what a look at the list tells

pub list_keeps : (b : Board) (t : Tables) → rules_kept b t ≡ true → list_of.keeps_rules b t.list ≡ true
unfolding rules_kept
list_keeps b t = and_left _ (records_keep_rules b t.records)

-- the refusal of the tables, by whether their list keeps its rules
pub told_tables_lem : (b : Board) (l : MappingList) (rs ps : List ℕ) {kept : Bool} → length l.items ≡ capacity → kept ≡ list_of.keeps_rules b l
    → first_refusal (told_tables b kept rs ps) ≡ first_refusal (table_causes b (tables l rs ps))
unfolding first_refusal told_tables table_causes lengths_right rules_kept
told_tables_lem b l rs ps long e = rw (eq-eqb _ _ long, e)

-- a look tells something exactly of a list that keeps its rules, and then what `find` tells
pub looked_kept : (b : Board) (l : MappingList) (s p : ℕ) → is_some (look b l s p) ≡ list_of.keeps_rules b l
looked_kept b l s p = go (list_of.keeps_rules b l) refl
  where
    go : (t : Bool) → list_of.keeps_rules b l ≡ t → is_some (look b l s p) ≡ t
    go true e = ap (λ (x : Option Seen). is_some x) (look_kept b l s p e)
    go false e = ap (λ (x : Option Seen). is_some x) (look_broken b l s p e)

pub looked_found : (b : Board) (l : MappingList) (s p : ℕ) {seen : Seen} → look b l s p ≡ Some seen → (list_of.keeps_rules b l ≡ true) × (seen ≡ find l s p)
looked_found b l s p {seen} e = go (list_of.keeps_rules b l) refl
  where
    go : (t : Bool) → list_of.keeps_rules b l ≡ t → (list_of.keeps_rules b l ≡ true) × (seen ≡ find l s p)
    go true k = (k, (let z : Some seen ≡ Some (find l s p) = sym e ∙ look_kept b l s p k in cc))
    go false k = absurd (let z : Some seen ≡ None = sym e ∙ look_broken b l s p k in cc)

-- the refusal by what a look told, whatever stands for nothing told, is that of the tables
pub told_rest : (b : Board) (l : MappingList) (s p : ℕ) (rs ps : List ℕ) (own : Seen → List Cause) (untold : Seen) → length l.items ≡ capacity
    → first_refusal (told_tables b (is_some (look b l s p)) rs ps ++ own (unwrap_or (look b l s p) untold)) ≡ first_refusal (table_causes b (tables l rs ps) ++ own (find l s p))
unfolding told_tables table_causes
told_rest b l s p rs ps own untold long = go (first_refusal told) refl
  where
    seen : Seen
    seen = unwrap_or (look b l s p) untold

    told : List Cause
    told = told_tables b (is_some (look b l s p)) rs ps

    lent : List Cause
    lent = table_causes b (tables l rs ps)

    same : first_refusal told ≡ first_refusal lent
    same = told_tables_lem b l rs ps long (looked_kept b l s p)

    go : (n : ℕ) → first_refusal told ≡ n → first_refusal (told ++ own seen) ≡ first_refusal (lent ++ own (find l s p))
    go zero e =
        let none = sym same ∙ e in
        let kept = list_keeps b (tables l rs ps) (tables_clear b (tables l rs ps) none).1 in
        sym (refusal_rest told (own seen) refl e)
        ∙ ap (λ (x : Option Seen). first_refusal (own (unwrap_or x untold))) (look_kept b l s p kept)
        ∙ refusal_rest lent (own (find l s p)) refl none
    go (suc n) e = sym (refusal_prefix told (own seen) (λ z. omega arith)) ∙ same ∙ refusal_prefix lent (own (find l s p)) (λ z. let w = sym same ∙ e in omega arith)

-- the refusal of what is lent by what a look told
pub tables_told : (b : Board) (l : MappingList) (rs ps : List ℕ) (s p : ℕ) {looked : Option Seen} {n : ℕ} → length l.items ≡ capacity → looked ≡ look b l s p
    → n ≡ first_refusal (told_tables b (is_some looked) rs ps) → n ≡ first_refusal (table_causes b (tables l rs ps))
tables_told b l rs ps s p long looked told =
    told ∙ told_tables_lem b l rs ps long (ap (λ (x : Option Seen). is_some x) looked ∙ looked_kept b l s p)

-- what was found tells whether the page is mapped
pub mapping_told : (b : Board) (l : MappingList) (s p frame rights : ℕ) {seen : Seen} → seen ≡ find l s p → told_mapping b s p frame rights seen ≡ mapping_causes b l s p frame rights
mapping_told b l s p frame rights e =
    ap (told_mapping b s p frame rights) e
    ∙ ap (λ (t : Bool). space_cause s p ∷ frame_cause b frame ∷ rights_cause rights ∷ (7 if t) ∷ full_cause l ∷ []) (find_mapped l s p)

pub page_told : (l : MappingList) (s p : ℕ) {seen : Seen} → seen ≡ find l s p → told_page s p seen ≡ space_cause s p ∷ unmapped_cause l s p ∷ []
page_told l s p e = ap (told_page s p) e ∙ ap (λ (t : Bool). space_cause s p ∷ (8 if not t) ∷ []) (find_mapped l s p)

-- and the mapping that was found is the page's
pub mapping_listed : (l : MappingList) (s p : ℕ) {seen : Seen} {m : Mapping} → length l.items ≡ capacity → seen ≡ find l s p → seen.mapping ≡ Some m → m ≡ listed_mapping l s p
mapping_listed l s p long e is =
    ap (λ (x : Option Mapping). unwrap_or x zero_mapping) (sym is ∙ ap (λ (x : Seen). x.mapping) e) ∙ find_listed l s p (omega arith)

-- and of a transfer, whose own causes are not the list's
pub told_own : (b : Board) (l : MappingList) (rs ps : List ℕ) (own : List Cause) {kept : Bool} → length l.items ≡ capacity → kept ≡ list_of.keeps_rules b l
    → first_refusal (told_tables b kept rs ps ++ own) ≡ first_refusal (table_causes b (tables l rs ps) ++ own)
unfolding first_refusal told_tables table_causes lengths_right rules_kept
told_own b l rs ps own long e = rw (eq-eqb _ _ long, e)

-- ---- an accepted step: the record that it is made of keeps the rules

module _ (b : Board) (t : Tables) (space page : ℕ) where
  pub page_rules : (rest : List Cause) → numbered rest ≡ true → first_refusal (page_causes b t space page ++ rest) ≡ 0
      → frame_record.keeps_rules b.colours (record_at t.records (listed_mapping t.list space page).frame) ≡ true
  unfolding page_causes
  page_rules rest z e =
      let cs = page_causes b t space page ++ rest in
      mapped_rules b t (not-false _ (cleared_in cs 2 z e)) space page (not-false _ (cleared_in cs 8 z e))

pub transfer_rules : (b : Board) (t : Tables) (f : ℕ) (rest : List Cause) → numbered rest ≡ true → first_refusal (table_causes b t ++ frame_cause b f ∷ rest) ≡ 0
    → frame_record.keeps_rules b.colours (record_at t.records f) ≡ true
unfolding table_causes
transfer_rules b t f rest z e =
    let cs = table_causes b t ++ frame_cause b f ∷ rest in
    record_rules b t (not-false _ (cleared_in cs 2 z e)) f (leb-false b.frames f (cleared_in cs 4 z e))

-- the place of a page that is mapped is where a mapping of it would go
pub page_place : (b : Board) (t : Tables) (space page : ℕ) → first_refusal (page_causes b t space page) ≡ 0
    → place_for t.list space page ≡ place_of (lookup t.list space page)
unfolding page_causes
page_place b t space page e =
    let kept = not-false _ (cleared_in (page_causes b t space page) 2 refl e) in
    found_place b t.list (list_rules b t kept) space page _ (mapped_found b t kept space page (not-false _ (cleared_in (page_causes b t space page) 8 refl e)))
