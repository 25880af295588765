-- What tables that keep their rules, and a map of which no cause of refusal applies, tell part by part.
use mathlib.Core.Path.{◌≡◌, refl, sym, ◌∙◌}
use mathlib.Core.Bool.{Bool, true, false, ◌&&◌, ◌||◌, false≢true}
use mathlib.Core.Logic.{◌≢◌}
use Prim.Native.Nat.{ℕ, ◌*◌, ◌<◌}
use native.Mathlib.Omega.{arith}
use borrow.Author.Tests.{eqb-true, eqb-false, leb-false, not-false}
use lib.Dec.{eqb, leb}
use lib.ListN.{length}
use Rattle.bits.proofs.Tautology.{and_left, and_right}
use Rattle.board.specs.declared.Board.{Board}
use Rattle.board.specs.Board.{spaces, pages}
use Rattle.std.specs.Prelude.{Option, Some, None, is_some}
use Rattle.mapping.specs.declared.Mapping.{Mapping}
use Rattle.mapping.specs.declared.MappingList.{MappingList}
use Rattle.mapping.specs.Entry.{capacity}
use Rattle.mapping.specs.Facts.{InRange}
use Rattle.mapping.specs.Lookup.{lookup}
use Rattle.mapping.specs.Rules as list_of
use Rattle.mapping.proofs.Laws.{rights_known}
use Rattle.manager.specs.Refusals.{first_refusal, table_causes, map_causes, mapping_causes}
use Rattle.manager.specs.Scaffold.Inserted.{mapping_refusal}
use Rattle.manager.specs.Tables.{Tables, record_words, records_keep_rules, lengths_right, rules_kept}
use Rattle.manager.specs.Theorems.{WellFormedTables}
use Rattle.manager.proofs.CauseLaws.{list_rules, cleared_in, refusal_rest}

-- ---- the tables' lengths and rules, part by part

pub lengths_known : (b : Board) (t : Tables) → lengths_right b t ≡ true
    → (length t.list.items ≡ capacity) × (length t.records ≡ b.frames * record_words) × (length t.protections ≡ capacity)
unfolding lengths_right
lengths_known b t e =
    let s = and_left _ (eqb (length t.protections) capacity) e in (
      eqb-true _ _ (and_left _ (eqb (length t.records) (b.frames * record_words)) s),
      eqb-true _ _ (and_right (eqb (length t.list.items) capacity) _ s),
      eqb-true _ _ (and_right (eqb (length t.list.items) capacity && eqb (length t.records) (b.frames * record_words)) _ e),
    )

pub records_rules : (b : Board) (t : Tables) → rules_kept b t ≡ true → records_keep_rules b t.records ≡ true
unfolding rules_kept
records_rules b t e = and_right (list_of.keeps_rules b t.list) _ e

-- ---- where no cause applies

-- neither of two
pub or_neither : (x y : Bool) → (x || y) ≡ false → (x ≡ false) × (y ≡ false)
or_neither true y e = absurd (false≢true (sym e))
or_neither false y e = (refl, e)

not_found : (f : Option ℕ) → is_some f ≡ false → f ≡ None
not_found (Some i) e = absurd (false≢true (sym e))
not_found None e = refl

-- a mapping that the list does not refuse
pub mapping_accepted : (b : Board) (l : MappingList) (m : Mapping) → mapping_refusal b l m ≡ 0
    → InRange b m × (lookup l m.space m.page ≡ None) × (l.count ≢ capacity)
unfolding mapping_refusal
mapping_accepted b l m e =
    let cs = mapping_causes b l m.space m.page m.frame m.rights in
    let within = or_neither (leb spaces m.space) (leb pages m.page) (cleared_in cs 3 refl e) in (
      record {
        space_lt = leb-false _ _ within.0;
        page_lt = leb-false _ _ within.1;
        frame_lt = leb-false _ _ (cleared_in cs 4 refl e);
        rights_of_holds = rights_known m.rights (not-false _ (cleared_in cs 5 refl e));
      },
      not_found _ (cleared_in cs 7 refl e),
      eqb-false l.count capacity (cleared_in cs 9 refl e),
    )

pub map_accepted : (b : Board) (t : Tables) (m : Mapping) → first_refusal (map_causes b t m.space m.page m.frame m.rights) ≡ 0
    → WellFormedTables b t × InRange b m × (lookup t.list m.space m.page ≡ None) × (t.list.count < capacity)
unfolding first_refusal map_causes mapping_refusal table_causes
map_accepted b t m e =
    let cs = map_causes b t m.space m.page m.frame m.rights in
    let kept : rules_kept b t ≡ true = not-false _ (cleared_in cs 2 refl e) in
    let lengths : lengths_right b t ≡ true = not-false _ (cleared_in cs 1 refl e) in
    let some = (list_rules b t kept).count_le in
    let own = mapping_accepted b t.list m (refusal_rest (table_causes b t) (mapping_causes b t.list m.space m.page m.frame m.rights) refl (rw (lengths, kept)) ∙ e) in
    let room = own.2 in
    ((lengths, kept), own.0, own.1, omega arith)
