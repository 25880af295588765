-- The causes of refusal as the code tests them, by what one look at the list told: where that was a look at this list, they are those of `Refusals`
-- (`told_tables_lem`, `looked_found`).
use Rattle.std.specs.Prelude.{Bool, not, ◌&&◌, List, [], ◌∷◌, ℕ, ◌*◌, eqb, length, is_some}
use Rattle.board.specs.declared.Board.{Board}
use Rattle.mapping.specs.declared.Seen.{Seen}
use Rattle.mapping.specs.Entry.{capacity}
use Rattle.manager.specs.declared.AccessKind.{AccessKind}
use Rattle.manager.specs.declared.AccessKind.TheVariants.{Read, Write, Fetch}
use Rattle.manager.specs.Refusals.{Cause, ◌if◌, space_cause, frame_cause, rights_cause, write_rights_cause, fetch_rights_cause}
use Rattle.manager.specs.Tables.{record_words, records_keep_rules}

-- the causes in what is lent, where kept says whether the list keeps its rules
unfoldable pub told_tables : Board → Bool → List ℕ → List ℕ → List Cause
told_tables b kept records protections =
    (1 if not (eqb (length records) (b.frames * record_words) && eqb (length protections) capacity))
    ∷ (2 if not (kept && records_keep_rules b records))
    ∷ []

-- the causes of a mapping; of an unmap; and of an access but for the mark
abbrev pub told_mapping : Board → ℕ → ℕ → ℕ → ℕ → Seen → List Cause
told_mapping b space page frame rights seen =
    space_cause space page
    ∷ frame_cause b frame
    ∷ rights_cause rights
    ∷ (7 if is_some seen.mapping)
    ∷ (9 if eqb seen.count capacity)
    ∷ []

abbrev pub told_page : ℕ → ℕ → Seen → List Cause
told_page space page seen = space_cause space page ∷ (8 if not (is_some seen.mapping)) ∷ []

-- the cause of an access in the rights of its mapping
abbrev pub told_rights : AccessKind → ℕ → List Cause
told_rights Read rights = []
told_rights Write rights = write_rights_cause rights ∷ []
told_rights Fetch rights = fetch_rights_cause rights ∷ []
