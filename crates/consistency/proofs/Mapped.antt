-- A page of a space that is mapped, and the frame that the cacheless memory has for it.
use mathlib.Core.Path.{◌≡◌, refl, ap, ◌∙◌}
use mathlib.Core.Bool.{true, false≢true}
use mathlib.Core.Option.{some}
use Prim.Native.Nat.{ℕ}
use Rattle.board.specs.declared.Board.{Board}
use Rattle.std.specs.Prelude.{Option, Some, None, is_some}
use Rattle.mapping.specs.Entry.{mapping_at}
use Rattle.mapping.specs.Lookup.{lookup, mapping_of, is_mapped, place_of}
use Rattle.mapping.proofs.Laws.{mapping_of_at}
use Rattle.machine.specs.State.{State, page_frame}
use Rattle.consistency.specs.Cacheless.{Cacheless}
use Rattle.consistency.proofs.Invariant.{frame_in, Invariant}

-- the frame of a page that is mapped is the cacheless memory's
pub mapped_frame_lem : (b : Board) (st : State) (m : Cacheless) → Invariant b st m → (space page : ℕ) → is_mapped st.tables.list space page ≡ true
    → m.frame space page ≡ some (page_frame st space page)
mapped_frame_lem b st m inv space page mapped = inv.frames_listed space page ∙ go (lookup st.tables.list space page) refl mapped
  where
    go : (x : Option ℕ) → lookup st.tables.list space page ≡ x → is_some x ≡ true
        → frame_in (mapping_of st.tables.list space page) ≡ some (mapping_at st.tables.list (place_of x)).frame
    go (Some i) z e = ap frame_in (mapping_of_at st.tables.list space page i z)
    go None z e = absurd (false≢true e)
