-- Demand 3's invariant: what holds of the board's state and the cacheless memory between any two calls.
use mathlib.Core.Path.{◌≡◌}
use mathlib.Core.Bool.{true}
use mathlib.Core.Option.{Option, none, some}
use Prim.Native.Nat.{ℕ, ◌*◌, ◌<◌}
use lib.ListN.{length}
use Rattle.bits.proofs.Mask.{all_of}
use Rattle.board.specs.declared.Board.{Board}
use Rattle.page_model.specs.Record.{keeps_rules}
use Rattle.mapping.specs.declared.Mapping.{Mapping}
use Rattle.mapping.specs.Entry.{capacity}
use Rattle.mapping.specs.Facts.{Rules}
use Rattle.mapping.specs.Lookup.{mapping_of}
use Rattle.mapping.proofs.Laws.{rules_keeps_rules}
use Rattle.manager.specs.Tables.{Tables, record_words, record_at, records_keep_rules}
use Rattle.manager.specs.Theorems.{WellFormedTables}
use Rattle.manager.proofs.CauseLaws.{lengths_right_lem, rules_kept_lem}
use Rattle.cache.specs.Store.{WellFormedStore}
use Rattle.machine.specs.State.{State, Single, single}
use Rattle.cache.specs.Cache.{FlushKind}
use Rattle.consistency.specs.Cacheless.{Cacheless, after_accepted}
use Rattle.consistency.specs.Demand3.{Finds}
use Rattle.consistency.specs.Flushes.{accept_by}
use Rattle.consistency.proofs.Pages.{page_states}
use Rattle.consistency.proofs.Agrees.{Agrees}

-- the tables have their lengths and keep their rules
pub record Sound (b : Board) (t : Tables) : Type 0 where
  pub items_length : length t.list.items ≡ capacity
  pub records_length : length t.records ≡ b.frames * record_words
  pub protections_length : length t.protections ≡ capacity
  pub list_rules : Rules b t.list
  pub record_rules : (f : ℕ) → f < b.frames → keeps_rules b.colours (record_at t.records f) ≡ true

-- so their tests hold
pub sound_kept : (b : Board) (t : Tables) → Sound b t → WellFormedTables b t
unfolding records_keep_rules
sound_kept b t s =
    (lengths_right_lem b t s.items_length s.records_length s.protections_length, rules_kept_lem b t (rules_keeps_rules b t.list s.list_rules) (all_of _ _ s.record_rules))

-- the frame of a mapping, if there is one
abbrev pub frame_in : Option Mapping → Option ℕ
frame_in none = none
frame_in (some m) = some m.frame

pub record Invariant (b : Board) (st : State) (m : Cacheless) : Type 0 where
  pub sound : Sound b st.tables
  pub kept : WellFormedStore b st.store
  pub agrees : (f : ℕ) → f < b.frames → Agrees b f (page_states b.colours (record_at st.tables.records f)) (m.word f) st.store
  pub frames_listed : (space page : ℕ) → m.frame space page ≡ frame_in (mapping_of st.tables.list space page)

-- an accepted single call finds its words and keeps the invariant, by either flush
abbrev pub Taken : Board → FlushKind → State → Cacheless → Single → Type 0
Taken b how st m call = Finds b m (single call) (accept_by b how st call).answer × Invariant b (accept_by b how st call).after (after_accepted m call)
