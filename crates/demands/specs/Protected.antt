-- What demand 2 gives a kernel after every call that was accepted, said of the tables alone and proved from the demand's statement: the tables keep
-- their rules, and the byte of a listed mapping stops an access exactly if it is to be stopped.
use Rattle.std.specs.Prelude.{true, false, ◌≡◌, ℕ, ◌≤◌, ◌<◌, length, get_or}
use Rattle.board.specs.declared.Board.{Board}
use Rattle.board.specs.Board.{colour_of}
use Rattle.page_model.specs.Table as table
use Rattle.page_model.specs.Theorems.{Idle}
use Rattle.mapping.specs.Entry.{capacity, is_rights, read_write, read_fetch, mapping_at}
use Rattle.manager.specs.Tables.{Tables, record_at, protection_at, data_part, tabulate}
use Rattle.manager.specs.Theorems.{WellFormedTables}
use Rattle.machine.specs.Call.{perform}
use Rattle.machine.specs.State.{State, Call, single, map_all, Answer}
use Rattle.consistency.specs.Cacheless.{is_refused}
use Rattle.demands.specs.Demands.{Demand2}

-- a mapping's rights allow an access, and the page model would order nothing for it and alter nothing
abbrev pub ReadIdle : Board → Tables → ℕ → Type 0
ReadIdle b t i =
    let m = mapping_at t.list i in (is_rights m.rights ≡ true) × Idle b.colours (table.read (colour_of b m.page)) (record_at t.records m.frame)

abbrev pub WriteIdle : Board → Tables → ℕ → Type 0
WriteIdle b t i =
    let m = mapping_at t.list i in (m.rights ≡ read_write) × Idle b.colours (table.write (colour_of b m.page)) (record_at t.records m.frame)

abbrev pub FetchIdle : Board → Tables → ℕ → Type 0
FetchIdle b t i =
    let m = mapping_at t.list i in (m.rights ≡ read_fetch) × Idle b.colours (table.fetch (colour_of b m.page)) (record_at t.records m.frame)

pub record Protected (b : Board) (t : Tables) : Type 0 where
  pub rules_kept_lem : WellFormedTables b t
  pub agree : t.protections ≡ tabulate capacity (protection_at b t.list t.records)
  -- no access that may pass is stopped
  pub idle_read_passes : (i : ℕ) → i < t.list.count → ReadIdle b t i → 1 ≤ data_part (get_or t.protections i 0)
  pub idle_write_passes : (i : ℕ) → i < t.list.count → WriteIdle b t i → 2 ≤ data_part (get_or t.protections i 0)
  pub idle_fetch_passes : (i : ℕ) → i < t.list.count → FetchIdle b t i → 4 ≤ get_or t.protections i 0
  -- and none passes that may not
  pub read_is_idle : (i : ℕ) → i < t.list.count → 1 ≤ data_part (get_or t.protections i 0) → ReadIdle b t i
  pub write_is_idle : (i : ℕ) → i < t.list.count → 2 ≤ data_part (get_or t.protections i 0) → WriteIdle b t i
  pub fetch_is_idle : (i : ℕ) → i < t.list.count → 4 ≤ get_or t.protections i 0 → FetchIdle b t i

-- an accepted list of mappings of which no item was accepted leaves the protections as they were, whatever they were
abbrev pub Changes : Call → Answer → Type 0
Changes (single call) a = Unit {0}
Changes (map_all items answers) a = (k : ℕ) × (k < length items) × (get_or a.buffer k 0 ≡ 0)

abbrev pub AlwaysProtected : Type 0
AlwaysProtected =
    (b : Board) → Demand2 b
    → (st : State) (call : Call) → is_refused (perform b st call).answer ≡ false → Changes call (perform b st call).answer
    → Protected b (perform b st call).after.tables
