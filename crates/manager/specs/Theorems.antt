-- What is proved of the manager's definitions, for any board.
use Rattle.std.specs.Prelude.{true, false, ◌↔◌, ◌⊎◌, ◌≡◌, ℕ, ◌*◌, ◌≤◌, ◌<◌}
use mathlib.Core.List.{List, Memᴰ}
use Rattle.board.specs.declared.Board.{Board}
use Rattle.board.specs.Board.{Regular, colour_of}
use Rattle.page_model.specs.Instructions.{InstructionState}
use Rattle.page_model.specs.Record.{start_record}
use Rattle.page_model.specs.Table as step
use Rattle.page_model.specs.Table.{ColourState}
use Rattle.page_model.specs.Theorems.{Idle}
use Rattle.mapping.specs.Entry.{is_rights, read_write, read_fetch, mapping_at}
use Rattle.manager.specs.Tables.{Tables, record_words, record_at, start_records, start_word, lengths_right, rules_kept, protection, protection_at, data_part, tabulate}
use Rattle.manager.specs.Refusals.{Cause, ◌if◌, first_refusal, refusal_place, in_order}

-- ---- the tables' rules

-- the tables have their lengths and keep their rules
abbrev pub WellFormedTables : Board → Tables → Type 0
WellFormedTables b t = (lengths_right b t ≡ true) × (rules_kept b t ≡ true)

-- ---- the start

-- the words that the function `start` writes are those of every frame's record at the start
abbrev pub StartRecords : Type 0
StartRecords =
    (frames n : ℕ)
    → (tabulate (frames * record_words) (start_word n) ≡ start_records frames n) × ((f : ℕ) → f < frames → record_at (start_records frames n) f ≡ start_record n)

-- ---- refusals

-- the cause numbered n is listed and applies, and every other that applies stands later in the order
pub record First (cs : List Cause) (n : ℕ) : Type 0 where
  pub applies : Memᴰ (n if true) cs
  pub earliest : (c : Cause) → Memᴰ c cs → c.applies ≡ true → refusal_place n ≤ refusal_place c.number

-- of causes that stand in the order, the refusal is the first that applies, and 0 exactly if none does
abbrev pub FirstRefusal : Type 0
FirstRefusal =
    (cs : List Cause) → in_order 0 cs ≡ true
    → (first_refusal cs ≡ 0 → (c : Cause) → Memᴰ c cs → c.applies ≡ false) × ((first_refusal cs ≡ 0 → ⊥) → First cs (first_refusal cs))

-- ---- protections

-- a protection is 0, 1 or 2, or 4 or 5
abbrev pub ProtectionNumbers : Type 0
ProtectionNumbers =
    (s : ColourState) (i : InstructionState) (rights : ℕ)
    → (protection s i rights ≤ 2) ⊎ ((protection s i rights ≡ 4) ⊎ (protection s i rights ≡ 5))

-- a listed mapping's protection lets a read pass exactly if its rights allow one and the page model would order nothing and alter nothing; a mark
-- bars none of these (`IdleNotBarred`)
abbrev pub ReadProtection : Type 0
ReadProtection =
    (b : Board) (t : Tables) (i : ℕ) → Regular b → WellFormedTables b t → i < t.list.count
    → let m = mapping_at t.list i in
    (1 ≤ data_part (protection_at b t.list t.records i))
    ↔ ((is_rights m.rights ≡ true) × Idle b.colours (step.read (colour_of b m.page)) (record_at t.records m.frame))

abbrev pub WriteProtection : Type 0
WriteProtection =
    (b : Board) (t : Tables) (i : ℕ) → Regular b → WellFormedTables b t → i < t.list.count
    → let m = mapping_at t.list i in
    (2 ≤ data_part (protection_at b t.list t.records i))
    ↔ ((m.rights ≡ read_write) × Idle b.colours (step.write (colour_of b m.page)) (record_at t.records m.frame))

-- request N8: a fetch by the 4
abbrev pub FetchProtection : Type 0
FetchProtection =
    (b : Board) (t : Tables) (i : ℕ) → Regular b → WellFormedTables b t → i < t.list.count
    → let m = mapping_at t.list i in
    (4 ≤ protection_at b t.list t.records i)
    ↔ ((m.rights ≡ read_fetch) × Idle b.colours (step.fetch (colour_of b m.page)) (record_at t.records m.frame))
