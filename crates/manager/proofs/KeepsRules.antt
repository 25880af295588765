-- What an accepted call leaves keeps the tables' rules: a mapping listed or taken off, and a frame's record after a step or the end of a transfer.
use mathlib.Core.Path.{◌≡◌, ◌∙◌}
use mathlib.Core.Bool.{true, false}
use Prim.Native.Nat.{ℕ, ◌*◌, ◌<◌}
use lib.ListN.{length}
use Rattle.board.specs.declared.Board.{Board}
use Rattle.page_model.specs.declared.FrameRecord.{FrameRecord}
use Rattle.page_model.specs.Busy.{bars}
use Rattle.page_model.specs.Record.{keeps_rules}
use Rattle.page_model.specs.Step.{stepped}
use Rattle.page_model.specs.Table as step
use Rattle.page_model.proofs.Theorems.{step_keeps_rules, freed_record}
use Rattle.std.specs.Prelude.{None}
use Rattle.mapping.specs.declared.Mapping.{Mapping}
use Rattle.mapping.specs.Change.{insert, remove}
use Rattle.mapping.specs.Entry.{capacity}
use Rattle.mapping.specs.Facts.{InRange, Rules}
use Rattle.mapping.specs.Lookup.{lookup, is_mapped, place_of, place_for}
use Rattle.mapping.proofs.Laws.{rules_keeps_rules, inserted_length, inserted_rules, remove_length, remove_rules}
use Rattle.manager.specs.Calls.{commit_map, commit_unmap, commit_change, ended_tables}
use Rattle.manager.specs.Tables.{Tables, tables, record_words, record_at, put_record, records_keep_rules, refill}
use Rattle.manager.specs.Theorems.{WellFormedTables}
use Rattle.manager.proofs.CauseLaws.{lengths_right_lem, rules_kept_lem, list_rules, record_rules, mapped_found}
use Rattle.manager.proofs.Laws.{length_tabulate}
use Rattle.manager.proofs.RecordLaws.{length_put_record, put_record_rules}
use Rattle.manager.proofs.AcceptedLaws.{lengths_known, records_rules}

-- tables with their protections filled
pub refill_keeps : (b : Board) (t : Tables) → length t.list.items ≡ capacity → length t.records ≡ b.frames * record_words
    → length t.protections ≡ capacity → Rules b t.list → records_keep_rules b t.records ≡ true → WellFormedTables b (refill b t)
unfolding refill
refill_keeps b t l r p rules kept =
    (lengths_right_lem b (refill b t) l r (length_tabulate _ _ ∙ p), rules_kept_lem b (refill b t) (rules_keeps_rules b t.list rules) kept)

-- ---- what an accepted call leaves

module _ (b : Board) (t : Tables) (w : WellFormedTables b t) where
  -- a record that keeps the rules in the place of a frame's
  commit_keeps : (f : ℕ) (next : FrameRecord) → f < b.frames → keeps_rules b.colours next ≡ true → WellFormedTables b (commit_change b t f next)
  commit_keeps f next h kept =
      let n = lengths_known b t w.0 in
      refill_keeps b (tables t.list (put_record t.records f next) t.protections) n.0 (length_put_record _ _ _ ∙ n.1) n.2 (list_rules b t w.1)
      (put_record_rules b _ f next n.1 h (records_rules b t w.1) kept)

  -- a step that the frame's mark does not bar
  pub step_keeps_lem : (f : ℕ) (s : step.Step) → f < b.frames → bars (record_at t.records f).busy s ≡ false
      → WellFormedTables b (commit_change b t f (stepped b.colours s (record_at t.records f)).next)
  step_keeps_lem f s h free = commit_keeps f _ h (step_keeps_rules b.colours s _ (record_rules b t w.1 f h) free)

  -- the end of a transfer
  pub end_keeps : (f : ℕ) → f < b.frames → WellFormedTables b (ended_tables b t f)
  end_keeps f h = commit_keeps f _ h (freed_record b.colours _ (record_rules b t w.1 f h)).0

  pub map_keeps : (m : Mapping) → InRange b m → lookup t.list m.space m.page ≡ None → t.list.count < capacity → WellFormedTables b (commit_map b t (place_for t.list m.space m.page) m)
  map_keeps m range fresh room =
      let n = lengths_known b t w.0 in
      let rules = list_rules b t w.1 in
      refill_keeps b (tables (insert t.list m) t.records t.protections) (inserted_length t.list m n.0 room b rules ∙ n.0) n.1 n.2
      (inserted_rules t.list m n.0 room b rules range fresh) (records_rules b t w.1)

  pub unmap_keeps : (space page : ℕ) → is_mapped t.list space page ≡ true → WellFormedTables b (commit_unmap b t (place_of (lookup t.list space page)))
  unmap_keeps space page mapped =
      let n = lengths_known b t w.0 in
      let rules = list_rules b t w.1 in
      let place = place_of (lookup t.list space page) in
      let at = mapped_found b t w.1 space page mapped in
      refill_keeps b (tables (remove t.list place) t.records t.protections)
      (remove_length t.list place at.listed rules.count_le at.inside ∙ n.0) n.1 n.2
      (remove_rules b t.list place rules at.listed) (records_rules b t w.1)
