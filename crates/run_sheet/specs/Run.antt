-- Document 01, "The run sheet": a sheet that is not broken is run from the start, mappings first, and each answer is printed.
use Rattle.std.specs.Prelude.{true, false, cond, List, [], ◌++◌, ℕ, zero, suc, ◌+◌, ◌*◌, ltb, replicate}
use Rattle.board.specs.declared.Board.{Board}
use Rattle.board.specs.Board.{board01, memory_words, cache_words, lines}
use Rattle.mapping.specs.declared.MappingList.{MappingList}
use Rattle.mapping.specs.Change.{empty}
use Rattle.mapping.specs.Entry.{capacity}
use Rattle.manager.specs.Tables.{start_records}
use Rattle.machine.specs.State.{State, machine_of, Single, Answer, Result}
use Rattle.machine.specs.Step.{step}
use Rattle.sheet_codec.specs.Format.{most_mappings, most_steps, mapping_count, step_count, is_broken, mapping_call, step_call}
use Rattle.sheet_codec.specs.Totals.{flushes_of, purges_of}
use Rattle.sheet_codec.specs.Text.{line_bytes, mapping_line, mapping_line_of, step_line, step_line_of, end_line, refused_line}

-- the machine as it is, the text so far, and the numbers of flushes and purges in all answers
pub record Run : Type 0 where
  pub machine : State
  pub text : List ℕ
  pub flushes : ℕ
  pub purges : ℕ

-- ---- the start: nothing mapped or cached, memory all 0

-- a list, records, and every other word and byte 0
unfoldable pub start_with : Board → MappingList → List ℕ → State
unfolding memory_words cache_words lines
start_with b list records =
    machine_of list records (replicate capacity 0)
    (replicate (memory_words b) 0)
    (replicate (cache_words b) 0)
    (replicate (lines b) 0)

unfoldable pub sheet_start : Board → State
unfolding start_with empty start_records
sheet_start b = start_with b empty (start_records b.frames b.colours)

-- nothing called yet
abbrev pub run_from : State → Run
run_from st = record { machine = st; text = []; flushes = 0; purges = 0 }

-- ---- calls in their order

-- a line is printed of each call and its answer
abbrev pub with_call : Run → List ℕ → Result → Run
with_call r line got =
    record {
      machine = got.after;
      text = r.text ++ line;
      flushes = r.flushes + flushes_of got.answer.outcome;
      purges = r.purges + purges_of got.answer.outcome;
    }

unfoldable pub advance : Board → (Single → Answer → List ℕ) → Single → Run → Run
unfolding step
advance b line call r = let got : Result = step b r.machine call in with_call r (line call got.answer) got

-- the first n of the calls
unfoldable pub advance_all : Board → (ℕ → Single → Answer → List ℕ) → (ℕ → Single) → ℕ → Run → Run
unfolding advance
advance_all b line call_at zero r = r
advance_all b line call_at (suc n) r = advance b (line n) (call_at n) (advance_all b line call_at n r)

-- ---- the sheet

-- the first n of its mappings, and of its steps, after what was run before
abbrev pub after_mappings : Board → List ℕ → ℕ → Run → Run
after_mappings b sheet n r = advance_all b mapping_line_of (mapping_call sheet) n r

abbrev pub after_steps : Board → List ℕ → ℕ → Run → Run
after_steps b sheet n r = advance_all b step_line_of (step_call b sheet) n r

-- all its mappings, from the start
unfoldable pub run_mappings : Board → List ℕ → Run
unfolding sheet_start advance_all mapping_line mapping_count mapping_call
run_mappings b sheet = after_mappings b sheet (mapping_count sheet) (run_from (sheet_start b))

-- and all its steps
unfoldable pub run_steps : Board → List ℕ → Run
unfolding advance_all run_mappings step_line step_count step_call
run_steps b sheet = after_steps b sheet (step_count sheet) (run_mappings b sheet)

abbrev pub closed : Run → List ℕ
closed r = r.text ++ end_line r.flushes r.purges

-- the text of a sheet
unfoldable pub sheet_text : Board → List ℕ → List ℕ
unfolding is_broken run_steps end_line
sheet_text b sheet =
    elim (is_broken sheet) [
      | true ↦ refused_line
      | false ↦ closed (run_steps b sheet)
    ]

-- ---- the text in a buffer

-- room for the lines of the largest sheet
abbrev pub text_bytes : ℕ
text_bytes = line_bytes * (most_mappings + most_steps + 1)

-- what goes into a buffer of n bytes: the text of the sheet, or nothing where the largest sheet's might not fit
unfoldable pub printed : ℕ → List ℕ → List ℕ
unfolding sheet_text
printed n sheet = cond (ltb n text_bytes) [] (sheet_text board01 sheet)
