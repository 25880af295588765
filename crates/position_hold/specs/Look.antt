-- Request N5: a look at the position through a page of a space. The fix page's first four words are read by the machine, in order, and then judged.
use Rattle.std.specs.Prelude.{cond, List, [], ◌∷◌, ◌++◌, ℕ, zero, suc, get_or, Result as Answer, Ok, Err}
use Rattle.std.proofs.Math.Option.{Option, none, some}
use Rattle.board.specs.declared.Board.{Board}
use Rattle.manager.specs.Answers as outcome
use Rattle.manager.specs.Answers.{Outcome, refusal_number}
use Rattle.manager.specs.declared.refusal.Refusal.{Refusal}
use Rattle.machine.specs.State.{State, read, Result}
use Rattle.machine.specs.Step.{step}
use Rattle.position_hold.specs.Fix.{Fix, Display, refused, hold_refused, judged}

-- ---- the reads

-- what reads have come to: stopped by a refusal with its number, or the words in their order
pub data Words : Type 0 where
  stopped : ℕ → Words
  words : List ℕ → Words

-- and what they left
pub record Reads : Type 0 where
  pub words : Words
  pub after : State

abbrev pub reads : Words → State → Reads
reads ws st = record { words = ws; after = st }

-- a word more, which every accepted read has, or the refusal
abbrev pub with_answer : List ℕ → Outcome → Option ℕ → Words
with_answer ws (outcome.refused n) word = stopped n
with_answer ws (outcome.accepted f ops) none = stopped 0
with_answer ws (outcome.accepted f ops) (some w) = words (ws ++ w ∷ [])

-- one more read: none is made after a refusal
abbrev pub read_next : Board → ℕ → ℕ → ℕ → Words → State → Reads
read_next b space page offset (stopped n) st = reads (stopped n) st
read_next b space page offset (words ws) st =
    let r : Result = step b st (read space page offset) in reads (with_answer ws r.answer.outcome r.answer.word) r.after

-- offsets 0, 1 and so on, as many as are asked for
unfoldable pub first_reads : Board → State → ℕ → ℕ → ℕ → Reads
first_reads b st space page zero = reads (words []) st
first_reads b st space page (suc k) =
    let r : Reads = first_reads b st space page k in read_next b space page k r.words r.after

-- the four of a look, which depend on neither clock nor hold
abbrev pub fix_words : ℕ
fix_words = 4

unfoldable pub fix_reads : Board → State → ℕ → ℕ → Reads
unfolding first_reads
fix_reads b st space page = first_reads b st space page fix_words

-- ---- the look

abbrev pub fix_of : List ℕ → Fix
fix_of ws = record { number = get_or ws 0 0; second = get_or ws 1 0; latitude = get_or ws 2 0; longitude = get_or ws 3 0 }

-- what is displayed, and what is left of all that is lent
pub record Look : Type 0 where
  pub display : Display
  pub after : State

abbrev pub looked : Display → State → Look
looked d st = record { display = d; after = st }

-- a read's refusal is handed on; the words are judged once all are read
abbrev pub drawn_from : ℕ → ℕ → Words → Display
drawn_from clock hold (stopped n) = refused n
drawn_from clock hold (words ws) = judged clock hold (fix_of ws)

-- space, page, clock, hold
unfoldable pub look : Board → State → ℕ → ℕ → ℕ → ℕ → Look
unfolding fix_reads judged hold_refused
look b st space page clock hold =
    let r : Reads = fix_reads b st space page in
    cond (hold_refused hold) (looked (refused 14) st) (looked (drawn_from clock hold r.words) r.after)

-- ---- what the code's reads found

abbrev pub words_found : Answer Fix Refusal → Words
words_found (Err r) = stopped (refusal_number r)
words_found (Ok fix) = words (fix.number ∷ fix.second ∷ fix.latitude ∷ fix.longitude ∷ [])
