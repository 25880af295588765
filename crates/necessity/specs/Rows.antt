-- Request N10 computed on a small board: for each kind of order a run of calls that finds another word if that order is left out.
use Rattle.std.specs.Prelude.{◌≡◌, Bool, false, ◌||◌, List, [], ◌∷◌, ◌++◌, ℕ, eqb, length, replicate, get_or}
use Rattle.std.proofs.Math.Option
use Rattle.bits.specs.Mask.{any}
use Rattle.board.specs.Board.{cache_words}
use Rattle.page_model.specs.declared.Op.{Op}
use Rattle.page_model.specs.declared.Op.TheVariants.{Flush, Purge, PurgeInstructions}
use Rattle.page_model.specs.Step.{first_two}
use Rattle.mapping.specs.Entry.{capacity, read_write, read_fetch}
use Rattle.manager.specs.Answers.{Outcome, accepted}
use Rattle.manager.specs.Tables.{tabulate}
use Rattle.machine.specs.State.{State, Single, map, read, write, device_read, device_write, device_write_part, evict, begin_read, begin_write, bring_word, take_word, end_transfer, fetch, single, Answer, Result}
use Rattle.machine.specs.Step.{step}
use Rattle.consistency.specs.Cacheless.{Cacheless, start_cacheless, is_refused, fed}
use Rattle.consistency.specs.Demand3.{start_state}
use Rattle.consistency.specs.Rows.{small}
use Rattle.necessity.specs.Without.{without_order}

-- ---- a row

pub record Row : Type 0 where
  -- the calls after the mappings, then the call that has the orders, and all its orders
  pub before : List Single
  pub call : Single
  pub orders : List Op
  -- the calls after it, of which the last one looks; if there is none, the call itself looks
  pub later : List Single
  -- the word that it finds, and the words that it finds without the first order, and without the second
  pub finds : ℕ
  pub without : List ℕ

-- ---- the words: the units of each are its offset, and the tens say where it comes from

-- 10 memory at the start, 20 a processor, 30 a device that sends a page or a part, 40 a device that brings a word
abbrev pub old : List ℕ
old = 10 ∷ 11 ∷ 12 ∷ 13 ∷ []

abbrev pub sent : List ℕ
sent = 30 ∷ 31 ∷ 32 ∷ 33 ∷ []

-- what a device's buffer holds before its read fills it, and what every word of the caches is at the start: no row finds these
abbrev pub lent : List ℕ
lent = replicate small.page 80

abbrev pub cached : List ℕ
cached = replicate (cache_words small) 90

-- the offset at which every row looks; the next one lies in the same line
abbrev pub looked : ℕ
looked = 2

-- ---- a run

-- frame 0 at three pages of space 0: page 0, of colour 0, and page 1, of colour 1, to read and write; page 2, of colour 0, to read and fetch
abbrev pub mappings : List Single
mappings = map 0 0 0 read_write ∷ map 0 1 0 read_write ∷ map 0 2 0 read_fetch ∷ []

-- the state after some calls and the cacheless memory beside it, whether one of the calls was refused, and the word that the last one found
pub record Reached : Type 0 where
  pub state : State
  pub memory : Cacheless
  pub refused : Bool
  pub word : ℕ

abbrev pub started : Reached
started = record { state = start_state small old cached (replicate capacity 0); memory = start_cacheless small old; refused = false; word = 0 }

-- the word read, fetched or taken, or the one at that offset of the page's words that a device has read
abbrev pub word_in : Answer → ℕ
word_in a = Option.get_or a.word (get_or a.buffer looked 0)

-- the run with one call more, by its result
abbrev pub after_call : Reached → Single → Result → Reached
after_call run call made =
    record {
      state = made.after;
      memory = fed run.memory (single call) made.answer;
      refused = run.refused || is_refused made.answer;
      word = word_in made.answer;
    }

-- the run with some calls more, each carried out whole
abbrev pub after_calls : Reached → List Single → Reached
after_calls run [] = run
after_calls run (call ∷ calls) = let made : Result = step small run.state call in after_calls (after_call run call made) calls

-- ---- what holds of a row

pub record Seen : Type 0 where
  -- whether a call is refused, and the outcome of the one that has the orders
  pub refused : Bool
  pub outcome : Outcome
  -- the word found, and the cacheless memory's
  pub found : ℕ
  pub due : ℕ
  -- the word found without each order in turn
  pub without : List ℕ

abbrev pub seen : Row → Seen
seen row =
    let reached : Reached = after_calls started (mappings ++ row.before) in
    let made : Result = step small reached.state row.call in
    let whole : Reached = after_calls (after_call reached row.call made) row.later in
    let lacking : ℕ → Result = λ j. without_order small j reached.state row.call in
    record {
      refused = whole.refused;
      outcome = made.answer.outcome;
      found = whole.word;
      due = whole.memory.word 0 looked;
      without = tabulate (length row.orders) (λ j. (after_calls (after_call reached row.call (lacking j)) row.later).word);
    }

abbrev pub expected : Row → Seen
expected row =
    record { refused = false; outcome = accepted 0 (first_two row.orders); found = row.finds; due = row.finds; without = row.without }

-- the run shows what the row says
abbrev pub Shows : Row → Type 0
Shows row = seen row ≡ expected row

-- and each word found without an order is a wrong one
abbrev pub ShowsWrong : Row → Type 0
ShowsWrong row = Shows row × (any (length row.without) (λ j. eqb (get_or row.without j 0) row.finds) ≡ false)

-- ---- the rows: one for each kind of order, one for each step that can have two, and one for the order that is not left out

pub record OrderRows : Type 0 where
  -- ---- a flush: a processor writes a word through colour 0, which is then dirty, and memory still has the old word
  -- the read fills its line of colour 1 from memory
  pub flush_for_read :
      ShowsWrong (record { before = write 0 0 2 22 ∷ []; call = read 0 1 2; orders = Flush 0 ∷ []; later = []; finds = 22; without = 12 ∷ [] })
  -- the write of the next word fills its line of colour 1 from memory; the read finds the word in that line
  pub flush_for_write :
      ShowsWrong (record { before = write 0 0 2 22 ∷ []; call = write 0 1 3 23; orders = Flush 0 ∷ []; later = read 0 1 2 ∷ []; finds = 22; without = 12 ∷ [] })
  -- the fetch, through the dirty colour itself, fills its line of the instruction cache from memory
  pub flush_for_fetch :
      ShowsWrong (record { before = write 0 0 2 22 ∷ []; call = fetch 0 2 2; orders = Flush 0 ∷ []; later = []; finds = 22; without = 12 ∷ [] })
  -- the device reads memory
  pub flush_for_device_read :
      ShowsWrong (record { before = write 0 0 2 22 ∷ []; call = device_read 0 lent; orders = Flush 0 ∷ []; later = []; finds = 22; without = 12 ∷ [] })
  -- the device sends the next word alone, and colour 0 is stale; then the device reads memory, and nothing is flushed for that
  pub flush_for_part :
      ShowsWrong (record { before = write 0 0 2 22 ∷ []; call = device_write_part 0 3 1 (33 ∷ []); orders = Flush 0 ∷ []; later = device_read 0 lent ∷ []; finds = 22; without = 12 ∷ [] })
  -- the device takes the word from memory
  pub flush_for_begin_read :
      ShowsWrong (record { before = write 0 0 2 22 ∷ []; call = begin_read 0; orders = Flush 0 ∷ []; later = take_word 0 2 ∷ []; finds = 22; without = 12 ∷ [] })
  -- the device brings the next word alone, and colour 0 is stale; then the fetch fills its line from memory, and nothing is flushed for that
  pub flush_for_begin_write :
      ShowsWrong (record { before = write 0 0 2 22 ∷ []; call = begin_write 0; orders = Flush 0 ∷ []; later = bring_word 0 3 43 ∷ end_transfer 0 ∷ fetch 0 2 2 ∷ []; finds = 22; without = 12 ∷ [] })
  -- ---- a purge: without it a call hits a line that has another word than memory
  -- a read fills a line of colour 0, and the device writes the page: colour 0 is stale; without the purge the second read hits the old line
  pub purge_for_read :
      ShowsWrong (record { before = read 0 0 2 ∷ device_write 0 sent ∷ []; call = read 0 0 2; orders = Purge 0 ∷ []; later = []; finds = 32; without = 12 ∷ [] })
  -- without the purge the write of the next word hits the old line; the read finds the word in that line
  pub purge_for_write :
      ShowsWrong (record { before = read 0 0 2 ∷ device_write 0 sent ∷ []; call = write 0 0 3 23; orders = Purge 0 ∷ []; later = read 0 0 2 ∷ []; finds = 32; without = 12 ∷ [] })
  -- a fetch fills a line of the instruction cache, and the device writes the page; without the purge the second fetch hits the old line
  pub purge_for_fetch :
      ShowsWrong (record { before = fetch 0 2 2 ∷ device_write 0 sent ∷ []; call = fetch 0 2 2; orders = PurgeInstructions 0 ∷ []; later = []; finds = 32; without = 12 ∷ [] })
  -- the device writes the page, and colour 0, which was dirty, is empty; without the purge the read hits the dirty line
  pub purge_for_device_write :
      ShowsWrong (record { before = write 0 0 2 22 ∷ []; call = device_write 0 sent; orders = Purge 0 ∷ []; later = read 0 0 2 ∷ []; finds = 32; without = 22 ∷ [] })
  -- ---- a flush and a purge: without the flush a line is filled with what the device sent; without the purge the line filled before that is hit
  -- a read fills a line of colour 1, the device writes the page, and a processor writes through colour 0: colour 1 is stale and colour 0 dirty
  pub both_for_read :
      ShowsWrong (record { before = read 0 1 2 ∷ device_write 0 sent ∷ write 0 0 2 22 ∷ []; call = read 0 1 2; orders = Flush 0 ∷ Purge 1 ∷ []; later = []; finds = 22; without = 32 ∷ 12 ∷ [] })
  -- the same; the write of the next word goes through colour 1, and the read finds the word in that line
  pub both_for_write :
      ShowsWrong (record { before = read 0 1 2 ∷ device_write 0 sent ∷ write 0 0 2 22 ∷ []; call = write 0 1 3 23; orders = Flush 0 ∷ Purge 1 ∷ []; later = read 0 1 2 ∷ []; finds = 22; without = 32 ∷ 12 ∷ [] })
  -- a fetch fills a line of the instruction cache, the device writes the page, and a processor writes: colour 0 is stale for instructions and dirty for data
  pub both_for_fetch :
      ShowsWrong (record { before = fetch 0 2 2 ∷ device_write 0 sent ∷ write 0 0 2 22 ∷ []; call = fetch 0 2 2; orders = Flush 0 ∷ PurgeInstructions 0 ∷ []; later = []; finds = 22; without = 32 ∷ 12 ∷ [] })
  -- the order that is not left out is carried out: without the purge the device's read finds the word in memory, where the flush has put it
  pub other_carried_out :
      Shows (record { before = read 0 1 2 ∷ device_write 0 sent ∷ write 0 0 2 22 ∷ []; call = read 0 1 2; orders = Flush 0 ∷ Purge 1 ∷ []; later = device_read 0 lent ∷ []; finds = 22; without = 32 ∷ 22 ∷ [] })
  -- nothing is done in its place: without the flush the dirty line stays in, and a read through its colour still finds the word there
  pub line_stays :
      Shows (record { before = write 0 0 2 22 ∷ []; call = device_read 0 lent; orders = Flush 0 ∷ []; later = read 0 0 2 ∷ []; finds = 22; without = 22 ∷ [] })
  -- without the purge the line stays dirty: once it is evicted, it is over the device's word in memory
  pub dirty_line_stays :
      ShowsWrong (record { before = write 0 0 2 22 ∷ []; call = device_write 0 sent; orders = Purge 0 ∷ []; later = evict 1 ∷ device_read 0 lent ∷ []; finds = 32; without = 22 ∷ [] })
