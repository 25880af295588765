-- What demand 3 must not admit, computed on a small board: states beside a cacheless memory that they disagree with, and calls that show it, one
-- list for each kind of read, for a write, and for what is left in memory. And what either flush leaves.
use Rattle.std.specs.Prelude.{List, [], ◌∷◌, ◌≡◌, ℕ, replicate, get_or}
use Rattle.board.specs.declared.Board.{Board}
use Rattle.mapping.specs.Entry.{capacity}
use Rattle.manager.specs.Tables.{record_words, tabulate}
use Rattle.cache.specs.Cache.{FlushKind, leaving, emptying}
use Rattle.cache.specs.Store.{store}
use Rattle.machine.specs.Call.{perform}
use Rattle.machine.specs.State.{State, state, map, read, write, device_read, device_write, begin_read, take_word, end_transfer, fetch, Call, single}
use Rattle.consistency.specs.Cacheless.{Cacheless, start_cacheless}
use Rattle.consistency.specs.Demand3.{start_state, state_after, Holds}
use Rattle.consistency.specs.Flushes.{perform_by}

-- one frame of four words, and two caches of four lines in two colours
abbrev pub small : Board
small = record { page = 4; line = 2; colours = 2; frames = 1 }

-- the start with 0 in every word of memory
abbrev pub at_start : State
at_start = start_state small (0 ∷ 0 ∷ 0 ∷ 0 ∷ []) (replicate 16 0) (replicate capacity 0)

-- the same with a tag that breaks the rules
abbrev pub broken : State
broken = state at_start.tables (store (0 ∷ 0 ∷ 0 ∷ 0 ∷ []) (replicate 16 0) (9 ∷ replicate 7 0))

-- a cacheless memory that starts with 0 everywhere, and one with 1 at the last offset
abbrev pub same : Cacheless
same = start_cacheless small (0 ∷ 0 ∷ 0 ∷ 0 ∷ [])

abbrev pub another : Cacheless
another = start_cacheless small (0 ∷ 0 ∷ 0 ∷ 1 ∷ [])

-- a device writes the whole page: from then on both hold the same words, so that only the call before it can show the wrong one
abbrev pub over : Call
over = single (device_write 0 (replicate 4 7))

abbrev pub NotHolds : State → Cacheless → List Call → Type 0
NotHolds st m calls = Holds small (perform small) st m calls → ⊥

pub record WrongWords : Type 0 where
  -- a read after a map, a device's read of the page, and a word that it takes
  pub read_word : NotHolds at_start another (single (map 0 0 0 1) ∷ single (read 0 0 3) ∷ over ∷ [])
  pub page_read : NotHolds at_start another (single (device_read 0 (replicate 4 0)) ∷ over ∷ [])
  pub word_taken : NotHolds at_start another (single (begin_read 0) ∷ single (take_word 0 3) ∷ single (end_transfer 0) ∷ over ∷ [])
  -- an instruction fetched
  pub fetched_word : NotHolds at_start another (single (map 0 0 0 3) ∷ single (fetch 0 0 3) ∷ over ∷ [])
  -- a write through a page that the cacheless memory was not told of
  pub unmapped_write : NotHolds (state_after (perform small) at_start (single (map 0 0 0 2) ∷ [])) same (single (write 0 0 3 5) ∷ over ∷ [])
  -- no call, and an eviction that is refused
  pub eviction_refused : NotHolds broken same []
  -- no call, and memory after every line has been evicted
  pub left_in_memory : NotHolds at_start another []

-- ---- a word read and another written through colour 0, and one read through colour 1: colour 0 is flushed, and present on both boards

abbrev pub flushed_once : FlushKind → State
flushed_once how =
    state_after (perform_by small how) at_start (single (map 0 0 0 2) ∷ single (map 0 1 0 1) ∷ single (read 0 0 2) ∷ single (write 0 0 0 5) ∷ single (read 0 1 0) ∷ [])

abbrev pub record_left : FlushKind → List ℕ
record_left how = tabulate record_words (λ k. get_or (flushed_once how).tables.records k 0)

pub record FlushRows : Type 0 where
  -- this board leaves lines 0 and 1 in, clean; the other empties them; either has written the word back
  pub left_in : (flushed_once leaving).store.tags ≡ 1 ∷ 1 ∷ 1 ∷ 0 ∷ 0 ∷ 0 ∷ 0 ∷ 0 ∷ []
  pub emptied : (flushed_once emptying).store.tags ≡ 0 ∷ 0 ∷ 1 ∷ 0 ∷ 0 ∷ 0 ∷ 0 ∷ 0 ∷ []
  pub written_back : (how : FlushKind) → (flushed_once how).store.memory ≡ 5 ∷ 0 ∷ 0 ∷ 0 ∷ []
  pub both_present : (how : FlushKind) → record_left how ≡ 3 ∷ 0 ∷ 0 ∷ 0 ∷ 2 ∷ 0 ∷ 0 ∷ []
