-- What the claim says of document 01's board, cell by cell of its tables, from memory, caches and protections of 0: read from the statement alone.
use Rattle.std.specs.Prelude.{◌≡◌, List, ℕ, replicate}
use Rattle.board.specs.Board.{board01, memory_words, cache_words}
use Rattle.page_model.specs.declared.FrameRecord.{FrameRecord}
use Rattle.page_model.specs.declared.Op.{Op}
use Rattle.page_model.specs.declared.Op.TheVariants.{Flush, Purge, PurgeInstructions}
use Rattle.page_model.specs.Instructions.{outdated}
use Rattle.page_model.specs.Record.{state_of, instruction_state_of}
use Rattle.page_model.specs.Table.{dirty, stale}
use Rattle.mapping.specs.Entry.{capacity}
use Rattle.consistency.specs.Cacheless.{start_cacheless}
use Rattle.consistency.specs.Demand3.{start_state}
use Rattle.necessity.specs.Action.{Action, read, write, fetch, device_read, device_write, device_write_part, begin_read, begin_write}
use Rattle.necessity.specs.Necessity.{CellNeeded}

abbrev pub zeros : List ℕ
zeros = replicate (memory_words board01) 0

abbrev pub blank : List ℕ
blank = replicate (cache_words board01) 0

abbrev pub unprotected : List ℕ
unprotected = replicate capacity 0

-- of frame 63
abbrev pub Cell01 : Action → Op → (FrameRecord → Type 0) → Type 0
Cell01 = CellNeeded board01 (start_state board01 zeros blank unprotected) (start_cacheless board01 zeros) 63

abbrev pub page01 : List ℕ
page01 = replicate board01.page 5

-- the cells that have an order: a step through colour 3 at offset 63, with colour 7 for another
pub record CellRows : Type 0 where
  pub read_own_stale : Cell01 (read 3 63) (Purge 3) (λ r. state_of r 3 ≡ stale)
  pub read_other_dirty : Cell01 (read 3 63) (Flush 7) (λ r. state_of r 7 ≡ dirty)
  pub write_own_stale : Cell01 (write 3 63 9) (Purge 3) (λ r. state_of r 3 ≡ stale)
  pub write_other_dirty : Cell01 (write 3 63 9) (Flush 7) (λ r. state_of r 7 ≡ dirty)
  pub device_read_dirty : Cell01 (device_read page01) (Flush 7) (λ r. state_of r 7 ≡ dirty)
  pub device_write_dirty : Cell01 (device_write page01) (Purge 7) (λ r. state_of r 7 ≡ dirty)
  pub part_dirty : Cell01 (device_write_part 52 12 (replicate 12 5)) (Flush 7) (λ r. state_of r 7 ≡ dirty)
  pub whole_part_dirty : Cell01 (device_write_part 0 64 page01) (Purge 7) (λ r. state_of r 7 ≡ dirty)
  pub begin_read_dirty : Cell01 begin_read (Flush 7) (λ r. state_of r 7 ≡ dirty)
  pub begin_write_dirty : Cell01 begin_write (Flush 7) (λ r. state_of r 7 ≡ dirty)
  pub fetch_own_dirty : Cell01 (fetch 3 63) (Flush 3) (λ r. state_of r 3 ≡ dirty)
  pub fetch_other_dirty : Cell01 (fetch 3 63) (Flush 7) (λ r. state_of r 7 ≡ dirty)
  pub fetch_own_outdated : Cell01 (fetch 3 63) (PurgeInstructions 3) (λ r. instruction_state_of r 3 ≡ outdated)
