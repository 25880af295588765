-- The rows of `specs/CellRows`, from `each-cell` at document 01's board.
use mathlib.Core.Path.{◌≡◌, refl}
use Prim.Native.Nat.{ℕ, ◌<◌}
use native.Mathlib.Omega.{arith}
use lib.ListN.{length-replicate}
use Rattle.board.specs.Board.{board01, memory_words, cache_words}
use Rattle.board.proofs.Geometry.{board01_regular}
use Rattle.page_model.specs.declared.Op.TheVariants.{Flush, Purge, PurgeInstructions}
use Rattle.page_model.specs.Instructions.{InstructionState, outdated, instruction_cell_at}
use Rattle.page_model.specs.Record.{state_of, instruction_state_of}
use Rattle.page_model.specs.Table.{ColourState, dirty, stale, flush, purge, cell_at}
use Rattle.mapping.specs.Entry.{capacity}
use Rattle.necessity.specs.Action.{Action, read, write, fetch, device_read, device_write, device_write_part, begin_read, begin_write, step_of, InRange}
use Rattle.necessity.specs.CellRows.{zeros, blank, unprotected, page01, Cell01, CellRows}
use Rattle.necessity.proofs.EachCell.{each_cell}

module _ (a : Action) (h : InRange board01 a) (k : ℕ) (hk : k < board01.colours) where
  cells : (((z : ColourState) → (cell_at (step_of board01 a) k z).operation ≡ flush → Cell01 a (Flush k) (λ r. state_of r k ≡ z)))
      × ((z : ColourState) → (cell_at (step_of board01 a) k z).operation ≡ purge → Cell01 a (Purge k) (λ r. state_of r k ≡ z))
      × ((i : InstructionState) → (instruction_cell_at (step_of board01 a) k i).operation ≡ purge → Cell01 a (PurgeInstructions k) (λ r. instruction_state_of r k ≡ i))
  cells =
      each_cell board01 board01_regular (omega arith) zeros blank unprotected (length-replicate {A = ℕ} (memory_words board01) 0) (length-replicate {A = ℕ} (cache_words board01) 0) (length-replicate {A = ℕ} capacity 0) 63 a k
      (omega arith) h hk

pub cell_rows : CellRows
cell_rows =
    record {
      read_own_stale = (cells (read 3 63) (omega arith, omega arith) 3 (omega arith)).1 stale refl;
      read_other_dirty = (cells (read 3 63) (omega arith, omega arith) 7 (omega arith)).0 dirty refl;
      write_own_stale = (cells (write 3 63 9) (omega arith, omega arith) 3 (omega arith)).1 stale refl;
      write_other_dirty = (cells (write 3 63 9) (omega arith, omega arith) 7 (omega arith)).0 dirty refl;
      device_read_dirty = (cells (device_read page01) (length-replicate {A = ℕ} 64 5) 7 (omega arith)).0 dirty refl;
      device_write_dirty = (cells (device_write page01) (length-replicate {A = ℕ} 64 5) 7 (omega arith)).1 dirty refl;
      part_dirty = (cells (device_write_part 52 12 _) (omega arith, omega arith, length-replicate {A = ℕ} 12 5) 7 (omega arith)).0 dirty refl;
      whole_part_dirty = (cells (device_write_part 0 64 page01) (omega arith, omega arith, length-replicate {A = ℕ} 64 5) 7 (omega arith)).1 dirty refl;
      begin_read_dirty = (cells begin_read tt 7 (omega arith)).0 dirty refl;
      begin_write_dirty = (cells begin_write tt 7 (omega arith)).0 dirty refl;
      fetch_own_dirty = (cells (fetch 3 63) (omega arith, omega arith) 3 (omega arith)).0 dirty refl;
      fetch_other_dirty = (cells (fetch 3 63) (omega arith, omega arith) 7 (omega arith)).0 dirty refl;
      fetch_own_outdated = (cells (fetch 3 63) (omega arith, omega arith) 3 (omega arith)).2 outdated refl;
    }
