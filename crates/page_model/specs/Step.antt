-- Document 01, "The page model": a step of a frame's record. Decode it, take the table's cell at every colour, encode; its operations
-- (document 01: orders) are the tables', flushes first and those in the instruction cache (request N8) last.
use Rattle.std.specs.Prelude.{Bool, true, false, List, [], ◌∷◌, ◌++◌, map, ℕ, ◌<◌}
use Rattle.bits.specs.Mask.{places_of}
use Rattle.page_model.specs.declared.FrameRecord.{FrameRecord}
use Rattle.page_model.specs.declared.Op.{Op}
use Rattle.page_model.specs.declared.Op.TheVariants.{None, Flush, Purge, PurgeInstructions}
use Rattle.page_model.specs.declared.Ops.{Ops}
use Rattle.page_model.specs.declared.Stepped.{Stepped}
use Rattle.page_model.specs.Busy.{mark_after}
use Rattle.page_model.specs.Record.{state_of, instruction_state_of, encode}
use Rattle.page_model.specs.Instructions.{InstructionCell, instruction_cell_at}
use Rattle.page_model.specs.Table.{Operation, none, flush, purge, Cell, Step, cell_at}

abbrev pub is_flush : Operation → Bool
is_flush none = false
is_flush flush = true
is_flush purge = false

abbrev pub is_purge : Operation → Bool
is_purge none = false
is_purge flush = false
is_purge purge = true

-- the cell of colour k of the record, for data and for instructions
unfoldable pub cell_of : Step → FrameRecord → ℕ → Cell
cell_of s r k = cell_at s k (state_of r k)

unfoldable pub instruction_cell_of : Step → FrameRecord → ℕ → InstructionCell
instruction_cell_of s r k = instruction_cell_at s k (instruction_state_of r k)

-- the record after the step
unfoldable pub record_after : ℕ → Step → FrameRecord → FrameRecord
record_after n s r = encode n (mark_after s r.busy) (λ k. (cell_of s r k).next) (λ k. (instruction_cell_of s r k).next)

-- the step's operations, each with its colour: those in the data cache, then those in the instruction cache
abbrev pub data_operations : ℕ → Step → FrameRecord → List Op
data_operations n s r =
    map Flush (places_of n (λ k. is_flush (cell_of s r k).operation)) ++ map Purge (places_of n (λ k. is_purge (cell_of s r k).operation))

abbrev pub instruction_operations : ℕ → Step → FrameRecord → List Op
instruction_operations n s r = map PurgeInstructions (places_of n (λ k. is_purge (instruction_cell_of s r k).operation))

unfoldable pub operations : ℕ → Step → FrameRecord → List Op
operations n s r = data_operations n s r ++ instruction_operations n s r

-- an operation as a list, of which None is the empty one
abbrev pub op_list : Op → List Op
op_list None = []
op_list (Flush c) = Flush c ∷ []
op_list (Purge c) = Purge c ∷ []
op_list (PurgeInstructions c) = PurgeInstructions c ∷ []

-- an operation, if any, is on a colour below n
abbrev pub OpBelow : ℕ → Op → Type 0
OpBelow n None = Unit {0}
OpBelow n (Flush c) = c < n
OpBelow n (Purge c) = c < n
OpBelow n (PurgeInstructions c) = c < n

-- the first two of a list of operations
abbrev pub first_two : List Op → Ops
first_two [] = record { first = None; second = None }
first_two (a ∷ []) = record { first = a; second = None }
first_two (a ∷ (b ∷ rest)) = record { first = a; second = b }

-- the record after the step, and its operations, of which there are no more than two (`Theorems`)
abbrev pub stepped : ℕ → Step → FrameRecord → Stepped
stepped n s r = record { next = record_after n s r; ops = first_two (operations n s r) }
