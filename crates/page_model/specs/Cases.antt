-- What the code's enums stand for, the rows of document 01's tables that its cells are of, and the states and operations as numbers.
use Rattle.std.specs.Prelude.{cond, ◌||◌, ℕ, eqb, Option, None, Some}
use Rattle.page_model.specs.declared.masks.Classes.{Classes}
use Rattle.page_model.specs.declared.masks.MaskState as masks
use Rattle.page_model.specs.declared.masks.MaskState.TheVariants as Masked
use Rattle.page_model.specs.declared.Op.{Op}
use Rattle.page_model.specs.declared.Op.TheVariants as Orders
use Rattle.page_model.specs.declared.table.Cell as cells
use Rattle.page_model.specs.declared.table.ColourState as states
use Rattle.page_model.specs.declared.table.ColourState.TheVariants.{Empty, Present, Dirty, Stale}
use Rattle.page_model.specs.declared.table.Operation as actions
use Rattle.page_model.specs.declared.table.Operation.TheVariants.{Flush, Purge}
use Rattle.page_model.specs.declared.table.Step as steps
use Rattle.page_model.specs.declared.table.Step.TheVariants.{Read, Write, DeviceRead, DeviceWrite, DeviceWritePart, BeginRead, BeginWrite, Fetch}
use Rattle.page_model.specs.Busy.{reading, writing}
use Rattle.page_model.specs.Table.{ColourState, empty, present, dirty, stale, Operation, none, flush, purge, Cell, ◌⇒◌, Role, other, read_cell, write_cell, device_read_cell, device_write_cell, device_write_part_cell, begin_read_cell, begin_write_cell, fetch_cell, Step, read, write, device_read, device_write, device_write_part, begin_read, begin_write, fetch}
use Rattle.page_model.specs.Instructions.{InstructionState, unfetched, fetched, outdated, InstructionCell, ◌⇛◌, left_cell, outdated_cell, fetched_cell}

-- ---- steps, states and operations

abbrev pub step_of : steps.Step → Step
step_of (Read c) = read c
step_of (Write c) = write c
step_of DeviceRead = device_read
step_of DeviceWrite = device_write
step_of DeviceWritePart = device_write_part
step_of BeginRead = begin_read
step_of BeginWrite = begin_write
step_of (Fetch c) = fetch c

abbrev pub state_of_code : states.ColourState → ColourState
state_of_code Empty = empty
state_of_code Present = present
state_of_code Dirty = dirty
state_of_code Stale = stale

abbrev pub operation_of_code : Option actions.Operation → Operation
operation_of_code None = none
operation_of_code (Some Flush) = flush
operation_of_code (Some Purge) = purge

-- where the masks have a colour in a state
abbrev pub mask_state_of : ColourState → masks.MaskState
mask_state_of empty = Masked.Empty
mask_state_of present = Masked.Held
mask_state_of dirty = Masked.Held
mask_state_of stale = Masked.Stale

-- ---- cells

-- the row of a step; only a processor's read and write look at the role
abbrev pub row_of : Step → Role → ColourState → Cell
row_of (read c) = read_cell
row_of (write c) = write_cell
row_of device_read = λ role. device_read_cell
row_of device_write = λ role. device_write_cell
row_of device_write_part = λ role. device_write_part_cell
row_of begin_read = λ role. begin_read_cell
row_of begin_write = λ role. begin_write_cell
row_of (fetch c) = λ role. fetch_cell

abbrev pub cell_of_code : cells.Cell states.ColourState → Cell
cell_of_code x = operation_of_code x.operation ⇒ state_of_code x.next

-- ---- the same for instructions (request N8), whose states are what the masks say

abbrev pub instruction_of_code : masks.MaskState → InstructionState
instruction_of_code Masked.Empty = unfetched
instruction_of_code Masked.Held = fetched
instruction_of_code Masked.Stale = outdated

abbrev pub code_instruction : InstructionState → masks.MaskState
code_instruction unfetched = Masked.Empty
code_instruction fetched = Masked.Held
code_instruction outdated = Masked.Stale

-- only a fetch looks at the role
abbrev pub instruction_row_of : Step → Role → InstructionState → InstructionCell
instruction_row_of (read c) = λ role. left_cell
instruction_row_of (write c) = λ role. outdated_cell
instruction_row_of device_read = λ role. left_cell
instruction_row_of device_write = λ role. outdated_cell
instruction_row_of device_write_part = λ role. outdated_cell
instruction_row_of begin_read = λ role. left_cell
instruction_row_of begin_write = λ role. outdated_cell
instruction_row_of (fetch c) = fetched_cell

abbrev pub instruction_cell_of_code : cells.Cell masks.MaskState → InstructionCell
instruction_cell_of_code x = operation_of_code x.operation ⇛ instruction_of_code x.next

-- what each class becomes at a step, where that of the own colour is given
abbrev pub instruction_classes : Step → masks.MaskState → Classes
instruction_classes step own =
    record {
      own = own;
      held = code_instruction (instruction_row_of step other fetched).next;
      stale = code_instruction (instruction_row_of step other outdated).next;
      empty = code_instruction (instruction_row_of step other unfetched).next;
    }

-- ---- the operations

-- an operation on colour c, in the data cache and in the instruction cache, which takes purges alone
abbrev pub operation_at : Operation → ℕ → Op
operation_at none c = Orders.None
operation_at flush c = Orders.Flush c
operation_at purge c = Orders.Purge c

abbrev pub instruction_operation_at : Operation → ℕ → Op
instruction_operation_at none c = Orders.None
instruction_operation_at flush c = Orders.None
instruction_operation_at purge c = Orders.PurgeInstructions c

-- ---- numbers, in the tables' order

abbrev pub state_number : ColourState → ℕ
state_number empty = 0
state_number present = 1
state_number dirty = 2
state_number stale = 3

abbrev pub operation_number : Operation → ℕ
operation_number none = 0
operation_number flush = 1
operation_number purge = 2

abbrev pub instruction_number : InstructionState → ℕ
instruction_number unfetched = state_number empty
instruction_number fetched = state_number present
instruction_number outdated = state_number stale

abbrev pub step_number : Step → ℕ
step_number (read c) = 0
step_number (write c) = 1
step_number device_read = 2
step_number device_write = 3
step_number device_write_part = 4
step_number begin_read = 5
step_number begin_write = 6
step_number (fetch c) = 7

-- where the masks have a colour in the state of a number, and the mark after the step of a number: one that stands for no state is in neither mask, and
-- one that stands for no step leaves the mark
abbrev pub mask_state : ℕ → masks.MaskState
mask_state n = cond (eqb n (state_number present) || eqb n (state_number dirty)) Masked.Held (cond (eqb n (state_number stale)) Masked.Stale Masked.Empty)

abbrev pub mark_at : ℕ → ℕ → ℕ
mark_at step mark = cond (eqb step (step_number begin_read)) reading (cond (eqb step (step_number begin_write)) writing mark)
