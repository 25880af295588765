-- Request N8: what a step makes of one colour of a frame in the instruction cache, cell by cell, in the order of the data's tables.
use Rattle.std.specs.Prelude.{ℕ, eqb}
use Rattle.page_model.specs.Table.{Operation, none, purge, Role, own, other, role_if, Step, read, write, device_read, device_write, device_write_part, begin_read, begin_write, fetch}

-- The state of one colour of a frame for instructions. Request N8 calls these empty, held and stale; none is dirty.
pub data InstructionState : Type 0 where
  unfetched fetched outdated : InstructionState

-- A cell of the table: the operation in the instruction cache, and the state after it.
pub record InstructionCell : Type 0 where
  pub operation : Operation
  pub next : InstructionState

infix 30 ◌⇛◌
abbrev pub ◌⇛◌ : Operation → InstructionState → InstructionCell
o ⇛ s = record { operation = o; next = s }

-- ---- the cells

-- a step that only reads the frame leaves every colour as it is
abbrev pub left_cell : InstructionState → InstructionCell
left_cell unfetched = none ⇛ unfetched
left_cell fetched = none ⇛ fetched
left_cell outdated = none ⇛ outdated

-- a step that writes it makes what is held stale, with no order for it
abbrev pub outdated_cell : InstructionState → InstructionCell
outdated_cell unfetched = none ⇛ unfetched
outdated_cell fetched = none ⇛ outdated
outdated_cell outdated = none ⇛ outdated

-- a fetch purges its own colour if that is stale, and then holds it
abbrev pub fetched_cell : Role → InstructionState → InstructionCell
fetched_cell own unfetched = none ⇛ fetched
fetched_cell own fetched = none ⇛ fetched
fetched_cell own outdated = purge ⇛ fetched
fetched_cell other unfetched = none ⇛ unfetched
fetched_cell other fetched = none ⇛ fetched
fetched_cell other outdated = none ⇛ outdated

-- ---- a step

-- the cell at colour k, which is in state s for instructions
abbrev pub instruction_cell_at : Step → ℕ → InstructionState → InstructionCell
instruction_cell_at (read c) k s = left_cell s
instruction_cell_at (write c) k s = outdated_cell s
instruction_cell_at device_read k s = left_cell s
instruction_cell_at device_write k s = outdated_cell s
instruction_cell_at device_write_part k s = outdated_cell s
instruction_cell_at begin_read k s = left_cell s
instruction_cell_at begin_write k s = outdated_cell s
instruction_cell_at (fetch c) k s = fetched_cell (role_if (eqb c k)) s
