-- Document 01, "The page model": both tables, request N3's row, request N6's two and request N8's, with request N9's states after a flush, and N8's
-- table of the instruction colours, cell by cell in their order, as rows. Each speaks of the code's step and of the cell that the contracts of
-- `page_model::table::Step::cell` and `instruction_cell` name, and so of the code too.
use Rattle.std.specs.Prelude.{Bool, true, false, List, [], ◌∷◌, ◌++◌, ◌≡◌, ℕ}
use Rattle.page_model.specs.declared.table.Step.{Step}
use Rattle.page_model.specs.declared.table.Step.TheVariants.{Read, Write, DeviceRead, DeviceWrite, DeviceWritePart, BeginRead, BeginWrite, Fetch}
use Rattle.page_model.specs.Cases.{step_of, row_of, instruction_row_of, state_number, operation_number, instruction_number}
use Rattle.page_model.specs.Instructions.{InstructionState, unfetched, fetched, outdated, InstructionCell, ◌⇛◌}
use Rattle.page_model.specs.Table.{ColourState, empty, present, dirty, stale, none, flush, purge, Cell, ◌⇒◌, role_if}
use Rattle.edges.specs.Rows.{numbers, Row, ◌gives◌}

-- ---- the steps, as the code has them; a processor's through colour 0, and `AnyColour` says that the cells are those of every colour

abbrev pub read : Step
read = Read 0

abbrev pub write : Step
write = Write 0

abbrev pub device_read : Step
device_read = DeviceRead

abbrev pub device_write : Step
device_write = DeviceWrite

abbrev pub device_write_part : Step
device_write_part = DeviceWritePart

abbrev pub begin_read : Step
begin_read = BeginRead

abbrev pub begin_write : Step
begin_write = BeginWrite

abbrev pub fetch : Step
fetch = Fetch 0

-- ---- rows

-- operation and next state, by their numbers, that a cell has, and the cell of a step at its own colour or another
abbrev pub cell_numbers : Cell → List ℕ
cell_numbers cell = operation_number cell.operation ∷ state_number cell.next ∷ []

abbrev pub step_numbers : Step → Bool → ColourState → List ℕ
step_numbers step own state = cell_numbers (row_of (step_of step) (role_if own) state)

-- a step at its own colour, at another, and at both alike
abbrev pub at_own : Step → ColourState → Cell → Row
at_own step state cell = numbers (step_numbers step true state) gives numbers (cell_numbers cell)

abbrev pub at_other : Step → ColourState → Cell → Row
at_other step state cell = numbers (step_numbers step false state) gives numbers (cell_numbers cell)

abbrev pub at_every : Step → ColourState → Cell → Row
at_every step state cell = numbers (step_numbers step true state ++ step_numbers step false state) gives numbers (cell_numbers cell ++ cell_numbers cell)

-- ---- the cells

abbrev pub cells : List Row
cells =
    -- processor read
    at_own read empty (none ⇒ present)
    ∷ at_own read present (none ⇒ present)
    ∷ at_own read dirty (none ⇒ dirty)
    ∷ at_own read stale (purge ⇒ present)
    ∷ at_other read empty (none ⇒ empty)
    ∷ at_other read present (none ⇒ present)
    ∷ at_other read dirty (flush ⇒ present)
    ∷ at_other read stale (none ⇒ stale)
    -- processor write
    ∷ at_own write empty (none ⇒ dirty)
    ∷ at_own write present (none ⇒ dirty)
    ∷ at_own write dirty (none ⇒ dirty)
    ∷ at_own write stale (purge ⇒ dirty)
    ∷ at_other write empty (none ⇒ empty)
    ∷ at_other write present (none ⇒ stale)
    ∷ at_other write dirty (flush ⇒ stale)
    ∷ at_other write stale (none ⇒ stale)
    -- device read (memory to device)
    ∷ at_every device_read empty (none ⇒ empty)
    ∷ at_every device_read present (none ⇒ present)
    ∷ at_every device_read dirty (flush ⇒ present)
    ∷ at_every device_read stale (none ⇒ stale)
    -- device write (device to memory)
    ∷ at_every device_write empty (none ⇒ empty)
    ∷ at_every device_write present (none ⇒ stale)
    ∷ at_every device_write dirty (purge ⇒ empty)
    ∷ at_every device_write stale (none ⇒ stale)
    -- part transfer
    ∷ at_every device_write_part empty (none ⇒ empty)
    ∷ at_every device_write_part present (none ⇒ stale)
    ∷ at_every device_write_part dirty (flush ⇒ stale)
    ∷ at_every device_write_part stale (none ⇒ stale)
    -- begin read
    ∷ at_every begin_read empty (none ⇒ empty)
    ∷ at_every begin_read present (none ⇒ present)
    ∷ at_every begin_read dirty (flush ⇒ present)
    ∷ at_every begin_read stale (none ⇒ stale)
    -- begin write
    ∷ at_every begin_write empty (none ⇒ empty)
    ∷ at_every begin_write present (none ⇒ stale)
    ∷ at_every begin_write dirty (flush ⇒ stale)
    ∷ at_every begin_write stale (none ⇒ stale)
    -- fetch
    ∷ at_every fetch empty (none ⇒ empty)
    ∷ at_every fetch present (none ⇒ present)
    ∷ at_every fetch dirty (flush ⇒ present)
    ∷ at_every fetch stale (none ⇒ stale)
    ∷ []

-- ---- the instruction colours

abbrev pub instruction_cell_numbers : InstructionCell → List ℕ
instruction_cell_numbers cell = operation_number cell.operation ∷ instruction_number cell.next ∷ []

abbrev pub instruction_numbers : Step → Bool → InstructionState → List ℕ
instruction_numbers step own state = instruction_cell_numbers (instruction_row_of (step_of step) (role_if own) state)

abbrev pub own_instructions : Step → InstructionState → InstructionCell → Row
own_instructions step state cell = numbers (instruction_numbers step true state) gives numbers (instruction_cell_numbers cell)

abbrev pub other_instructions : Step → InstructionState → InstructionCell → Row
other_instructions step state cell = numbers (instruction_numbers step false state) gives numbers (instruction_cell_numbers cell)

abbrev pub every_instructions : Step → InstructionState → InstructionCell → Row
every_instructions step state cell =
    numbers (instruction_numbers step true state ++ instruction_numbers step false state)
    gives numbers (instruction_cell_numbers cell ++ instruction_cell_numbers cell)

abbrev pub instruction_cells : List Row
instruction_cells =
    -- processor read
    every_instructions read unfetched (none ⇛ unfetched)
    ∷ every_instructions read fetched (none ⇛ fetched)
    ∷ every_instructions read outdated (none ⇛ outdated)
    -- processor write
    ∷ every_instructions write unfetched (none ⇛ unfetched)
    ∷ every_instructions write fetched (none ⇛ outdated)
    ∷ every_instructions write outdated (none ⇛ outdated)
    -- device read (memory to device)
    ∷ every_instructions device_read unfetched (none ⇛ unfetched)
    ∷ every_instructions device_read fetched (none ⇛ fetched)
    ∷ every_instructions device_read outdated (none ⇛ outdated)
    -- device write (device to memory)
    ∷ every_instructions device_write unfetched (none ⇛ unfetched)
    ∷ every_instructions device_write fetched (none ⇛ outdated)
    ∷ every_instructions device_write outdated (none ⇛ outdated)
    -- part transfer
    ∷ every_instructions device_write_part unfetched (none ⇛ unfetched)
    ∷ every_instructions device_write_part fetched (none ⇛ outdated)
    ∷ every_instructions device_write_part outdated (none ⇛ outdated)
    -- begin read
    ∷ every_instructions begin_read unfetched (none ⇛ unfetched)
    ∷ every_instructions begin_read fetched (none ⇛ fetched)
    ∷ every_instructions begin_read outdated (none ⇛ outdated)
    -- begin write
    ∷ every_instructions begin_write unfetched (none ⇛ unfetched)
    ∷ every_instructions begin_write fetched (none ⇛ outdated)
    ∷ every_instructions begin_write outdated (none ⇛ outdated)
    -- fetch
    ∷ own_instructions fetch unfetched (none ⇛ fetched)
    ∷ own_instructions fetch fetched (none ⇛ fetched)
    ∷ own_instructions fetch outdated (purge ⇛ fetched)
    ∷ other_instructions fetch unfetched (none ⇛ unfetched)
    ∷ other_instructions fetch fetched (none ⇛ fetched)
    ∷ other_instructions fetch outdated (none ⇛ outdated)
    ∷ []

-- ---- and of a processor's step the rows are those of whichever colour it goes through

abbrev pub SameCells : Step → Step → Type 0
SameCells s t = (own : Bool) → ((state : ColourState) → step_numbers s own state ≡ step_numbers t own state) × ((state : InstructionState) → instruction_numbers s own state ≡ instruction_numbers t own state)

abbrev pub AnyColour : Type 0
AnyColour = (c : ℕ) → SameCells (Read c) read × SameCells (Write c) write × SameCells (Fetch c) fetch
