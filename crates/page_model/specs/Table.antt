-- Document 01, "The page model": both tables, cell by cell, in its order of steps and states; request N3's transfer of a part, request N6's beginnings
-- and request N8's fetch stand last. A flush leaves a colour's lines in (request N9), so that the colour is present after it, or stale where what it
-- is flushed for writes.
use Rattle.std.specs.Prelude.{Bool, true, false, ℕ, suc, eqb}

-- The state of one colour of a frame. Document 01 calls present "held".
pub data ColourState : Type 0 where
  empty present dirty stale : ColourState

-- What a cache is to do with one colour of a frame. Document 01 calls this an order.
pub data Operation : Type 0 where
  none flush purge : Operation

-- A cell of a table: the operation, and the state after it.
pub record Cell : Type 0 where
  pub operation : Operation
  pub next : ColourState

infix 30 ◌⇒◌
abbrev pub ◌⇒◌ : Operation → ColourState → Cell
o ⇒ s = record { operation = o; next = s }

-- Whether a colour is the one that the step goes through.
pub data Role : Type 0 where
  own other : Role

-- ---- the processor's steps

abbrev pub read_cell : Role → ColourState → Cell
read_cell own empty = none ⇒ present
read_cell own present = none ⇒ present
read_cell own dirty = none ⇒ dirty
read_cell own stale = purge ⇒ present
read_cell other empty = none ⇒ empty
read_cell other present = none ⇒ present
read_cell other dirty = flush ⇒ present
read_cell other stale = none ⇒ stale

abbrev pub write_cell : Role → ColourState → Cell
write_cell own empty = none ⇒ dirty
write_cell own present = none ⇒ dirty
write_cell own dirty = none ⇒ dirty
write_cell own stale = purge ⇒ dirty
write_cell other empty = none ⇒ empty
write_cell other present = none ⇒ stale
write_cell other dirty = flush ⇒ stale
write_cell other stale = none ⇒ stale

-- ---- transfers, the same for every colour

-- memory to device
abbrev pub device_read_cell : ColourState → Cell
device_read_cell empty = none ⇒ empty
device_read_cell present = none ⇒ present
device_read_cell dirty = flush ⇒ present
device_read_cell stale = none ⇒ stale

-- device to memory
abbrev pub device_write_cell : ColourState → Cell
device_write_cell empty = none ⇒ empty
device_write_cell present = none ⇒ stale
device_write_cell dirty = purge ⇒ empty
device_write_cell stale = none ⇒ stale

-- device to memory, of fewer words than the page has
abbrev pub device_write_part_cell : ColourState → Cell
device_write_part_cell empty = none ⇒ empty
device_write_part_cell present = none ⇒ stale
device_write_part_cell dirty = flush ⇒ stale
device_write_part_cell stale = none ⇒ stale

-- the beginning of a read by a device that takes a while
abbrev pub begin_read_cell : ColourState → Cell
begin_read_cell empty = none ⇒ empty
begin_read_cell present = none ⇒ present
begin_read_cell dirty = flush ⇒ present
begin_read_cell stale = none ⇒ stale

-- and of a write
abbrev pub begin_write_cell : ColourState → Cell
begin_write_cell empty = none ⇒ empty
begin_write_cell present = none ⇒ stale
begin_write_cell dirty = flush ⇒ stale
begin_write_cell stale = none ⇒ stale

-- ---- a fetch of an instruction, the same for every colour, its own included: memory is what it reads

abbrev pub fetch_cell : ColourState → Cell
fetch_cell empty = none ⇒ empty
fetch_cell present = none ⇒ present
fetch_cell dirty = flush ⇒ present
fetch_cell stale = none ⇒ stale

-- ---- a step

-- A processor's step goes through a colour; a transfer concerns all colours alike.
pub data Step : Type 0 where
  read write : ℕ → Step
  device_read device_write device_write_part begin_read begin_write : Step
  fetch : ℕ → Step

abbrev pub role_if : Bool → Role
role_if true = own
role_if false = other

-- the cell at colour k, which is in state s
abbrev pub cell_at : Step → ℕ → ColourState → Cell
cell_at (read c) k s = read_cell (role_if (eqb c k)) s
cell_at (write c) k s = write_cell (role_if (eqb c k)) s
cell_at device_read k s = device_read_cell s
cell_at device_write k s = device_write_cell s
cell_at device_write_part k s = device_write_part_cell s
cell_at begin_read k s = begin_read_cell s
cell_at begin_write k s = begin_write_cell s
cell_at (fetch c) k s = fetch_cell s

-- the colour that a step goes through; a transfer goes through none, and 0 stands for that: its cells do not look at it
abbrev pub own_of : Step → ℕ
own_of (read c) = c
own_of (write c) = c
own_of device_read = 0
own_of device_write = 0
own_of device_write_part = 0
own_of begin_read = 0
own_of begin_write = 0
own_of (fetch c) = c

-- how many colours a step asks for, so that the one it goes through is among them
abbrev pub reach : Step → ℕ
reach (read c) = suc c
reach (write c) = suc c
reach device_read = 0
reach device_write = 0
reach device_write_part = 0
reach begin_read = 0
reach begin_write = 0
reach (fetch c) = suc c
