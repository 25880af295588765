-- Request N10: a step of the page model on a frame, with all the numbers and words of its call: its step (`step_of`), its ranges (`InRange`), its call
-- (`call_of`).
use Rattle.std.specs.Prelude.{◌≡◌, List, ℕ, ◌+◌, ◌≤◌, ◌<◌, length}
use Rattle.board.specs.declared.Board.{Board}
use Rattle.page_model.specs.Table as table
use Rattle.manager.specs.Calls.{write_step}
use Rattle.machine.specs.State as call
use Rattle.machine.specs.State.{Single}

pub data Action : Type 0 where
  -- colour, offset; a write's word
  read fetch : ℕ → ℕ → Action
  write : ℕ → ℕ → ℕ → Action
  -- the device's buffer as it is lent; first offset and number of words of a part
  device_read device_write : List ℕ → Action
  device_write_part : ℕ → ℕ → List ℕ → Action
  begin_read begin_write : Action

abbrev pub step_of : Board → Action → table.Step
step_of b (read c o) = table.read c
step_of b (fetch c o) = table.fetch c
step_of b (write c o v) = table.write c
step_of b (device_read buffer) = table.device_read
step_of b (device_write buffer) = table.device_write
step_of b (device_write_part first number buffer) = write_step b number
step_of b begin_read = table.begin_read
step_of b begin_write = table.begin_write

-- no cause of refusal lies in its numbers: neither 1, of its buffer, nor 6, nor 13; the colour is that of the page it goes through
abbrev pub InRange : Board → Action → Type 0
InRange b (read c o) = (c < b.colours) × (o < b.page)
InRange b (fetch c o) = (c < b.colours) × (o < b.page)
InRange b (write c o v) = (c < b.colours) × (o < b.page)
InRange b (device_read buffer) = length buffer ≡ b.page
InRange b (device_write buffer) = length buffer ≡ b.page
InRange b (device_write_part first number buffer) = (0 < number) × (first + number ≤ b.page) × (length buffer ≡ number)
InRange b begin_read = Unit {0}
InRange b begin_write = Unit {0}

-- the call of it, of frame f, and of a processor through a page of a space
abbrev pub call_of : ℕ → ℕ → ℕ → Action → Single
call_of f space page (read c o) = call.read space page o
call_of f space page (fetch c o) = call.fetch space page o
call_of f space page (write c o v) = call.write space page o v
call_of f space page (device_read buffer) = call.device_read f buffer
call_of f space page (device_write buffer) = call.device_write f buffer
call_of f space page (device_write_part first number buffer) = call.device_write_part f first number buffer
call_of f space page begin_read = call.begin_read f
call_of f space page begin_write = call.begin_write f
