-- Request N6: the busy mark of a frame, which says what transfer that takes a while a device has begun there and not ended.
use Rattle.std.specs.Prelude.{Bool, not, ℕ, eqb}
use Rattle.page_model.specs.Table.{Step, read, write, device_read, device_write, device_write_part, begin_read, begin_write, fetch}

-- no transfer; a device reads the frame; a device writes it
abbrev pub free : ℕ
free = 0

abbrev pub reading : ℕ
reading = 1

abbrev pub writing : ℕ
writing = 2

-- Whether a mark bars a step. While a device writes, the frame takes no access of the processor; while it reads, it takes reads only and, by
-- request N8, fetches. Neither takes a new transfer.
abbrev pub bars : ℕ → Step → Bool
bars mark (read c) = eqb mark writing
bars mark (write c) = not (eqb mark free)
bars mark device_read = not (eqb mark free)
bars mark device_write = not (eqb mark free)
bars mark device_write_part = not (eqb mark free)
bars mark begin_read = not (eqb mark free)
bars mark begin_write = not (eqb mark free)
bars mark (fetch c) = eqb mark writing

-- the mark after a step that it does not bar
abbrev pub mark_after : Step → ℕ → ℕ
mark_after (read c) mark = mark
mark_after (write c) mark = mark
mark_after device_read mark = mark
mark_after device_write mark = mark
mark_after device_write_part mark = mark
mark_after begin_read mark = reading
mark_after begin_write mark = writing
mark_after (fetch c) mark = mark
