-- What a state's and a step's number stand for is what the state and the step are.
use mathlib.Core.Path.{◌≡◌, refl}
use Prim.Native.Nat.{ℕ}
use Rattle.page_model.specs.Busy.{mark_after}
use Rattle.page_model.specs.Cases.{mask_state_of, state_number, step_number, mask_state, mark_at}
use Rattle.page_model.specs.Table.{ColourState, empty, present, dirty, stale, Step, read, write, device_read, device_write, device_write_part, begin_read, begin_write, fetch}

pub mask_number : (s : ColourState) → mask_state (state_number s) ≡ mask_state_of s
mask_number empty = refl
mask_number present = refl
mask_number dirty = refl
mask_number stale = refl

pub mark_number : (s : Step) (mark : ℕ) → mark_at (step_number s) mark ≡ mark_after s mark
mark_number (read c) mark = refl
mark_number (write c) mark = refl
mark_number device_read mark = refl
mark_number device_write mark = refl
mark_number device_write_part mark = refl
mark_number begin_read mark = refl
mark_number begin_write mark = refl
mark_number (fetch c) mark = refl
