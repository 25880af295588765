-- Document 01, "Frame records and mapping list", with request N6's busy mark, request N7's dirty colour and request N8's masks for
-- instructions: what a frame's record says of each colour, when it keeps the rules, and the record that states and a mark encode to. For any number
-- n of colours.
use Rattle.std.specs.Prelude.{Bool, true, false, cond, not, ◌&&◌, ◌||◌, ℕ, zero, suc, eqb, leb}
use Rattle.bits.specs.Mask.{bit, digit, count_of, any, first_of}
use Rattle.page_model.specs.declared.FrameRecord.{FrameRecord}
use Rattle.page_model.specs.Busy.{free, writing}
use Rattle.page_model.specs.Instructions.{InstructionState, unfetched, fetched, outdated}
use Rattle.page_model.specs.Masks.{no_masks, masks_of, masks_keep_rules}
use Rattle.page_model.specs.Table.{ColourState, empty, present, dirty, stale}

-- ---- decoding

-- the state that a colour's stale bit, its held bit and the record's flag say
abbrev pub state_from : Bool → Bool → Bool → ColourState
state_from true held flag = stale
state_from false true true = dirty
state_from false true false = present
state_from false false flag = empty

unfoldable pub state_of : FrameRecord → ℕ → ColourState
state_of r k = state_from (bit r.masks.stale k) (bit r.masks.held k) (eqb r.dirty 1)

-- and for instructions
abbrev pub instruction_state_from : Bool → Bool → InstructionState
instruction_state_from true held = outdated
instruction_state_from false true = fetched
instruction_state_from false false = unfetched

unfoldable pub instruction_state_of : FrameRecord → ℕ → InstructionState
instruction_state_of r k = instruction_state_from (bit r.instructions.stale k) (bit r.instructions.held k)

-- ---- the rules

-- No bit stands past the colours, none in both masks, the flag is 0 or 1, and with the flag set the held mask has exactly one bit.
unfoldable pub colours_keep_rules : ℕ → FrameRecord → Bool
colours_keep_rules n r =
    masks_keep_rules n r.masks
    && leb r.dirty 1
    && (not (eqb r.dirty 1) || eqb (count_of n (bit r.masks.held)) 1)

-- A frame is free, a device reads it, with no colour dirty, or writes it, with none held or dirty: by mark, flag and held mask.
abbrev pub mark_fits : ℕ → ℕ → ℕ → Bool
mark_fits zero flag held = true
mark_fits (suc zero) flag held = eqb flag 0
mark_fits (suc (suc zero)) flag held = eqb held 0
mark_fits (suc (suc (suc mark))) flag held = false

-- The dirty colour that flag and held mask tell: with the flag set the place of the held bit, and without it n, for none.
unfoldable pub dirty_colour_of : ℕ → FrameRecord → ℕ
dirty_colour_of n r = cond (eqb r.dirty 1) (first_of n (bit r.masks.held)) n

-- Request N8: no bit of the masks for instructions stands past the colours, none in both, and a held one stands beside no dirty colour and no busy mark 2.
unfoldable pub instructions_keep_rules : ℕ → FrameRecord → Bool
instructions_keep_rules n r = masks_keep_rules n r.instructions && (eqb r.instructions.held 0 || not (eqb r.dirty 1) && not (eqb r.busy writing))

unfoldable pub keeps_rules : ℕ → FrameRecord → Bool
unfolding colours_keep_rules dirty_colour_of instructions_keep_rules
keeps_rules n r =
    colours_keep_rules n r
    && mark_fits r.busy r.dirty r.masks.held
    && eqb r.dirty_colour (dirty_colour_of n r)
    && instructions_keep_rules n r

-- ---- encoding

abbrev pub is_held : ColourState → Bool
is_held empty = false
is_held present = true
is_held dirty = true
is_held stale = false

abbrev pub is_dirty : ColourState → Bool
is_dirty empty = false
is_dirty present = false
is_dirty dirty = true
is_dirty stale = false

abbrev pub is_stale : ColourState → Bool
is_stale empty = false
is_stale present = false
is_stale dirty = false
is_stale stale = true

abbrev pub is_fetched : InstructionState → Bool
is_fetched unfetched = false
is_fetched fetched = true
is_fetched outdated = false

abbrev pub is_outdated : InstructionState → Bool
is_outdated unfetched = false
is_outdated fetched = false
is_outdated outdated = true

-- the record of a frame with this mark, whose colours are in these states, for data and for instructions
unfoldable pub encode : ℕ → ℕ → (ℕ → ColourState) → (ℕ → InstructionState) → FrameRecord
encode n mark states instructions =
    record {
      masks = masks_of n (λ k. is_held (states k)) (λ k. is_stale (states k));
      dirty = digit (any n (λ k. is_dirty (states k)));
      busy = mark;
      dirty_colour = first_of n (λ k. is_dirty (states k));
      instructions = masks_of n (λ k. is_fetched (instructions k)) (λ k. is_outdated (instructions k));
    }

-- the record that every frame has at the start
abbrev pub start_record : ℕ → FrameRecord
start_record n = record { masks = no_masks; dirty = 0; busy = free; dirty_colour = n; instructions = no_masks }

-- the record once its transfer has ended
abbrev pub freed : FrameRecord → FrameRecord
freed r = record { masks = r.masks; dirty = r.dirty; busy = free; dirty_colour = r.dirty_colour; instructions = r.instructions }
