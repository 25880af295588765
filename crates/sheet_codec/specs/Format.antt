-- Document 01, "The run sheet", with the kinds of requests N3, N6 and N8: the bytes of a sheet, when it is broken, and the calls that it stands
-- for. A byte past the end counts as 0.
use Rattle.std.specs.Prelude.{Bool, true, false, not, cond, ◌&&◌, ◌||◌, Option, Some, None, unwrap_or, List, ℕ, ◌+◌, ◌*◌, ◌%◌, ◌^◌, eqb, ltb, length, get_or, replicate}
use Rattle.bits.specs.Mask.{all}
use Rattle.board.specs.declared.Board.{Board}
use Rattle.manager.specs.Tables.{tabulate}
use Rattle.machine.specs.State as call
use Rattle.machine.specs.State.{Single}
use Rattle.sheet_codec.specs.declared.Fields.{Fields}
use Rattle.sheet_codec.specs.declared.Kind.{Kind}
use Rattle.sheet_codec.specs.declared.Kind.TheVariants.{Read, Write, DeviceRead, DeviceWrite, DeviceWritePart, BeginRead, BeginWrite, BringWord, TakeWord, EndTransfer, Fetch, Evict, Unmap}
use Rattle.sheet_codec.specs.declared.UnknownKind.{UnknownKind}

-- ---- numbers, low byte first

unfoldable pub byte_at : List ℕ → ℕ → ℕ
byte_at sheet at = get_or sheet at 0

unfoldable pub two_bytes : List ℕ → ℕ → ℕ
unfolding byte_at
two_bytes sheet at = byte_at sheet at + 256 * byte_at sheet (at + 1)

unfoldable pub four_bytes : List ℕ → ℕ → ℕ
unfolding two_bytes
four_bytes sheet at = two_bytes sheet at + 65536 * two_bytes sheet (at + 2)

-- ---- the sections, each after its count

abbrev pub most_mappings : ℕ
most_mappings = 256

abbrev pub most_steps : ℕ
most_steps = 4096

-- the bytes of a count, of a mapping and of a step
abbrev pub count_bytes : ℕ
count_bytes = 2

abbrev pub mapping_bytes : ℕ
mapping_bytes = 5

abbrev pub step_bytes : ℕ
step_bytes = 9

-- the bytes of the largest sheet before its steps, and all its bytes
abbrev pub head_bytes : ℕ
head_bytes = count_bytes + mapping_bytes * most_mappings + count_bytes

abbrev pub sheet_bytes : ℕ
sheet_bytes = head_bytes + step_bytes * most_steps

unfoldable pub mapping_count : List ℕ → ℕ
unfolding two_bytes
mapping_count sheet = two_bytes sheet 0

unfoldable pub mapping_place : ℕ → ℕ
mapping_place k = count_bytes + mapping_bytes * k

unfoldable pub step_count : List ℕ → ℕ
unfolding two_bytes mapping_place mapping_count
step_count sheet = two_bytes sheet (mapping_place (mapping_count sheet))

unfoldable pub step_place : List ℕ → ℕ → ℕ
unfolding mapping_place mapping_count
step_place sheet k = mapping_place (mapping_count sheet) + count_bytes + step_bytes * k

-- the length that the counts say
unfoldable pub sheet_length : List ℕ → ℕ
unfolding step_place step_count
sheet_length sheet = step_place sheet (step_count sheet)

-- ---- a step's fields

unfoldable pub fields_at : List ℕ → ℕ → Fields
unfolding byte_at two_bytes four_bytes
fields_at sheet at =
    record { kind = byte_at sheet at; s = byte_at sheet (at + 1); p = two_bytes sheet (at + 2); o = byte_at sheet (at + 4); w = four_bytes sheet (at + 5) }

-- the kind with a number, if one of the thirteen has it
abbrev pub kind_of : ℕ → Option Kind
kind_of n =
    cond (eqb n 1) (Some Read)
    (cond (eqb n 2) (Some Write)
    (cond (eqb n 3) (Some DeviceRead)
    (cond (eqb n 4) (Some DeviceWrite)
    (cond (eqb n 5) (Some Evict)
    (cond (eqb n 6) (Some Unmap)
    (cond (eqb n 7) (Some DeviceWritePart)
    (cond (eqb n 8) (Some BeginRead)
    (cond (eqb n 9) (Some BeginWrite)
    (cond (eqb n 10) (Some BringWord)
    (cond (eqb n 11) (Some TakeWord)
    (cond (eqb n 12) (Some EndTransfer)
    (cond (eqb n 13) (Some Fetch) None))))))))))))

abbrev pub unknown : ℕ → UnknownKind
unknown n = record { 0 = n }

-- p, o and w are 0
abbrev pub all_zero : ℕ → ℕ → ℕ → Bool
all_zero p o w = eqb p 0 && eqb o 0 && eqb w 0

-- the fields that a kind does not use are 0
abbrev pub keeps : Kind → Fields → Bool
keeps Read f = all_zero 0 0 f.w
keeps Write f = true
keeps DeviceRead f = all_zero f.p f.o f.w
keeps DeviceWrite f = all_zero f.p f.o 0
keeps DeviceWritePart f = true
keeps BeginRead f = all_zero f.p f.o f.w
keeps BeginWrite f = all_zero f.p f.o f.w
keeps BringWord f = all_zero f.p 0 0
keeps TakeWord f = all_zero f.p 0 f.w
keeps EndTransfer f = all_zero f.p f.o f.w
keeps Fetch f = all_zero 0 0 f.w
keeps Evict f = all_zero f.p f.o f.w
keeps Unmap f = all_zero 0 f.o f.w

-- there is a kind, and the fields that it does not use are 0
abbrev pub keeps_as : Option Kind → Fields → Bool
keeps_as None f = false
keeps_as (Some kind) f = keeps kind f

unfoldable pub step_keeps : List ℕ → ℕ → Bool
unfolding fields_at step_place
step_keeps sheet k = keeps_as (kind_of (fields_at sheet (step_place sheet k)).kind) (fields_at sheet (step_place sheet k))

-- ---- the whole sheet

-- a count is past its limit, the sheet ends early, it goes on after the last step, or a step has another kind or an unused field not 0
unfoldable pub is_broken : List ℕ → Bool
unfolding mapping_count step_count sheet_length step_keeps
is_broken sheet =
    ltb most_mappings (mapping_count sheet) || ltb most_steps (step_count sheet)
    || ltb (length sheet) (sheet_length sheet)
    || ltb (sheet_length sheet) (length sheet)
    || not (all (step_count sheet) (step_keeps sheet))

-- ---- the calls

unfoldable pub mapping_call : List ℕ → ℕ → Single
unfolding byte_at two_bytes mapping_place
mapping_call sheet k =
    call.map (byte_at sheet (mapping_place k)) (two_bytes sheet (mapping_place k + 1)) (byte_at sheet (mapping_place k + 3)) (byte_at sheet (mapping_place k + 4))

-- word k that a device sends
abbrev pub sent_word : ℕ → ℕ → ℕ
sent_word w k = (w + k) % 2 ^ 32

-- the call of a step; a device read is lent a buffer of zeros
abbrev pub call_of : Board → Kind → Fields → Single
call_of b Read f = call.read f.s f.p f.o
call_of b Write f = call.write f.s f.p f.o f.w
call_of b DeviceRead f = call.device_read f.s (replicate b.page 0)
call_of b DeviceWrite f = call.device_write f.s (tabulate b.page (sent_word f.w))
call_of b DeviceWritePart f = call.device_write_part f.s f.p f.o (tabulate f.o (sent_word f.w))
call_of b BeginRead f = call.begin_read f.s
call_of b BeginWrite f = call.begin_write f.s
call_of b BringWord f = call.bring_word f.s f.o f.w
call_of b TakeWord f = call.take_word f.s f.o
call_of b EndTransfer f = call.end_transfer f.s
call_of b Fetch f = call.fetch f.s f.p f.o
call_of b Evict f = call.evict f.s
call_of b Unmap f = call.unmap f.s f.p

-- a number without a kind breaks the sheet and stands for no call: here, for an unmap
abbrev pub kind_or_unmap : ℕ → Kind
kind_or_unmap n = unwrap_or (kind_of n) Unmap

unfoldable pub step_call : Board → List ℕ → ℕ → Single
unfolding fields_at step_place
step_call b sheet k = call_of b (kind_or_unmap (fields_at sheet (step_place sheet k)).kind) (fields_at sheet (step_place sheet k))
