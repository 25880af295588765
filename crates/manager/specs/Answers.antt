-- Document 01, "Answers": what an answer says. A refusal has its number; an accepted call has its first and second order, each on a frame
-- and a colour.
use Rattle.std.specs.Prelude.{Bool, true, false, ℕ, Result, Ok, Err}
use Rattle.page_model.specs.declared.Op.{Op}
use Rattle.page_model.specs.declared.Op.TheVariants.{None, Flush, Purge, PurgeInstructions}
use Rattle.page_model.specs.declared.Ops.{Ops}
use Rattle.manager.specs.declared.FrameOps.{FrameOps}
use Rattle.manager.specs.declared.refusal.Refusal.{Refusal}
use Rattle.manager.specs.declared.refusal.Refusal.TheVariants as refusal

-- a refusal's number in document 01's table or in a request
abbrev pub refusal_number : Refusal → ℕ
refusal_number refusal.WrongLength = 1
refusal_number refusal.BrokenRules = 2
refusal_number refusal.NoSuchPage = 3
refusal_number refusal.NoSuchFrame = 4
refusal_number refusal.NoSuchRights = 5
refusal_number refusal.NoSuchOffset = 6
refusal_number refusal.AlreadyMapped = 7
refusal_number refusal.NotMapped = 8
refusal_number refusal.ListFull = 9
refusal_number refusal.NotWritable = 10
refusal_number refusal.WrongBatch = 12
refusal_number refusal.NoSuchPart = 13
refusal_number refusal.Busy = 15
refusal_number refusal.NoTransfer = 16
refusal_number refusal.NotFetchable = 17

-- the number of a refusal, or 0 where there is none
abbrev pub refusal_in : {A : Type 0} → Result A Refusal → ℕ
refusal_in (Ok x) = 0
refusal_in (Err r) = refusal_number r

-- what is planned, or the refusal by the number that it stands for
abbrev pub numbered_by : {A E : Type 0} → (E → ℕ) → Result A E → Result A ℕ
numbered_by number (Ok x) = Ok x
numbered_by number (Err r) = Err (number r)

abbrev pub by_number : {A : Type 0} → Result A Refusal → Result A ℕ
by_number = numbered_by refusal_number

-- A refusal is never an acceptance, whatever its number. An accepted call names the frame of its operations, and 0 where it has none by its kind.
pub data Outcome : Type 0 where
  refused : ℕ → Outcome
  accepted : ℕ → Ops → Outcome

-- operations, or a refusal that stands for a number
abbrev pub outcome_by : {E : Type 0} → (E → ℕ) → Result FrameOps E → Outcome
outcome_by number (Ok o) = accepted o.frame o.ops
outcome_by number (Err r) = refused (number r)

abbrev pub outcome : Result FrameOps Refusal → Outcome
outcome = outcome_by refusal_number

abbrev pub is_refusal : Outcome → Bool
is_refusal (refused n) = true
is_refusal (accepted f ops) = false

-- the refusal's number, or 0
abbrev pub number_of : Outcome → ℕ
number_of (refused n) = n
number_of (accepted f ops) = 0

-- an operation on a frame and a colour, or none; document 01 calls it an order. Request N8's purge in the instruction cache is one of its own.
pub data FrameOperation : Type 0 where
  none : FrameOperation
  flush purge purge_instructions : ℕ → ℕ → FrameOperation

abbrev pub operation_on : ℕ → Op → FrameOperation
operation_on f None = none
operation_on f (Flush c) = flush f c
operation_on f (Purge c) = purge f c
operation_on f (PurgeInstructions c) = purge_instructions f c

-- the operations with their frame: of a refusal none, on frame 0
abbrev pub operations_of : Outcome → FrameOps
operations_of (refused n) = record { frame = 0; ops = record { first = None; second = None } }
operations_of (accepted f ops) = record { frame = f; ops = ops }

abbrev pub first_operation : Outcome → FrameOperation
first_operation o = operation_on (operations_of o).frame (operations_of o).ops.first

abbrev pub second_operation : Outcome → FrameOperation
second_operation o = operation_on (operations_of o).frame (operations_of o).ops.second
