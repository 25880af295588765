-- Document 01, "The run sheet": how many flushes and how many purges an answer has; a purge in the instruction cache counts with the purges (request N8).
use Rattle.std.specs.Prelude.{Bool, ◌≡◌, ℕ, ◌+◌}
use Rattle.bits.specs.Mask.{digit}
use Rattle.page_model.specs.declared.Op.{Op}
use Rattle.page_model.specs.declared.Ops.{Ops}
use Rattle.manager.specs.Answers as operation
use Rattle.manager.specs.Answers.{FrameOperation, Outcome, first_operation, second_operation}

abbrev pub flush_of : FrameOperation → ℕ
flush_of operation.none = 0
flush_of (operation.flush f c) = 1
flush_of (operation.purge f c) = 0
flush_of (operation.purge_instructions f c) = 0

abbrev pub purge_of : FrameOperation → ℕ
purge_of operation.none = 0
purge_of (operation.flush f c) = 0
purge_of (operation.purge f c) = 1
purge_of (operation.purge_instructions f c) = 1

abbrev pub flushes_of : Outcome → ℕ
flushes_of o = flush_of (first_operation o) + flush_of (second_operation o)

abbrev pub purges_of : Outcome → ℕ
purges_of o = purge_of (first_operation o) + purge_of (second_operation o)

-- n counts those of two operations of which a test says true
abbrev pub Counts : {F : Type 0} → (F → Op → Bool → Type 0) → F → Ops → ℕ → Type 0
Counts says f ops n = (first second : Bool) × says f ops.first first × says f ops.second second × (n ≡ digit first + digit second)
