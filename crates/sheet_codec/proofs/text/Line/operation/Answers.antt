-- `text.Line.operation` meets its contract.
use native.Mathlib.Omega.{arith}
use Rattle.sheet_codec.specs.Text.{operation_text}
use Rattle.sheet_codec.proofs.Written.{wrote_as}
use Rattle.sheet_codec.proofs.text.Line.operation.Goals as goal

pub returns-in-None : goal.returns-in-None
unfolding operation_text
returns-in-None c = wrote_as (rw c.in-None.is) (omega arith) c.byte.ensures

pub returns-in-Flush : goal.returns-in-Flush
unfolding operation_text
returns-in-Flush c = wrote_as (rw c.in-Flush.is) (omega arith) c.operation_on.ensures

pub returns-in-Purge : goal.returns-in-Purge
unfolding operation_text
returns-in-Purge c = wrote_as (rw c.in-Purge.is) (omega arith) c.operation_on-in-Purge.ensures

pub returns-in-PurgeInstructions : goal.returns-in-PurgeInstructions
unfolding operation_text
returns-in-PurgeInstructions c = wrote_as (rw c.in-PurgeInstructions.is) (omega arith) c.operation_on-in-PurgeInstructions.ensures
