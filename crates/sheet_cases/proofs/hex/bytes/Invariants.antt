-- `hex.bytes` meets its contract.
use Rattle.std.proofs.Common.{◌≤◌, ◌*◌, length}
use Rattle.sheet_cases.proofs.hex.bytes.Given as goal

abbrev pub invariant-loop-c : goal.invariant-loop-c
invariant-loop-c l = l.digits ≤ 2 * length l.out
