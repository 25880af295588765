-- `hex.bytes` meets its contract.
use native.Mathlib.Omega.{arith}
use Rattle.io.proofs.Counting.{prefix_len_of_le}
use Rattle.sheet_cases.proofs.hex.bytes.Goals as goal

pub returns : goal.returns
returns c = prefix_len_of_le _ _ (omega arith)
