-- `adler` meets its contract.
use Rattle.std.proofs.Common.{◌<◌}
use Rattle.sheet_cases.proofs.adler.Given as goal

abbrev pub invariant-loop-byte : goal.invariant-loop-byte
invariant-loop-byte l = (l.low < 65521) × (l.high < 65521)
