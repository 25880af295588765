-- `manager::record_at` meets its contract.
use native.Mathlib.Omega.{arith}
use Rattle.manager.proofs.RecordLaws.{record_at_words}
use Rattle.manager.proofs.records.record_at.Goals as goal

pub returns : goal.returns
returns c =
    let w = c.words_at.ensures in
    rw (record_at_words, w 0 (omega arith), w 1 (omega arith), w 2 (omega arith), w 3 (omega arith), w 4 (omega arith), w 5 (omega arith), w 6 (omega arith))
