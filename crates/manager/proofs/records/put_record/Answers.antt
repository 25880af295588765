-- `manager::put_record` meets its contract.
use native.Mathlib.Nat.{add-zero}
use Rattle.manager.specs.Tables.{put_record}
use Rattle.manager.proofs.records.put_record.Goals as goal

pub returns : goal.returns
unfolding put_record
returns c =
    rw (add-zero, c.put_word-7.ensures, c.put_word-6.ensures, c.put_word-5.ensures, c.put_word-4.ensures, c.put_word-3.ensures, c.put_word-2.ensures, c.put_word.ensures, c.from-at.ensures)
