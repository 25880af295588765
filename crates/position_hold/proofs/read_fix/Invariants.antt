-- `position_hold::read_fix` meets its contract. The loop's invariant: the words and the state are those of the first `offset` reads.
use Rattle.std.proofs.Common.{◌≡◌, length, take}
use Rattle.board.specs.Board.{board01}
use Rattle.machine.specs.State.{machine_of}
use Rattle.position_hold.specs.Look.{words as found_words, reads, first_reads, fix_words}
use Rattle.position_hold.proofs.read_fix.Given as goal

abbrev pub invariant-loop-offset : goal.invariant-loop-offset
invariant-loop-offset l =
    record {
      room : length l.word-items ≡ fix_words;
      so_far :
          reads (found_words (take l.offset l.word-items)) (machine_of l.list l.records l.protections l.memory l.words l.tags)
          ≡ first_reads board01 (machine_of l.list l.initial.records l.initial.protections l.initial.memory l.initial.words l.initial.tags) l.space l.page l.offset;
    }
