-- `run_sheet::run_mappings` meets its contract.
use Rattle.board.specs.Board.{board01}
use Rattle.machine.specs.State.{machine_of}
use Rattle.run_sheet.specs.Ran.{Ran}
use Rattle.run_sheet.specs.Run.{run_from, after_mappings}
use Rattle.run_sheet.proofs.run.run_mappings.Given as goal

abbrev pub invariant-loop-k : goal.invariant-loop-k
invariant-loop-k l =
    Ran (after_mappings board01 l.sheet l.k (run_from (machine_of l.initial.list l.records l.initial.protections l.memory l.words l.tags))) l.k l.initial.text l.at-2
    (machine_of l.list l.records l.protections l.memory l.words l.tags) l.text l.at l.flushes l.purges
