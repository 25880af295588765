-- `run_sheet::run_steps` meets its contract.
use Rattle.board.specs.Board.{board01}
use Rattle.machine.specs.State.{machine_of}
use Rattle.run_sheet.specs.Ran.{Ran}
use Rattle.run_sheet.specs.Run.{run_from, after_steps}
use Rattle.run_sheet.proofs.run.run_steps.Given as goal

abbrev pub invariant-loop-k : goal.invariant-loop-k
invariant-loop-k l =
    Ran (after_steps board01 l.sheet l.k (run_from (machine_of l.initial.list l.initial.records l.initial.protections l.initial.memory l.initial.words l.initial.tags))) l.k l.initial.text l.at-2
    (machine_of l.list l.records l.protections l.memory l.words l.tags) l.text l.at l.flushes l.purges
