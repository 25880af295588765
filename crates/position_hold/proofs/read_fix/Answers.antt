-- `position_hold::read_fix` meets its contract.
use Rattle.std.proofs.Common.{refl, arith, length-set}
use Rattle.board.specs.Board.{board01}
use Rattle.position_hold.specs.Look.{first_reads}
use Rattle.position_hold.proofs.FirstReads.{reads_refused, reads_put, reads_fix}
use Rattle.position_hold.proofs.read_fix.Goals as goal

pub loop-offset-init : goal.loop-offset-init
unfolding first_reads
loop-offset-init c = record { room = refl; so_far = refl }

pub returns-in_err-loaded : goal.returns-in_err-loaded
returns-in_err-loaded c =
    reads_refused board01 _ c.args.space c.args.page c.loop-offset.offset (omega arith) _ c.loop-offset.invariant.so_far c.read.ensures c.in_err-loaded.was
    c.from_residual.ensures.1

pub loop-offset-preserved : goal.loop-offset-preserved
loop-offset-preserved c =
    let l = c.loop-offset in
    record {
      room = simp length-set l.invariant.room;
      so_far = reads_put board01 _ c.args.space c.args.page l.offset _ (omega arith) l.word-items (omega arith) l.invariant.so_far c.read.ensures c.in_ok-loaded.was;
    }

pub returns : goal.returns
returns c =
    let l = c.loop-offset in
    reads_fix board01 _ c.args.space c.args.page l.offset (omega arith) l.word-items l.invariant.room l.invariant.so_far
