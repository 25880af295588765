-- `steps.count_up` meets its contract.
use Rattle.std.proofs.Common.{length, sym, ◌∙◌, arith, ext_get_or}
use Rattle.manager.proofs.Laws.{length_tabulate, get_d_tabulate}
use Rattle.sheet_codec.specs.Format.{sent_word}
use Rattle.run_step.proofs.steps.count_up.Goals as goal

pub returns : goal.returns
returns c =
    let l = c.loop-i in
    let f = sent_word c.args.w in
    let n = length c.args.buffer.now in
    ext_get_or 0 l.buffer _ (l.auto.buffer ∙ sym (length_tabulate n f)) (λ k h. l.invariant k (omega arith) ∙ sym (get_d_tabulate n f k (omega arith)))
