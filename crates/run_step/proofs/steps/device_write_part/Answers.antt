-- `steps.device_write_part` meets its contract.
use Rattle.std.proofs.Common.{◌≡◌, ℕ, length, take, replicate, ap, ◌∙◌, length-take, rules}
use lib.ListN.{length-replicate}
use Rattle.sheet_codec.specs.Format.{sent_word}
use Rattle.manager.specs.Tables.{tabulate}
use Rattle.machine.specs.State.{device_write_part}
use Rattle.run_step.proofs.Making.{did, did_as}
use Rattle.run_step.proofs.steps.device_write_part.Goals as goal

pub returns : goal.returns
returns c =
    let f = c.args.f in
    let told = c.from-2.ensures in
    let first : c.from.result ≡ f.p = c.from.ensures in
    let number : c.from-number.result ≡ f.o = c.from-number.ensures in
    let long : length {A = ℕ} (take c.from-number.result (replicate 255 0)) ≡ f.o = simp (length-take, length-replicate) (search rules) in
    let sent = c.count_up.ensures ∙ ap (λ (n : ℕ). tabulate n (sent_word f.w)) long in
    let call : device_write_part f.s c.from.result c.from-number.result c.count_up.new.buffer ≡ device_write_part f.s f.p f.o (tabulate f.o (sent_word f.w)) = cc in
    did_as call (did c.device_write_part.ensures told.0 told.1)
