-- `manager::records::records_keep_rules` meets its contract.
use mathlib.Core.Path.{◌≡◌, sym, ◌∙◌, ap}
use native.Mathlib.Omega.{arith}
use Rattle.std.proofs.Common.{rules}
use Rattle.bits.proofs.Mask.{all_of}
use Rattle.mapping.proofs.Tests.{all_not}
use Rattle.page_model.specs.Record.{keeps_rules}
use Rattle.manager.specs.Tables.{records_keep_rules}
use Rattle.manager.proofs.records.records_keep_rules.Goals as goal

pub returns-then-not-keeps_rules : goal.returns-then-not-keeps_rules
unfolding records_keep_rules
returns-then-not-keeps_rules c =
    let frames : c.unwrap-frames.result ≡ c.args.board.frames = search rules in
    sym (all_not _ _ c.loop-frame.frame (omega arith) (sym (c.keeps_rules.ensures ∙ ap (keeps_rules _) c.record_at.ensures) ∙ search rules))

pub returns : goal.returns
unfolding records_keep_rules
returns c =
    let frames : c.unwrap-frames.result ≡ c.args.board.frames = search rules in
    sym (all_of _ _ (λ k l. c.loop-frame.invariant k (omega arith)))
