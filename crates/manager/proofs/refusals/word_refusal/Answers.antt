-- `manager::refusals::word_refusal` meets its contract.
use borrow.Author.Rules.{rules}
use Rattle.manager.specs.Refusals.{first_refusal}
use Rattle.manager.proofs.CauseLaws.{frame_first, frame_then}
use Rattle.manager.proofs.refusals.word_refusal.Goals as goal

pub returns-in_err-transfer_refusal : goal.returns-in_err-transfer_refusal
returns-in_err-transfer_refusal c = frame_first _ _ _ _ _ _ _ _ c.in_err-transfer_refusal.ensures c.from_residual.ensures.1

pub returns-then-offset-board : goal.returns-then-offset-board
unfolding first_refusal
returns-then-offset-board c = frame_then _ _ _ _ _ _ c.in_ok-transfer_refusal.ensures (search rules)

pub returns-then-record_at-mark : goal.returns-then-record_at-mark
unfolding first_refusal
returns-then-record_at-mark c = frame_then _ _ _ _ _ _ c.in_ok-transfer_refusal.ensures (search rules)

pub returns : goal.returns
unfolding first_refusal
returns c = frame_then _ _ _ _ _ _ c.in_ok-transfer_refusal.ensures (search rules)
