-- `run_sheet::run_sheet` meets its contract.
use mathlib.Core.Path.{sym, ◌∙◌}
use native.Mathlib.Omega.{arith}
use Rattle.io.proofs.Counting.{prefix_len_of_le}
use Rattle.run_sheet.proofs.Running.{printed_nothing, printed_refusal, printed_run}
use Rattle.run_sheet.proofs.run_sheet.Goals as goal

pub returns-then-text-lt-TEXT_BYTES : goal.returns-then-text-lt-TEXT_BYTES
returns-then-text-lt-TEXT_BYTES c = record {
  put = printed_nothing _ _ (omega (arith, c.if-text-lt-TEXT_BYTES.true));
  prefix_len = prefix_len_of_le 0 c.args.text.now (omega arith);
}

pub returns-then-is_broken : goal.returns-then-is_broken
returns-then-is_broken c =
    let room = c.if-text-lt-TEXT_BYTES.false in
    let broken = sym c.is_broken.ensures ∙ c.if-is_broken.true in
    let line = c.refused_line in
    record { put = printed_refusal _ _ (omega (arith, room)) broken line.ensures; prefix_len = prefix_len_of_le _ _ (omega (arith, line.ensures, line.auto, room)) }

pub run_unbroken-requires : goal.run_unbroken-requires
run_unbroken-requires c = (sym c.is_broken.ensures ∙ c.if-is_broken.false, omega (arith, c.if-text-lt-TEXT_BYTES.false))

pub returns : goal.returns
returns c =
    let room = c.if-text-lt-TEXT_BYTES.false in
    let unbroken = sym c.is_broken.ensures ∙ c.if-is_broken.false in
    let ran = c.run_unbroken in
    record { put = printed_run _ _ (omega (arith, room)) unbroken ran.ensures; prefix_len = prefix_len_of_le _ _ (omega (arith, ran.ensures, ran.auto, room)) }
