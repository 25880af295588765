-- Every row of the last sent words computes to its word.
use mathlib.Core.Path.{refl}
use mathlib.Core.Logic.{inl, inr}
use Rattle.machine.proofs.Opened.{opened}
use Rattle.position_hold.specs.Look as position_hold
use Rattle.position_hold.specs.Rows.{EveryRowHolds, part_rows, beside_rows, begun_rows, LastSentRows}

in_one_step : EveryRowHolds part_rows
unfolding opened position_hold.look
in_one_step = (refl, (refl, (refl, (refl, (refl, (refl, (refl, (refl, (refl, (refl, (refl, (refl, tt))))))))))))

beside_others : EveryRowHolds beside_rows
unfolding opened position_hold.look
beside_others = (refl, (refl, (refl, (refl, (refl, (refl, (refl, (refl, (refl, (refl, (refl, (refl, tt))))))))))))

word_by_word : EveryRowHolds begun_rows
unfolding opened position_hold.look
word_by_word = (refl, (refl, (refl, (refl, (refl, (refl, (refl, (refl, (refl, (refl, (refl, tt)))))))))))

pub last_sent_rows : LastSentRows
last_sent_rows = (in_one_step, beside_others, word_by_word, (inl refl, inr (refl, inr (refl, inl refl)), (refl, (refl, tt))))
