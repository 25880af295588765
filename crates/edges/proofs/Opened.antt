-- All that the rows compute with: `unfolding opened` opens it, and with each name what that name's own line opens.
use Rattle.machine.proofs.Opened as machine
use Rattle.run_sheet.specs.Run as run
use Rattle.sheet_codec.specs.Text as text
use Rattle.edges.specs.Calls.{after, ask, mappings_by}

unfoldable pub opened : Unit {0}
unfolding machine.opened run.sheet_text text.operation_text text.word_text text.answer_text after ask mappings_by
opened = tt
