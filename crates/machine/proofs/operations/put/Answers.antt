-- `machine::put` meets its contract.
use mathlib.Core.Path.{◌∙◌}
use Rattle.cache.specs.Cache.{write_word}
use Rattle.machine.proofs.StoreLaws.{access_follows}
use Rattle.machine.proofs.operations.put.Goals as goal

pub write_word-requires : goal.write_word-requires
write_word-requires c =
    let a = c.args in
    let r = access_follows a.board a.operations.frame a.operations.ops a.colour a.offset c.requires.0 c.carry_out.ensures in
    rw c.from-frame.ensures (r.0, r.1, c.requires.1, r.3, r.4)

pub returns : goal.returns
returns c =
    let a = c.args in
    c.write_word.ensures ∙ (λ i. write_word a.board (c.from-frame.ensures i) a.colour a.offset a.word (c.carry_out.ensures i))
