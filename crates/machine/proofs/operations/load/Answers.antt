-- `machine::load` meets its contract.
use mathlib.Core.Path.{◌∙◌}
use Rattle.cache.specs.Cache.{read_word, access}
use Rattle.machine.proofs.StoreLaws.{access_follows}
use Rattle.machine.proofs.operations.load.Goals as goal

pub read_word-requires : goal.read_word-requires
read_word-requires c =
    let a = c.args in
    rw c.from-frame.ensures (access_follows a.board a.operations.frame a.operations.ops a.colour a.offset c.requires c.carry_out.ensures)

pub returns : goal.returns
returns c =
    let a = c.args in
    record {
      word = c.read_word.ensures.word ∙ (λ i. read_word a.board (c.from-frame.ensures i) a.colour a.offset (c.carry_out.ensures i));
      state = c.read_word.ensures.state ∙ (λ i. access a.board (c.from-frame.ensures i) a.colour a.offset (c.carry_out.ensures i));
    }
