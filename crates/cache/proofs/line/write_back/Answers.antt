-- `cache::line::write_back` meets its contract.
use mathlib.Core.Path.{sym, ◌∙◌}
use Rattle.cache.proofs.Laws.WriteBack.{write_back_dirty, dirty_frame_lt}
use Rattle.cache.proofs.line.write_back.Goals as goal

pub copy_out-requires : goal.copy_out-requires
copy_out-requires c = (
  c.requires.0.memory_length,
  c.requires.0.words_length,
  dirty_frame_lt _ c.requires.2 _ c.requires.0 c.args.line c.in-Dirty.frame c.in-Dirty.ensures,
  c.requires.1,
  c.requires.2,
)

pub returns-in-Dirty : goal.returns-in-Dirty
returns-in-Dirty c =
    c.copy_out.ensures _ ∙ sym (write_back_dirty _ c.requires.2 _ c.requires.0 c.args.line c.in-Dirty.frame c.in-Dirty.ensures)
