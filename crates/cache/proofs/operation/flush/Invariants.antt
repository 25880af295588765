-- `cache::operation::flush` meets its contract: after i turns the buffers are as the sweep of i lines leaves them.
use mathlib.Core.Path.{◌≡◌}
use Rattle.cache.specs.Store.{store}
use Rattle.cache.specs.Cache.{sweep, leaving, flush_line}
use Rattle.cache.proofs.operation.flush.Given as goal

abbrev pub invariant-loop-i : goal.invariant-loop-i
invariant-loop-i l =
    store l.memory l.words l.tags ≡ sweep l.board (flush_line l.board leaving l.frame) l.colour l.i (store l.initial.memory l.words l.initial.tags)
