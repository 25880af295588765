-- `cache::operation::purge` meets its contract: after i turns the tags are as the sweep of i lines leaves them.
use mathlib.Core.Path.{◌≡◌}
use mathlib.Core.List.{List}
use Prim.Native.Nat.{ℕ}
use Rattle.cache.specs.Store.{store}
use Rattle.cache.specs.Cache.{sweep, purge_line}
use Rattle.cache.proofs.operation.purge.Given as goal

abbrev pub invariant-loop-i : goal.invariant-loop-i
invariant-loop-i l =
    (memory words : List ℕ) → store memory words l.tags ≡ sweep l.board (purge_line l.frame) l.colour l.i (store memory words l.initial.tags)
