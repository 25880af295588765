-- `mapping::all_zero` meets its contract: the contents so far are all 0 exactly if what was put together is.
use mathlib.Core.Path.{◌≡◌}
use lib.Dec.{eqb}
use lib.ListN.{take}
use Rattle.mapping.specs.Rules.{every_zero}
use Rattle.mapping.proofs.all_zero.Given as goal

abbrev pub invariant-loop-m : goal.invariant-loop-m
invariant-loop-m l = eqb l.content 0 ≡ every_zero (take l.m-index l.records)
