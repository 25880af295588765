-- What holding a list tells: it has as many records as its capacity.
use mathlib.Core.Path.{◌≡◌}
use mathlib.Core.List.{List}
use mir.Val.{Val}
use denote.Shadow.{shadow}
use lib.ListN.{length}
use Rattle.mapping.specs.declared.MappingList.{MappingList}
use Rattle.mapping.specs.Entry.{capacity}
use Rattle.mapping.specs.contracts.MappingList.{the_row}

-- at a function's entry, of its parameter: `items_length c.args.list _ c.well_formed.0`
pub items_length : (l : MappingList) (vs : List Val) → shadow (the_row.own_val l vs) → length l.items ≡ capacity
items_length l vs s = s.1.1.0.1.0.1
