-- `mapping::insert_at` meets its contract.
use Prim.Native.Nat.{ℕ, ◌+◌, ◌-◌}
use mathlib.Core.List.{List}
use mathlib.Core.Logic.{⊎_elim}
use mathlib.Core.Path.{sym, ap, ◌∙◌}
use native.Mathlib.Omega.{arith}
use lib.ListN.{length}
use Rattle.mapping.specs.declared.MappingList.{MappingList}
use Rattle.mapping.specs.declared.Mapping.{Mapping}
use Rattle.mapping.proofs.Change.{insert_at_full, insert_at_past, insert_at_room}
use Rattle.mapping.proofs.Including.{copied_up}
use Rattle.mapping.proofs.Moves.{part_length, part_copied, part_below}
use Rattle.mapping.proofs.Records.{items_length}
use Rattle.mapping.proofs.insert_at.Goals as goal

pub returns-then-list-ge-CAPACITY : goal.returns-then-list-ge-CAPACITY
returns-then-list-ge-CAPACITY c =
    ⊎_elim (λ h. sym (insert_at_full _ _ _ h)) (λ h. sym (insert_at_past _ _ _ h.1)) c.then-list-ge-CAPACITY.either

pub returns : goal.returns
returns c =
    let l = c.args.list in
    let long = items_length l _ c.well_formed.0 in
    let i = c.args.i in
    let copied = c.copy_from_slice.ensures.after in
    ap (λ (xs : List Mapping). list_of xs (l.count + 1))
    (copied_up l.items i c.args.m (omega arith) _ 255 long (part_length l.items (i + 1) (length l.items - (i + 1)) i copied (omega arith) (omega arith) (omega arith))
    (λ k d le lt. part_copied l.items (i + 1) (length l.items - (i + 1)) i copied (omega arith) (omega arith) (omega arith) k d le (omega arith))
    (part_below l.items (i + 1) (length l.items - (i + 1)) i copied (omega arith) (omega arith) (omega arith)))
    ∙ sym (insert_at_room l _ _ (omega arith) (omega arith))
  where
    list_of : List Mapping → ℕ → MappingList
    list_of xs n = record { items = xs; count = n }
