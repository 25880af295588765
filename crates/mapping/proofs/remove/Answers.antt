-- `mapping::remove` meets its contract.
use Prim.Native.Nat.{ℕ, ◌+◌, ◌-◌}
use mathlib.Core.List.{List}
use mathlib.Core.Logic.{⊎_elim}
use mathlib.Core.Path.{sym, ap, ◌∙◌}
use native.Mathlib.Omega.{arith}
use lib.ListN.{set}
use borrow.Rule.Slice.PartMut.{put_mid}
use Rattle.mapping.specs.declared.MappingList.{MappingList}
use Rattle.mapping.specs.declared.Mapping.{Mapping}
use Rattle.mapping.proofs.Change.{remove_unlisted, remove_over, remove_listed}
use Rattle.mapping.proofs.Without.{copied_down}
use Rattle.mapping.proofs.Moves.{part_length, part_copied, part_below}
use Rattle.mapping.proofs.Records.{items_length}
use Rattle.mapping.proofs.remove.Goals as goal

pub returns-then-i-list : goal.returns-then-i-list
returns-then-i-list c = ⊎_elim (λ h. sym (remove_unlisted _ _ h)) (λ h. sym (remove_over _ _ h.1)) c.then-i-list.either

pub returns : goal.returns
returns c =
    let l = c.args.list in
    let long = items_length l _ c.well_formed.0 in
    let i = c.args.i in
    let copied = c.copy_from_slice.ensures.after in
    let moved = c.copy_from_slice.new.self in
    ap (λ (z : Mapping). list_of (set (put_mid i (255 - i) l.items moved) 255 z) (l.count - 1)) c.zero.ensures
    ∙ ap (λ (xs : List Mapping). list_of xs (l.count - 1))
    (copied_down l.items i (omega arith) _ 255 long (part_length l.items i (255 - i) (i + 1) copied (omega arith) (omega arith) (omega arith))
    (λ k d le lt. part_copied l.items i (255 - i) (i + 1) copied (omega arith) (omega arith) (omega arith) k d le (omega arith))
    (part_below l.items i (255 - i) (i + 1) copied (omega arith) (omega arith) (omega arith)))
    ∙ sym (remove_listed _ _ (omega arith) (omega arith))
  where
    list_of : List Mapping → ℕ → MappingList
    list_of xs n = record { items = xs; count = n }
