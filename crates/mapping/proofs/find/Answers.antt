-- `mapping::find` meets its contract.
use Prim.Native.Nat.{ℕ}
use mathlib.Core.Path.{◌≡◌, ap, ◌∙◌}
use native.Mathlib.Omega.{arith}
use lib.ListN.{take}
use borrow.Author.Rules.{of_calls}
use Rattle.std.proofs.lemmas.Grind.{common_steps}
use Rattle.std.proofs.lemmas.List.Sorted.{IsPartitionPoint-from_clause}
use Rattle.std.specs.Prelude.{Option}
use Rattle.mapping.specs.declared.Mapping.{Mapping}
use Rattle.mapping.specs.declared.Seen.{Seen}
use Rattle.mapping.specs.Entry.{is_before}
use Rattle.mapping.specs.Look.{told_at}
use Rattle.mapping.proofs.Rules.{keeps_rules_true}
use Rattle.mapping.proofs.Place.{parted, parted_goes}
use Rattle.mapping.proofs.Looks.{told_find}
use Rattle.mapping.proofs.find.Goals as goal

pub returns-clause-told : goal.returns-clause-told
returns-clause-told c b kept =
    let l = c.args.list in
    let s = c.args.space in
    let p = c.args.page in
    let place = c.partition_point-place.result in
    let told : c.filter.result ≡ (told_at l s p place).mapping = grind (arith, common_steps) in
    let rules = keeps_rules_true b l kept in
    let n = rules.count_le in
    let end : c.min-end.result ≡ l.count = omega arith in
    let clause = rw end at c.partition_point-place.ensures.partitioned in
    let point = IsPartitionPoint-from_clause (λ m. is_before m s p) (take l.count l.items) place clause (parted b l rules s p) (λ a r f k. search (rules, of_calls)) in
    ap (λ (m : Option Mapping). seen l.count place m) told
    ∙ told_find b l rules s p place (parted_goes b l rules s p place (omega arith) point)
  where
    seen : ℕ → ℕ → Option Mapping → Seen
    seen n i m = record { count = n; place = i; mapping = m }
