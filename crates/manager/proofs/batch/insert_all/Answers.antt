-- `batch.insert_all` meets its contract.
use mathlib.Core.Path.{◌≡◌, refl, sym, ap, subst⁻¹, ◌∙◌}
use native.Mathlib.Omega.{arith}
use lib.ListN.{get_or}
use Rattle.board.specs.declared.Board.{Board}
use Rattle.mapping.specs.declared.Mapping.{Mapping}
use Rattle.mapping.specs.declared.MappingList.{MappingList}
use Rattle.mapping.specs.declared.Seen.{Seen}
use Rattle.mapping.specs.Batch.{items_of}
use Rattle.mapping.specs.Change.{insert_at, insert}
use Rattle.mapping.specs.Entry.{zero_mapping}
use Rattle.mapping.proofs.Laws.{items_length, items_of_at, keeps_rules_true, rules_keeps_rules, inserted_length, inserted_rules}
use Rattle.manager.specs.Answers.{refusal_in}
use Rattle.manager.specs.Scaffold.Inserted.{mapping_refusal, list_after_items}
use Rattle.manager.specs.Refusals.{first_refusal}
use Rattle.manager.proofs.AcceptedLaws.{mapping_accepted}
use Rattle.manager.proofs.CauseLaws.{some_number, mapping_told}
use Rattle.manager.proofs.BatchLaws.{listed_accepted, listed_refused, refusal_more, list_more}
use Rattle.manager.proofs.Laws.{set_more, is_tabulate}
use Rattle.manager.proofs.batch.insert_all.Invariants.{Kept}
use Rattle.manager.proofs.batch.insert_all.Goals as goal
use Rattle.manager.proofs.batch.insert_all.Goals.{in-Ok, in-Err}

-- so does the list with a mapping that it does not refuse
kept_more : (b : Board) (l : MappingList) (m : Mapping) → Kept b l → mapping_refusal b l m ≡ 0 → Kept b (insert l m)
kept_more b l m kept e =
    let rules = keeps_rules_true b l kept.0 in
    let a = mapping_accepted b l m e in
    let most = rules.count_le in
    let full = a.2 in
    (rules_keeps_rules b (insert l m) (inserted_rules l m kept.1 (omega arith) b rules a.0 a.1), inserted_length l m kept.1 (omega arith) b rules ∙ kept.1)

pub loop-i-init : goal.loop-i-init
unfolding list_after_items
loop-i-init c =
    (refl, λ k l. absurd (omega arith), (c.requires.2, items_length c.args.list _ c.well_formed.1.0))

pub loop-i-preserved : goal.loop-i-preserved
unfolding mapping_refusal
loop-i-preserved c =
    let l = c.loop-i in
    let w = c.match-mapping_refusal in
    let inv = l.invariant in
    let item = sym (items_of_at c.args.batch l.i (omega arith)) in
    let m = get_or c.args.batch.items l.i zero_mapping in
    let told = c.find-seen.ensures.told c.args.board inv.2.0 in
    let refusal = c.mapping_refusal.ensures ∙ ap first_refusal (mapping_told c.args.board l.next m.space m.page m.frame m.rights told) in
    let place = ap (λ (x : Seen). insert_at l.next x.place m) told in (
      list_more _ _ _ l.i inv.0 item refusal (elim w.branch [ in-Ok k ↦ k.next-is ∙ k.insert_at-next.ensures ∙ place ∙ listed_accepted _ _ _ (ap refusal_in k.in-Ok.is) | in-Err k ↦ k.next-is ∙ listed_refused _ _ _ (λ z. some_number _ (sym (ap refusal_in k.in-Err.is) ∙ z)) ]),
      set_more l.answers l.i _ _ (omega arith) inv.1 (elim w.branch [ in-Ok k ↦ k.answer-is ∙ sym (ap refusal_in k.in-Ok.is) | in-Err k ↦ k.answer-is ∙ k.number.ensures ∙ sym (ap refusal_in k.in-Err.is) ] ∙ refusal_more _ _ _ l.i inv.0 item refusal),
      elim w.branch [ in-Ok k ↦ subst⁻¹ (Kept c.args.board) (k.next-is ∙ k.insert_at-next.ensures ∙ place) (kept_more c.args.board l.next m inv.2 (sym refusal ∙ ap refusal_in k.in-Ok.is)) | in-Err k ↦ subst⁻¹ (Kept c.args.board) k.next-is inv.2 ],
    )

pub returns : goal.returns
returns c =
    let l = c.loop-i in
    let a = c.args in
    let end : l.i ≡ a.batch.count = omega arith in
    (l.invariant.0 ∙ ap (list_after_items a.board a.list (items_of a.batch)) end, is_tabulate _ _ _ (l.auto.answers ∙ c.requires.0) (λ k lk. l.invariant.1 k (omega arith)))
