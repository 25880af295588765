-- `manager::map_batch` meets its contract.
use mathlib.Core.Path.{refl, sym, ap, ◌∙◌}
use Prim.Native.Nat.{ℕ}
use lib.ListN.{length}
use Rattle.mapping.specs.Batch.{items_of}
use Rattle.mapping.proofs.Laws.{items_of_length}
use Rattle.manager.specs.Scaffold.Inserted.{list_after_items, refusal_at, relisted, whole_refusal}
use Rattle.manager.specs.Tables.{tables, tabulate}
use Rattle.manager.proofs.BatchLaws.{whole_clear, relisted_same, relisted_more, made_refused, made_lent, made_listed}
use Rattle.manager.proofs.Laws.{tabulate_same}
use Rattle.manager.proofs.batch.map_batch.Goals as goal

pub returns-in_err-whole_refusal : goal.returns-in_err-whole_refusal
returns-in_err-whole_refusal c =
    let a = c.args in
    made_refused _ _ _ _ _ _ _ (c.in_err-whole_refusal.ensures ∙ ap (λ (n : ℕ). whole_refusal a.lent n (length a.answers.now)) (sym (items_of_length a.batch))) c.from_residual.ensures.1

pub returns-then-lent-ne0 : goal.returns-then-lent-ne0
returns-then-lent-ne0 c =
    let a = c.args in
    let whole = ap (λ (n : ℕ). whole_refusal a.lent n (length a.answers.now)) (items_of_length a.batch) ∙ sym c.in_ok-whole_refusal.ensures in
    let fits = whole_clear _ _ _ whole in
    made_lent _ _ _ _ _ whole c.if-lent-ne0.true
    (c.fill.ensures.after (λ y z. z) ∙ tabulate_same _ _ ∙ ap (λ (n : ℕ). tabulate n (λ k. a.lent)) fits.2)

pub insert_all-next-requires : goal.insert_all-next-requires
insert_all-next-requires c =
    let a = c.args in
    let fits = whole_clear _ _ _ (sym c.in_ok-whole_refusal.ensures) in
    (fits.2, fits.1, c.requires.1 c.if-lent-ne0.false)

pub returns-then-next-list : goal.returns-then-next-list
returns-then-next-list c =
    let a = c.args in
    let t = tables a.list a.records.now a.protections.now in
    let count = items_of_length a.batch in
    let whole = ap (λ (n : ℕ). whole_refusal a.lent n (length a.answers.now)) count ∙ sym c.in_ok-whole_refusal.ensures in
    made_listed _ _ _ _ _ whole c.if-lent-ne0.false
    (c.insert_all-next.ensures.1 ∙ ap (λ (n : ℕ). tabulate n (refusal_at a.board a.list (items_of a.batch))) (sym count))
    (relisted_more a.board t _ c.if-next-list.true (c.refill.ensures a.board refl)
    ∙ ap (relisted a.board t) (c.insert_all-next.ensures.0 ∙ ap (list_after_items a.board a.list (items_of a.batch)) (sym count)))

pub returns-else-next-list : goal.returns-else-next-list
returns-else-next-list c =
    let a = c.args in
    let t = tables a.list a.records.now a.protections.now in
    let count = items_of_length a.batch in
    let whole = ap (λ (n : ℕ). whole_refusal a.lent n (length a.answers.now)) count ∙ sym c.in_ok-whole_refusal.ensures in
    made_listed _ _ _ _ _ whole c.if-lent-ne0.false
    (c.insert_all-next.ensures.1 ∙ ap (λ (n : ℕ). tabulate n (refusal_at a.board a.list (items_of a.batch))) (sym count))
    (relisted_same a.board t _ c.if-next-list.false
    ∙ ap (relisted a.board t) (c.insert_all-next.ensures.0 ∙ ap (list_after_items a.board a.list (items_of a.batch)) (sym count)))
