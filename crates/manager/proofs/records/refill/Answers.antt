-- `manager::records::refill` meets its contract.
use mathlib.Core.Path.{◌≡◌, sym, ap, ap₂, ◌∙◌}
use mathlib.Core.Logic.{⊎_elim}
use mathlib.Core.List.{List, ◌++◌}
use Prim.Native.Nat.{ℕ, ◌-◌, ◌≤◌, ◌<◌}
use native.Mathlib.Omega.{arith}
use lib.ListN.{get_or, length, take, drop, replicate}
use borrow.Author.Tests.{lt-ltb, le-ltb}
use Rattle.board.specs.declared.Board.{Board}
use Rattle.mapping.specs.declared.Mapping.{Mapping}
use Rattle.mapping.specs.declared.MappingList.{MappingList}
use Rattle.mapping.specs.Entry.{mapping_at}
use Rattle.mapping.proofs.Tests.{lt_or_le}
use Rattle.std.proofs.Common.{rules}
use Rattle.std.proofs.Math.Seq.{take-append_seam}
use Rattle.std.proofs.lemmas.List.{length-append, length-take, length-drop, drop_all, append-nil, get_or_append_left, get_or-append_right, get_or-replicate}
use Rattle.manager.specs.Tables.{protection, mapping_state, instructions_of, protection_at}
use Rattle.manager.proofs.Laws.{set_more, is_tabulate}
use Rattle.manager.proofs.records.refill.Goals as goal

-- the protection of the mapping at a listed place, and of no mapping
listed : (b : Board) (l : MappingList) (rs : List ℕ) (i p : ℕ) (m : Mapping) → i < l.count → m ≡ mapping_at l i → p ≡ protection (mapping_state b rs m) (instructions_of b rs m) m.rights
    → p ≡ protection_at b l rs i
unfolding protection_at
listed b l rs i p m lt at e = rw (lt-ltb _ _ lt, ← at) e

unlisted : (b : Board) (l : MappingList) (rs : List ℕ) (i : ℕ) → l.count ≤ i → 0 ≡ protection_at b l rs i
unfolding protection_at
unlisted b l rs i le = rw (le-ltb _ _ le)

cleared : (rest : List ℕ) (n k : ℕ) → rest ≡ replicate n 0 → k < n → get_or rest k 0 ≡ 0
cleared rest n k e h = ap (λ (l : List ℕ). get_or l k 0) e ∙ get_or-replicate n k 0 0 h

pub loop-i-preserved : goal.loop-i-preserved
loop-i-preserved c =
    let at : c.unwrap_or-m.result.now ≡ mapping_at c.args.list c.loop-i.i = search rules in
    λ b e. set_more c.loop-i.protection-items c.loop-i.i _ _ (omega arith) (c.loop-i.invariant b e)
    (listed b c.args.list _ _ _ _ (omega (arith, length-take c.min-listed.result c.args.protections.now)) at (c.protection_of.ensures b e))

-- the listed places written, then the places behind them cleared, make up the whole
whole : (before ps rest : List ℕ) (n : ℕ) → length ps ≡ n → n ≤ length before
    → let all = ps ++ drop n before in
    (length (take (length all - n) (drop n all)) ≡ length before - n) × (take n all ++ (rest ++ drop (length all - n) (drop n all)) ≡ ps ++ rest)
whole before ps rest n long le =
    let all = ps ++ drop n before in
    let behind : length (drop n all) ≡ length before - n = omega (arith, length-append ps (drop n before), length-drop n before, length-drop n all) in (
      length-take (length all - n) (drop n all) ∙ omega (arith, behind, length-append ps (drop n before), length-drop n before),
      ap₂ ◌++◌ (ap (λ (k : ℕ). take k all) (sym long) ∙ take-append_seam ps (drop n before))
          (ap (λ (l : List ℕ). rest ++ l) (drop_all _ (drop n all) (omega (arith, length-drop n all))) ∙ append-nil rest),
    )

pub returns : goal.returns
returns c b e =
    let n = c.min-listed.result in
    let ps = c.loop-i.protection-items in
    let rest = c.fill.new.self in
    let long : length ps ≡ n = omega (arith, length-take n c.args.protections.now) in
    let w = whole c.args.protections.now ps rest n long (omega arith) in
    w.1
    ∙ is_tabulate (ps ++ rest) (length c.args.protections.now) _ (length-append ps rest ∙ omega (arith, c.fill.ensures.len ∙ w.0))
    (λ k h. ⊎_elim
    (λ o. get_or_append_left ps rest 0 k (omega arith) ∙ c.loop-i.invariant b e k (omega arith))
    (λ o. get_or-append_right ps rest n k 0 long o
    ∙ cleared rest _ (k - n) (c.fill.ensures.after (λ y z. z)) (omega (arith, w.0))
    ∙ unlisted b c.args.list _ k (omega arith))
    (lt_or_le k n))
