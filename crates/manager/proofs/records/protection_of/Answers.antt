-- `manager::records::protection_of` meets its contract.
use mathlib.Core.Path.{sym, ap, ap₂, ◌∙◌}
use mathlib.Core.Bool.{Bool, ◌&&◌}
use Prim.Native.Nat.{ℕ, ◌+◌, ◌*◌, ◌%◌}
use mir.Val.{bool_byte}
use lib.Dec.{eqb}
use Rattle.board.specs.Board.{colour_of}
use Rattle.page_model.specs.Record.{is_held, is_dirty, is_fetched}
use Rattle.mapping.specs.Entry.{read_write, read_fetch}
use Rattle.manager.proofs.Laws.{state_at_lem, instructions_at, protection_sum}
use Rattle.manager.proofs.records.protection_of.Goals as goal

-- each of the three tests is a digit
pub returns : goal.returns
unfolding colour_of
returns c b e =
    let m = c.args.m in
    let known = c.record_at-r.ensures in
    let colour = ap₂ ◌%◌ c.from.ensures (sym e) in
    let state = state_at_lem b _ m known colour in
    let instructions = instructions_at b _ m known colour in
    ap₂ ◌+◌
    (ap₂ ◌+◌ (c.from-2.ensures ∙ ap bool_byte (c.holds.ensures ∙ ap is_held state))
    (c.from-3.ensures ∙ ap (λ (x : Bool). bool_byte (x && eqb m.rights read_write)) (c.holds_dirty.ensures ∙ ap is_dirty state)))
    (ap (λ (n : ℕ). 4 * n) (c.from-4.ensures ∙ ap (λ (x : Bool). bool_byte (x && eqb m.rights read_fetch)) (c.holds_instructions.ensures ∙ ap is_fetched instructions)))
    ∙ protection_sum _ _ m.rights
