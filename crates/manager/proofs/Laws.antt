-- Laws of the lent tables: a table of f's values, and what a protection is by three tests.
use mathlib.Core.Path.{◌≡◌, refl, sym, ap, ap₂, subst, ◌∙◌}
use mathlib.Core.Bool.{Bool, true, false, cond, ◌&&◌}
use mathlib.Core.List.{List, ◌∷◌}
use Prim.Native.Nat.{ℕ, zero, suc, ◌+◌, ◌*◌, ◌<◌}
use native.Mathlib.Omega.{arith}
use borrow.Author.Count.{below_more}
use native.Mathlib.Nat.{lt_irrefl}
use mir.Val.{bool_byte}
use lib.Dec.{eqb}
use lib.ListN.{length, get_or, set, replicate}
use lib.Seq.{ext_get_or, get_or-set_same, get_or-set_other}
use Rattle.bits.specs.Mask.{digit}
use Rattle.board.specs.declared.Board.{Board}
use Rattle.board.specs.Board.{colour_of}
use Rattle.page_model.specs.declared.FrameRecord.{FrameRecord}
use Rattle.page_model.specs.Instructions.{InstructionState}
use Rattle.page_model.specs.Record.{state_of, instruction_state_of, is_held, is_dirty, is_fetched}
use Rattle.page_model.specs.Table.{ColourState, empty, present, dirty, stale}
use Rattle.mapping.specs.declared.Mapping.{Mapping}
use Rattle.mapping.specs.Entry.{read_write, read_fetch}
use Rattle.manager.specs.Tables.{record_at, protection, mapping_state, instructions_of, tabulate}

-- ---- f at each place below n

pub length_tabulate : (n : ℕ) (f : ℕ → ℕ) → length (tabulate n f) ≡ n
unfolding tabulate
length_tabulate zero f = refl
length_tabulate (suc n) f = ap suc (length_tabulate n (λ i. f (suc i)))

pub get_d_tabulate : (n : ℕ) (f : ℕ → ℕ) (k : ℕ) → k < n → get_or (tabulate n f) k 0 ≡ f k
unfolding tabulate
get_d_tabulate zero f k l = absurd (omega arith)
get_d_tabulate (suc n) f zero l = refl
get_d_tabulate (suc n) f (suc k) l = get_d_tabulate n (λ i. f (suc i)) k (omega arith)

-- a list of f's values is the table of them
pub is_tabulate : (l : List ℕ) (n : ℕ) (f : ℕ → ℕ) → length l ≡ n → ((k : ℕ) → k < n → get_or l k 0 ≡ f k) → l ≡ tabulate n f
is_tabulate l n f e h =
    ext_get_or 0 l (tabulate n f) (e ∙ sym (length_tabulate n f)) (λ i li. let j : i < n = omega arith in h i j ∙ sym (get_d_tabulate n f i j))

-- a list of one value
pub tabulate_same : (n v : ℕ) → replicate n v ≡ tabulate n (λ k. v)
unfolding tabulate
tabulate_same zero v = refl
tabulate_same (suc n) v = ap (λ (l : List ℕ). v ∷ l) (tabulate_same n v)

-- one more value of f stored
pub set_more : (l : List ℕ) (i v : ℕ) (f : ℕ → ℕ) → i < length l → ((k : ℕ) → k < i → get_or l k 0 ≡ f k) → v ≡ f i
    → (k : ℕ) → k < i + 1 → get_or (set l i v) k 0 ≡ f k
set_more l i v f li h e =
    below_more (λ k. get_or (set l i v) k 0 ≡ f k) i
    (λ k lk. get_or-set_other l i k v 0 (λ q. let z : i < i = subst (λ (j : ℕ). j < i) q lk in lt_irrefl i z) ∙ h k lk)
    (get_or-set_same l i v 0 li ∙ e)

-- ---- protections

-- a read passes if the colour is held, and a write too if it is dirty and the rights allow it; a fetch if it is held for instructions and they allow that
pub protection_sum : (s : ColourState) (i : InstructionState) (rights : ℕ)
    → bool_byte (is_held s) + bool_byte (is_dirty s && eqb rights read_write) + 4 * bool_byte (is_fetched i && eqb rights read_fetch) ≡ protection s i rights
unfolding protection
protection_sum s i rights = ap₂ ◌+◌ (words s (eqb rights read_write)) (instructions (is_fetched i && eqb rights read_fetch))
  where
    words : (s : ColourState) (t : Bool) → bool_byte (is_held s) + bool_byte (is_dirty s && t) ≡ cond (is_dirty s && t) 2 (digit (is_held s))
    words empty t = refl
    words present t = refl
    words dirty true = refl
    words dirty false = refl
    words stale t = refl

    instructions : (t : Bool) → 4 * bool_byte t ≡ cond t 4 0
    instructions true = refl
    instructions false = refl

-- the state of the colour through which a mapping goes, from its record and its colour
pub state_at_lem : (b : Board) (rs : List ℕ) (m : Mapping) {r : FrameRecord} {k : ℕ} → r ≡ record_at rs m.frame → k ≡ colour_of b m.page
    → state_of r k ≡ mapping_state b rs m
unfolding mapping_state
state_at_lem b rs m er ek = ap₂ state_of er ek

pub instructions_at : (b : Board) (rs : List ℕ) (m : Mapping) {r : FrameRecord} {k : ℕ} → r ≡ record_at rs m.frame → k ≡ colour_of b m.page
    → instruction_state_of r k ≡ instructions_of b rs m
unfolding instructions_of
instructions_at b rs m er ek = ap₂ instruction_state_of er ek
