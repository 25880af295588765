-- The masks of the colours that are held and of those that are stale, and what they are after each class of colours went to a state.
use Rattle.std.specs.Prelude.{Bool, true, false, cond, not, ◌&&◌, ℕ, ◌^◌, eqb, ltb}
use Rattle.std.specs.Int.Bits.{bit_or}
use Rattle.bits.specs.Mask.{bit, mask_of, all}
use Rattle.page_model.specs.declared.masks.Masks.{Masks}
use Rattle.page_model.specs.declared.masks.MaskState.{MaskState}
use Rattle.page_model.specs.declared.masks.MaskState.TheVariants.{Empty, Held, Stale}
use Rattle.page_model.specs.declared.masks.Classes.{Classes}

-- no colour in either
abbrev pub no_masks : Masks
no_masks = record { held = 0; stale = 0 }

-- of n colours, those of which each test holds
abbrev pub masks_of : ℕ → (ℕ → Bool) → (ℕ → Bool) → Masks
masks_of n h s = record { held = mask_of n h; stale = mask_of n s }

-- no bit stands past the n colours, and none in both masks
abbrev pub masks_keep_rules : ℕ → Masks → Bool
masks_keep_rules n m = ltb m.held (2 ^ n) && ltb m.stale (2 ^ n) && all n (λ k. not (bit m.held k && bit m.stale k))

-- whether colours in a state stand in the held mask, and in the stale one
abbrev pub in_held : MaskState → Bool
in_held Empty = false
in_held Held = true
in_held Stale = false

abbrev pub in_stale : MaskState → Bool
in_stale Empty = false
in_stale Held = false
in_stale Stale = true

-- the masks with a class of colours, so far in neither, put in a state
abbrev pub with_class : Masks → ℕ → MaskState → Masks
with_class m class state = record { held = bit_or (cond (in_held state) class 0) m.held; stale = bit_or (cond (in_stale state) class 0) m.stale }

-- the state that colour k goes to, by its class: own if it is c, else stale, held or empty by its bits
abbrev pub state_at : ℕ → Classes → Masks → ℕ → MaskState
state_at c to m k = cond (eqb c k) to.own (cond (bit m.stale k) to.stale (cond (bit m.held k) to.held to.empty))

-- the masks after each class of the n colours went to its state
unfoldable pub moved : ℕ → ℕ → Classes → Masks → Masks
moved n c to m = masks_of n (λ k. in_held (state_at c to m k)) (λ k. in_stale (state_at c to m k))
