-- What an action's access leaves: a store in order, and the lines of other pages of the caches as they were.
use mathlib.Core.Path.{refl, sym}
use mathlib.Core.Logic.{◌≢◌}
use Prim.Native.Nat.{ℕ, ◌<◌}
use native.Mathlib.Omega.{arith}
use Rattle.board.specs.declared.Board.{Board}
use Rattle.board.specs.Board.{Regular, cache_pages, instruction_page, line_of}
use Rattle.board.proofs.Geometry.{data_page, instruction_page_lem}
use Rattle.cache.specs.Cache as hardware
use Rattle.cache.specs.Store.{Store, WellFormedStore}
use Rattle.cache.proofs.Laws.Access.{access_kept, access_tag_other, access_word_other, write_word_kept, write_word_tag_other, write_word_word_other}
use Rattle.cache.proofs.Laws.Device.{device_write_kept}
use Rattle.consistency.proofs.Access.{same_colour}
use Rattle.consistency.proofs.Lines.{SameLine}
use Rattle.necessity.specs.Action.{Action, read, fetch, write, device_read, device_write, device_write_part, begin_read, begin_write, InRange}
use Rattle.necessity.proofs.Acted.{store_of}

-- an action that goes through another page, or none
abbrev pub Beside : Board → ℕ → Action → Type 0
Beside b x (read c o) = c ≢ x
Beside b x (fetch c o) = instruction_page b c ≢ x
Beside b x (write c o v) = c ≢ x
Beside b x (device_read buffer) = Unit {0}
Beside b x (device_write buffer) = Unit {0}
Beside b x (device_write_part first number buffer) = Unit {0}
Beside b x begin_read = Unit {0}
Beside b x begin_write = Unit {0}

module _ (b : Board) (reg : Regular b) (f : ℕ) (hf : f < b.frames) (s : Store) (wf : WellFormedStore b s) where
  pub act_kept : (a : Action) → InRange b a → WellFormedStore b (store_of b f a s)
  act_kept (read c o) h = access_kept b reg f c o hf (data_page b reg c h.0) h.1 s wf
  act_kept (fetch c o) h = access_kept b reg f (instruction_page b c) o hf (instruction_page_lem b reg c h.0) h.1 s wf
  act_kept (write c o v) h = write_word_kept b reg f c o hf (data_page b reg c h.0) h.1 s wf h.0 v
  act_kept (device_read buffer) h = wf
  act_kept (device_write buffer) h = device_write_kept b reg f hf s wf 0 buffer (omega arith)
  act_kept (device_write_part first number buffer) h = let i = h.1 in let l = h.2 in device_write_kept b reg f hf s wf first buffer (omega arith)
  act_kept begin_read h = wf
  act_kept begin_write h = wf

  module _ (x p : ℕ) (hp : p < b.page) where
    apart : (c o : ℕ) → o < b.page → c ≢ x → line_of b x p ≢ line_of b c o
    apart c o ho ne e = ne (sym (same_colour b reg x p c o hp ho e))

    load_line : (c o : ℕ) → c < cache_pages b → o < b.page → c ≢ x → SameLine b x p s (hardware.access b f c o s)
    load_line c o hc ho ne =
        let away = apart c o ho ne in
        record { tag = access_tag_other b reg f c o hf hc ho s wf _ away; word = access_word_other b reg f c o hf hc ho s wf x p away }

    pub act_line : (a : Action) → InRange b a → Beside b x a → SameLine b x p s (store_of b f a s)
    unfolding hardware.device_write
    act_line (read c o) h ne = load_line c o (data_page b reg c h.0) h.1 ne
    act_line (fetch c o) h ne = load_line (instruction_page b c) o (instruction_page_lem b reg c h.0) h.1 ne
    act_line (write c o v) h ne =
        let away = apart c o h.1 ne in
        let hc = data_page b reg c h.0 in
        record { tag = write_word_tag_other b reg f c o hf hc h.1 s wf v _ away; word = write_word_word_other b reg f c o hf hc h.1 s wf v x p away }
    act_line (device_read buffer) h ne = record { tag = refl; word = refl }
    act_line (device_write buffer) h ne = record { tag = refl; word = refl }
    act_line (device_write_part first number buffer) h ne = record { tag = refl; word = refl }
    act_line begin_read h ne = record { tag = refl; word = refl }
    act_line begin_write h ne = record { tag = refl; word = refl }
