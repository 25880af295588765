-- The laws of a device's transfers.
use mathlib.Core.Path.{◌≡◌, refl, ap, ◌∙◌}
use mathlib.Core.Logic.{◌≢◌}
use mathlib.Core.List.{List}
use Prim.Native.Nat.{ℕ, ◌+◌, ◌-◌, ◌≤◌, ◌<◌}
use native.Mathlib.Omega.{arith}
use lib.ListN.{length, get_or, length-set}
use lib.Seq.{get_or-set_same, get_or-set_other}
use Rattle.board.specs.declared.Board.{Board}
use Rattle.board.specs.Board.{Regular, frame_at, memory_at}
use Rattle.board.proofs.Geometry.{frame_at_end, frame_at_within, memory_at_lt}
use Rattle.cache.specs.Part.{overlay}
use Rattle.cache.specs.Store.{Store, WellFormedStore, memory_word}
use Rattle.cache.specs.Cache.{device_read, device_write, bring_word}
use Rattle.cache.proofs.Laws.Part.{length_part, part_at, length_overlay, overlay_inside, overlay_outside}

module _ (b : Board) (reg : Regular b) (f : ℕ) (hf : f < b.frames) (s : Store) (wf : WellFormedStore b s) where
  -- ---- memory to device

  pub device_read_length : length (device_read b f s) ≡ b.page
  unfolding device_read
  device_read_length = let e = wf.memory_length in length_part s.memory (frame_at b f) b.page (omega (arith, frame_at_end b reg f hf))

  pub device_read_word : (o : ℕ) → o < b.page → get_or (device_read b f s) o 0 ≡ memory_word b s f o
  unfolding device_read memory_at
  device_read_word o ho = part_at s.memory (frame_at b f) b.page o ho

  -- ---- device to memory, from offset first on

  module _ (first : ℕ) (buffer : List ℕ) (inside : first + length buffer ≤ b.page) where
    fits : memory_at b f first + length buffer ≤ length s.memory
    unfolding memory_at
    fits = let e = wf.memory_length in omega (arith, frame_at_end b reg f hf)

    pub device_write_kept : WellFormedStore b (device_write b f first buffer s)
    unfolding device_write
    device_write_kept =
        record {
          memory_length = length_overlay s.memory (memory_at b f first) buffer fits ∙ wf.memory_length;
          words_length = wf.words_length;
          tags_length = wf.tags_length;
          tags_rules = wf.tags_rules;
        }

    pub device_write_tags : (device_write b f first buffer s).tags ≡ s.tags
    unfolding device_write
    device_write_tags = refl

    pub device_write_words : (device_write b f first buffer s).words ≡ s.words
    unfolding device_write
    device_write_words = refl

    -- the words that it sends, the frame's others, and another frame's
    pub device_write_memory_same : (o : ℕ) → first ≤ o → o < first + length buffer → memory_word b (device_write b f first buffer s) f o ≡ get_or buffer (o - first) 0
    unfolding device_write memory_at
    device_write_memory_same o low high =
        ap (λ (x : ℕ). get_or (overlay s.memory (memory_at b f first) buffer) x 0) (omega arith)
        ∙ overlay_inside s.memory (memory_at b f first) buffer fits (o - first) (omega arith)

    pub device_write_memory_rest : (o : ℕ) → (first ≤ o → o < first + length buffer → ⊥) → memory_word b (device_write b f first buffer s) f o ≡ memory_word b s f o
    unfolding device_write memory_at
    device_write_memory_rest o out =
        overlay_outside s.memory (memory_at b f first) buffer fits (memory_at b f o) (λ low high. out (omega arith) (omega arith))

    pub device_write_memory_other : (g o : ℕ) → o < b.page → g ≢ f → memory_word b (device_write b f first buffer s) g o ≡ memory_word b s g o
    unfolding device_write memory_at
    device_write_memory_other g o ho ne =
        overlay_outside s.memory (memory_at b f first) buffer fits (memory_at b g o)
        (λ low high. ne (frame_at_within b reg f g o ho (omega arith) (omega arith)))

  -- ---- one word, at offset o

  module _ (o v : ℕ) (ho : o < b.page) where
    pub bring_word_kept : WellFormedStore b (bring_word b f o v s)
    unfolding bring_word
    bring_word_kept =
        record {
          memory_length = length-set s.memory (memory_at b f o) v ∙ wf.memory_length;
          words_length = wf.words_length;
          tags_length = wf.tags_length;
          tags_rules = wf.tags_rules;
        }

    pub bring_word_tags : (bring_word b f o v s).tags ≡ s.tags
    unfolding bring_word
    bring_word_tags = refl

    pub bring_word_words : (bring_word b f o v s).words ≡ s.words
    unfolding bring_word
    bring_word_words = refl

    pub bring_word_memory_same : memory_word b (bring_word b f o v s) f o ≡ v
    unfolding bring_word
    bring_word_memory_same = let e = wf.memory_length in get_or-set_same s.memory (memory_at b f o) v 0 (omega (arith, memory_at_lt b reg f o hf ho))

    -- the frame's others, and another frame's
    pub bring_word_memory_rest : (p : ℕ) → p ≢ o → memory_word b (bring_word b f o v s) f p ≡ memory_word b s f p
    unfolding bring_word memory_at
    bring_word_memory_rest p ne = get_or-set_other s.memory (memory_at b f o) (memory_at b f p) v 0 (λ e. ne (omega arith))

    pub bring_word_memory_other : (g p : ℕ) → p < b.page → g ≢ f → memory_word b (bring_word b f o v s) g p ≡ memory_word b s g p
    unfolding bring_word memory_at
    bring_word_memory_other g p hp ne =
        get_or-set_other s.memory (memory_at b f o) (memory_at b g p) v 0 (λ e. ne (frame_at_within b reg f g p hp (omega arith) (omega arith)))
