-- The laws of the instruction cache: its lines are those behind the data lines, its pages those behind the colours. No line of it is dirty, so
-- what goes through it leaves memory as it was, and what goes through a colour leaves its lines as they were.
use mathlib.Core.Path.{◌≡◌, refl, sym, ap, ◌∙◌}
use mathlib.Core.Bool.{false, true≢false}
use mathlib.Core.Logic.{◌≢◌}
use Prim.Native.Nat.{ℕ, ◌≤◌, ◌<◌}
use native.Mathlib.Omega.{arith}
use Rattle.board.specs.declared.Board.{Board}
use Rattle.board.specs.Board.{Regular, cache_pages, data_lines, line_of, line_colour}
use Rattle.board.proofs.Geometry.{line_of_lt, line_of_data, line_of_instruction, data_line_line}
use Rattle.cache.specs.Store.{Store, WellFormedStore, tag_at}
use Rattle.cache.specs.Tag.{dirty_tag, is_dirty_tag}
use Rattle.cache.specs.Cache.{write_back, empty, evict, access}
use Rattle.cache.proofs.Laws.Tag.{is_dirty_tag_dirty, rules_instruction}
use Rattle.cache.proofs.Laws.WriteBack.{write_back_clean}
use Rattle.cache.proofs.Laws.Access.{replace_memory, access_cases}

module _ (b : Board) (reg : Regular b) where
  -- ---- no instruction line is dirty, in any well-formed store: so after every operation that keeps a store well-formed

  module _ (s : Store) (wf : WellFormedStore b s) where
    pub clean_instructions : (n : ℕ) → data_lines b ≤ n → is_dirty_tag (tag_at s n) ≡ false
    clean_instructions n h = rules_instruction b reg s.tags n wf.tags_rules h

    -- a dirty line of a frame is a colour's
    pub dirty_colour : (c o f : ℕ) → tag_at s (line_of b c o) ≡ dirty_tag f → b.colours ≤ c → ⊥
    dirty_colour c o f d h =
        true≢false (sym (ap is_dirty_tag d ∙ is_dirty_tag_dirty f) ∙ clean_instructions (line_of b c o) (line_of_instruction b reg c o h))

    -- ---- what goes through the instruction cache leaves memory

    pub instruction_written : (n : ℕ) → data_lines b ≤ n → write_back b n s ≡ s
    instruction_written n h = write_back_clean b reg s wf n (clean_instructions n h)

    pub instruction_evicted : (n : ℕ) → data_lines b ≤ n → evict b n s ≡ empty n s
    unfolding evict
    instruction_evicted n h = ap (empty n) (instruction_written n h)

    pub instruction_fetched : (f c o : ℕ) → f < b.frames → b.colours ≤ c → c < cache_pages b → o < b.page → (access b f c o s).memory ≡ s.memory
    instruction_fetched f c o hf low hc ho =
        access_cases b reg f c o hf hc ho s wf (λ t. t.memory ≡ s.memory) (λ _. refl)
        (λ _. replace_memory b reg s wf f (line_of b c o) hf (line_of_lt b reg c o hc ho)
        ∙ ap (λ (t : Store). t.memory) (instruction_written (line_of b c o) (line_of_instruction b reg c o low)))

  -- ---- an instruction line is no line of a colour, so that the laws of another line and another colour tell what data operations do to it

  pub instruction_line_apart : (n c o : ℕ) → data_lines b ≤ n → c < b.colours → o < b.page → n ≢ line_of b c o
  instruction_line_apart n c o h hc ho e = omega (arith, line_of_data b reg c o hc ho)

  pub instruction_colour_apart : (n c : ℕ) → data_lines b ≤ n → c < b.colours → line_colour b n ≢ c
  instruction_colour_apart n c h hc e = let below = data_line_line b reg n (omega arith) in omega arith

  pub instruction_page_apart : (k p c o : ℕ) → b.colours ≤ k → c < b.colours → o < b.page → line_of b k p ≢ line_of b c o
  instruction_page_apart k p c o h hc ho = instruction_line_apart (line_of b k p) c o (line_of_instruction b reg k p h) hc ho
