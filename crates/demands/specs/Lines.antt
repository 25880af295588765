-- What demand 2 must not admit of the instruction cache (`InstructionCache`), computed on a small board: stores after a call that are wrong in one place.
use Rattle.std.specs.Prelude.{List, [], ◌∷◌, ℕ, replicate, set}
use Rattle.manager.specs.Answers.{accepted}
use Rattle.manager.specs.Calls.{no_ops}
use Rattle.cache.specs.Store.{Store, store}
use Rattle.machine.specs.State.{State, state, Single, map, read, evict, fetch}
use Rattle.machine.specs.Step.{step}
use Rattle.consistency.specs.Rows.{small, at_start}
use Rattle.demands.specs.Demands.{InstructionCache}

-- page 0 of space 0 mapped to the frame, to read and fetch; the data cache has lines 0 to 3, the instruction cache 4 to 7
abbrev pub mapped : State
mapped = (step small at_start (map 0 0 0 3)).after

-- the call leaves everything as it was but for another store
abbrev pub Admits : Single → Store → Type 0
Admits call s = InstructionCache small mapped call (state mapped.tables s) (accepted 0 no_ops)

-- the store with another tag of a line, another word of the caches, and another word of memory
abbrev pub memory : List ℕ
memory = 0 ∷ 0 ∷ 0 ∷ 0 ∷ []

abbrev pub words : List ℕ
words = replicate 16 0

abbrev pub tags : List ℕ
tags = replicate 8 0

pub record WrongLines : Type 0 where
  -- a read that changes a tag, or a word, of the instruction cache
  pub tag_by_read : Admits (read 0 0 0) (store memory words (set tags 4 1)) → ⊥
  pub word_by_read : Admits (read 0 0 0) (store memory (set words 8 1) tags) → ⊥
  -- the eviction of an instruction line that changes another one, leaves its own, or writes to memory
  pub other_evicted : Admits (evict 4) (store memory words (set tags 5 1)) → ⊥
  pub line_left : Admits (evict 4) (store memory words (set tags 4 1)) → ⊥
  pub memory_written : Admits (evict 4) (store (set memory 0 1) words tags) → ⊥
  -- a fetch that fills a data line, another instruction line, or none
  pub data_filled : Admits (fetch 0 0 0) (store memory words (set (set tags 4 1) 0 1)) → ⊥
  pub more_filled : Admits (fetch 0 0 0) (store memory words (set (set tags 4 1) 5 1)) → ⊥
  pub none_filled : Admits (fetch 0 0 0) (store memory words tags) → ⊥
