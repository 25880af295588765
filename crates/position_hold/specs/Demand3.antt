-- Demand 3 with looks among the calls. To the cacheless memory a look is its reads: it changes nothing there, and finds the words of its page's frame.
use Rattle.std.specs.Prelude.{false, List, [], ◌∷◌, ◌≡◌, ℕ, ◌<◌, length, get_or}
use Rattle.std.proofs.Math.Option.{some}
use Rattle.board.specs.declared.Board.{Board}
use Rattle.board.specs.Board.{Regular, board01, memory_words, cache_words, data_lines, lines}
use Rattle.mapping.specs.Entry.{capacity}
use Rattle.machine.specs.Call.{perform}
use Rattle.machine.specs.State.{State}
use Rattle.consistency.specs.Cacheless.{Cacheless, start_cacheless, is_refused, fed}
use Rattle.consistency.specs.Demand3 as of_calls
use Rattle.consistency.specs.Demand3.{start_state, page_word, Finds, evictions, Occurs, NoneRefused, MemoryIs}
use Rattle.position_hold.specs.Look as position_hold
use Rattle.position_hold.specs.Look.{Words, stopped, words, fix_words, fix_reads}
use Rattle.position_hold.specs.Theorems.{Act, call, look, state_after}

-- the words that a look reads, and judges, where none of its reads is refused
abbrev pub LookFinds : Cacheless → ℕ → ℕ → Words → Type 0
LookFinds m space page (stopped n) = Unit {0}
LookFinds m space page (words ws) = (k : ℕ) → k < fix_words → page_word m (m.frame space page) k ≡ some (get_or ws k 0)

-- every accepted read of the list finds its words, and every look whose four reads are accepted
abbrev pub AllFind : Board → State → Cacheless → List Act → Type 0
AllFind b st m [] = Unit {0}
AllFind b st m (call c ∷ acts) =
    (is_refused (perform b st c).answer ≡ false → Finds b m c (perform b st c).answer)
    × AllFind b (perform b st c).after (fed m c (perform b st c).answer) acts
AllFind b st m (look space page clock hold ∷ acts) =
    LookFinds m space page (fix_reads b st space page).words × AllFind b (position_hold.look b st space page clock hold).after m acts

abbrev pub cacheless_after : Board → State → Cacheless → List Act → Cacheless
cacheless_after b st m [] = m
cacheless_after b st m (call c ∷ acts) = cacheless_after b (perform b st c).after (fed m c (perform b st c).answer) acts
cacheless_after b st m (look space page clock hold ∷ acts) = cacheless_after b (position_hold.look b st space page clock hold).after m acts

pub record Holds (b : Board) (st : State) (m : Cacheless) (acts : List Act) : Type 0 where
  pub finds : AllFind b st m acts
  pub evicted :
      (ns : List ℕ) → ((n : ℕ) → Occurs n ns → n < lines b) → ((n : ℕ) → n < data_lines b → Occurs n ns)
      → NoneRefused (perform b) (state_after b st acts) (evictions ns)
      × MemoryIs b (cacheless_after b st m acts) (of_calls.state_after (perform b) (state_after b st acts) (evictions ns))

abbrev pub Demand3 : Board → Type 0
Demand3 b =
    (memory cache protections : List ℕ) (acts : List Act) → length memory ≡ memory_words b → length cache ≡ cache_words b → length protections ≡ capacity
    → Holds b (start_state b memory cache protections) (start_cacheless b memory) acts

-- ---- of every regular board, and so of document 01's

abbrev pub EveryBoard : Type 0
EveryBoard = (b : Board) → Regular b → Demand3 b

abbrev pub Board01 : Type 0
Board01 = Demand3 board01
