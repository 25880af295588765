-- Demand 3: over any list of calls from the start, every accepted read and fetch finds what memory without a cache would give, and once every line of the
-- data cache has been evicted, instruction lines allowed among them, memory equals that memory word for word. Proved of every regular board. A list of mappings among the calls counts as its
-- items in order, each by whether that item was refused (`items_taken` in `Cacheless`).
use Rattle.std.specs.Prelude.{false, List, [], ◌∷◌, ◌⊎◌, ◌≡◌, ℕ, ◌<◌, length, replicate}
use Rattle.std.proofs.Math.Option.{Option, none, some}
use Rattle.board.specs.declared.Board.{Board}
use Rattle.board.specs.Board.{memory_words, cache_words, data_lines, lines}
use Rattle.mapping.specs.Change.{empty}
use Rattle.mapping.specs.Entry.{capacity}
use Rattle.manager.specs.Tables.{tables, tabulate, start_records}
use Rattle.cache.specs.Store.{store, memory_word}
use Rattle.machine.specs.Call.{perform}
use Rattle.machine.specs.State.{State, state, evict, Call, single, map_all, Answer, Result}
use Rattle.consistency.specs.Cacheless.{Cacheless, start_cacheless, Use, no_use, sets_frame, loads, stores, loads_page, sends_words, takes_word, brings_word, use_of, is_refused, fed}

-- ---- the start: empty list, page states and cache, whatever words memory, cache and protections hold

abbrev pub start_state : Board → List ℕ → List ℕ → List ℕ → State
start_state b memory words protections =
    state (tables empty (start_records b.frames b.colours) protections) (store memory words (replicate (lines b) 0))

-- ---- what an accepted read or fetch must find, a device's read too, of a page or of a word; and an accepted write: a frame to write to

-- the word at an offset of the page's frame
abbrev pub page_word : Cacheless → Option ℕ → ℕ → Option ℕ
page_word m none offset = none
page_word m (some f) offset = some (m.word f offset)

abbrev pub HasFrame : Option ℕ → Type 0
HasFrame none = ⊥
HasFrame (some f) = Unit {0}

abbrev pub FindsBy : Board → Cacheless → Use → Answer → Type 0
FindsBy b m no_use a = Unit {0}
FindsBy b m (sets_frame space page frame) a = Unit {0}
FindsBy b m (loads space page offset) a = a.word ≡ page_word m (m.frame space page) offset
FindsBy b m (stores space page offset word) a = HasFrame (m.frame space page)
FindsBy b m (loads_page frame) a = a.buffer ≡ tabulate b.page (m.word frame)
FindsBy b m (sends_words frame first buffer) a = Unit {0}
FindsBy b m (takes_word frame offset) a = a.word ≡ some (m.word frame offset)
FindsBy b m (brings_word frame offset word) a = Unit {0}

abbrev pub Finds : Board → Cacheless → Call → Answer → Type 0
Finds b m (single call) a = FindsBy b m (use_of call) a
Finds b m (map_all items answers) a = Unit {0}

-- ---- a list of calls, with the cacheless memory beside it

-- a machine is what it makes of a call in a state
abbrev pub Machine : Type 0
Machine = State → Call → Result

-- every accepted read and fetch of the list finds its words
abbrev pub AllFind : Board → Machine → State → Cacheless → List Call → Type 0
AllFind b machine st m [] = Unit {0}
AllFind b machine st m (call ∷ calls) =
    (is_refused (machine st call).answer ≡ false → Finds b m call (machine st call).answer)
    × AllFind b machine (machine st call).after (fed m call (machine st call).answer) calls

abbrev pub state_after : Machine → State → List Call → State
state_after machine st [] = st
state_after machine st (call ∷ calls) = state_after machine (machine st call).after calls

abbrev pub cacheless_after : Machine → State → Cacheless → List Call → Cacheless
cacheless_after machine st m [] = m
cacheless_after machine st m (call ∷ calls) = cacheless_after machine (machine st call).after (fed m call (machine st call).answer) calls

-- ---- evicting lines, which document 01 calls turning them out

abbrev pub evictions : List ℕ → List Call
evictions [] = []
evictions (n ∷ ns) = single (evict n) ∷ evictions ns

-- n stands in the list
abbrev pub Occurs : ℕ → List ℕ → Type 0
Occurs n [] = ⊥
Occurs n (m ∷ ms) = (n ≡ m) ⊎ Occurs n ms

-- none is refused
abbrev pub NoneRefused : Machine → State → List Call → Type 0
NoneRefused machine st [] = Unit {0}
NoneRefused machine st (call ∷ calls) = (is_refused (machine st call).answer ≡ false) × NoneRefused machine (machine st call).after calls

-- memory holds the cacheless memory's words, frame after frame
pub record MemoryIs (b : Board) (m : Cacheless) (st : State) : Type 0 where
  pub memory_length : length st.store.memory ≡ memory_words b
  pub memory_words_holds : (f o : ℕ) → f < b.frames → o < b.page → memory_word b st.store f o ≡ m.word f o

-- ---- the demand

pub record Holds (b : Board) (machine : Machine) (st : State) (m : Cacheless) (calls : List Call) : Type 0 where
  pub finds : AllFind b machine st m calls
  pub evicted :
      (ns : List ℕ) → ((n : ℕ) → Occurs n ns → n < lines b) → ((n : ℕ) → n < data_lines b → Occurs n ns)
      → NoneRefused machine (state_after machine st calls) (evictions ns)
      × MemoryIs b (cacheless_after machine st m calls) (state_after machine (state_after machine st calls) (evictions ns))

abbrev pub Demand3Of : Board → Machine → Type 0
Demand3Of b machine =
    (memory words protections : List ℕ) (calls : List Call) → length memory ≡ memory_words b → length words ≡ cache_words b → length protections ≡ capacity
    → Holds b machine (start_state b memory words protections) (start_cacheless b memory) calls

abbrev pub Demand3 : Board → Type 0
Demand3 b = Demand3Of b (perform b)
