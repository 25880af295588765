-- Document 01, "The cacheless memory": what memory would hold if there were no cache, fed each call and whether it was refused. Request N1's
-- list of mappings counts as its items in order; request N3's part of a page changes only the words sent, and of request N6's transfers each word
-- that is brought changes it at that moment.
use Rattle.std.specs.Prelude.{Bool, true, false, not, cond, ◌&&◌, List, ℕ, zero, suc, ◌+◌, ◌-◌, eqb, leb, ltb, length, get_or}
use Rattle.std.proofs.Math.Option.{Option, none, some}
use Rattle.board.specs.declared.Board.{Board}
use Rattle.board.specs.Board.{memory_at}
use Rattle.mapping.specs.declared.Mapping.{Mapping}
use Rattle.manager.specs.Answers.{is_refusal}
use Rattle.manager.specs.Batch.{item_at}
use Rattle.machine.specs.Call.{map_of}
use Rattle.machine.specs.State.{Single, map, unmap, read, write, device_read, device_write, device_write_part, evict, begin_read, begin_write, bring_word, take_word, end_transfer, fetch, Call, single, map_all, Answer}

-- a word for each frame and offset, and for each space and page a frame or none
pub record Cacheless : Type 0 where
  pub word : ℕ → ℕ → ℕ
  pub frame : ℕ → ℕ → Option ℕ

abbrev pub cacheless : (ℕ → ℕ → ℕ) → (ℕ → ℕ → Option ℕ) → Cacheless
cacheless word frame = record { word = word; frame = frame }

-- at the start the words of the lent memory, and no frame
unfoldable pub start_cacheless : Board → List ℕ → Cacheless
start_cacheless b memory = cacheless (λ f o. get_or memory (memory_at b f o) 0) (λ space page. none)

-- a function of two numbers with one value replaced
abbrev pub replaced {ℓ} : {A : Type ℓ} → (ℕ → ℕ → A) → ℕ → ℕ → A → ℕ → ℕ → A
replaced g i j a x y = cond (eqb i x && eqb j y) a (g x y)

-- words with one of them replaced, in the frame of a page if it has one
abbrev pub stored : (ℕ → ℕ → ℕ) → Option ℕ → ℕ → ℕ → ℕ → ℕ → ℕ
stored word none offset v = word
stored word (some f) offset v = replaced word f offset v

-- words with a device's in the place of a frame's from offset first on: those that it sends, and no others
abbrev pub sent : (ℕ → ℕ → ℕ) → ℕ → ℕ → List ℕ → ℕ → ℕ → ℕ
sent word frame first buffer f o = cond (eqb frame f && leb first o && ltb o (first + length buffer)) (get_or buffer (o - first) 0) (word f o)

-- ---- a single call

-- The use that a call makes of it: none by an eviction, and by the beginning and the end of a transfer.
pub data Use : Type 0 where
  no_use : Use
  -- space and page, and the frame that it gets, or none
  sets_frame : ℕ → ℕ → Option ℕ → Use
  -- a program's, through a page of a space: offset, of a read or of a fetch (request N8); the word that it writes
  loads : ℕ → ℕ → ℕ → Use
  stores : ℕ → ℕ → ℕ → ℕ → Use
  -- a device's, of a frame: all words read; words sent from an offset on; the word at an offset taken, and brought
  loads_page : ℕ → Use
  sends_words : ℕ → ℕ → List ℕ → Use
  takes_word : ℕ → ℕ → Use
  brings_word : ℕ → ℕ → ℕ → Use

abbrev pub use_of : Single → Use
use_of (map space page frame rights) = sets_frame space page (some frame)
use_of (unmap space page) = sets_frame space page none
use_of (read space page offset) = loads space page offset
use_of (write space page offset word) = stores space page offset word
use_of (device_read frame buffer) = loads_page frame
use_of (device_write frame buffer) = sends_words frame 0 buffer
use_of (device_write_part frame first number buffer) = sends_words frame first buffer
use_of (evict line) = no_use
use_of (begin_read frame) = no_use
use_of (begin_write frame) = no_use
use_of (bring_word frame offset word) = brings_word frame offset word
use_of (take_word frame offset) = takes_word frame offset
use_of (end_transfer frame) = no_use
use_of (fetch space page offset) = loads space page offset

abbrev pub after_use : Cacheless → Use → Cacheless
after_use m no_use = m
after_use m (sets_frame space page frame) = cacheless m.word (replaced m.frame space page frame)
after_use m (loads space page offset) = m
after_use m (stores space page offset word) = cacheless (stored m.word (m.frame space page) offset word) m.frame
after_use m (loads_page frame) = m
after_use m (sends_words frame first buffer) = cacheless (sent m.word frame first buffer) m.frame
after_use m (takes_word frame offset) = m
after_use m (brings_word frame offset word) = cacheless (replaced m.word frame offset word) m.frame

-- what an accepted one makes of it
unfoldable pub after_accepted : Cacheless → Single → Cacheless
after_accepted m call = after_use m (use_of call)

-- a refused one changes nothing
abbrev pub after_single : Cacheless → Single → Bool → Cacheless
after_single m call true = m
after_single m call false = after_accepted m call

-- ---- a list of mappings

-- after the first k items, each taken as the single call that it is, by whether that item was refused
abbrev pub items_taken : Cacheless → List Mapping → (ℕ → Bool) → ℕ → Cacheless
items_taken m items refused zero = m
items_taken m items refused (suc k) = after_single (items_taken m items refused k) (map_of (item_at items k)) (refused k)

-- ---- a call: it is told whether that was refused, and whether item k of a list was

-- a list that is refused whole changes nothing
abbrev pub after : Cacheless → Call → Bool → (ℕ → Bool) → Cacheless
after m (single call) whole item = after_single m call whole
after m (map_all items answers) whole item = cond whole m (items_taken m items item (length items))

-- ---- what it is told of an answer

abbrev pub is_refused : Answer → Bool
is_refused a = is_refusal a.outcome

-- item k's answer is not 0
abbrev pub item_refused : Answer → ℕ → Bool
item_refused a k = not (eqb (get_or a.buffer k 0) 0)

-- so it is fed a call with its answer, and sees nothing else of that
abbrev pub fed : Cacheless → Call → Answer → Cacheless
fed m call a = after m call (is_refused a) (item_refused a)
