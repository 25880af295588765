-- What every call of the machine is lent, the calls, and their answers.
use Rattle.std.specs.Prelude.{List, [], ℕ}
use Rattle.std.proofs.Math.Option.{Option}
use Rattle.manager.specs.Answers.{Outcome}
use Rattle.mapping.specs.declared.Mapping.{Mapping}
use Rattle.mapping.specs.declared.MappingList.{MappingList}
use Rattle.mapping.specs.Lookup.{listed_mapping}
use Rattle.manager.specs.Tables.{Tables, tables}
use Rattle.cache.specs.Store.{Store, store}

-- the manager's tables, and memory with the words and tags of both caches
pub record State : Type 0 where
  pub tables : Tables
  pub store : Store

abbrev pub state : Tables → Store → State
state t s = record { tables = t; store = s }

-- what a call is lent, in its order: list, records, protections, memory, words, tags
abbrev pub machine_of : MappingList → List ℕ → List ℕ → List ℕ → List ℕ → List ℕ → State
machine_of list records protections memory words tags = state (tables list records protections) (store memory words tags)

-- the frame of a page of a space and its rights, in a list, and the frame in the tables
abbrev pub listed_frame : MappingList → ℕ → ℕ → ℕ
listed_frame l space page = (listed_mapping l space page).frame

abbrev pub listed_rights : MappingList → ℕ → ℕ → ℕ
listed_rights l space page = (listed_mapping l space page).rights

abbrev pub page_frame : State → ℕ → ℕ → ℕ
page_frame st = listed_frame st.tables.list

-- A single call with its numbers and words as they are passed, whatever they are. Document 01 calls evict turning out.
pub data Single : Type 0 where
  -- space, page, frame, rights
  map : ℕ → ℕ → ℕ → ℕ → Single
  -- space, page
  unmap : ℕ → ℕ → Single
  -- space, page, offset; a write's word
  read : ℕ → ℕ → ℕ → Single
  write : ℕ → ℕ → ℕ → ℕ → Single
  -- frame, and the device's buffer as it is lent
  device_read device_write : ℕ → List ℕ → Single
  -- frame, first offset, number of words, and the device's buffer (request N3)
  device_write_part : ℕ → ℕ → ℕ → List ℕ → Single
  -- line
  evict : ℕ → Single
  -- request N6, a transfer that takes a while: frame
  begin_read begin_write end_transfer : ℕ → Single
  -- frame, offset; the word that a device brings
  bring_word : ℕ → ℕ → ℕ → Single
  take_word : ℕ → ℕ → Single
  -- request N8: space, page, offset
  fetch : ℕ → ℕ → ℕ → Single

-- A call is a single one, or a list of mappings (request N1).
pub data Call : Type 0 where
  single : Single → Call
  -- the items, and the list of answers as it is lent
  map_all : List Mapping → List ℕ → Call

-- The refusal or the orders, the word that a processor reads or fetches or a device takes, and what the call leaves in the buffer that it is lent for a device or for answers.
pub record Answer : Type 0 where
  pub outcome : Outcome
  pub word : Option ℕ
  pub buffer : List ℕ

pub record Result : Type 0 where
  pub answer : Answer
  pub after : State

-- What a single call is lent by its caller or gives to it besides numbers: a view, for definitions that are alike for most calls.
pub data Exchange : Type 0 where
  no_words : Exchange
  -- a word that it answers; a page's words, left in the buffer that it is lent
  word_out : Exchange
  page_out : List ℕ → Exchange
  -- a buffer of a page's words; one of as many as the call says
  page_in : List ℕ → Exchange
  part_in : ℕ → List ℕ → Exchange

abbrev pub exchange_of : Single → Exchange
exchange_of (map space page frame rights) = no_words
exchange_of (unmap space page) = no_words
exchange_of (read space page offset) = word_out
exchange_of (write space page offset word) = no_words
exchange_of (device_read frame buffer) = page_out buffer
exchange_of (device_write frame buffer) = page_in buffer
exchange_of (device_write_part frame first number buffer) = part_in number buffer
exchange_of (evict line) = no_words
exchange_of (begin_read frame) = no_words
exchange_of (begin_write frame) = no_words
exchange_of (bring_word frame offset word) = no_words
exchange_of (take_word frame offset) = word_out
exchange_of (end_transfer frame) = no_words
exchange_of (fetch space page offset) = word_out

-- the buffer that a call fills: a device read's, else none
abbrev pub buffer_out : Exchange → List ℕ
buffer_out no_words = []
buffer_out word_out = []
buffer_out (page_out buffer) = buffer
buffer_out (page_in buffer) = []
buffer_out (part_in number buffer) = []

abbrev pub lent_buffer : Single → List ℕ
lent_buffer call = buffer_out (exchange_of call)
