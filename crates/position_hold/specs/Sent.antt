-- What transfers last sent, by a list of calls alone: the accepted single calls, the latest first. Memory, cache and page states are not asked.
use Rattle.std.specs.Prelude.{Bool, false, cond, ◌&&◌, List, [], ◌∷◌, ◌++◌, ◌⊎◌, ◌≡◌, ℕ, zero, suc, ◌+◌, ◌-◌, eqb, leb, ltb, length, get_or}
use Rattle.std.proofs.Math.Option.{Option, none, some}
use Rattle.mapping.specs.declared.Mapping.{Mapping}
use Rattle.manager.specs.Batch.{item_at}
use Rattle.machine.specs.Call.{map_of}
use Rattle.machine.specs.State.{Single, map, unmap, read, write, device_read, device_write, device_write_part, evict, begin_read, begin_write, bring_word, take_word, end_transfer, fetch, Call, single, map_all, Answer}
use Rattle.consistency.specs.Cacheless.{is_refused, item_refused}

-- ---- what an accepted call does to pages and to words, by itself: the cacheless memory has its own account of it (`use_of`)

pub data Deed : Type 0 where
  no_deed : Deed
  -- space and page, and the frame to which it maps the page, or none
  maps_to : ℕ → ℕ → Option ℕ → Deed
  -- a program's write: space, page, offset
  writes_over : ℕ → ℕ → ℕ → Deed
  -- a transfer's words: frame, first offset, words; of one that takes a while (request N6) a word as it is brought, and none at its beginning and its end
  sends_from : ℕ → ℕ → List ℕ → Deed
  sends_at : ℕ → ℕ → ℕ → Deed

abbrev pub deed_of : Single → Deed
deed_of (map space page frame rights) = maps_to space page (some frame)
deed_of (unmap space page) = maps_to space page none
deed_of (read space page offset) = no_deed
deed_of (write space page offset word) = writes_over space page offset
deed_of (device_read frame buffer) = no_deed
deed_of (device_write frame buffer) = sends_from frame 0 buffer
deed_of (device_write_part frame first number buffer) = sends_from frame first buffer
deed_of (evict line) = no_deed
deed_of (begin_read frame) = no_deed
deed_of (begin_write frame) = no_deed
deed_of (bring_word frame offset word) = sends_at frame offset word
deed_of (take_word frame offset) = no_deed
deed_of (end_transfer frame) = no_deed
deed_of (fetch space page offset) = no_deed

-- ---- the frame to which a page of a space was last mapped, if it was and has not been unmapped since

abbrev pub mapped_after : Deed → ℕ → ℕ → Option ℕ → Option ℕ
mapped_after no_deed s p before = before
mapped_after (maps_to space page frame) s p before = cond (eqb space s && eqb page p) frame before
mapped_after (writes_over space page offset) s p before = before
mapped_after (sends_from frame first buffer) s p before = before
mapped_after (sends_at frame offset word) s p before = before

abbrev pub mapped_frame : List Single → ℕ → ℕ → Option ℕ
mapped_frame [] s p = none
mapped_frame (c ∷ earlier) s p = mapped_after (deed_of c) s p (mapped_frame earlier s p)

abbrev pub is_frame : Option ℕ → ℕ → Bool
is_frame none f = false
is_frame (some g) f = eqb g f

-- ---- what an accepted call does to offset o of frame f, after those accepted earlier: a transfer sends it a word, a program's write puts another over
-- it, or it is left

pub data WordEffect : Type 0 where
  sends : ℕ → WordEffect
  overwrites leaves : WordEffect

abbrev pub effect_by : List Single → Deed → ℕ → ℕ → WordEffect
effect_by earlier no_deed f o = leaves
effect_by earlier (maps_to space page frame) f o = leaves
effect_by earlier (writes_over space page offset) f o = cond (is_frame (mapped_frame earlier space page) f && eqb offset o) overwrites leaves
effect_by earlier (sends_from frame first buffer) f o =
    cond (eqb frame f && leb first o && ltb o (first + length buffer)) (sends (get_or buffer (o - first) 0)) leaves
effect_by earlier (sends_at frame offset word) f o = cond (eqb frame f && eqb offset o) (sends word) leaves

abbrev pub effect_on : List Single → Single → ℕ → ℕ → WordEffect
effect_on earlier call = effect_by earlier (deed_of call)

-- ---- the word that a transfer last sent to it, if one has and no program has written it since

abbrev pub sent_after : WordEffect → Option ℕ → Option ℕ
sent_after (sends w) before = some w
sent_after overwrites before = none
sent_after leaves before = before

abbrev pub last_sent : List Single → ℕ → ℕ → Option ℕ
last_sent [] f o = none
last_sent (c ∷ earlier) f o = sent_after (effect_on earlier c f o) (last_sent earlier f o)

-- none of the later calls sends to it or writes over it
abbrev pub LeftBy : List Single → List Single → ℕ → ℕ → Type 0
LeftBy [] earlier f o = Unit {0}
LeftBy (c ∷ later) earlier f o = (effect_on (later ++ earlier) c f o ≡ leaves) × LeftBy later earlier f o

-- of these calls one sends it this word, and those after it leave it
abbrev pub SentBy : List Single → List Single → ℕ → ℕ → ℕ → Type 0
SentBy [] earlier f o w = ⊥
SentBy (c ∷ calls) earlier f o w =
    (effect_on (calls ++ earlier) c f o ≡ sends w) ⊎ ((effect_on (calls ++ earlier) c f o ≡ leaves) × SentBy calls earlier f o w)

-- ---- a call more, with its answer: it counts if it was accepted, and a list of mappings counts as its accepted items

-- of the first k items, by whether each was refused
abbrev pub items_and : List Mapping → (ℕ → Bool) → ℕ → List Single → List Single
items_and items refused zero earlier = earlier
items_and items refused (suc k) earlier = cond (refused k) (items_and items refused k earlier) (map_of (item_at items k) ∷ items_and items refused k earlier)

abbrev pub accepted_and : Call → Answer → List Single → List Single
accepted_and (single call) a earlier = cond (is_refused a) earlier (call ∷ earlier)
accepted_and (map_all items answers) a earlier = cond (is_refused a) earlier (items_and items (item_refused a) (length items) earlier)
