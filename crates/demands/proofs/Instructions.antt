-- The instruction cache after an accepted single call: orders other than a fetch's, and accesses through a colour, leave its lines; a fetch leaves
-- memory and the data lines as its orders left them.
use mathlib.Core.Path.{◌≡◌, refl, sym, ap, subst, subst⁻¹, ◌∙◌}
use mathlib.Core.Bool.{Bool, true, false, cond, true≢false}
use mathlib.Core.List.Memᴰ
use mathlib.Core.List.{List, ◌++◌, Memᴰ}
use mathlib.Core.Logic.{◌≢◌, ◌⊎◌, inl, inr, ⊎_elim}
use Prim.Native.Nat.{ℕ, ◌≤◌, ◌<◌}
use native.Mathlib.Omega.{arith}
use native.Mathlib.Decide.{ℕ_discrete}
use borrow.Author.Tests.{leb-false, eqb-true}
use lib.Dec.{eqb, ltb}
use lib.ListN.{get_or}
use Rattle.board.specs.declared.Board.{Board}
use Rattle.board.specs.Board.{Regular, cache_pages, data_lines, lines, colour_of, instruction_page, line_of, line_colour, cache_at}
use Rattle.board.proofs.Geometry.{colour_of_lt, data_page, instruction_page_lem, line_of_instruction}
use Rattle.page_model.specs.declared.FrameRecord.{FrameRecord}
use Rattle.page_model.specs.declared.Op.{Op}
use Rattle.page_model.specs.declared.Op.TheVariants.{None, Flush, Purge, PurgeInstructions}
use Rattle.page_model.specs.Record.{keeps_rules}
use Rattle.page_model.specs.Step.{operations, op_list, OpBelow, stepped}
use Rattle.page_model.specs.Table as table
use Rattle.page_model.proofs.Instructions.{purged_by_fetch}
use Rattle.page_model.proofs.Listed.{listed_instruction_purge}
use Rattle.page_model.proofs.Theorems.{ops_complete, operations_below}
use Rattle.mapping.proofs.Tests.{or_either}
use Rattle.manager.specs.Answers.{operation_on}
use Rattle.manager.specs.Refusals.{first_refusal}
use Rattle.manager.specs.Tables.{record_at}
use Rattle.manager.proofs.CauseLaws.{record_rules}
use Rattle.cache.specs.Cache as cache
use Rattle.cache.specs.Cache.{leaving}
use Rattle.cache.specs.Store as hardware
use Rattle.cache.specs.Store.{Store, tag_at, word_at}
use Rattle.cache.specs.Tag.{empty_tag, clean_tag, dirty_tag, is_dirty_tag, names}
use Rattle.cache.proofs.Laws.Access.{access_kept, access_names, access_tag_other, access_word_other, write_word_tag_other, write_word_word_other}
use Rattle.cache.proofs.Laws.Evict.{evict_tag_same, evict_tag_other, evict_words}
use Rattle.cache.proofs.Laws.Instructions.{clean_instructions, instruction_evicted, instruction_fetched, instruction_line_apart, instruction_colour_apart, instruction_page_apart}
use Rattle.cache.proofs.Laws.Operations.{flush_tag_other, flush_words, purge_tag_same, purge_tag_left, purge_tag_other, purge_words}
use Rattle.cache.proofs.Laws.Tag.{is_dirty_tag_dirty}
use Rattle.machine.specs.Parts.{Effect, steps, ends, nothing, effect_of, outcome_of, access_of}
use Rattle.machine.specs.Refusals.{causes}
use Rattle.machine.specs.State.{State, page_frame, Single, map, unmap, read, write, device_read, device_write, device_write_part, evict, begin_read, begin_write, bring_word, take_word, end_transfer, fetch}
use Rattle.machine.specs.Step.{operate_by, operate, carry_out_by, carry_out, accept}
use Rattle.machine.proofs.StepLaws.{cleared, store_clear, tables_clear, Tested, effect_tested, evict_ready}
use Rattle.machine.proofs.StoreLaws.{operate_kept}
use Rattle.demands.specs.Demands.{InstructionCache}

-- ---- a step that is no fetch orders nothing in the instruction cache

abbrev is_fetch : table.Step → Bool
is_fetch (table.read c) = false
is_fetch (table.write c) = false
is_fetch table.device_read = false
is_fetch table.device_write = false
is_fetch table.device_write_part = false
is_fetch table.begin_read = false
is_fetch table.begin_write = false
is_fetch (table.fetch c) = true

-- an operation on the data cache, or none
abbrev OnData : Op → Type 0
OnData None = Unit {0}
OnData (Flush c) = Unit {0}
OnData (Purge c) = Unit {0}
OnData (PurgeInstructions c) = ⊥

-- an operation that is the first or the second of a step's is listed
module _ (n : ℕ) (step : table.Step) (r : FrameRecord) (rules : keeps_rules n r ≡ true) (op : Op) where
  among : Memᴰ op (op_list (stepped n step r).ops.first ++ op_list (stepped n step r).ops.second) → Memᴰ op (operations n step r)
  among m = subst (λ (l : List Op). Memᴰ op l) (ops_complete n step r rules) m

  first_listed : (stepped n step r).ops.first ≡ op → Memᴰ op (op_list op) → Memᴰ op (operations n step r)
  first_listed e m = among (Memᴰ.append_left {s = op_list (stepped n step r).ops.first} (op_list (stepped n step r).ops.second) (rw e m))

  second_listed : (stepped n step r).ops.second ≡ op → Memᴰ op (op_list op) → Memᴰ op (operations n step r)
  second_listed e m = among (Memᴰ.append_right (op_list (stepped n step r).ops.first) (rw e m))

module _ (n : ℕ) (step : table.Step) (r : FrameRecord) (rules : keeps_rules n r ≡ true) (other : is_fetch step ≡ false) where
  unlisted : (c : ℕ) → Memᴰ (PurgeInstructions c) (operations n step r) → ⊥
  unlisted c m = true≢false (sym (ap is_fetch (purged_by_fetch step r c (listed_instruction_purge n step r c m))) ∙ other)

  first_on_data : (op : Op) → (stepped n step r).ops.first ≡ op → OnData op
  first_on_data None e = tt
  first_on_data (Flush c) e = tt
  first_on_data (Purge c) e = tt
  first_on_data (PurgeInstructions c) e = unlisted c (first_listed n step r rules (PurgeInstructions c) e (Memᴰ.head refl))

  second_on_data : (op : Op) → (stepped n step r).ops.second ≡ op → OnData op
  second_on_data None e = tt
  second_on_data (Flush c) e = tt
  second_on_data (Purge c) e = tt
  second_on_data (PurgeInstructions c) e = unlisted c (second_listed n step r rules (PurgeInstructions c) e (Memᴰ.head refl))

-- ---- orders

module _ (b : Board) (reg : Regular b) (f : ℕ) (hf : f < b.frames) (s : Store) (wf : hardware.WellFormedStore b s) where
  operate_tag : (op : Op) → OpBelow b.colours op → OnData op → (n : ℕ) → data_lines b ≤ n → tag_at (operate b (operation_on f op) s) n ≡ tag_at s n
  unfolding operate_by
  operate_tag None below on n h = refl
  operate_tag (Flush c) below on n h = flush_tag_other b reg leaving f c hf (data_page b reg c below) s wf n (instruction_colour_apart b reg n c h below)
  operate_tag (Purge c) below on n h = purge_tag_other b reg f c (data_page b reg c below) s wf n (instruction_colour_apart b reg n c h below)
  operate_tag (PurgeInstructions c) below on n h = absurd on

  operate_words : (op : Op) → OpBelow b.colours op → (operate b (operation_on f op) s).words ≡ s.words
  unfolding operate_by
  operate_words None below = refl
  operate_words (Flush c) below = flush_words b reg leaving f c hf (data_page b reg c below) s wf
  operate_words (Purge c) below = purge_words b reg f c (data_page b reg c below) s wf
  operate_words (PurgeInstructions c) below = purge_words b reg f (instruction_page b c) (instruction_page_lem b reg c below) s wf

abbrev Quiet : Effect → Type 0
Quiet (steps f step) = is_fetch step ≡ false
Quiet (ends f) = Unit {0}
Quiet nothing = Unit {0}

-- the store after an effect's orders
abbrev ordered : Board → State → Effect → Store
ordered b st x = carry_out b (outcome_of b st.tables.records x) st.store

module _ (b : Board) (reg : Regular b) (st : State) (wf : hardware.WellFormedStore b st.store)
    (rules : (f : ℕ) → f < b.frames → keeps_rules b.colours (record_at st.tables.records f) ≡ true) where
  ordered_tag : (x : Effect) → Tested b st.tables.records x → Quiet x → (n : ℕ) → data_lines b ≤ n → tag_at (ordered b st x) n ≡ tag_at st.store n
  unfolding carry_out_by operate_by
  ordered_tag (ends f) tested other n h = refl
  ordered_tag nothing tested other n h = refl
  ordered_tag (steps f step) tested other n h =
      let r = record_at st.tables.records f in
      let kept = rules f tested.0 in
      let below = operations_below b.colours step r in
      let ops = (stepped b.colours step r).ops in
      operate_tag b reg f tested.0 (operate b (operation_on f ops.first) st.store) (operate_kept b reg leaving f tested.0 ops.first below.1 st.store wf)
      ops.second below.2 (second_on_data b.colours step r kept other ops.second refl) n h
      ∙ operate_tag b reg f tested.0 st.store wf ops.first below.1 (first_on_data b.colours step r kept other ops.first refl) n h

  ordered_words : (x : Effect) → Tested b st.tables.records x → (ordered b st x).words ≡ st.store.words
  unfolding carry_out_by operate_by
  ordered_words (ends f) tested = refl
  ordered_words nothing tested = refl
  ordered_words (steps f step) tested =
      let r = record_at st.tables.records f in
      let below = operations_below b.colours step r in
      let ops = (stepped b.colours step r).ops in
      operate_words b reg f tested.0 (operate b (operation_on f ops.first) st.store) (operate_kept b reg leaving f tested.0 ops.first below.1 st.store wf) ops.second below.2
      ∙ operate_words b reg f tested.0 st.store wf ops.first below.1

-- ---- a fetch's orders: an instruction line is as it was, or was the frame's in the fetch's colour and is empty

abbrev Purged : Board → ℕ → ℕ → Store → Store → ℕ → Type 0
Purged b f c s t n = (tag_at t n ≡ tag_at s n) ⊎ ((line_colour b n ≡ instruction_page b c) × (names (tag_at s n) f ≡ true) × (tag_at t n ≡ empty_tag))

then_purged : (b : Board) (f c : ℕ) (s t u : Store) (n : ℕ) → Purged b f c s t n → Purged b f c t u n → Purged b f c s u n
then_purged b f c s t u n (inl e) (inl d) = inl (d ∙ e)
then_purged b f c s t u n (inl e) (inr (at, named, z)) = inr (at, ap (λ (x : ℕ). names x f) (sym e) ∙ named, z)
then_purged b f c s t u n (inr (at, named, z)) (inl d) = inr (at, named, d ∙ z)
then_purged b f c s t u n (inr (at, named, z)) (inr (_, _, w)) = inr (at, named, w)

-- an operation on the data cache, or on colour c of the instruction cache
abbrev OnColour : ℕ → Op → Type 0
OnColour c None = Unit {0}
OnColour c (Flush d) = Unit {0}
OnColour c (Purge d) = Unit {0}
OnColour c (PurgeInstructions d) = d ≡ c

module _ (b : Board) (reg : Regular b) (f : ℕ) (hf : f < b.frames) (c : ℕ) (s : Store) (wf : hardware.WellFormedStore b s) (n : ℕ) (low : data_lines b ≤ n)
    (high : n < lines b) where
  purge_instructions_lem : (d : ℕ) → d < b.colours → d ≡ c → Purged b f c s (cache.purge b f (instruction_page b d) s) n
  purge_instructions_lem d below e = go (ℕ_discrete (line_colour b n) (instruction_page b d)) (names (tag_at s n) f) refl
    where
      page : instruction_page b d < cache_pages b
      page = instruction_page_lem b reg d below

      go : Dec (line_colour b n ≡ instruction_page b d) → (t : Bool) → names (tag_at s n) f ≡ t → Purged b f c s (cache.purge b f (instruction_page b d) s) n
      go (no ne) t named = inl (purge_tag_other b reg f (instruction_page b d) page s wf n ne)
      go (yes at) false named = inl (purge_tag_left b reg f (instruction_page b d) page s wf n named)
      go (yes at) true named = inr (at ∙ ap (instruction_page b) e, named, purge_tag_same b reg f (instruction_page b d) page s wf n high at named)

  operate_purged : (op : Op) → OpBelow b.colours op → OnColour c op → Purged b f c s (operate b (operation_on f op) s) n
  unfolding operate_by
  operate_purged None below on = inl refl
  operate_purged (Flush d) below on = inl (flush_tag_other b reg leaving f d hf (data_page b reg d below) s wf n (instruction_colour_apart b reg n d low below))
  operate_purged (Purge d) below on = inl (purge_tag_other b reg f d (data_page b reg d below) s wf n (instruction_colour_apart b reg n d low below))
  operate_purged (PurgeInstructions d) below on = purge_instructions_lem d below on

module _ (n c : ℕ) (r : FrameRecord) (rules : keeps_rules n r ≡ true) where
  its_colour : (d : ℕ) → Memᴰ (PurgeInstructions d) (operations n (table.fetch c) r) → d ≡ c
  its_colour d m = sym (ap table.own_of (purged_by_fetch (table.fetch c) r d (listed_instruction_purge n (table.fetch c) r d m)))

  fetch_first : (op : Op) → (stepped n (table.fetch c) r).ops.first ≡ op → OnColour c op
  fetch_first None e = tt
  fetch_first (Flush d) e = tt
  fetch_first (Purge d) e = tt
  fetch_first (PurgeInstructions d) e = its_colour d (first_listed n (table.fetch c) r rules (PurgeInstructions d) e (Memᴰ.head refl))

  fetch_second : (op : Op) → (stepped n (table.fetch c) r).ops.second ≡ op → OnColour c op
  fetch_second None e = tt
  fetch_second (Flush d) e = tt
  fetch_second (Purge d) e = tt
  fetch_second (PurgeInstructions d) e = its_colour d (second_listed n (table.fetch c) r rules (PurgeInstructions d) e (Memᴰ.head refl))

-- ---- calls that are no fetch

abbrev NoFetch : Single → Type 0
NoFetch call = (space page offset : ℕ) → call ≢ fetch space page offset

part_other : (fewer : Bool) → is_fetch (cond fewer table.device_write_part table.device_write) ≡ false
part_other true = refl
part_other false = refl

quiet_call : (b : Board) (st : State) (call : Single) → NoFetch call → Quiet (effect_of b st call)
quiet_call b st (map space page frame rights) other = tt
quiet_call b st (unmap space page) other = tt
quiet_call b st (read space page offset) other = refl
quiet_call b st (write space page offset word) other = refl
quiet_call b st (device_read frame buffer) other = refl
quiet_call b st (device_write frame buffer) other = refl
quiet_call b st (device_write_part frame first number buffer) other = part_other (ltb number b.page)
quiet_call b st (evict line) other = tt
quiet_call b st (begin_read frame) other = refl
quiet_call b st (begin_write frame) other = refl
quiet_call b st (bring_word frame offset word) other = tt
quiet_call b st (take_word frame offset) other = tt
quiet_call b st (end_transfer frame) other = tt
quiet_call b st (fetch space page offset) other = absurd (other space page offset refl)

-- a tag that names a frame and is not dirty is that of a clean line
clean_named : (tag f : ℕ) → names tag f ≡ true → is_dirty_tag tag ≡ false → tag ≡ clean_tag f
unfolding names
clean_named tag f named clean =
    ⊎_elim (λ e. eqb-true tag (clean_tag f) e) (λ e. absurd (true≢false (sym (ap is_dirty_tag (eqb-true tag (dirty_tag f) e) ∙ is_dirty_tag_dirty f) ∙ clean))) (or_either (eqb tag (clean_tag f)) (eqb tag (dirty_tag f)) named)

-- the access, in a well-formed store
module _ (b : Board) (reg : Regular b) (st : State) where
  access_tag : (call : Single) → first_refusal (causes b st call) ≡ 0 → NoFetch call → (s : Store) → hardware.WellFormedStore b s
      → (n : ℕ) → data_lines b ≤ n → call ≢ evict n → tag_at (access_of b st call s).store n ≡ tag_at s n
  unfolding causes cache.device_write cache.bring_word
  access_tag (map space page frame rights) e other s w n h ne = refl
  access_tag (unmap space page) e other s w n h ne = refl
  access_tag (read space page offset) e other s w n h ne =
      let call = read space page offset in
      let hc = colour_of_lt b reg page in
      let ho = leb-false b.page offset (cleared b st call 6 e) in
      access_tag_other b reg _ (colour_of b page) offset (effect_tested b st call e).0 (data_page b reg _ hc) ho s w n (instruction_line_apart b reg n _ offset h hc ho)
  access_tag (write space page offset word) e other s w n h ne =
      let call = write space page offset word in
      let hc = colour_of_lt b reg page in
      let ho = leb-false b.page offset (cleared b st call 6 e) in
      write_word_tag_other b reg _ (colour_of b page) offset (effect_tested b st call e).0 (data_page b reg _ hc) ho s w word n (instruction_line_apart b reg n _ offset h hc ho)
  access_tag (device_read frame buffer) e other s w n h ne = refl
  access_tag (device_write frame buffer) e other s w n h ne = refl
  access_tag (device_write_part frame first number buffer) e other s w n h ne = refl
  access_tag (evict line) e other s w n h ne = evict_tag_other b reg s w line (evict_ready b st line e).1 n (λ q. ne (ap evict (sym q)))
  access_tag (begin_read frame) e other s w n h ne = refl
  access_tag (begin_write frame) e other s w n h ne = refl
  access_tag (bring_word frame offset word) e other s w n h ne = refl
  access_tag (take_word frame offset) e other s w n h ne = refl
  access_tag (end_transfer frame) e other s w n h ne = refl
  access_tag (fetch space page offset) e other s w n h ne = absurd (other space page offset refl)

  access_word : (call : Single) → first_refusal (causes b st call) ≡ 0 → NoFetch call → (s : Store) → hardware.WellFormedStore b s
      → (c p : ℕ) → word_at b (access_of b st call s).store (instruction_page b c) p ≡ word_at b s (instruction_page b c) p
  unfolding causes cache.device_write cache.bring_word
  access_word (map space page frame rights) e other s w c p = refl
  access_word (unmap space page) e other s w c p = refl
  access_word (read space page offset) e other s w c p =
      let call = read space page offset in
      let hc = colour_of_lt b reg page in
      let ho = leb-false b.page offset (cleared b st call 6 e) in
      access_word_other b reg _ (colour_of b page) offset (effect_tested b st call e).0 (data_page b reg _ hc) ho s w (instruction_page b c) p
      (instruction_page_apart b reg (instruction_page b c) p _ offset (omega arith) hc ho)
  access_word (write space page offset word) e other s w c p =
      let call = write space page offset word in
      let hc = colour_of_lt b reg page in
      let ho = leb-false b.page offset (cleared b st call 6 e) in
      write_word_word_other b reg _ (colour_of b page) offset (effect_tested b st call e).0 (data_page b reg _ hc) ho s w word (instruction_page b c) p
      (instruction_page_apart b reg (instruction_page b c) p _ offset (omega arith) hc ho)
  access_word (device_read frame buffer) e other s w c p = refl
  access_word (device_write frame buffer) e other s w c p = refl
  access_word (device_write_part frame first number buffer) e other s w c p = refl
  access_word (evict line) e other s w c p = ap (λ (l : List ℕ). get_or l (cache_at b (instruction_page b c) p) 0) (evict_words b reg s w line (evict_ready b st line e).1)
  access_word (begin_read frame) e other s w c p = refl
  access_word (begin_write frame) e other s w c p = refl
  access_word (bring_word frame offset word) e other s w c p = refl
  access_word (take_word frame offset) e other s w c p = refl
  access_word (end_transfer frame) e other s w c p = refl
  access_word (fetch space page offset) e other s w c p = absurd (other space page offset refl)

  -- ---- an eviction of an instruction line, and a fetch

  evict_left : (n : ℕ) → data_lines b ≤ n → first_refusal (causes b st (evict n)) ≡ 0
      → (tag_at (accept b st (evict n)).after.store n ≡ empty_tag) × ((accept b st (evict n)).after.store.memory ≡ st.store.memory)
  unfolding accept carry_out_by operate_by cache.empty
  evict_left n h e =
      let r = evict_ready b st n e in
      (evict_tag_same b reg st.store r.0 n r.1, ap (λ (t : Store). t.memory) (instruction_evicted b reg st.store r.0 n h))

  purged_left : (space page offset : ℕ) → first_refusal (causes b st (fetch space page offset)) ≡ 0 → (n : ℕ) → data_lines b ≤ n → n < lines b
      → Purged b (page_frame st space page) (colour_of b page) st.store (ordered b st (effect_of b st (fetch space page offset))) n
  unfolding carry_out_by
  purged_left space page offset e n low high =
      let call = fetch space page offset in
      let f = page_frame st space page in
      let c = colour_of b page in
      let r = record_at st.tables.records f in
      let hf = (effect_tested b st call e).0 in
      let kept = record_rules b st.tables (tables_clear b st call e) f hf in
      let below = operations_below b.colours (table.fetch c) r in
      let ops = (stepped b.colours (table.fetch c) r).ops in
      let wf = store_clear b st call e in
      then_purged b f c st.store (operate b (operation_on f ops.first) st.store) (operate b (operation_on f ops.second) (operate b (operation_on f ops.first) st.store)) n
      (operate_purged b reg f hf c st.store wf n low high ops.first below.1 (fetch_first b.colours c r kept ops.first refl))
      (operate_purged b reg f hf c (operate b (operation_on f ops.first) st.store) (operate_kept b reg leaving f hf ops.first below.1 st.store wf) n low high ops.second below.2
      (fetch_second b.colours c r kept ops.second refl))

  -- what a fetch's access leaves of the store s after its orders
  abbrev FetchLeft : ℕ → ℕ → ℕ → Store → Store → Type 0
  FetchLeft space page offset s t =
      (t.memory ≡ s.memory)
      × ((n : ℕ) → n ≢ line_of b (instruction_page b (colour_of b page)) offset → tag_at t n ≡ tag_at s n)
      × ((c p : ℕ) → line_of b c p ≢ line_of b (instruction_page b (colour_of b page)) offset → word_at b t c p ≡ word_at b s c p)
      × (tag_at t (line_of b (instruction_page b (colour_of b page)) offset) ≡ clean_tag (page_frame st space page))

  fetch_left : (space page offset : ℕ) → first_refusal (causes b st (fetch space page offset)) ≡ 0
      → hardware.WellFormedStore b (ordered b st (effect_of b st (fetch space page offset)))
      → FetchLeft space page offset (ordered b st (effect_of b st (fetch space page offset))) (accept b st (fetch space page offset)).after.store
  unfolding accept causes
  fetch_left space page offset e w =
      let call = fetch space page offset in
      let s = ordered b st (effect_of b st call) in
      let f = page_frame st space page in
      let hf = (effect_tested b st call e).0 in
      let p = instruction_page b (colour_of b page) in
      let low : b.colours ≤ p = omega arith in
      let hp = instruction_page_lem b reg _ (colour_of_lt b reg page) in
      let ho = leb-false b.page offset (cleared b st call 6 e) in (
        instruction_fetched b reg s w f p offset hf low hp ho,
        λ n ne. access_tag_other b reg f p offset hf hp ho s w n ne,
        λ c o ne. access_word_other b reg f p offset hf hp ho s w c o ne,
        clean_named (tag_at (cache.access b f p offset s) (line_of b p offset)) f (access_names b reg f p offset hf hp ho s w)
            (clean_instructions b reg (cache.access b f p offset s) (access_kept b reg f p offset hf hp ho s w) (line_of b p offset) (line_of_instruction b reg p offset low)),
      )

-- ---- all of it

pub instruction_cache_after : (b : Board) → Regular b → (st : State) (call : Single) → (e : first_refusal (causes b st call) ≡ 0)
    → hardware.WellFormedStore b (carry_out b (outcome_of b st.tables.records (effect_of b st call)) st.store)
    → InstructionCache b st call (accept b st call).after (accept b st call).answer.outcome
unfolding accept
instruction_cache_after b reg st call e w =
    let kept = store_clear b st call e in
    let rules = record_rules b st.tables (tables_clear b st call e) in
    let tested = effect_tested b st call e in
    record {
      tags_left = λ other n h ne.
          access_tag b reg st call e other (ordered b st (effect_of b st call)) w n h ne
          ∙ ordered_tag b reg st kept rules (effect_of b st call) tested (quiet_call b st call other) n h;
      words_left = λ other c p.
          access_word b reg st call e other (ordered b st (effect_of b st call)) w c p
          ∙ ap (λ (l : List ℕ). get_or l (cache_at b (instruction_page b c) p) 0) (ordered_words b reg st kept rules (effect_of b st call) tested);
      evicted = λ n h q.
          subst⁻¹ (λ (x : Single). (tag_at (accept b st x).after.store n ≡ empty_tag) × ((accept b st x).after.store.memory ≡ st.store.memory)) q
          (evict_left b reg st n h (subst (λ (x : Single). first_refusal (causes b st x) ≡ 0) q e));
      purged = λ space page offset q n low high.
          subst⁻¹ (λ (x : Single). Purged b (page_frame st space page) (colour_of b page) st.store (ordered b st (effect_of b st x)) n) q
          (purged_left b reg st space page offset (subst (λ (x : Single). first_refusal (causes b st x) ≡ 0) q e) n low high);
      fetched = λ space page offset q.
          subst⁻¹ (λ (x : Single). FetchLeft b reg st space page offset (ordered b st (effect_of b st x)) (accept b st x).after.store) q
          (fetch_left b reg st space page offset (subst (λ (x : Single). first_refusal (causes b st x) ≡ 0) q e)
          (subst (λ (x : Single). hardware.WellFormedStore b (ordered b st (effect_of b st x))) q w));
    }
