-- An action without one of its orders: where it leaves a wrong word, and which later call finds it.
use mathlib.Core.Path.{◌≡◌, refl, sym, ap, ◌∙◌}
use mathlib.Core.Bool.{Bool, true, false, cond}
use mathlib.Core.List.{List}
use mathlib.Core.Logic.{◌≢◌}
use mathlib.Core.Option.{some}
use Prim.Native.Nat.{ℕ, ◌+◌, ◌-◌, ◌<◌}
use native.Mathlib.Omega.{arith}
use borrow.Author.Tests.{eq-eqb, eqb-true, ltb-false, not-false}
use lib.Dec.{eqb, ltb}
use lib.ListN.{get_or}
use Rattle.board.specs.declared.Board.{Board}
use Rattle.board.specs.Board.{Regular, cache_pages, line_of, memory_at}
use Rattle.board.proofs.Geometry.{data_page}
use Rattle.page_model.specs.declared.Op.{Op}
use Rattle.page_model.specs.declared.Op.TheVariants.{None, Flush, Purge, PurgeInstructions}
use Rattle.page_model.specs.Busy.{free, writing, bars, mark_after}
use Rattle.page_model.specs.Step.{OpBelow}
use Rattle.page_model.specs.Table as table
use Rattle.page_model.specs.Table.{ColourState, empty, dirty}
use Rattle.manager.specs.Tables.{record_at}
use Rattle.cache.specs.Cache as hardware
use Rattle.cache.specs.Cache.{leaving}
use Rattle.cache.specs.Store as hardware_store
use Rattle.cache.specs.Store.{Store, tag_at, word_at, memory_word}
use Rattle.cache.specs.Tag.{names}
use Rattle.cache.proofs.Laws.Access.{read_word_hit, read_word_miss}
use Rattle.cache.proofs.Laws.Loads.{read_word_load, read_word_write}
use Rattle.machine.specs.State.{State}
use Rattle.machine.specs.Step.{operate_by, carry_out_by}
use Rattle.machine.proofs.StoreLaws.{carry_out_kept}
use Rattle.consistency.specs.Cacheless.{Cacheless, after_accepted}
use Rattle.consistency.proofs.Agrees.{Tagged}
use Rattle.consistency.proofs.Invariant.{Invariant}
use Rattle.consistency.proofs.Operate.{states_left, operate_tagged}
use Rattle.consistency.proofs.Pages.{page_states}
use Rattle.consistency.proofs.Lines.{Elsewhere, NoFlush, SameLine, same_then, carry_line, carry_memory}
use Rattle.necessity.specs.Action.{Action, write, step_of, InRange}
use Rattle.necessity.proofs.Acted.{store_of, ordered, acted}
use Rattle.necessity.proofs.CellLaws.{Through, loads, writes, through_fresh, through_alone, Flushing, flushing_clean, whole_clean, whole_fresh}
use Rattle.necessity.proofs.Ends.{Later, load_found, memory_found}
use Rattle.necessity.proofs.Here.{in_after, write_word_other}
use Rattle.necessity.proofs.In.{In, made}
use Rattle.necessity.proofs.Accesses.{Beside, act_kept, act_line}
use Rattle.necessity.proofs.Loads.{LoadAt, load_steps, load_bars, load_mark, load_store, load_same}
use Rattle.necessity.proofs.Orders.{purge_of}
use Rattle.necessity.proofs.PageCells.{page_cell}
use Rattle.necessity.proofs.Turns.{Off}

-- ---- a page that is empty, or that the operation empties

pub left_empty : (n : ℕ) (op : Op) (states : ℕ → ColourState) (x : ℕ) → NoFlush op → states x ≡ empty → states_left n op states x ≡ empty
left_empty n op states x quiet e = go op quiet
  where
    either : (t : Bool) → cond t empty (states x) ≡ empty
    either true = refl
    either false = e

    go : (op : Op) → NoFlush op → states_left n op states x ≡ empty
    go None quiet = e
    go (Flush c) quiet = absurd quiet
    go (Purge c) quiet = either (eqb c x)
    go (PurgeInstructions c) quiet = either (eqb (n + c) x)

pub left_purged : (n : ℕ) (op : Op) (states : ℕ → ColourState) (x : ℕ) → op ≡ purge_of n x → states_left n op states x ≡ empty
left_purged n op states x e = ap (λ (o : Op). states_left n o states x) e ∙ go (ltb x n) refl
  where
    go : (t : Bool) → ltb x n ≡ t → states_left n (cond t (Purge x) (PurgeInstructions (x - n))) states x ≡ empty
    go true q = ap (λ (t : Bool). cond t empty (states x)) (eq-eqb x x refl)
    go false q = let past = ltb-false x n q in ap (λ (t : Bool). cond t empty (states x)) (eq-eqb (n + (x - n)) x (omega arith))

-- ---- an action of the processor at offset o through page x

pub data Processor (b : Board) (o : ℕ) : ℕ → Action → Type 0 where
  loads_at : (x : ℕ) (a : Action) → LoadAt b o x a → Processor b o x a
  writes_at : (c : ℕ) → c < b.colours → (v : ℕ) → Processor b o c (write c o v)

pub through : {b : Board} {o x : ℕ} {a : Action} → Processor b o x a → Through b.colours x (step_of b a)
through (loads_at x a l) = loads x _ (load_steps l)
through (writes_at c h v) = writes c h

-- a mark that does not bar it is not that of a device's write, and stays
pub processor_open : {b : Board} {o x : ℕ} {a : Action} → Processor b o x a → (mark : ℕ) → bars mark (step_of b a) ≡ false → eqb mark writing ≡ false
processor_open (loads_at x a l) mark e = sym (load_bars l mark) ∙ e
processor_open (writes_at c h v) mark e = ap (λ (x : ℕ). eqb x writing) (eqb-true mark free (not-false (eqb mark free) e))

processor_mark : {b : Board} {o x : ℕ} {a : Action} → Processor b o x a → (mark : ℕ) → mark_after (step_of b a) mark ≡ mark
processor_mark (loads_at x a l) mark = load_mark l mark
processor_mark (writes_at c h v) mark = refl

mark_open : {b : Board} {o x : ℕ} {a : Action} → Processor b o x a → (mark : ℕ) → bars mark (step_of b a) ≡ false → eqb (mark_after (step_of b a) mark) writing ≡ false
mark_open p mark e = ap (λ (x : ℕ). eqb x writing) (processor_mark p mark) ∙ processor_open p mark e

-- it leaves what a load finds at another offset, in its store and in the cacheless memory
module _ (b : Board) (reg : Regular b) (f : ℕ) (hf : f < b.frames) (o p : ℕ) (ho : o < b.page) (hp : p < b.page) (apart : o ≢ p) where
  finds_same : {x : ℕ} {a : Action} → Processor b o x a → x < cache_pages b → (s : Store) → hardware_store.WellFormedStore b s
      → hardware.read_word b f x p (store_of b f a s) ≡ hardware.read_word b f x p s
  finds_same (loads_at x a l) hx s wf = ap (hardware.read_word b f x p) (load_store l f s) ∙ read_word_load b reg f x p hf hx hp o ho s wf
  finds_same (writes_at c h v) hx s wf = read_word_write b reg f c p hf hx hp o ho s wf h v apart

  word_same : {x : ℕ} {a : Action} → Processor b o x a → (m : Cacheless) → m.frame 0 x ≡ some f → (after_accepted m (made b f a)).word f p ≡ m.word f p
  word_same (loads_at x a l) m framed = ap (λ (n : Cacheless). n.word f p) (load_same l f m)
  word_same (writes_at c h v) m framed = write_word_other m b f c o v framed p apart

module _ (b : Board) (reg : Regular b) (f : ℕ) (hf : f < b.frames) (states : ℕ → ColourState) (mark : ℕ) (st : State) (m : Cacheless)
    (now : In b f states mark st.tables m) (kept : hardware_store.WellFormedStore b st.store) (a : Action) (h : InRange b a) (unbarred : bars mark (step_of b a) ≡ false) (rest : Op)
    (rest_below : OpBelow b.colours rest) where
  -- the store after the order that is not left out, and the state after the access
  abbrev pub left : Store
  left = ordered b st f (record { first = rest; second = None })

  abbrev pub lacked : State
  lacked = (acted b st f a left).after

  left_kept : hardware_store.WellFormedStore b left
  left_kept = carry_out_kept b reg leaving f hf (record { first = rest; second = None }) rest_below tt st.store kept

  lacked_kept : hardware_store.WellFormedStore b lacked.store
  lacked_kept = act_kept b reg f hf left left_kept a h

  abbrev after : Cacheless
  after = after_accepted m (made b f a)

  left_line : (x p : ℕ) → p < b.page → Elsewhere b.colours x rest → SameLine b x p st.store left
  left_line x p hp e = carry_line b reg leaving f hf st.store kept (record { first = rest; second = None }) rest_below tt x p hp e tt

  left_memory : NoFlush rest → (o : ℕ) → memory_word b left f o ≡ memory_word b st.store f o
  left_memory e o =
      ap (λ (l : List ℕ). get_or l (memory_at b f o) 0) (carry_memory b reg leaving f hf st.store kept (record { first = rest; second = None }) rest_below tt e tt)

  left_tagged : Invariant b st m → Tagged b f (states_left b.colours rest (page_states b.colours (record_at st.tables.records f))) left
  unfolding carry_out_by operate_by
  left_tagged inv =
      operate_tagged b reg leaving f hf st.store kept rest rest_below (page_states b.colours (record_at st.tables.records f)) (inv.agrees f hf).tagged

  -- ---- the processor's actions

  module _ (x o p : ℕ) (hx : x < cache_pages b) (ho : o < b.page) (hp : p < b.page) (apart : o ≢ p) (acts : Processor b o x a) where
    wrong_found : hardware.read_word b f x p left ≢ m.word f p → Later b lacked after
    wrong_found w =
        load_found b reg f hf (λ k. (page_cell b.colours (step_of b a) k (states k)).next) (mark_after (step_of b a) mark) lacked after
        (in_after b reg f hf states mark st m now kept a h unbarred left) lacked_kept x p hx hp (through_fresh (through acts) (states x)) (λ k. through_alone (through acts) (states k) k)
        (mark_open acts mark unbarred)
        (λ e. w (sym (finds_same b reg f hf o p ho hp apart acts hx left left_kept) ∙ e ∙ word_same b reg f hf o p ho hp apart acts m (now.framed x hx)))

    -- the purge of its page is left out, where a line's word is wrong
    pub purge_lacked : Elsewhere b.colours x rest → Off b f x p st.store m → Later b lacked after
    purge_lacked e off =
        let line = left_line x p hp e in
        wrong_found (λ q.
        off.wrong (sym line.word ∙ sym (read_word_hit b reg f x p hf hx hp left left_kept (ap (λ (t : ℕ). names t f) line.tag ∙ off.named)) ∙ q))

    -- the flush of another is left out, where memory's word is wrong and its own page is empty then
    pub flush_lacked : Invariant b st m → NoFlush rest → states_left b.colours rest (page_states b.colours (record_at st.tables.records f)) x ≡ empty
        → memory_word b st.store f p ≢ m.word f p → Later b lacked after
    flush_lacked inv quiet emptied off =
        wrong_found (λ q. off (sym (left_memory quiet p) ∙ sym (read_word_miss b reg f x p hf hx hp left left_kept (miss (names (tag_at left (line_of b x p)) f) refl)) ∙ q))
      where
        miss : (t : Bool) → names (tag_at left (line_of b x p)) f ≡ t → names (tag_at left (line_of b x p)) f ≡ false
        miss true e = absurd ((left_tagged inv).occupied x p hx hp e emptied)
        miss false e = e

  -- ---- transfers

  -- the flush of the dirty colour is left out, where memory's word is wrong at an offset that is not sent
  pub transfer_lacked : Flushing (step_of b a) → NoFlush rest → (o : ℕ) → o < b.page → ((s : Store) → hardware_store.WellFormedStore b s → memory_word b (store_of b f a s) f o ≡ memory_word b s f o)
      → after.word f o ≡ m.word f o
      → memory_word b st.store f o ≢ m.word f o → Later b lacked after
  transfer_lacked flushing quiet o ho same_memory same_word off =
      memory_found b reg f hf (λ k. (page_cell b.colours (step_of b a) k (states k)).next) (λ k hk. flushing_clean flushing b.colours k (states k)) o ho (mark_after (step_of b a) mark) lacked after
      (in_after b reg f hf states mark st m now kept a h unbarred left) lacked_kept
      (λ e. off (sym (left_memory quiet o) ∙ sym (same_memory left left_kept) ∙ e ∙ same_word))

  -- the purge of the dirty colour is left out, whose line holds another word than is sent
  pub whole_lacked : step_of b a ≡ table.device_write → mark ≡ 0 → (d p : ℕ) → d < b.colours → p < b.page → Beside b d a → states d ≡ dirty → Elsewhere b.colours d rest
      → names (tag_at st.store (line_of b d p)) f ≡ true
      → word_at b st.store d p ≢ after.word f p
      → Later b lacked after
  whole_lacked step unmarked d p hd hp beside dirties e named off =
      let line = same_then b d p st.store left lacked.store (left_line d p hp e) (act_line b reg f hf left left_kept d p hp a h beside) in
      load_found b reg f hf (λ k. (page_cell b.colours (step_of b a) k (states k)).next) (mark_after (step_of b a) mark) lacked after
      (in_after b reg f hf states mark st m now kept a h unbarred left) lacked_kept d p (data_page b reg d hd) hp
      (λ q. whole_fresh b.colours d (states d) hd dirties (sym (ap (λ (s : table.Step). (page_cell b.colours s d (states d)).next) step) ∙ q))
      (λ k ne q. whole_clean b.colours k (states k) (sym (ap (λ (s : table.Step). (page_cell b.colours s k (states k)).next) step) ∙ q))
      (ap (λ (s : table.Step). eqb (mark_after s mark) writing) step ∙ ap (λ (x : ℕ). eqb x writing) unmarked)
      (λ q. off (sym line.word ∙ sym (read_word_hit b reg f d p hf (data_page b reg d hd) hp lacked.store lacked_kept (ap (λ (t : ℕ). names t f) line.tag ∙ named)) ∙ q))
