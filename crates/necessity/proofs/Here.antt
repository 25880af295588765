-- One action of a run: what holds before it holds after it with the states and the mark of its step, and lines of other pages stay.
use mathlib.Core.Path.{◌≡◌, refl, ap, subst, subst⁻¹, ◌∙◌}
use mathlib.Core.Bool.{Bool, true, false, cond, ◌&&◌}
use mathlib.Core.List.{List}
use mathlib.Core.Logic.{◌≢◌}
use mathlib.Core.Option.{Option, some}
use Prim.Native.Nat.{ℕ, ◌+◌, ◌-◌, ◌≤◌, ◌<◌}
use native.Mathlib.Omega.{arith}
use borrow.Author.Tests.{eq-eqb, ne_eqb, le-leb, lt-ltb, leb-true, ltb-true}
use lib.Dec.{eqb, leb, ltb}
use lib.ListN.{length, get_or}
use Rattle.board.specs.declared.Board.{Board}
use Rattle.board.specs.Board.{Regular, cache_pages, memory_at}
use Rattle.board.proofs.Geometry.{data_page}
use Rattle.page_model.specs.Busy.{bars, mark_after}
use Rattle.page_model.specs.Step.{is_flush, OpBelow}
use Rattle.page_model.specs.Table.{ColourState, none}
use Rattle.page_model.proofs.Theorems.{operations_below}
use Rattle.manager.specs.Tables.{record_at}
use Rattle.cache.specs.Cache.{leaving}
use Rattle.cache.specs.Store as hardware
use Rattle.cache.specs.Store.{Store, memory_word}
use Rattle.machine.specs.State.{State, Result}
use Rattle.machine.proofs.StoreLaws.{carry_out_kept}
use Rattle.consistency.specs.Cacheless.{Cacheless, sent, stored, after_accepted, use_of}
use Rattle.consistency.proofs.Invariant.{Invariant}
use Rattle.consistency.proofs.Lines.{SameLine, same_then, carry_line, carry_memory}
use Rattle.necessity.specs.Action.{Action, write, device_write, device_write_part, begin_read, step_of, InRange}
use Rattle.necessity.specs.Without.{SendsBy}
use Rattle.necessity.proofs.Acted.{change, ordered, acted, done, frames_same, accept_is, clear}
use Rattle.necessity.proofs.In.{In, made, rules, in_step}
use Rattle.necessity.proofs.Accesses.{Beside, act_line}
use Rattle.necessity.proofs.Orders.{idle_elsewhere, no_flush}
use Rattle.necessity.proofs.PageCells.{page_cell}
use Rattle.necessity.proofs.Run.{Run, one, invariant_call}

-- what holds between two calls of a run that leaves out nothing
pub record Here (b : Board) (f : ℕ) (states : ℕ → ColourState) (mark : ℕ) (st : State) (m : Cacheless) : Type 0 where
  pub tables_in : In b f states mark st.tables m
  pub inv : Invariant b st m

-- only the states of the pages of the caches count
pub here_states : (b : Board) (f : ℕ) (states others : ℕ → ColourState) (mark : ℕ) (st : State) (m : Cacheless) → ((k : ℕ) → k < cache_pages b → states k ≡ others k)
    → Here b f states mark st m → Here b f others mark st m
here_states b f states others mark st m e h =
    let i = h.tables_in in
    record {
      tables_in = record { tables_kept = i.tables_kept; mapped = i.mapped; framed = i.framed; states_are = λ k hk. i.states_are k hk ∙ e k hk; mark_is = i.mark_is };
      inv = h.inv;
    }

-- ---- the cacheless memory's words of the frame

module _ (m : Cacheless) (b : Board) (f : ℕ) where
  pub begin_word : after_accepted m (made b f begin_read) ≡ m
  unfolding after_accepted
  begin_word = refl

  module _ (c o v : ℕ) (framed : m.frame 0 c ≡ some f) where
    written_is : (p : ℕ) → (after_accepted m (made b f (write c o v))).word f p ≡ cond (eqb o p) v (m.word f p)
    unfolding after_accepted
    written_is p =
        ap (λ (x : Option ℕ). stored m.word x o v f p) framed ∙ ap (λ (t : Bool). cond (t && eqb o p) v (m.word f p)) (eq-eqb f f refl)

    pub write_word_same : (after_accepted m (made b f (write c o v))).word f o ≡ v
    write_word_same = written_is o ∙ ap (λ (t : Bool). cond t v (m.word f o)) (eq-eqb o o refl)

    pub write_word_other : (p : ℕ) → o ≢ p → (after_accepted m (made b f (write c o v))).word f p ≡ m.word f p
    write_word_other p ne = written_is p ∙ ap (λ (t : Bool). cond t v (m.word f p)) (ne_eqb o p ne)

  sent_inside : (first : ℕ) (buffer : List ℕ) (p : ℕ) → first ≤ p → p < first + length buffer → sent m.word f first buffer f p ≡ get_or buffer (p - first) 0
  sent_inside first buffer p low high =
      ap (λ (t : Bool). cond t (get_or buffer (p - first) 0) (m.word f p))
      (ap (λ (t : Bool). t && leb first p && ltb p (first + length buffer)) (eq-eqb f f refl)
      ∙ ap (λ (t : Bool). t && ltb p (first + length buffer)) (le-leb first p low)
      ∙ lt-ltb p (first + length buffer) high)

  sent_outside : (first : ℕ) (buffer : List ℕ) (p : ℕ) → (first ≤ p → p < first + length buffer → ⊥) → sent m.word f first buffer f p ≡ m.word f p
  sent_outside first buffer p out = go (eqb f f) (leb first p) (ltb p (first + length buffer)) refl refl
    where
      go : (s t u : Bool) → leb first p ≡ t → ltb p (first + length buffer) ≡ u → cond (s && t && u) (get_or buffer (p - first) 0) (m.word f p) ≡ m.word f p
      go true true true low high = absurd (out (leb-true first p low) (ltb-true p (first + length buffer) high))
      go true true false low high = refl
      go true false u low high = refl
      go false t u low high = refl

  module _ (first number : ℕ) (buffer : List ℕ) (p : ℕ) where
    pub part_inside : first ≤ p → p < first + length buffer → (after_accepted m (made b f (device_write_part first number buffer))).word f p ≡ get_or buffer (p - first) 0
    unfolding after_accepted
    part_inside = sent_inside first buffer p

    pub part_outside : (first ≤ p → p < first + length buffer → ⊥) → (after_accepted m (made b f (device_write_part first number buffer))).word f p ≡ m.word f p
    unfolding after_accepted
    part_outside = sent_outside first buffer p

  pub sent_word_lem : (buffer : List ℕ) (p : ℕ) → p < length buffer → (after_accepted m (made b f (device_write buffer))).word f p ≡ get_or buffer p 0
  unfolding after_accepted
  sent_word_lem buffer p h = sent_inside 0 buffer p (omega arith) (omega arith) ∙ ap (λ (x : ℕ). get_or buffer x 0) (omega arith)

-- ---- an action

-- with no flush among its orders memory stays
pub quiet_memory : (b : Board) (reg : Regular b) (f : ℕ) (hf : f < b.frames) (states : ℕ → ColourState) (mark : ℕ) (st : State) (m : Cacheless)
    (now : In b f states mark st.tables m) → hardware.WellFormedStore b st.store → (a : Action)
    → ((k : ℕ) → k < b.colours → is_flush (page_cell b.colours (step_of b a) k (states k)).operation ≡ false)
    → (o : ℕ) → memory_word b (ordered b st f (change b st f a).ops) f o ≡ memory_word b st.store f o
quiet_memory b reg f hf states mark st m now kept a unflushed o =
    let r = record_at st.tables.records f in
    let below = operations_below b.colours (step_of b a) r in
    let quiet =
    no_flush b.colours (step_of b a) r (rules b reg f hf states mark st.tables m now)
    (λ k hk. ap (λ (z : ColourState). is_flush (page_cell b.colours (step_of b a) k z).operation) (now.states_are k (data_page b reg k hk)) ∙ unflushed k hk) in
    ap (λ (l : List ℕ). get_or l (memory_at b f o) 0) (carry_memory b reg leaving f hf st.store kept (change b st f a).ops below.1 below.2 quiet.0 quiet.1)

module _ (b : Board) (reg : Regular b) (f : ℕ) (hf : f < b.frames) (states : ℕ → ColourState) (mark : ℕ) (st : State) (m : Cacheless)
    (now : In b f states mark st.tables m) (kept : hardware.WellFormedStore b st.store) (a : Action) (h : InRange b a) (unbarred : bars mark (step_of b a) ≡ false) where
  pub in_after : (s : Store) → In b f (λ k. (page_cell b.colours (step_of b a) k (states k)).next) (mark_after (step_of b a) mark) (acted b st f a s).after.tables (after_accepted m (made b f a))
  in_after s = in_step b reg f hf states mark st.tables m now (after_accepted m (made b f a)) (frames_same m b f a) (step_of b a) unbarred

  first_below : OpBelow b.colours (change b st f a).ops.first
  first_below = (operations_below b.colours (step_of b a) (record_at st.tables.records f)).1

  second_below : OpBelow b.colours (change b st f a).ops.second
  second_below = (operations_below b.colours (step_of b a) (record_at st.tables.records f)).2

  pub ordered_kept : hardware.WellFormedStore b (ordered b st f (change b st f a).ops)
  ordered_kept = carry_out_kept b reg leaving f hf (change b st f a).ops first_below second_below st.store kept

  -- the lines of a page whose cell has no operation stay through the orders, and through the action if it goes beside the page
  module _ (x p : ℕ) (hx : x < cache_pages b) (hp : p < b.page) (e : (page_cell b.colours (step_of b a) x (states x)).operation ≡ none) where
    pub ordered_line : SameLine b x p st.store (ordered b st f (change b st f a).ops)
    ordered_line =
        let i = idle_elsewhere b.colours (step_of b a) (record_at st.tables.records f) (rules b reg f hf states mark st.tables m now) x
        (ap (λ (z : ColourState). (page_cell b.colours (step_of b a) x z).operation) (now.states_are x hx) ∙ e) in
        carry_line b reg leaving f hf st.store kept (change b st f a).ops first_below second_below x p hp i.0 i.1

    pub done_line : Beside b x a → SameLine b x p st.store (done b st f a).store
    done_line beside =
        same_then b x p st.store (ordered b st f (change b st f a).ops) (done b st f a).store ordered_line
        (act_line b reg f hf (ordered b st f (change b st f a).ops) ordered_kept x p hp a h beside)

  -- the call of it, as a run
  pub act : SendsBy (use_of (made b f a)) → (Q : State → Cacheless → Type 0) → Q (done b st f a) (after_accepted m (made b f a)) → Run b st m Q
  act w Q q =
      one b st m Q (made b f a) w (clear b reg f hf states mark st m now kept a h unbarred)
      (subst⁻¹ (λ (r : Result). Q r.after (after_accepted m (made b f a))) (accept_is b reg f hf states mark st m now kept a h) q)

module _ (b : Board) (reg : Regular b) (f : ℕ) (hf : f < b.frames) (states : ℕ → ColourState) (mark : ℕ) (st : State) (m : Cacheless)
    (here : Here b f states mark st m) (a : Action) (h : InRange b a) (unbarred : bars mark (step_of b a) ≡ false) where
  pub here_after : Here b f (λ k. (page_cell b.colours (step_of b a) k (states k)).next) (mark_after (step_of b a) mark) (done b st f a) (after_accepted m (made b f a))
  here_after =
      record {
        tables_in = in_after b reg f hf states mark st m here.tables_in here.inv.kept a h unbarred (ordered b st f (change b st f a).ops);
        inv =
            subst (λ (r : Result). Invariant b r.after (after_accepted m (made b f a))) (accept_is b reg f hf states mark st m here.tables_in here.inv.kept a h)
            (invariant_call b st (made b f a) (clear b reg f hf states mark st m here.tables_in here.inv.kept a h unbarred) reg m here.inv);
      }
