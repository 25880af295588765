-- The tables are exactly right: a record that has one colour in a cell's state and all others empty has that cell's order, and it is needed there.
use mathlib.Core.Path.{◌≡◌, refl, sym, ap, ◌∙◌}
use mathlib.Core.Bool.{Bool, true, false, cond, false≢true}
use mathlib.Core.List.Memᴰ
use mathlib.Core.List.{List, [], ◌∷◌, Memᴰ}
use mathlib.Core.Logic.{⊎_elim}
use Prim.Native.Nat.{ℕ, suc, ◌≤◌, ◌<◌}
use native.Mathlib.Omega.{arith}
use borrow.Author.Tests.{eq-eqb, eqb-true}
use lib.Dec.{eqb}
use lib.ListN.{length, get_or}
use Rattle.board.specs.declared.Board.{Board}
use Rattle.board.specs.Board.{Regular, memory_words, cache_words}
use Rattle.page_model.specs.declared.FrameRecord.{FrameRecord}
use Rattle.page_model.specs.declared.Op.{Op}
use Rattle.page_model.specs.declared.Op.TheVariants.{None, Flush, Purge, PurgeInstructions}
use Rattle.page_model.specs.Busy.{free, bars}
use Rattle.page_model.specs.Instructions.{InstructionState, unfetched, instruction_cell_at}
use Rattle.page_model.specs.Record.{state_of, instruction_state_of, keeps_rules, encode, is_held, is_dirty, is_fetched}
use Rattle.page_model.specs.Step.{is_flush, is_purge, cell_of, instruction_cell_of, operations}
use Rattle.page_model.specs.Table as table
use Rattle.page_model.specs.Table.{ColourState, empty, flush, purge, cell_at}
use Rattle.page_model.specs.Theorems.{OneDirty}
use Rattle.page_model.proofs.Listed.{flush_listed, purge_listed, instruction_purge_listed}
use Rattle.page_model.proofs.Theorems.{decode_encode}
use Rattle.mapping.specs.Entry.{capacity}
use Rattle.consistency.specs.Cacheless.{start_cacheless}
use Rattle.consistency.specs.Demand3.{start_state}
use Rattle.consistency.proofs.Theorem.{demand3}
use Rattle.necessity.specs.Action.{Action, step_of, InRange}
use Rattle.necessity.specs.Necessity.{CellNeeded, EachCell, TablesExact}
use Rattle.necessity.proofs.Every.{every_order}
use Rattle.necessity.proofs.Theorem.{no_order_without_need}

-- ---- one colour in a state, and the others empty

abbrev alone {ℓ} : {A : Type ℓ} → ℕ → A → A → ℕ → A
alone k z other i = cond (eqb k i) z other

alone_here : {A : Type 0} (k : ℕ) (z other : A) → alone k z other k ≡ z
alone_here k z other = ap (λ (t : Bool). cond t z other) (eq-eqb k k refl)

-- a colour of which a test holds that fails of the others' value is this one
alone_at : {A : Type 0} (test : A → Bool) (k : ℕ) (z other : A) (i : ℕ) → test other ≡ false → test (alone k z other i) ≡ true → k ≡ i
alone_at test k z other i no_other e = go (eqb k i) refl e
  where
    go : (t : Bool) → eqb k i ≡ t → test (cond t z other) ≡ true → k ≡ i
    go true q h = eqb-true k i q
    go false q h = absurd (false≢true (sym no_other ∙ h))

-- a step of a free frame is not barred
free_unbarred : (s : table.Step) → bars free s ≡ false
free_unbarred (table.read c) = refl
free_unbarred (table.write c) = refl
free_unbarred table.device_read = refl
free_unbarred table.device_write = refl
free_unbarred table.device_write_part = refl
free_unbarred table.begin_read = refl
free_unbarred table.begin_write = refl
free_unbarred (table.fetch c) = refl

-- the place of a listed operation
place_of : (op : Op) (ops : List Op) → Memᴰ op ops → (j : ℕ) × (j < length ops) × (get_or ops j None ≡ op)
place_of op [] m = absurd (Memᴰ.not-nil m)
place_of op (a ∷ ops) m =
    ⊎_elim (λ e. (0, omega arith, sym e)) (λ i. let p = place_of op ops i in (suc p.0, omega arith, p.2)) (Memᴰ.cases_cons m)

-- the record of a free frame with these states
module _ (n : ℕ) (states : ℕ → ColourState) (instructions : ℕ → InstructionState) (one : OneDirty n states)
    (beside : (j k : ℕ) → j < n → k < n → is_fetched (instructions j) ≡ true → is_dirty (states k) ≡ false) where
  abbrev free_record : FrameRecord
  free_record = encode n free states instructions

  free_record_rules : keeps_rules n free_record ≡ true
  free_record_rules =
      (decode_encode n free states instructions one).0
      (record {
        is_mark = omega arith;
        none_dirty = λ e. absurd (omega arith);
        none_held = λ e. absurd (omega arith);
        none_fetched = λ e. absurd (omega arith);
        beside_fetched = beside;
      })

  free_record_state : (k : ℕ) → k < n → state_of free_record k ≡ states k
  free_record_state = (decode_encode n free states instructions one).1

  free_record_instruction : (k : ℕ) → k < n → instruction_state_of free_record k ≡ instructions k
  free_record_instruction = (decode_encode n free states instructions one).2

  free_record_free : free_record.busy ≡ free
  unfolding encode
  free_record_free = refl

-- ---- its order is needed

module _ (b : Board) (reg : Regular b) (two : 2 ≤ b.page) (memory words protections : List ℕ) (full : length memory ≡ memory_words b) (wide : length words ≡ cache_words b)
    (long : length protections ≡ capacity) (f : ℕ) (hf : f < b.frames) (a : Action) (h : InRange b a) where
  abbrev CellOn : Op → (FrameRecord → Type 0) → Type 0
  CellOn = CellNeeded b (start_state b memory words protections) (start_cacheless b memory) f a

  cell_needed : (op : Op) (P : FrameRecord → Type 0) (r : FrameRecord) → keeps_rules b.colours r ≡ true → r.busy ≡ free → P r → Memᴰ op (operations b.colours (step_of b a) r)
      → CellOn op P
  cell_needed op P r rules idle here m =
      let p = place_of op (operations b.colours (step_of b a) r) m in
      record {
        on = r;
        rules = rules;
        in_state = here;
        place = p.0;
        ordered = p.2;
        needed =
            no_order_without_need b reg two memory words protections full wide long f r a p.0 hf rules h
            (ap (λ (mark : ℕ). bars mark (step_of b a)) idle ∙ free_unbarred (step_of b a)) p.1;
      }

  module _ (k : ℕ) (hk : k < b.colours) where
    -- of a colour's cell
    module _ (z : ColourState) where
      one : OneDirty b.colours (alone k z empty)
      one i j hi hj e held = sym (alone_at is_dirty k z empty i refl (ap is_dirty e)) ∙ alone_at is_held k z empty j refl held

      beside : (i j : ℕ) → i < b.colours → j < b.colours → is_fetched unfetched ≡ true → is_dirty (alone k z empty j) ≡ false
      beside i j hi hj e = absurd (false≢true e)

      abbrev on : FrameRecord
      on = free_record b.colours (alone k z empty) (λ i. unfetched) one beside

      state_on : state_of on k ≡ z
      state_on = free_record_state b.colours (alone k z empty) (λ i. unfetched) one beside k hk ∙ alone_here k z empty

      data_needed : (op : Op) → Memᴰ op (operations b.colours (step_of b a) on) → CellOn op (λ r. state_of r k ≡ z)
      data_needed op m =
          cell_needed op (λ r. state_of r k ≡ z) on (free_record_rules b.colours (alone k z empty) (λ i. unfetched) one beside)
          (free_record_free b.colours (alone k z empty) (λ i. unfetched) one beside) state_on m

      flush_needed : (cell_at (step_of b a) k z).operation ≡ flush → CellOn (Flush k) (λ r. state_of r k ≡ z)
      unfolding cell_of
      flush_needed e =
          data_needed (Flush k) (flush_listed b.colours (step_of b a) on k hk (ap (λ (s : ColourState). is_flush (cell_at (step_of b a) k s).operation) state_on ∙ ap is_flush e))

      purge_needed : (cell_at (step_of b a) k z).operation ≡ purge → CellOn (Purge k) (λ r. state_of r k ≡ z)
      unfolding cell_of
      purge_needed e =
          data_needed (Purge k) (purge_listed b.colours (step_of b a) on k hk (ap (λ (s : ColourState). is_purge (cell_at (step_of b a) k s).operation) state_on ∙ ap is_purge e))

    -- and of an instruction colour's
    module _ (z : InstructionState) where
      none_dirty : OneDirty b.colours (λ i. empty)
      none_dirty i j hi hj e held = absurd (false≢true held)

      abbrev on_instructions : FrameRecord
      on_instructions = free_record b.colours (λ i. empty) (alone k z unfetched) none_dirty (λ i j hi hj e. refl)

      instruction_on : instruction_state_of on_instructions k ≡ z
      instruction_on = free_record_instruction b.colours (λ i. empty) (alone k z unfetched) none_dirty (λ i j hi hj e. refl) k hk ∙ alone_here k z unfetched

      instruction_needed : (instruction_cell_at (step_of b a) k z).operation ≡ purge → CellOn (PurgeInstructions k) (λ r. instruction_state_of r k ≡ z)
      unfolding instruction_cell_of
      instruction_needed e =
          cell_needed (PurgeInstructions k) (λ r. instruction_state_of r k ≡ z) on_instructions
          (free_record_rules b.colours (λ i. empty) (alone k z unfetched) none_dirty (λ i j hi hj e. refl))
          (free_record_free b.colours (λ i. empty) (alone k z unfetched) none_dirty (λ i j hi hj e. refl)) instruction_on
          (instruction_purge_listed b.colours (step_of b a) on_instructions k hk
          (ap (λ (s : InstructionState). is_purge (instruction_cell_at (step_of b a) k s).operation) instruction_on ∙ ap is_purge e))

pub each_cell : (b : Board) → Regular b → 2 ≤ b.page → EachCell b
each_cell b reg two memory words protections full wide long f a k hf h hk = (
  flush_needed b reg two memory words protections full wide long f hf a h k hk,
  purge_needed b reg two memory words protections full wide long f hf a h k hk,
  instruction_needed b reg two memory words protections full wide long f hf a h k hk,
)

pub tables_exact : TablesExact
tables_exact b reg two = record { enough = demand3 b reg; needed = no_order_without_need b reg two; every_order = every_order b reg two; each_cell = each_cell b reg two }
