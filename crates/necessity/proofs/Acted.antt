-- What an accepted action answers and leaves, with all its orders and without one.
use mathlib.Core.Path.{◌≡◌, refl, ap, ap₂, ◌∙◌}
use mathlib.Core.Bool.{false}
use mathlib.Core.List.{List, []}
use mathlib.Core.Option.{Option, none, some}
use Prim.Native.Nat.{ℕ, ◌<◌}
use Rattle.board.specs.declared.Board.{Board}
use Rattle.board.specs.Board.{Regular, instruction_page}
use Rattle.board.proofs.Geometry.{data_page, instruction_page_lem, colour_of_data, colour_of_instruction}
use Rattle.page_model.specs.declared.Stepped.{Stepped}
use Rattle.page_model.specs.declared.Ops.{Ops}
use Rattle.page_model.specs.Busy.{bars}
use Rattle.page_model.specs.Step.{stepped}
use Rattle.page_model.specs.Table as table
use Rattle.page_model.specs.Table.{ColourState}
use Rattle.mapping.specs.declared.MappingList.{MappingList}
use Rattle.manager.specs.Answers.{accepted}
use Rattle.manager.specs.Calls.{commit_change}
use Rattle.manager.specs.Refusals.{first_refusal}
use Rattle.manager.specs.Tables.{tables, record_at, refill}
use Rattle.cache.specs.Cache as hardware
use Rattle.cache.specs.Store as hardware_store
use Rattle.cache.specs.Store.{Store}
use Rattle.machine.specs.Parts.{steps, effect_of, outcome_of, records_after, list_after, accessed, access_of}
use Rattle.machine.specs.Refusals.{causes}
use Rattle.machine.specs.State.{State, state, page_frame, Result}
use Rattle.machine.specs.Step.{answer, result_of, carry_out, orders_of, accept_after, accept}
use Rattle.consistency.specs.Cacheless.{Cacheless, after_accepted}
use Rattle.necessity.specs.Action.{Action, read, fetch, write, device_read, device_write, device_write_part, begin_read, begin_write, step_of, InRange}
use Rattle.necessity.specs.Without.{leave_out, lacking, without_order}
use Rattle.necessity.proofs.Run.{without_accepted}
use Rattle.necessity.proofs.In.{In, made, page_frame_lem, accepts}

-- ---- an action's access, in the store after its orders

abbrev pub word_of : Board → ℕ → Action → Store → Option ℕ
word_of b f (read c o) s = some (hardware.read_word b f c o s)
word_of b f (fetch c o) s = some (hardware.read_word b f (instruction_page b c) o s)
word_of b f (write c o v) s = none
word_of b f (device_read buffer) s = none
word_of b f (device_write buffer) s = none
word_of b f (device_write_part first number buffer) s = none
word_of b f begin_read s = none
word_of b f begin_write s = none

abbrev pub buffer_of : Board → ℕ → Action → Store → List ℕ
buffer_of b f (read c o) s = []
buffer_of b f (fetch c o) s = []
buffer_of b f (write c o v) s = []
buffer_of b f (device_read buffer) s = hardware.device_read b f s
buffer_of b f (device_write buffer) s = []
buffer_of b f (device_write_part first number buffer) s = []
buffer_of b f begin_read s = []
buffer_of b f begin_write s = []

abbrev pub store_of : Board → ℕ → Action → Store → Store
store_of b f (read c o) s = hardware.access b f c o s
store_of b f (fetch c o) s = hardware.access b f (instruction_page b c) o s
store_of b f (write c o v) s = hardware.write_word b f c o v s
store_of b f (device_read buffer) s = s
store_of b f (device_write buffer) s = hardware.device_write b f 0 buffer s
store_of b f (device_write_part first number buffer) s = hardware.device_write b f first buffer s
store_of b f begin_read s = s
store_of b f begin_write s = s

-- the frame's step with its orders, and the store after some orders on the frame
abbrev pub change : Board → State → ℕ → Action → Stepped
change b st f a = stepped b.colours (step_of b a) (record_at st.tables.records f)

abbrev pub ordered : Board → State → ℕ → Ops → Store
ordered b st f ops = carry_out b (accepted f ops) st.store

-- the result of an action whose access is made in store s, and the state after it with all its orders
abbrev pub acted : Board → State → ℕ → Action → Store → Result
acted b st f a s =
    result_of (answer (accepted f (change b st f a).ops) (word_of b f a s) (buffer_of b f a s))
    (state (commit_change b st.tables f (change b st f a).next) (store_of b f a s))

abbrev pub done : Board → State → ℕ → Action → State
done b st f a = (acted b st f a (ordered b st f (change b st f a).ops)).after

-- it changes no frame of a page in the cacheless memory, and not the list
pub frames_same : (m : Cacheless) (b : Board) (f : ℕ) (a : Action) → (after_accepted m (made b f a)).frame ≡ m.frame
unfolding after_accepted
frames_same m b f (read c o) = refl
frames_same m b f (fetch c o) = refl
frames_same m b f (write c o v) = refl
frames_same m b f (device_read buffer) = refl
frames_same m b f (device_write buffer) = refl
frames_same m b f (device_write_part first number buffer) = refl
frames_same m b f begin_read = refl
frames_same m b f begin_write = refl

list_same : (l : MappingList) (b : Board) (f : ℕ) (a : Action) → list_after l (made b f a) ≡ l
list_same l b f (read c o) = refl
list_same l b f (fetch c o) = refl
list_same l b f (write c o v) = refl
list_same l b f (device_read buffer) = refl
list_same l b f (device_write buffer) = refl
list_same l b f (device_write_part first number buffer) = refl
list_same l b f begin_read = refl
list_same l b f begin_write = refl

module _ (b : Board) (reg : Regular b) (f : ℕ) (hf : f < b.frames) (states : ℕ → ColourState) (mark : ℕ) (st : State) (m : Cacheless)
    (now : In b f states mark st.tables m) (kept : hardware_store.WellFormedStore b st.store) where
  frame_is : (k : ℕ) → k < b.colours → page_frame st 0 k ≡ f
  frame_is k h = page_frame_lem b reg f hf states mark st m now kept k (data_page b reg k h)

  instruction_frame_is : (c : ℕ) → c < b.colours → page_frame st 0 (instruction_page b c) ≡ f
  instruction_frame_is c h = page_frame_lem b reg f hf states mark st m now kept (instruction_page b c) (instruction_page_lem b reg c h)

  pub effect_is : (a : Action) → InRange b a → effect_of b st (made b f a) ≡ steps f (step_of b a)
  effect_is (read c o) h = ap₂ (λ (g d : ℕ). steps g (table.read d)) (frame_is c h.0) (colour_of_data b reg c h.0)
  effect_is (fetch c o) h = ap₂ (λ (g d : ℕ). steps g (table.fetch d)) (instruction_frame_is c h.0) (colour_of_instruction b reg c h.0)
  effect_is (write c o v) h = ap₂ (λ (g d : ℕ). steps g (table.write d)) (frame_is c h.0) (colour_of_data b reg c h.0)
  effect_is (device_read buffer) h = refl
  effect_is (device_write buffer) h = refl
  effect_is (device_write_part first number buffer) h = refl
  effect_is begin_read h = refl
  effect_is begin_write h = refl

  access_is : (a : Action) → InRange b a → (s : Store) → access_of b st (made b f a) s ≡ accessed (word_of b f a s) (buffer_of b f a s) (store_of b f a s)
  access_is (read c o) h s = ap₂ (λ (g d : ℕ). accessed (some (hardware.read_word b g d o s)) [] (hardware.access b g d o s)) (frame_is c h.0) (colour_of_data b reg c h.0)
  access_is (fetch c o) h s =
      ap₂ (λ (g d : ℕ). accessed (some (hardware.read_word b g (instruction_page b d) o s)) [] (hardware.access b g (instruction_page b d) o s)) (instruction_frame_is c h.0)
      (colour_of_instruction b reg c h.0)
  access_is (write c o v) h s = ap₂ (λ (g d : ℕ). accessed none [] (hardware.write_word b g d o v s)) (frame_is c h.0) (colour_of_data b reg c h.0)
  access_is (device_read buffer) h s = refl
  access_is (device_write buffer) h s = refl
  access_is (device_write_part first number buffer) h s = refl
  access_is begin_read h s = refl
  access_is begin_write h s = refl

  module _ (a : Action) (h : InRange b a) where
    -- where the access is made in store s
    pub after_is : (s : Store) → accept_after b st (made b f a) s ≡ acted b st f a s
    after_is s =
        let e = effect_is a h in
        let l = list_same st.tables.list b f a in
        let x = access_is a h s in
        λ i.
        result_of (answer (outcome_of b st.tables.records (e i)) (x i).word (x i).buffer)
        (state (refill b (tables (l i) (records_after b st.tables.records (e i)) st.tables.protections)) (x i).store)

    orders_are : orders_of b st (made b f a) ≡ accepted f (change b st f a).ops
    orders_are = ap (outcome_of b st.tables.records) (effect_is a h)

    pub accept_is : accept b st (made b f a) ≡ acted b st f a (ordered b st f (change b st f a).ops)
    unfolding accept
    accept_is = ap (λ o. accept_after b st (made b f a) (carry_out b o st.store)) orders_are ∙ after_is (ordered b st f (change b st f a).ops)

    module _ (unbarred : bars mark (step_of b a) ≡ false) where
      -- it is accepted
      pub clear : first_refusal (causes b st (made b f a)) ≡ 0
      clear = accepts b reg f hf states mark st m now kept a h unbarred

      pub without_is : (j : ℕ) → without_order b j st (made b f a) ≡ acted b st f a (ordered b st f (leave_out j (change b st f a).ops))
      without_is j =
          without_accepted b st (made b f a) clear j
          ∙ ap (λ o. accept_after b st (made b f a) (carry_out b (lacking j o) st.store)) orders_are
          ∙ after_is (ordered b st f (leave_out j (change b st f a).ops))
