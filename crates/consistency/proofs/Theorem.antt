-- Demand 3: every call finds its words and keeps the invariant, so every list of calls does, by either flush.
use mathlib.Core.Path.{◌≡◌, sym, ap, subst, subst⁻¹, ◌∙◌}
use mathlib.Core.Bool.{Bool, false, not, true≢false}
use mathlib.Core.List.{List, [], ◌∷◌}
use Prim.Native.Nat.{ℕ, zero, suc, ◌≤◌, ◌<◌}
use native.Mathlib.Omega.{arith}
use lib.Dec.{eqb}
use lib.ListN.{length, get_or}
use Rattle.board.specs.declared.Board.{Board}
use Rattle.board.specs.Board.{Regular, data_lines, lines}
use Rattle.mapping.specs.declared.Mapping.{Mapping}
use Rattle.manager.specs.Batch.{item_at}
use Rattle.manager.specs.Refusals.{first_refusal}
use Rattle.manager.specs.Tables.{tabulate}
use Rattle.manager.proofs.Laws.{get_d_tabulate}
use Rattle.machine.specs.Call.{map_of, after_items, item_answer, perform}
use Rattle.machine.specs.Refusals.{causes}
use Rattle.machine.specs.State.{State, Single, map, unmap, read, write, device_read, device_write, device_write_part, evict, begin_read, begin_write, bring_word, take_word, end_transfer, fetch, Call, single, map_all, Result}
use Rattle.machine.specs.Step.{accept, step}
use Rattle.machine.proofs.CallLaws.{perform_cases, accept_accepted, refused_number}
use Rattle.cache.specs.Cache.{FlushKind, leaving}
use Rattle.consistency.specs.Cacheless.{Cacheless, start_cacheless, after_single, items_taken, is_refused, fed}
use Rattle.consistency.specs.Demand3.{start_state, Finds, Machine, AllFind, state_after, cacheless_after, evictions, Occurs, NoneRefused, MemoryIs, Holds, Demand3Of, Demand3}
use Rattle.consistency.specs.Flushes.{accept_by, step_by, perform_by, EitherFlush}
use Rattle.consistency.proofs.Device.{device_read_taken, device_write_taken, device_write_part_taken}
use Rattle.consistency.proofs.Evict.{evict_taken}
use Rattle.consistency.proofs.Flushes.{single_cases, performed_here, this_machine}
use Rattle.consistency.proofs.Invariant.{Invariant, Taken}
use Rattle.consistency.proofs.Map.{map_taken, unmap_taken}
use Rattle.consistency.proofs.Processor.{read_taken, write_taken, fetch_taken}
use Rattle.consistency.proofs.Begun.{begin_read_taken, begin_write_taken, bring_word_taken, take_word_taken, end_transfer_taken}
use Rattle.consistency.proofs.Start.{start_invariant}
use Rattle.consistency.proofs.Evicted.{all_evicted}

module _ (b : Board) (reg : Regular b) where
  -- ---- a call

  taken : (how : FlushKind) (st : State) (m : Cacheless) → Invariant b st m → (call : Single) → first_refusal (causes b st call) ≡ 0 → Taken b how st m call
  taken how st m inv (map space page frame rights) = map_taken b st m inv how space page frame rights
  taken how st m inv (unmap space page) = unmap_taken b st m inv how space page
  taken how st m inv (read space page offset) = read_taken b reg how st m inv space page offset
  taken how st m inv (write space page offset word) = write_taken b reg how st m inv space page offset word
  taken how st m inv (device_read frame buffer) = device_read_taken b reg how st m inv frame buffer
  taken how st m inv (device_write frame buffer) = device_write_taken b reg how st m inv frame buffer
  taken how st m inv (device_write_part frame first number buffer) = device_write_part_taken b reg how st m inv frame first number buffer
  taken how st m inv (evict line) = evict_taken b reg st m inv line how
  taken how st m inv (begin_read frame) = begin_read_taken b reg how st m inv frame
  taken how st m inv (begin_write frame) = begin_write_taken b reg how st m inv frame
  taken how st m inv (bring_word frame offset word) = bring_word_taken b reg how st m inv frame offset word
  taken how st m inv (take_word frame offset) = take_word_taken b reg how st m inv frame offset
  taken how st m inv (end_transfer frame) = end_transfer_taken b reg how st m inv frame
  taken how st m inv (fetch space page offset) = fetch_taken b reg how st m inv space page offset

  -- an accepted call finds its words, and every call keeps the invariant
  abbrev Serves : Cacheless → Call → Result → Type 0
  Serves m call r = (is_refused r.answer ≡ false → Finds b m call r.answer) × Invariant b r.after (fed m call r.answer)

  serves_single : (how : FlushKind) (st : State) (m : Cacheless) → Invariant b st m → (call : Single) → Serves m (single call) (step_by b how st call)
  unfolding accept_by accept
  serves_single how st m inv call =
      single_cases b how st call (Serves m (single call))
      (λ e. let t = taken how st m inv call e in (λ _. t.0, subst⁻¹ (λ (x : Bool). Invariant b (accept_by b how st call).after (after_single m call x)) (accept_accepted b st (single call)) t.1))
      (λ n _. (λ e. absurd (true≢false e), inv))

  serves_here : (st : State) (m : Cacheless) → Invariant b st m → (call : Single) → Serves m (single call) (perform b st (single call))
  unfolding step_by accept_by perform step accept
  serves_here st m inv call = serves_single leaving st m inv call

  -- ---- a list of mappings

  module _ (st : State) (m : Cacheless) (inv : Invariant b st m) (items : List Mapping) where
    abbrev answered : ℕ → Bool
    answered k = not (eqb (get_or (tabulate (length items) (item_answer b st items)) k 0) 0)

    -- an item was refused exactly if its answer says so
    item_refused_lem : (k : ℕ) → suc k ≤ length items → is_refused (step b (after_items b st items k) (map_of (item_at items k))).answer ≡ answered k
    unfolding item_answer
    item_refused_lem k h =
        refused_number b (after_items b st items k) (map_of (item_at items k)) ∙ ap (λ (n : ℕ). not (eqb n 0)) (sym (get_d_tabulate (length items) (item_answer b st items) k h))

    -- each keeps the invariant
    items_kept : (k : ℕ) → k ≤ length items → Invariant b (after_items b st items k) (items_taken m items answered k)
    unfolding after_items perform
    items_kept zero h = inv
    items_kept (suc k) h =
        subst (λ (x : Bool). Invariant b (after_items b st items (suc k)) (after_single (items_taken m items answered k) (map_of (item_at items k)) x)) (item_refused_lem k h)
        (serves_here (after_items b st items k) (items_taken m items answered k) (items_kept k (omega arith)) (map_of (item_at items k))).1

  serves_by : (how : FlushKind) (st : State) (m : Cacheless) → Invariant b st m → (call : Call) → Serves m call (perform_by b how st call)
  unfolding perform_by
  serves_by how st m inv (single call) = serves_single how st m inv call
  serves_by how st m inv (map_all items answers) =
      perform_cases b st (map_all items answers) (Serves m (map_all items answers)) (λ _. (λ _. tt, items_kept st m inv items (length items) (omega arith)))
      (λ n _. (λ e. absurd (true≢false e), inv))

  -- ---- a list of calls

  module _ (how : FlushKind) where
    abbrev made : Machine
    made = perform_by b how

    all_find : (st : State) (m : Cacheless) → Invariant b st m → (calls : List Call) → AllFind b made st m calls
    all_find st m inv [] = tt
    all_find st m inv (call ∷ calls) =
        let s = serves_by how st m inv call in (s.0, all_find (made st call).after (fed m call (made st call).answer) s.1 calls)

    invariant_after : (st : State) (m : Cacheless) → Invariant b st m → (calls : List Call) → Invariant b (state_after made st calls) (cacheless_after made st m calls)
    invariant_after st m inv [] = inv
    invariant_after st m inv (call ∷ calls) =
        invariant_after (made st call).after (fed m call (made st call).answer) (serves_by how st m inv call).1 calls

    holds : (st : State) (m : Cacheless) → Invariant b st m → (calls : List Call) → Holds b made st m calls
    holds st m inv calls =
        record {
          finds = all_find st m inv calls;
          evicted = all_evicted b reg how (cacheless_after made st m calls) (state_after made st calls) (invariant_after st m inv calls);
        }

  -- ---- of this board's machine, for lists with looks among the calls

  pub serves : (st : State) (m : Cacheless) → Invariant b st m → (call : Call) → Serves m call (perform b st call)
  serves st m inv call = subst (Serves m call) (performed_here b st call) (serves_by leaving st m inv call)

  pub evicted_here : (m : Cacheless) (st : State) → Invariant b st m → (ns : List ℕ) → ((n : ℕ) → Occurs n ns → n < lines b) → ((n : ℕ) → n < data_lines b → Occurs n ns)
      → NoneRefused (perform b) st (evictions ns) × MemoryIs b m (state_after (perform b) st (evictions ns))
  evicted_here m st inv ns h every =
      subst (λ (machine : Machine). NoneRefused machine st (evictions ns) × MemoryIs b m (state_after machine st (evictions ns))) (this_machine b)
      (all_evicted b reg leaving m st inv ns h every)

pub either_flush : (b : Board) → Regular b → EitherFlush b
either_flush b reg how memory words protections calls full wide long =
    holds b reg how (start_state b memory words protections) (start_cacheless b memory) (start_invariant b reg memory words protections full wide long) calls

pub demand3 : (b : Board) → Regular b → Demand3 b
demand3 b reg = subst (Demand3Of b) (this_machine b) (either_flush b reg leaving)
