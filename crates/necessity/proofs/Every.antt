-- No order is left out of the claim: every accepted call that has one is an action of the claim, on a record that keeps the rules.
use mathlib.Core.Path.{◌≡◌, refl, ap, subst, ◌∙◌}
use mathlib.Core.Bool.{false}
use mathlib.Core.List.{List, []}
use mathlib.Core.Option.{none}
use Prim.Native.Nat.{ℕ, ◌≤◌, ◌<◌}
use native.Mathlib.Omega.{arith}
use borrow.Author.Tests.{leb-false}
use lib.ListN.{length}
use Rattle.board.specs.declared.Board.{Board}
use Rattle.board.specs.Board.{Regular, colour_of}
use Rattle.board.proofs.Geometry.{colour_of_lt}
use Rattle.page_model.specs.declared.Op.{Op}
use Rattle.page_model.specs.Busy.{bars}
use Rattle.page_model.specs.Step.{operations}
use Rattle.page_model.specs.Table as table
use Rattle.page_model.proofs.Theorems.{ops_complete}
use Rattle.manager.specs.Refusals.{first_refusal}
use Rattle.manager.specs.Tables.{record_at}
use Rattle.manager.proofs.CauseLaws.{record_rules}
use Rattle.machine.specs.Call.{call_causes, perform}
use Rattle.machine.specs.Parts.{Effect, steps, ends, nothing, effect_of, outcome_of}
use Rattle.machine.specs.Refusals.{causes}
use Rattle.machine.specs.State.{State, Single, map, unmap, read, write, device_read, device_write, device_write_part, evict, begin_read, begin_write, bring_word, take_word, end_transfer, fetch, single, map_all}
use Rattle.machine.specs.Step.{answer, accept}
use Rattle.machine.proofs.CallLaws.{perform_cases}
use Rattle.machine.proofs.StepLaws.{cleared, tables_clear, buffer_length, Tested, effect_tested, part_ready}
use Rattle.consistency.specs.Cacheless.{start_cacheless}
use Rattle.consistency.specs.Demand3.{start_state}
use Rattle.necessity.specs.Action as claim
use Rattle.necessity.specs.Action.{Action, step_of, InRange, call_of}
use Rattle.necessity.specs.Necessity.{OrderNeeded, EveryOrder, MapsOrderNothing}
use Rattle.necessity.specs.Without.{orders_in}
use Rattle.necessity.proofs.Theorem.{no_order_without_need}

module _ (b : Board) (reg : Regular b) (st : State) (f : ℕ) (s : table.Step) where
  -- the action that a call is
  record Named (call : Single) : Type 0 where
    action : Action
    space : ℕ
    page : ℕ
    is_call : call ≡ call_of f space page action
    is_step : s ≡ step_of b action
    in_range_holds : InRange b action

  named : (call : Single) → first_refusal (causes b st call) ≡ 0 → effect_of b st call ≡ steps f s → Named call
  unfolding causes
  named (map space page frame rights) e is = absurd (let z : ◌≡◌ {A = ℕ} 0 1 = cc in omega arith)
  named (unmap space page) e is = absurd (let z : ◌≡◌ {A = ℕ} 0 1 = cc in omega arith)
  named (read space page offset) e is =
      record {
        action = claim.read (colour_of b page) offset;
        space = space;
        page = page;
        is_call = refl;
        is_step = cc;
        in_range_holds = (colour_of_lt b reg page, leb-false b.page offset (cleared b st (read space page offset) 6 e));
      }
  named (write space page offset word) e is =
      record {
        action = claim.write (colour_of b page) offset word;
        space = space;
        page = page;
        is_call = refl;
        is_step = cc;
        in_range_holds = (colour_of_lt b reg page, leb-false b.page offset (cleared b st (write space page offset word) 6 e));
      }
  named (device_read frame buffer) e is =
      record {
        action = claim.device_read buffer;
        space = 0;
        page = 0;
        is_call = let q : frame ≡ f = cc in ap (λ (g : ℕ). device_read g buffer) q;
        is_step = cc;
        in_range_holds = buffer_length b st (device_read frame buffer) buffer b.page refl e;
      }
  named (device_write frame buffer) e is =
      record {
        action = claim.device_write buffer;
        space = 0;
        page = 0;
        is_call = let q : frame ≡ f = cc in ap (λ (g : ℕ). device_write g buffer) q;
        is_step = cc;
        in_range_holds = buffer_length b st (device_write frame buffer) buffer b.page refl e;
      }
  named (device_write_part frame first number buffer) e is =
      let ready = part_ready b st frame first number buffer e in
      record {
        action = claim.device_write_part first number buffer;
        space = 0;
        page = 0;
        is_call = let q : frame ≡ f = cc in ap (λ (g : ℕ). device_write_part g first number buffer) q;
        is_step = cc;
        in_range_holds = (ready.1, ready.2, ready.0);
      }
  named (evict line) e is = absurd (let z : ◌≡◌ {A = ℕ} 0 1 = cc in omega arith)
  named (begin_read frame) e is =
      record { action = claim.begin_read; space = 0; page = 0; is_call = let q : frame ≡ f = cc in ap begin_read q; is_step = cc; in_range_holds = tt }
  named (begin_write frame) e is =
      record { action = claim.begin_write; space = 0; page = 0; is_call = let q : frame ≡ f = cc in ap begin_write q; is_step = cc; in_range_holds = tt }
  named (bring_word frame offset word) e is = absurd (let z : ◌≡◌ {A = ℕ} 0 1 = cc in omega arith)
  named (take_word frame offset) e is = absurd (let z : ◌≡◌ {A = ℕ} 0 1 = cc in omega arith)
  named (end_transfer frame) e is = absurd (let z : ◌≡◌ {A = ℕ} 0 1 = cc in omega arith)
  named (fetch space page offset) e is =
      record {
        action = claim.fetch (colour_of b page) offset;
        space = space;
        page = page;
        is_call = refl;
        is_step = cc;
        in_range_holds = (colour_of_lt b reg page, leb-false b.page offset (cleared b st (fetch space page offset) 6 e));
      }

-- a refused call has no orders, and neither has one that is no step of a frame
step_of_lem : (b : Board) (records : List ℕ) (x : Effect) (j : ℕ) → j < length (orders_in (answer (outcome_of b records x) none [])) → (f : ℕ) × (s : table.Step) × (x ≡ steps f s)
step_of_lem b records (steps f s) j l = (f, s, refl)
step_of_lem b records (ends f) j l = absurd (omega arith)
step_of_lem b records nothing j l = absurd (omega arith)

pub maps_order_nothing : MapsOrderNothing
maps_order_nothing b st items answers = perform_cases b st (map_all items answers) (λ r. orders_in r.answer ≡ []) (λ e. refl) (λ n e. refl)

pub every_order : (b : Board) → Regular b → 2 ≤ b.page → EveryOrder b
unfolding accept perform call_causes
every_order b reg two memory words protections full wide long st call j =
    perform_cases b st (single call) (λ r. j < length (orders_in r.answer) → OrderNeeded b (start_state b memory words protections) (start_cacheless b memory) st call j)
    (λ e l.
    let x = step_of_lem b st.tables.records (effect_of b st call) j l in
    let f = x.0 in
    let s = x.1 in
    let a = named b reg st f s call e x.2 in
    let tested = subst (Tested b st.tables.records) x.2 (effect_tested b st call e) in
    let rules = record_rules b st.tables (tables_clear b st call e) f tested.0 in
    record {
      frame = f;
      action = a.action;
      space = a.space;
      page = a.page;
      is_call = a.is_call;
      is_step = x.2 ∙ ap (steps f) a.is_step;
      needed =
          no_order_without_need b reg two memory words protections full wide long f (record_at st.tables.records f) a.action j tested.0 rules a.in_range_holds
          (subst (λ (t : table.Step). bars (record_at st.tables.records f).busy t ≡ false) a.is_step tested.1)
          (subst (λ (t : table.Step). j < length (operations b.colours t (record_at st.tables.records f))) a.is_step
          (subst (λ (ops : List Op). j < length ops) (ops_complete b.colours s (record_at st.tables.records f) rules)
          (subst (λ (y : Effect). j < length (orders_in (answer (outcome_of b st.tables.records y) none []))) x.2 l)));
    })
    (λ n e l. absurd (omega arith))
