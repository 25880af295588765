-- The plan of a step of a frame's record, by the causes that are tested before the frame's mark, and by the mark; the plan of an access; and a call
-- without orders.
use mathlib.Core.Path.{◌≡◌, refl, sym, ap, ap₂, ◌∙◌}
use mathlib.Core.Bool.{true, cond}
use mathlib.Core.List.{List, [], ◌∷◌, ◌++◌}
use Prim.Native.Nat.{ℕ, zero, suc}
use Rattle.std.proofs.Common.{Result, Ok, Err}
use Rattle.std.proofs.lemmas.Result.{err_from_is_err_and}
use Rattle.std.specs.Result.{IsErrAnd}
use Rattle.board.specs.declared.Board.{Board}
use Rattle.board.specs.Board.{colour_of}
use Rattle.page_model.specs.Busy.{bars}
use Rattle.page_model.specs.Record.{keeps_rules}
use Rattle.page_model.specs.Table.{Step, read, write, fetch}
use Rattle.mapping.specs.Lookup.{listed_mapping}
use Rattle.manager.specs.declared.AccessKind.{AccessKind}
use Rattle.manager.specs.declared.AccessKind.TheVariants.{Read, Write, Fetch}
use Rattle.manager.specs.declared.Change.{Change}
use Rattle.manager.specs.declared.FrameOps.{FrameOps}
use Rattle.manager.specs.declared.refusal.Refusal.{Refusal}
use Rattle.manager.specs.Calls.{Plan, planned, change_of, plan_access, call_result, no_ops, plain_result}
use Rattle.manager.specs.Answers.{refused, refusal_number, by_number, outcome}
use Rattle.manager.specs.Refusals.{Cause, first_refusal, busy_cause, table_causes, page_causes, read_causes, write_causes, fetch_causes}
use Rattle.manager.specs.Scaffold.Told.{told_rights}
use Rattle.manager.specs.Tables.{Tables, record_at}
use Rattle.manager.proofs.CauseLaws.{numbered, some_number, refusal_prefix, refusal_rest, page_rules}

-- a refusal plans nothing
pub planned_refused : (e : Refusal) {A : Type 0} (made : A) → Err (refusal_number e) ≡ planned (refusal_number e) made
planned_refused e made = go (refusal_number e) (some_number e)
  where
    go : (n : ℕ) → (n ≡ 0 → ⊥) → Err n ≡ planned n made
    go zero h = absurd (h refl)
    go (suc n) h = refl

-- the exit of a `?`: the causes give a refusal, or those that are tested first do
pub planned_exit : {A : Type 0} (r : Result A Refusal) (e : Refusal) (made : A) {n : ℕ} → refusal_number e ≡ n → IsErrAnd r (λ y. y ≡ e) → by_number r ≡ planned n made
planned_exit r e made told is =
    let p = err_from_is_err_and r is in rw (p.1, p.2) (planned_refused e made ∙ ap (λ (k : ℕ). planned k made) told)

pub planned_first : (cs ds : List Cause) {A : Type 0} (r : Result A Refusal) (e : Refusal) (made : A) → refusal_number e ≡ first_refusal cs → IsErrAnd r (λ y. y ≡ e)
    → by_number r ≡ planned (first_refusal (cs ++ ds)) made
planned_first cs ds r e made told is = planned_exit r e made (told ∙ refusal_prefix cs ds (λ z. some_number e (told ∙ z))) is

-- they give none, so the mark decides
pub planned_then : (t : Tables) (cs : List Cause) (f : ℕ) (s : Step) (change : Change) {plan : Plan} → numbered cs ≡ true → 0 ≡ first_refusal cs
    → plan ≡ planned (cond (bars (record_at t.records f).busy s) 15 0) change
    → plan ≡ planned (first_refusal (cs ++ busy_cause t.records f s ∷ [])) change
unfolding first_refusal
planned_then t cs f s change n none e = e ∙ ap (λ (k : ℕ). planned k change) (refusal_rest cs (busy_cause t.records f s ∷ []) n (sym none))

-- ---- an access of the processor by one look at the list

abbrev pub access_step : AccessKind → ℕ → Step
access_step Read colour = read colour
access_step Write colour = write colour
access_step Fetch colour = fetch colour

-- what is tested before the frame's mark: what is lent, the page, and the rights of its mapping
abbrev before_mark : Board → Tables → ℕ → ℕ → AccessKind → List Cause
before_mark b t space page kind = page_causes b t space page ++ told_rights kind (listed_mapping t.list space page).rights

access_plan : (b : Board) (t : Tables) (space page : ℕ) (kind : AccessKind)
    → let f = (listed_mapping t.list space page).frame in
    let s = access_step kind (colour_of b page) in
    planned (first_refusal (before_mark b t space page kind ++ busy_cause t.records f s ∷ [])) (change_of b t f s) ≡ plan_access b t space page kind
unfolding first_refusal page_causes read_causes write_causes fetch_causes
access_plan b t space page Read = refl
access_plan b t space page Write = refl
access_plan b t space page Fetch = refl

rights_numbered : (kind : AccessKind) (rights : ℕ) → numbered (told_rights kind rights) ≡ true
rights_numbered Read rights = refl
rights_numbered Write rights = refl
rights_numbered Fetch rights = refl

access_numbered : (b : Board) (t : Tables) (kind : AccessKind) (space page : ℕ) → numbered (before_mark b t space page kind) ≡ true
unfolding page_causes table_causes
access_numbered b t Read space page = refl
access_numbered b t Write space page = refl
access_numbered b t Fetch space page = refl

module _ (b : Board) (t : Tables) (space page : ℕ) (kind : AccessKind) where
  -- a refusal in what is tested before the mark is the access's
  pub access_refused : (r : Result Change Refusal) (e : Refusal) → refusal_number e ≡ first_refusal (before_mark b t space page kind) → IsErrAnd r (λ y. y ≡ e)
      → by_number r ≡ plan_access b t space page kind
  access_refused r e told is = planned_first (before_mark b t space page kind) _ r e _ told is ∙ access_plan b t space page kind

  -- past it the record of the page's frame keeps the rules, and its mark decides
  module _ (none : 0 ≡ first_refusal (before_mark b t space page kind)) {f : ℕ} (frame : f ≡ (listed_mapping t.list space page).frame) where
    pub access_rules : keeps_rules b.colours (record_at t.records f) ≡ true
    access_rules =
        ap (λ (f : ℕ). keeps_rules b.colours (record_at t.records f)) frame
        ∙ page_rules b t space page (told_rights kind (listed_mapping t.list space page).rights) (rights_numbered kind (listed_mapping t.list space page).rights) (sym none)

    pub access_planned : {plan : Plan} {s : Step} → s ≡ access_step kind (colour_of b page)
        → plan ≡ planned (cond (bars (record_at t.records f).busy s) 15 0) (change_of b t f s)
        → plan ≡ plan_access b t space page kind
    access_planned es e =
        planned_then t (before_mark b t space page kind) (listed_mapping t.list space page).frame (access_step kind (colour_of b page)) _ (access_numbered b t kind space page) none
        (e ∙ (λ i. planned (cond (bars (record_at t.records (frame i)).busy (es i)) 15 0) (change_of b t (frame i) (es i))))
        ∙ access_plan b t space page kind

-- ---- a call without orders, at the exit of a `?` and past it

pub plain_refused : (n : ℕ) (t next : Tables) (r : Result FrameOps Refusal) (e : Refusal) → refusal_number e ≡ n → IsErrAnd r (λ y. y ≡ e)
    → call_result (outcome r) t ≡ plain_result n t next
plain_refused n t next r e told is =
    let p = err_from_is_err_and r is in
    rw (p.1, p.2) (go (refusal_number e) (some_number e) ∙ ap (λ (m : ℕ). plain_result m t next) told)
  where
    go : (k : ℕ) → (k ≡ 0 → ⊥) → call_result (refused k) t ≡ plain_result k t next
    go zero h = absurd (h refl)
    go (suc k) h = refl

pub plain_made : (n : ℕ) (t next : Tables) {o : FrameOps} {u : Tables} → 0 ≡ n → o ≡ record { frame = 0; ops = no_ops } → u ≡ next
    → call_result (outcome (Ok o)) u ≡ plain_result n t next
plain_made n t next e eo eu = ap₂ call_result (ap (λ (o : FrameOps). outcome (Ok o)) eo) eu ∙ ap (λ (m : ℕ). plain_result m t next) e
