-- How the code plans a single call: it finds the machine's own refusal and the manager's plan, and gives the refusal that stands earlier in the order.
use Rattle.std.specs.Prelude.{Bool, true, false, not, cond, ◌&&◌, List, [], ◌∷◌, ◌++◌, ℕ, zero, suc, leb, Result, Ok, Err}
use Rattle.board.specs.declared.Board.{Board}
use Rattle.page_model.specs.Table as table
use Rattle.page_model.specs.Table.{Step}
use Rattle.manager.specs.Calls.{planned}
use Rattle.manager.specs.Refusals.{Cause, ◌if◌, first_refusal, offset_cause, refusal_place}
use Rattle.cache.specs.Store.{Store}
use Rattle.cache.specs.Tag.{tags_keep_rules}
use Rattle.machine.specs.Refusals.{store_lengths, causes}
use Rattle.machine.specs.State.{State, Single, begin_read, begin_write}

-- the causes in memory, cache words and tags, and whether a device's buffer has its length
unfoldable pub store_causes : Board → Store → Bool → List Cause
store_causes b s buffer = (1 if not (store_lengths b s && buffer)) ∷ (2 if not (tags_keep_rules b s.tags)) ∷ []

-- these, and an offset, or a line, past its limit
unfoldable pub access_causes : Board → Store → ℕ → ℕ → List Cause
unfolding store_causes
access_causes b s limit offset = store_causes b s true ++ offset_cause limit offset ∷ []

-- of two refusals, each a number or 0 for none, the one whose place comes first
unfoldable pub earlier : ℕ → ℕ → ℕ
earlier zero n = n
earlier (suc m) zero = suc m
earlier (suc m) (suc n) = cond (leb (refusal_place (suc m)) (refusal_place (suc n))) (suc m) (suc n)

-- the manager's plan, with the machine's own refusal (0 for none): the earlier of two refusals, and what is planned only where there is none
unfoldable pub with_own : {A : Type 0} → ℕ → Result A ℕ → Result A ℕ
unfolding earlier
with_own own (Err n) = Err (earlier own n)
with_own zero (Ok made) = Ok made
with_own (suc own) (Ok made) = Err (suc own)

-- a call's plan: the refusal of the first cause that applies, else what is made
abbrev pub plan_call : {A : Type 0} → Board → State → Single → A → Result A ℕ
plan_call b st call made = planned (first_refusal (causes b st call)) made

-- the call that begins a device's transfer, a write or a read
abbrev pub begins : Bool → ℕ → Single
begins true frame = begin_write frame
begins false frame = begin_read frame

abbrev pub begin_step : Bool → Step
begin_step true = table.begin_write
begin_step false = table.begin_read
