-- The skipper's theorems.
use mathlib.Core.Path.{◌≡◌, refl, sym, ap, subst, ◌∙◌}
use mathlib.Core.List.{List, [], ◌∷◌, ◌++◌}
use mathlib.Core.Option.{Option, none, some}
use Prim.Native.Nat.{ℕ, zero, suc, ◌≤◌, ◌<◌}
use native.Mathlib.Omega.{arith}
use lib.ListN.{length, get_or}
use lib.Seq.{ext_get_or}
use Rattle.board.specs.declared.Board.{Board}
use Rattle.board.specs.Board.{Regular, board01, memory_words, cache_words}
use Rattle.board.proofs.Geometry.{board01_regular}
use Rattle.mapping.specs.Entry.{capacity}
use Rattle.machine.specs.Call.{perform}
use Rattle.machine.specs.State.{State, page_frame, Single}
use Rattle.consistency.specs.Cacheless.{Cacheless, start_cacheless, fed}
use Rattle.consistency.specs.Demand3.{start_state, page_word}
use Rattle.consistency.proofs.Invariant.{Invariant}
use Rattle.consistency.proofs.Start.{start_invariant}
use Rattle.position_hold.specs.Demand3.{LookFinds, cacheless_after}
use Rattle.position_hold.specs.Fix.{blank}
use Rattle.position_hold.specs.Look as position_hold
use Rattle.position_hold.specs.Look.{words, fix_words, fix_reads, Look}
use Rattle.position_hold.specs.Sent.{mapped_frame, last_sent}
use Rattle.position_hold.specs.Theorems.{Act, call, look, state_after, shown_at, accepted_in, Delivered, DeliveredThrough, LastDelivered, OneTransfer, SameButBlank, Shorter, InRange, with_holds, WholeRuns, DrawnDelivered, SameOnlyShorter, EveryBoard, Board01}
use Rattle.position_hold.proofs.Demand3.{look_finds, invariant_after}
use Rattle.position_hold.proofs.Drawing.{drawn, held_for}
use Rattle.position_hold.proofs.FirstReads.{fix_long}
use Rattle.position_hold.proofs.Holds.{hold_accepted, look_accepted, same_as, drawn_same, look_drawn}
use Rattle.position_hold.proofs.Reading.{frame_lent}
use Rattle.position_hold.proofs.Told.{Told, no_word, told_start, told_call, left_by_lem, sent_by}

-- ---- any list of calls

-- the cacheless memory after it agrees with the accepted calls
told_after : (b : Board) (st : State) (m : Cacheless) (calls : List Single) → Told m calls → (acts : List Act)
    → Told (cacheless_after b st m acts) (accepted_in b st acts calls)
told_after b st m calls t [] = t
told_after b st m calls t (call c ∷ acts) =
    told_after b (perform b st c).after (fed m c (perform b st c).answer) _ (told_call m calls t c (perform b st c).answer) acts
told_after b st m calls t (look space page clock hold ∷ acts) = told_after b (position_hold.look b st space page clock hold).after m calls t acts

-- where each of a look's words is found in a frame, the accepted calls have mapped the page to it, and the words are those last sent there
delivered_in : (m : Cacheless) (calls : List Single) → Told m calls → (ws : List ℕ) (frame : Option ℕ)
    → ((k : ℕ) → k < fix_words → page_word m frame k ≡ some (get_or ws k 0)) → (f : ℕ) × (frame ≡ some f) × Delivered calls f ws
delivered_in m calls told ws none found = absurd (no_word (found 0 (omega arith)))
delivered_in m calls told ws (some f) found =
    (f, refl, λ k sent lk es. let word = found k lk in let told-word = told.words_told f k sent es in cc)

module _ (b : Board) (reg : Regular b) where
  -- after a list of calls from the start
  module _ (memory cache protections : List ℕ) (acts : List Act) (full : length memory ≡ memory_words b) (wide : length cache ≡ cache_words b) (long : length protections ≡ capacity) where
    abbrev begun : State
    begun = start_state b memory cache protections

    abbrev now : State
    now = state_after b begun acts

    abbrev calls : List Single
    calls = accepted_in b begun acts []

    abbrev without_cache : Cacheless
    without_cache = cacheless_after b begun (start_cacheless b memory) acts

    invariant_now : Invariant b now without_cache
    invariant_now = invariant_after b reg begun (start_cacheless b memory) (start_invariant b reg memory cache protections full wide long) acts

    told_now : Told without_cache calls
    told_now = told_after b begun (start_cacheless b memory) [] (told_start b memory) acts

    -- the frame to which the accepted calls have last mapped a page is the lent list's
    pub mapped_lent : (space page frame : ℕ) → mapped_frame calls space page ≡ some frame → page_frame now space page ≡ frame
    mapped_lent space page frame e = frame_lent b now without_cache invariant_now space page frame (told_now.frames_told space page ∙ e)

    module _ (space page : ℕ) (ws : List ℕ) (found : (fix_reads b now space page).words ≡ words ws) where
      delivered_now : DeliveredThrough calls space page ws
      delivered_now =
          let finds = subst (LookFinds without_cache space page) found (look_finds b reg now without_cache invariant_now space page) in
          delivered_in without_cache calls told_now ws (mapped_frame calls space page)
          (subst (λ (frame : Option ℕ). (k : ℕ) → k < fix_words → page_word without_cache frame k ≡ some (get_or ws k 0)) (told_now.frames_told space page) finds)

      -- if all four were sent, they are these
      same_words : (frame : ℕ) (fix : List ℕ) → mapped_frame calls space page ≡ some frame → length fix ≡ fix_words
          → ((k : ℕ) → k < fix_words → last_sent calls frame k ≡ some (get_or fix k 0)) → ws ≡ fix
      same_words frame fix mapped all sent =
          let long = fix_long b now space page ws found in
          let same : delivered_now.0 ≡ frame = cc delivered_now.1 in
          ext_get_or 0 ws fix (cc) (λ k h. delivered_now.2 k (get_or fix k 0) (omega arith) (rw same (sent k (omega arith))))

  pub last_delivered : LastDelivered b
  last_delivered = delivered_now

  pub one_transfer : OneTransfer b
  one_transfer memory cache protections acts full wide long space page frame ws fix later transfer earlier found mapped are all sent =
      same_words memory cache protections acts full wide long space page ws found frame fix mapped all
      (λ k h. rw are (left_by_lem (transfer ++ earlier) frame k later (sent k h).1 ∙ sent_by earlier frame k transfer (get_or fix k 0) (sent k h).0))

  -- ---- two holds

  two_holds : (st : State) (space page clock one other : ℕ) → InRange one → InRange other
      → let at : ℕ → Look = position_hold.look b st space page clock in
      (one ≤ other → SameButBlank (at one).display (at other).display) × ((at one).after ≡ (at other).after)
  two_holds st space page clock one other r s =
      let e₁ = look_accepted b st space page clock one (hold_accepted one r.0 r.1) refl in
      let e₂ = look_accepted b st space page clock other (hold_accepted other s.0 s.1) refl in
      rw (sym e₁, sym e₂) (drawn_same clock one other (fix_reads b st space page).words, refl)

  shorter : Shorter b
  shorter st space page clock short long low h high =
      let t = two_holds st space page clock short long (low, omega arith) (omega arith, high) in (t.0 h, t.1)

  whole_runs : WholeRuns b
  whole_runs st [] one other r = (refl, λ n h. same_as blank)
  whole_runs st (call c ∷ acts) one other r = whole_runs (perform b st c).after acts one other r
  whole_runs st (look space page clock hold ∷ acts) one other r =
      let at : ℕ → Look = position_hold.look b st space page clock in
      let rest-one : List Act = with_holds (λ n. one (suc n)) acts in
      let rest-other : List Act = with_holds (λ n. other (suc n)) acts in
      let t = two_holds st space page clock (one 0) (other 0) (r 0).0 (r 0).1 in
      let rest = whole_runs (at (one 0)).after acts (λ n. one (suc n)) (λ n. other (suc n)) (λ n. r (suc n)) in (
        rest.0 ∙ ap (λ (left : State). state_after b left rest-other) t.1,
        λ n. elim n as (λ k. one k ≤ other k → SameButBlank (shown_at b st (with_holds one (look space page clock hold ∷ acts)) k) (shown_at b st (with_holds other (look space page clock hold ∷ acts)) k)) [
          | zero ↦ t.0
          | suc m ↦ λ h. subst (λ (left : State). SameButBlank (shown_at b (at (one 0)).after rest-one m) (shown_at b left rest-other m)) t.1 (rest.1 m h)
        ],
      )

  drawn_delivered : DrawnDelivered b
  drawn_delivered memory cache protections acts full wide long space page clock hold latitude longitude e =
      let st = state_after b (start_state b memory cache protections) acts in
      let d = (look_drawn b st space page clock hold latitude longitude e).1 in
      (d.0, d.1, d.2, d.3, last_delivered memory cache protections acts full wide long space page d.0 d.1)

  pub same_only_shorter : SameOnlyShorter b
  same_only_shorter = (shorter, held_for b, whole_runs, drawn_delivered)

pub every_board : EveryBoard
every_board b reg =
    record { drawn = drawn b; last_delivered = last_delivered b reg; one_transfer = one_transfer b reg; same_only_shorter = same_only_shorter b reg }

pub board_01 : Board01
board_01 = every_board board01 board01_regular
