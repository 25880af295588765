-- The skipper's question: is the position drawn the last one delivered, and does a short hold draw another than a long one? What is said of deliveries
-- is over any list of calls from the start, what is said of two holds over any state; both are for any clock and any regular board. Evictions stand
-- anywhere in the list, so neither depends on which lines were evicted between, at whatever zoom. What a look draws is in `Drawing`.
use Rattle.std.specs.Prelude.{List, [], ◌∷◌, ◌++◌, ◌↔◌, ◌⊎◌, ◌≡◌, ℕ, suc, ◌+◌, ◌≤◌, ◌<◌, length, get_or}
use Rattle.std.proofs.Math.Option.{some}
use Rattle.board.specs.declared.Board.{Board}
use Rattle.board.specs.Board.{Regular, board01, memory_words, cache_words}
use Rattle.mapping.specs.Entry.{capacity}
use Rattle.machine.specs.Call.{perform}
use Rattle.machine.specs.State.{State, Single, Call}
use Rattle.consistency.specs.Demand3.{start_state}
use Rattle.position_hold.specs.Drawing.{Valid, Drawn}
use Rattle.position_hold.specs.Fix.{Display, blank, position, shortest_hold, longest_hold}
use Rattle.position_hold.specs.Look as position_hold
use Rattle.position_hold.specs.Look.{words, fix_words, fix_reads, fix_of, Look}
use Rattle.position_hold.specs.Sent.{mapped_frame, last_sent, LeftBy, SentBy, accepted_and}

-- ---- any list of calls: of the machine, and looks at the position by space, page, clock and hold

pub data Act : Type 0 where
  call : Call → Act
  look : ℕ → ℕ → ℕ → ℕ → Act

-- the state after them
abbrev pub state_after : Board → State → List Act → State
state_after b st [] = st
state_after b st (call c ∷ acts) = state_after b (perform b st c).after acts
state_after b st (look space page clock hold ∷ acts) = state_after b (position_hold.look b st space page clock hold).after acts

-- what their looks display, in order
abbrev pub displays : Board → State → List Act → List Display
displays b st [] = []
displays b st (call c ∷ acts) = displays b (perform b st c).after acts
displays b st (look space page clock hold ∷ acts) =
    let l : Look = position_hold.look b st space page clock hold in l.display ∷ displays b l.after acts

-- and what look n of them does, from 0; blank, where there are fewer
abbrev pub shown_at : Board → State → List Act → ℕ → Display
shown_at b st acts n = get_or (displays b st acts) n blank

-- the accepted calls of the machine among them, the latest first, before those that were accepted earlier
abbrev pub accepted_in : Board → State → List Act → List Single → List Single
accepted_in b st [] earlier = earlier
accepted_in b st (call c ∷ acts) earlier = accepted_in b (perform b st c).after acts (accepted_and c (perform b st c).answer earlier)
accepted_in b st (look space page clock hold ∷ acts) earlier = accepted_in b (position_hold.look b st space page clock hold).after acts earlier

-- from the start, with any words in memory, cache and protections: a state, and the calls accepted up to it
abbrev pub FromStart : Board → (State → List Single → Type 0) → Type 0
FromStart b P =
    (memory cache protections : List ℕ) (acts : List Act) → length memory ≡ memory_words b → length cache ≡ cache_words b → length protections ≡ capacity
    → P (state_after b (start_state b memory cache protections) acts) (accepted_in b (start_state b memory cache protections) acts [])

-- ---- each of the four words that a look reads is the one that a transfer last sent to that word of the frame to which the page was last mapped, if
-- one has and no program has written it since

abbrev pub Delivered : List Single → ℕ → List ℕ → Type 0
Delivered calls frame ws = (k sent : ℕ) → k < fix_words → last_sent calls frame k ≡ some sent → get_or ws k 0 ≡ sent

-- through a page that the accepted calls have mapped
abbrev pub DeliveredThrough : List Single → ℕ → ℕ → List ℕ → Type 0
DeliveredThrough calls space page ws = (frame : ℕ) × (mapped_frame calls space page ≡ some frame) × Delivered calls frame ws

abbrev pub LastDelivered : Board → Type 0
LastDelivered b =
    FromStart b (λ st calls. (space page : ℕ) (ws : List ℕ) → (fix_reads b st space page).words ≡ words ws → DeliveredThrough calls space page ws)

-- so the fix that is judged is that of one transfer, if its calls sent the four words, and none since has sent to them or written over them. Of a
-- transfer these are its one call, or those from its beginning to its end.
abbrev pub OneTransfer : Board → Type 0
OneTransfer b =
    FromStart b
    (λ st calls. (space page frame : ℕ) (ws fix : List ℕ) (later transfer earlier : List Single) → (fix_reads b st space page).words ≡ words ws
    → mapped_frame calls space page ≡ some frame → calls ≡ later ++ (transfer ++ earlier) → length fix ≡ fix_words
    → ((k : ℕ) → k < fix_words → SentBy transfer earlier frame k (get_or fix k 0) × LeftBy later (transfer ++ earlier) frame k)
    → ws ≡ fix)

-- ---- whenever a short hold draws a position, a longer one draws the same, and everything lent is left the same; what hold changes is only when
-- it is blank

pub record SameButBlank (short long : Display) : Type 0 where
  pub drawn : (latitude longitude : ℕ) → short ≡ position latitude longitude → long ≡ position latitude longitude
  pub but_blank : (short ≡ long) ⊎ ((short ≡ blank) × ((latitude : ℕ) × (longitude : ℕ) × (long ≡ position latitude longitude)))

abbrev pub Shorter : Board → Type 0
Shorter b =
    (st : State) (space page clock short long : ℕ) → shortest_hold ≤ short → short ≤ long → long ≤ longest_hold
    → let at : ℕ → Look = position_hold.look b st space page clock in
    SameButBlank (at short).display (at long).display × ((at short).after ≡ (at long).after)

abbrev pub InRange : ℕ → Type 0
InRange hold = (shortest_hold ≤ hold) × (hold ≤ longest_hold)

-- for less time: a fix is drawn from its second on, for exactly as many seconds more as it is held, and is blank before and after; so of two holds the
-- shorter goes blank sooner
abbrev pub HeldFor : Board → Type 0
HeldFor b =
    (st : State) (space page number second latitude longitude clock hold : ℕ) → InRange hold → Valid b st space page number second latitude longitude
    → let shown : Display = (position_hold.look b st space page clock hold).display in
    ((shown ≡ position latitude longitude) ↔ ((second ≤ clock) × (clock ≤ second + hold))) × ((shown ≡ blank) ↔ ((clock < second) ⊎ (second + hold < clock)))

-- and over a whole run: the same acts with other holds, that of look n, from 0, being holds n
abbrev pub with_holds : (ℕ → ℕ) → List Act → List Act
with_holds holds [] = []
with_holds holds (call c ∷ acts) = call c ∷ with_holds holds acts
with_holds holds (look space page clock hold ∷ acts) = look space page clock (holds 0) ∷ with_holds (λ n. holds (suc n)) acts

-- such runs leave the same state, and of each look's two holds the shorter draws the same or is blank
abbrev pub WholeRuns : Board → Type 0
WholeRuns b =
    (st : State) (acts : List Act) (one other : ℕ → ℕ) → ((n : ℕ) → InRange (one n) × InRange (other n))
    → (state_after b st (with_holds one acts) ≡ state_after b st (with_holds other acts))
    × ((n : ℕ) → one n ≤ other n → SameButBlank (shown_at b st (with_holds one acts) n) (shown_at b st (with_holds other acts) n))

-- and a position drawn, at any hold, is latitude and longitude of the words read, each of which is the last delivered
abbrev pub DrawnDelivered : Board → Type 0
DrawnDelivered b =
    FromStart b
    (λ st calls. (space page clock hold latitude longitude : ℕ) → (position_hold.look b st space page clock hold).display ≡ position latitude longitude
    → (ws : List ℕ)
    × ((fix_reads b st space page).words ≡ words ws)
    × ((fix_of ws).latitude ≡ latitude)
    × ((fix_of ws).longitude ≡ longitude)
    × DeliveredThrough calls space page ws)

abbrev pub SameOnlyShorter : Board → Type 0
SameOnlyShorter b = Shorter b × HeldFor b × WholeRuns b × DrawnDelivered b

-- ---- of every regular board, and so of document 01's

pub record Skipper (b : Board) : Type 0 where
  pub drawn : Drawn b
  pub last_delivered : LastDelivered b
  pub one_transfer : OneTransfer b
  pub same_only_shorter : SameOnlyShorter b

abbrev pub EveryBoard : Type 0
EveryBoard = (b : Board) → Regular b → Skipper b

abbrev pub Board01 : Type 0
Board01 = Skipper board01
