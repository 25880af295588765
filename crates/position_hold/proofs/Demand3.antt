-- Demand 3 with looks: each act finds its words and keeps the invariant of demand 3.
use mathlib.Core.List.{List, [], ◌∷◌}
use Prim.Native.Nat.{ℕ}
use Rattle.board.specs.declared.Board.{Board}
use Rattle.board.specs.Board.{Regular, board01}
use Rattle.board.proofs.Geometry.{board01_regular}
use Rattle.machine.specs.Call.{perform}
use Rattle.machine.specs.State.{State}
use Rattle.consistency.specs.Cacheless.{Cacheless, start_cacheless, fed}
use Rattle.consistency.specs.Demand3.{start_state}
use Rattle.consistency.proofs.Invariant.{Invariant}
use Rattle.consistency.proofs.Start.{start_invariant}
use Rattle.consistency.proofs.Theorem.{serves, evicted_here}
use Rattle.position_hold.specs.Demand3.{LookFinds, AllFind, cacheless_after, Demand3, EveryBoard, Board01}
use Rattle.position_hold.specs.Look as position_hold
use Rattle.position_hold.specs.Look.{Words, stopped, words, fix_words, fix_reads}
use Rattle.position_hold.specs.Theorems.{Act, call, look, state_after}
use Rattle.position_hold.proofs.Reading.{FoundIn, first_reads_lem, look_kept}

module _ (b : Board) (reg : Regular b) where
  found_words : (m : Cacheless) (space page : ℕ) (ws : Words) → FoundIn b reg m space page fix_words ws → LookFinds m space page ws
  found_words m space page (stopped n) f = tt
  found_words m space page (words ws) f = f.1

  pub look_finds : (st : State) (m : Cacheless) → Invariant b st m → (space page : ℕ) → LookFinds m space page (fix_reads b st space page).words
  unfolding fix_reads
  look_finds st m inv space page = found_words m space page (fix_reads b st space page).words (first_reads_lem b reg m space page st inv fix_words).found

  all_find : (st : State) (m : Cacheless) → Invariant b st m → (acts : List Act) → AllFind b st m acts
  all_find st m inv [] = tt
  all_find st m inv (call c ∷ acts) =
      let s = serves b reg st m inv c in (s.0, all_find (perform b st c).after (fed m c (perform b st c).answer) s.1 acts)
  all_find st m inv (look space page clock hold ∷ acts) =
      (look_finds st m inv space page, all_find (position_hold.look b st space page clock hold).after m (look_kept b reg m space page st inv clock hold) acts)

  pub invariant_after : (st : State) (m : Cacheless) → Invariant b st m → (acts : List Act) → Invariant b (state_after b st acts) (cacheless_after b st m acts)
  invariant_after st m inv [] = inv
  invariant_after st m inv (call c ∷ acts) =
      invariant_after (perform b st c).after (fed m c (perform b st c).answer) (serves b reg st m inv c).1 acts
  invariant_after st m inv (look space page clock hold ∷ acts) =
      invariant_after (position_hold.look b st space page clock hold).after m (look_kept b reg m space page st inv clock hold) acts

  demand3 : Demand3 b
  demand3 memory cache protections acts full wide long =
      let st = start_state b memory cache protections in
      let inv = start_invariant b reg memory cache protections full wide long in
      record {
        finds = all_find st (start_cacheless b memory) inv acts;
        evicted = evicted_here b reg (cacheless_after b st (start_cacheless b memory) acts) (state_after b st acts) (invariant_after st (start_cacheless b memory) inv acts);
      }

pub every_board : EveryBoard
every_board = demand3

pub board_01 : Board01
board_01 = demand3 board01 board01_regular
