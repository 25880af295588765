-- A load through a page of the caches: a read through a colour's, and a fetch through an instruction colour's.
use mathlib.Core.Path.{◌≡◌, refl, subst}
use mathlib.Core.Bool.{Bool, true, false, cond}
use mathlib.Core.Logic.{◌≢◌}
use mathlib.Core.Option.{some}
use Prim.Native.Nat.{ℕ, ◌-◌, ◌<◌}
use native.Mathlib.Omega.{arith}
use borrow.Author.Tests.{ltb-true, ltb-false}
use lib.Dec.{eqb, ltb}
use Rattle.board.specs.declared.Board.{Board}
use Rattle.board.specs.Board.{cache_pages, instruction_page}
use Rattle.page_model.specs.Busy.{writing, bars, mark_after}
use Rattle.cache.specs.Cache as hardware
use Rattle.cache.specs.Store.{Store}
use Rattle.machine.specs.State.{Answer}
use Rattle.consistency.specs.Cacheless.{Cacheless, use_of, after_accepted}
use Rattle.consistency.specs.Demand3.{page_word}
use Rattle.necessity.specs.Action.{Action, read, fetch, step_of, InRange}
use Rattle.necessity.specs.Without.{Differ, SendsBy, WrongBy}
use Rattle.necessity.proofs.Acted.{word_of, store_of}
use Rattle.necessity.proofs.CellLaws.{Loads, reads, fetches}
use Rattle.necessity.proofs.In.{made}
use Rattle.necessity.proofs.Accesses.{Beside}

-- an action that loads offset o through page x
pub data LoadAt (b : Board) (o : ℕ) : ℕ → Action → Type 0 where
  reads_at : (c : ℕ) → c < b.colours → LoadAt b o c (read c o)
  fetches_at : (c : ℕ) → c < b.colours → LoadAt b o (instruction_page b c) (fetch c o)

-- the load of offset o through page x
abbrev pub load : Board → ℕ → ℕ → Action
load b x o = cond (ltb x b.colours) (read x o) (fetch (x - b.colours) o)

pub load_at : (b : Board) (x o : ℕ) → x < cache_pages b → LoadAt b o x (load b x o)
load_at b x o h = go (ltb x b.colours) refl
  where
    go : (t : Bool) → ltb x b.colours ≡ t → LoadAt b o x (cond t (read x o) (fetch (x - b.colours) o))
    go true e = reads_at x (ltb-true x b.colours e)
    go false e =
        let past = ltb-false x b.colours e in
        subst (λ (k : ℕ). LoadAt b o k (fetch (x - b.colours) o)) (omega arith) (fetches_at (x - b.colours) (omega arith))

module _ {b : Board} {o : ℕ} where
  pub load_steps : {x : ℕ} {a : Action} → LoadAt b o x a → Loads b.colours x (step_of b a)
  load_steps (reads_at c h) = reads c h
  load_steps (fetches_at c h) = fetches c h

  pub load_range : {x : ℕ} {a : Action} → LoadAt b o x a → o < b.page → InRange b a
  load_range (reads_at c h) ho = (h, ho)
  load_range (fetches_at c h) ho = (h, ho)

  -- a mark bars it if that is of a device's write, and it leaves the mark
  pub load_bars : {x : ℕ} {a : Action} → LoadAt b o x a → (mark : ℕ) → bars mark (step_of b a) ≡ eqb mark writing
  load_bars (reads_at c h) mark = refl
  load_bars (fetches_at c h) mark = refl

  pub load_mark : {x : ℕ} {a : Action} → LoadAt b o x a → (mark : ℕ) → mark_after (step_of b a) mark ≡ mark
  load_mark (reads_at c h) mark = refl
  load_mark (fetches_at c h) mark = refl

  pub load_beside : {x : ℕ} {a : Action} → LoadAt b o x a → (y : ℕ) → x ≢ y → Beside b y a
  load_beside (reads_at c h) y ne = ne
  load_beside (fetches_at c h) y ne = ne

  -- its access, its word, and the cacheless memory
  pub load_store : {x : ℕ} {a : Action} → LoadAt b o x a → (f : ℕ) (s : Store) → store_of b f a s ≡ hardware.access b f x o s
  load_store (reads_at c h) f s = refl
  load_store (fetches_at c h) f s = refl

  pub load_word : {x : ℕ} {a : Action} → LoadAt b o x a → (f : ℕ) (s : Store) → word_of b f a s ≡ some (hardware.read_word b f x o s)
  load_word (reads_at c h) f s = refl
  load_word (fetches_at c h) f s = refl

  pub load_same : {x : ℕ} {a : Action} → LoadAt b o x a → (f : ℕ) (m : Cacheless) → after_accepted m (made b f a) ≡ m
  unfolding after_accepted
  load_same (reads_at c h) f m = refl
  load_same (fetches_at c h) f m = refl

  -- it sends no word
  pub load_sends : {x : ℕ} {a : Action} → LoadAt b o x a → (f : ℕ) → SendsBy (use_of (made b f a))
  load_sends (reads_at c h) f = tt
  load_sends (fetches_at c h) f = tt

  -- what it finds wrong
  pub load_wrong : {x : ℕ} {a : Action} → LoadAt b o x a → (f : ℕ) (m : Cacheless) (answer : Answer) → Differ answer.word (page_word m (m.frame 0 x) o) → WrongBy b m (use_of (made b f a)) answer
  load_wrong (reads_at c h) f m answer w = w
  load_wrong (fetches_at c h) f m answer w = w
