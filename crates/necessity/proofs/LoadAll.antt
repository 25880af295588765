-- A run that loads through every page of the caches that a test picks, where none is dirty: those are present then, and the others as they were.
use mathlib.Core.Path.{◌≡◌, refl, sym, ap, subst, subst⁻¹, ◌∙◌}
use mathlib.Core.Bool.{Bool, true, false, cond}
use mathlib.Core.Logic.{◌≢◌}
use Prim.Native.Nat.{ℕ, suc, ◌<◌}
use native.Mathlib.Omega.{arith}
use native.Mathlib.Decide.{ℕ_discrete}
use borrow.Author.Tests.{lt-ltb, le-ltb, ltb-true, ltb-false}
use lib.Dec.{eqb, ltb}
use Rattle.board.specs.declared.Board.{Board}
use Rattle.board.specs.Board.{Regular, cache_pages}
use Rattle.page_model.specs.Busy.{free, writing}
use Rattle.page_model.specs.Table.{ColourState, present, dirty}
use Rattle.machine.specs.State.{State}
use Rattle.consistency.specs.Cacheless.{Cacheless, after_accepted}
use Rattle.necessity.specs.Action.{Action, read, fetch, step_of}
use Rattle.necessity.proofs.Acted.{done}
use Rattle.necessity.proofs.CellLaws.{clean_state_lem, load_own_next, load_other_next}
use Rattle.necessity.proofs.Here.{Here, here_states, here_after, act}
use Rattle.necessity.proofs.In.{made}
use Rattle.necessity.proofs.Loads.{LoadAt, reads_at, fetches_at, load, load_at, load_steps, load_range, load_bars, load_same, load_sends}
use Rattle.necessity.proofs.PageCells.{page_cell}
use Rattle.necessity.proofs.Run.{Run, stay, then, repeated}

-- ---- one load

module _ (b : Board) (reg : Regular b) (f : ℕ) (hf : f < b.frames) (states : ℕ → ColourState) (mark : ℕ) (st : State) (m : Cacheless) (here : Here b f states mark st m)
    (unbarred : eqb mark writing ≡ false) (o : ℕ) (ho : o < b.page) {x : ℕ} {a : Action} (l : LoadAt b o x a) where
  pub load_here : Here b f (λ k. (page_cell b.colours (step_of b a) k (states k)).next) mark (done b st f a) m
  load_here = subst (λ (n : Cacheless). Here b f (λ k. (page_cell b.colours (step_of b a) k (states k)).next) mark (done b st f a) n) (load_same l f m) (go l)
    where
      go : {x : ℕ} {a : Action} → LoadAt b o x a → Here b f (λ k. (page_cell b.colours (step_of b a) k (states k)).next) mark (done b st f a) (after_accepted m (made b f a))
      go (reads_at c h) = here_after b reg f hf states mark st m here (read c o) (h, ho) unbarred
      go (fetches_at c h) = here_after b reg f hf states mark st m here (fetch c o) (h, ho) unbarred

  pub load_run : (Q : State → Cacheless → Type 0) → Q (done b st f a) m → Run b st m Q
  load_run Q q =
      act b reg f hf states mark st m here.tables_in here.inv.kept a (load_range l ho) (load_bars l mark ∙ unbarred) (load_sends l f) Q
      (subst⁻¹ (Q (done b st f a)) (load_same l f m) q)

-- ---- the states along the run

abbrev pub picked : (ℕ → Bool) → (ℕ → ColourState) → ℕ → ColourState
picked q begin k = cond (q k) present (begin k)

abbrev mix : (ℕ → Bool) → (ℕ → ColourState) → ℕ → ℕ → ColourState
mix q begin i k = cond (ltb k i) (picked q begin k) (begin k)

module _ (q : ℕ → Bool) (begin : ℕ → ColourState) where
  picked_clean : (k : ℕ) → begin k ≢ dirty → picked q begin k ≢ dirty
  picked_clean k ne = go (q k)
    where
      go : (t : Bool) → cond t present (begin k) ≢ dirty
      go true = clean_state_lem present refl
      go false = ne

  mix_clean : (i k : ℕ) → begin k ≢ dirty → mix q begin i k ≢ dirty
  mix_clean i k ne = go (ltb k i)
    where
      go : (t : Bool) → cond t (picked q begin k) (begin k) ≢ dirty
      go true = picked_clean k ne
      go false = ne

  mix_here : (i : ℕ) → mix q begin i i ≡ begin i
  mix_here i = ap (λ (t : Bool). cond t (picked q begin i) (begin i)) (le-ltb i i (omega arith))

  mix_next : (i : ℕ) → mix q begin (suc i) i ≡ picked q begin i
  mix_next i = ap (λ (t : Bool). cond t (picked q begin i) (begin i)) (lt-ltb i (suc i) (omega arith))

  mix_other : (i k : ℕ) → i ≢ k → mix q begin (suc i) k ≡ mix q begin i k
  mix_other i k ne = ap (λ (t : Bool). cond t (picked q begin k) (begin k)) (go (ltb k i) refl)
    where
      go : (t : Bool) → ltb k i ≡ t → ltb k (suc i) ≡ ltb k i
      go true e = let h = ltb-true k i e in lt-ltb k (suc i) (omega arith) ∙ sym e
      go false e = let h = ltb-false k i e in le-ltb k (suc i) (omega arith) ∙ sym e

-- ---- the run

module _ (b : Board) (reg : Regular b) (f : ℕ) (hf : f < b.frames) (o : ℕ) (ho : o < b.page) (q : ℕ → Bool) (begin : ℕ → ColourState)
    (clean : (k : ℕ) → begin k ≢ dirty) (Q : State → Cacheless → Type 0)
    (keep : (states : ℕ → ColourState) (st : State) (m : Cacheless) (i : ℕ) → Here b f states free st m → ((k : ℕ) → states k ≢ dirty) → i < cache_pages b → q i ≡ true
    → Q st m → Q (done b st f (load b i o)) m) where
  abbrev Upto : ℕ → State → Cacheless → Type 0
  Upto i st m = Here b f (mix q begin i) free st m × Q st m

  turn : (i : ℕ) → i < cache_pages b → (st : State) (m : Cacheless) → Upto i st m → Run b st m (Upto (suc i))
  turn i hi st m u = go (q i) refl
    where
      go : (t : Bool) → q i ≡ t → Run b st m (Upto (suc i))
      go false e = stay b st m (Upto (suc i)) (here_states b f (mix q begin i) (mix q begin (suc i)) free st m (λ k hk. same k (ℕ_discrete i k)) u.0, u.1)
        where
          same : (k : ℕ) → Dec (i ≡ k) → mix q begin i k ≡ mix q begin (suc i) k
          same k (no ne) = sym (mix_other q begin i k ne)
          same k (yes z) =
              subst (λ (x : ℕ). mix q begin i x ≡ mix q begin (suc i) x) z
              (mix_here q begin i ∙ sym (mix_next q begin i ∙ ap (λ (t : Bool). cond t present (begin i)) e))
      go true e =
          let l = load_at b i o hi in
          load_run b reg f hf (mix q begin i) free st m u.0 refl o ho l (Upto (suc i)) (
            here_states b f _ (mix q begin (suc i)) free _ _ (λ k hk. next k (ℕ_discrete i k)) (load_here b reg f hf (mix q begin i) free st m u.0 refl o ho l),
            keep (mix q begin i) st m i u.0 (λ k. mix_clean q begin i k (clean k)) hi e u.1,
          )
        where
          next : (k : ℕ) → Dec (i ≡ k) → (page_cell b.colours (step_of b (load b i o)) k (mix q begin i k)).next ≡ mix q begin (suc i) k
          next k (no ne) = load_other_next (load_steps (load_at b i o hi)) (mix q begin i k) (mix_clean q begin i k (clean k)) k ne ∙ sym (mix_other q begin i k ne)
          next k (yes z) =
              subst (λ (x : ℕ). (page_cell b.colours (step_of b (load b i o)) x (mix q begin i x)).next ≡ mix q begin (suc i) x) z
              (load_own_next (load_steps (load_at b i o hi)) (mix q begin i i) (mix_clean q begin i i (clean i)) ∙ sym (mix_next q begin i ∙ ap (λ (t : Bool). cond t present (begin i)) e))

  pub load_all : (st : State) (m : Cacheless) → Here b f begin free st m → Q st m → Run b st m (λ t n. Here b f (picked q begin) free t n × Q t n)
  load_all st m here p =
      then b st m (Upto (cache_pages b)) _ (repeated b Upto (cache_pages b) turn st m (here_states b f begin (mix q begin 0) free st m (λ k hk. sym (first k)) here, p))
      (λ t n u. stay b t n _ (here_states b f (mix q begin (cache_pages b)) (picked q begin) free t n (λ k hk. last k hk) u.0, u.1))
    where
      first : (k : ℕ) → mix q begin 0 k ≡ begin k
      first k = ap (λ (t : Bool). cond t (picked q begin k) (begin k)) (le-ltb k 0 (omega arith))

      last : (k : ℕ) → k < cache_pages b → mix q begin (cache_pages b) k ≡ picked q begin k
      last k hk = ap (λ (t : Bool). cond t (picked q begin k) (begin k)) (lt-ltb k (cache_pages b) hk)
