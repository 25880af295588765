-- What the cells of the tables say that the argument needs, by page of the caches.
use mathlib.Core.Path.{◌≡◌, refl, sym, ap, ap₂, ◌∙◌}
use mathlib.Core.Bool.{Bool, true, false, cond, not, ◌&&◌, ◌||◌, true≢false, false≢true}
use mathlib.Core.Logic.{◌≢◌}
use Prim.Native.Nat.{ℕ, zero, suc, ◌+◌, ◌<◌}
use native.Mathlib.Omega.{arith}
use borrow.Author.Tests.{eq-eqb, ne_eqb, eqb-true, eqb-false, lt-ltb, not-true}
use lib.Dec.{eqb}
use Rattle.bits.proofs.Tautology.{and_left, and_right}
use Rattle.page_model.specs.Cases.{state_number}
use Rattle.page_model.specs.Record.{is_held, is_dirty}
use Rattle.page_model.specs.Step.{is_flush, is_purge}
use Rattle.page_model.specs.Table.{ColourState, empty, present, dirty, stale, Operation, none, flush, purge, Step, read, write, device_read, device_write, device_write_part, begin_read, begin_write, fetch}
use Rattle.page_model.proofs.Cells.{Law}
use Rattle.page_model.proofs.Instructions.{not_held}
use Rattle.necessity.proofs.PageCells.{page_cell, Every, page_law}

-- ---- tests

implies : Bool → Bool → Bool
implies a b = not a || b

implied : (a b : Bool) → implies a b ≡ true → a ≡ true → b ≡ true
unfolding implies
implied true b h e = h
implied false b h e = absurd (false≢true e)

-- two states are the same, by their numbers
state_at : ℕ → ColourState
state_at zero = empty
state_at (suc zero) = present
state_at (suc (suc zero)) = dirty
state_at (suc (suc (suc n))) = stale

state_number_lem : (z : ColourState) → state_at (state_number z) ≡ z
unfolding state_at
state_number_lem empty = refl
state_number_lem present = refl
state_number_lem dirty = refl
state_number_lem stale = refl

same : ColourState → ColourState → Bool
same x y = eqb (state_number x) (state_number y)

same_state : (x y : ColourState) → same x y ≡ true → x ≡ y
unfolding same
same_state x y e = sym (state_number_lem x) ∙ ap state_at (eqb-true (state_number x) (state_number y) e) ∙ state_number_lem y

-- and are not
not_same : (x y : ColourState) → x ≢ y → not (same x y) ≡ true
unfolding same
not_same x y ne = ap not (ne_eqb (state_number x) (state_number y) (λ e. ne (same_state x y (eq-eqb (state_number x) (state_number y) e))))

differ : (x y : ColourState) → not (same x y) ≡ true → x ≢ y
unfolding same
differ x y h e = true≢false (sym (eq-eqb (state_number x) (state_number y) (ap state_number e)) ∙ not-true (same x y) h)

-- a state that is not the dirty one
pub clean_state_lem : (z : ColourState) → is_dirty z ≡ false → z ≢ dirty
clean_state_lem z h e = true≢false (sym (ap is_dirty e) ∙ h)

idle : Operation → Bool
idle o = not (is_flush o || is_purge o)

is_none : (o : Operation) → idle o ≡ true → o ≡ none
unfolding idle
is_none none e = refl
is_none flush e = absurd (false≢true e)
is_none purge e = absurd (false≢true e)

-- ---- a step of the processor through page x: a load is a read, or a fetch through a page of the instruction cache

pub data Loads (n : ℕ) : ℕ → Step → Type 0 where
  reads : (c : ℕ) → c < n → Loads n c (read c)
  fetches : (c : ℕ) → c < n → Loads n (n + c) (fetch c)

pub data Through (n : ℕ) : ℕ → Step → Type 0 where
  loads : (x : ℕ) (s : Step) → Loads n x s → Through n x s
  writes : (c : ℕ) → c < n → Through n c (write c)

-- a law that is computed of a read and of a fetch, and of a write
load_law : {n x : ℕ} {s : Step} → Loads n x s → (p : Law) → ((c : ℕ) → Every p (read c)) → ((c : ℕ) → Every p (fetch c)) → (k : ℕ) (z : ColourState)
    → p (eqb x k) z (page_cell n s k z) ≡ true
load_law (reads c h) p r f k z = page_law _ p (read c) h (r c) k z
load_law (fetches c h) p r f k z = page_law _ p (fetch c) h (f c) k z

through_law : {n x : ℕ} {s : Step} → Through n x s → (p : Law) → ((c : ℕ) → Every p (read c)) → ((c : ℕ) → Every p (fetch c)) → ((c : ℕ) → Every p (write c)) → (k : ℕ) (z : ColourState)
    → p (eqb x k) z (page_cell n s k z) ≡ true
through_law (loads x s l) p r f w k z = load_law l p r f k z
through_law (writes c h) p r f w k z = page_law _ p (write c) h (w c) k z

module _ {n x : ℕ} {s : Step} (t : Through n x s) (z : ColourState) where
  -- it flushes a page only if that is another and dirty
  pub through_flush : (k : ℕ) → is_flush (page_cell n s k z).operation ≡ true → (x ≢ k) × (z ≡ dirty)
  unfolding implies same
  through_flush k e =
      let y = implied (is_flush (page_cell n s k z).operation) (same z dirty && not (eqb x k)) (through_law t (λ o z cell. implies (is_flush cell.operation) (same z dirty && not o)) (λ c. refl) (λ c. refl) (λ c. refl) k z) e in
      (eqb-false x k (not-true _ (and_right (same z dirty) _ y)), same_state z dirty (and_left (same z dirty) _ y))

  -- and purges one exactly if it is its own and stale
  pub through_purge : (k : ℕ) → is_purge (page_cell n s k z).operation ≡ true → (x ≡ k) × (z ≡ stale)
  unfolding implies same
  through_purge k e =
      let y = implied (is_purge (page_cell n s k z).operation) (same z stale && eqb x k) (through_law t (λ o z cell. implies (is_purge cell.operation) (same z stale && o)) (λ c. refl) (λ c. refl) (λ c. refl) k z) e in
      (eqb-true x k (and_right (same z stale) _ y), same_state z stale (and_left (same z stale) _ y))

  pub through_stale : z ≡ stale → is_purge (page_cell n s x z).operation ≡ true
  unfolding implies same
  through_stale e =
      implied (eqb x x && same z stale) (is_purge (page_cell n s x z).operation) (through_law t (λ o z cell. implies (o && same z stale) (is_purge cell.operation)) (λ c. refl) (λ c. refl) (λ c. refl) x z)
      (rw (eq-eqb x x refl, e))

  -- its own is not stale after it
  pub through_fresh : (page_cell n s x z).next ≢ stale
  unfolding implies same
  through_fresh =
      differ _ stale
      (implied (eqb x x) _ (through_law t (λ o z cell. implies o (not (same cell.next stale))) (λ c. refl) (λ c. refl) (λ c. refl) x z) (eq-eqb x x refl))

  -- and no other is dirty
  pub through_alone : (k : ℕ) → x ≢ k → (page_cell n s k z).next ≢ dirty
  unfolding implies same
  through_alone k ne =
      differ _ dirty
      (implied (not (eqb x k)) _ (through_law t (λ o z cell. implies (not o) (not (same cell.next dirty))) (λ c. refl) (λ c. refl) (λ c. refl) k z) (ap not (ne_eqb x k ne)))

  -- it flushes no page, if none but its own is dirty, and has no operation on another that is not dirty
  pub through_unflushed : (k : ℕ) → (x ≢ k → z ≢ dirty) → is_flush (page_cell n s k z).operation ≡ false
  through_unflushed k clean = not_held _ (λ e. let y = through_flush k e in clean y.0 y.1)

  pub through_other_idle : z ≢ dirty → (k : ℕ) → x ≢ k → (page_cell n s k z).operation ≡ none
  unfolding implies idle same
  through_other_idle ne k away =
      is_none _
      (implied (not (eqb x k) && not (same z dirty)) _ (through_law t (λ o z cell. implies (not o && not (same z dirty)) (idle cell.operation)) (λ c. refl) (λ c. refl) (λ c. refl) k z)
      (ap₂ ◌&&◌ (ap not (ne_eqb x k away)) (not_same z dirty ne)))

-- ---- a load where its page is not stale, or none is dirty

module _ {n x : ℕ} {s : Step} (l : Loads n x s) (z : ColourState) where
  own_law : (p : Law) → ((c : ℕ) → Every p (read c)) → ((c : ℕ) → Every p (fetch c)) → p true z (page_cell n s x z) ≡ true
  own_law p r f = ap (λ (t : Bool). p t z (page_cell n s x z)) (sym (eq-eqb x x refl)) ∙ load_law l p r f x z

  other_law : (p : Law) → ((c : ℕ) → Every p (read c)) → ((c : ℕ) → Every p (fetch c)) → (k : ℕ) → x ≢ k → p false z (page_cell n s k z) ≡ true
  other_law p r f k ne = ap (λ (t : Bool). p t z (page_cell n s k z)) (sym (ne_eqb x k ne)) ∙ load_law l p r f k z

  pub load_own_idle : z ≢ stale → (page_cell n s x z).operation ≡ none
  unfolding implies idle same
  load_own_idle ne =
      is_none _ (implied (not (same z stale)) _ (own_law (λ o z cell. implies (o && not (same z stale)) (idle cell.operation)) (λ c. refl) (λ c. refl)) (not_same z stale ne))

  module _ (ne : z ≢ dirty) where
    pub load_own_next : (page_cell n s x z).next ≡ present
    unfolding implies same
    load_own_next =
        same_state _ present (implied (not (same z dirty)) _ (own_law (λ o z cell. implies (o && not (same z dirty)) (same cell.next present)) (λ c. refl) (λ c. refl)) (not_same z dirty ne))

    pub load_other_next : (k : ℕ) → x ≢ k → (page_cell n s k z).next ≡ z
    unfolding implies same
    load_other_next k away =
        same_state _ z (implied (not (same z dirty)) _ (other_law (λ o z cell. implies (not o && not (same z dirty)) (same cell.next z)) (λ c. refl) (λ c. refl) k away) (not_same z dirty ne))

-- ---- a write: its own page, and another that is stale or empty

module _ (n c : ℕ) (h : c < n) (z : ColourState) where
  pub write_own_next : (page_cell n (write c) c z).next ≡ dirty
  unfolding implies same
  write_own_next = same_state _ dirty (implied (eqb c c) _ (page_law n (λ o z cell. implies o (same cell.next dirty)) (write c) h refl c z) (eq-eqb c c refl))

  pub write_other_next : is_held z ≡ false → (k : ℕ) → c ≢ k → (page_cell n (write c) k z).next ≡ z
  unfolding implies same
  write_other_next loose k away =
      same_state _ z
      (implied (not (eqb c k) && not (is_held z)) _ (page_law n (λ o z cell. implies (not o && not (is_held z)) (same cell.next z)) (write c) h refl k z)
      (ap₂ ◌&&◌ (ap not (ne_eqb c k away)) (ap not loose)))

-- ---- a transfer that flushes

pub data Flushing : Step → Type 0 where
  device : Flushing device_read
  part : Flushing device_write_part
  begins : Flushing begin_read
  begins_write : Flushing begin_write

flushing_law : {s : Step} → Flushing s → (n : ℕ) (p : Law) → Every p device_read → Every p device_write_part → Every p begin_read → Every p begin_write → (k : ℕ) (z : ColourState)
    → p false z (page_cell n s k z) ≡ true
flushing_law device n p d w r g = page_law n p device_read (omega arith) d
flushing_law part n p d w r g = page_law n p device_write_part (omega arith) w
flushing_law begins n p d w r g = page_law n p begin_read (omega arith) r
flushing_law begins_write n p d w r g = page_law n p begin_write (omega arith) g

module _ {s : Step} (t : Flushing s) (n k : ℕ) (z : ColourState) where
  -- it flushes a page only if that is dirty, purges none, and leaves none dirty
  pub flushing_flush : is_flush (page_cell n s k z).operation ≡ true → z ≡ dirty
  unfolding implies same
  flushing_flush e =
      same_state z dirty (implied (is_flush (page_cell n s k z).operation) (same z dirty) (flushing_law t n (λ o z cell. implies (is_flush cell.operation) (same z dirty)) refl refl refl refl k z) e)

  pub flushing_unflushed : z ≢ dirty → is_flush (page_cell n s k z).operation ≡ false
  flushing_unflushed ne = not_held _ (λ e. ne (flushing_flush e))

  pub flushing_purge : is_purge (page_cell n s k z).operation ≡ false
  flushing_purge = not-true _ (flushing_law t n (λ o z cell. not (is_purge cell.operation)) refl refl refl refl k z)

  pub flushing_clean : (page_cell n s k z).next ≢ dirty
  unfolding same
  flushing_clean = differ _ dirty (flushing_law t n (λ o z cell. not (same cell.next dirty)) refl refl refl refl k z)

module _ (n k : ℕ) (z : ColourState) where
  module _ (ne : z ≢ dirty) where
    pub begin_next : (page_cell n begin_read k z).next ≡ z
    unfolding implies same
    begin_next = same_state _ z (implied (not (same z dirty)) _ (page_law n (λ o z cell. implies (not (same z dirty)) (same cell.next z)) begin_read (omega arith) refl k z) (not_same z dirty ne))

    pub begin_idle : (page_cell n begin_read k z).operation ≡ none
    unfolding implies idle same
    begin_idle = is_none _ (implied (not (same z dirty)) _ (page_law n (λ o z cell. implies (not (same z dirty)) (idle cell.operation)) begin_read (omega arith) refl k z) (not_same z dirty ne))

  -- ---- a device's write of the whole page

  pub whole_flush : is_flush (page_cell n device_write k z).operation ≡ false
  whole_flush = not-true _ (page_law n (λ o z cell. not (is_flush cell.operation)) device_write (omega arith) refl k z)

  pub whole_purge : is_purge (page_cell n device_write k z).operation ≡ true → z ≡ dirty
  unfolding implies same
  whole_purge e =
      same_state z dirty (implied (is_purge (page_cell n device_write k z).operation) (same z dirty) (page_law n (λ o z cell. implies (is_purge cell.operation) (same z dirty)) device_write (omega arith) refl k z) e)

  pub whole_clean : (page_cell n device_write k z).next ≢ dirty
  unfolding same
  whole_clean = differ _ dirty (page_law n (λ o z cell. not (same cell.next dirty)) device_write (omega arith) refl k z)

-- a dirty colour is not stale after it
pub whole_fresh : (n k : ℕ) (z : ColourState) → k < n → z ≡ dirty → (page_cell n device_write k z).next ≢ stale
whole_fresh n k z h e = rw (lt-ltb k n h, e) (λ q. let a : ◌≡◌ {A = ℕ} 0 1 = cc in omega arith)

-- present pages are stale after it, and empty ones empty, with no operation
module _ (n k : ℕ) where
  pub whole_next : (t : Bool) → (page_cell n device_write k (cond t present empty)).next ≡ cond t stale empty
  unfolding implies same
  whole_next true = same_state _ stale (page_law n (λ o z cell. implies (same z present) (same cell.next stale)) device_write (omega arith) refl k present)
  whole_next false = same_state _ empty (page_law n (λ o z cell. implies (same z empty) (same cell.next empty)) device_write (omega arith) refl k empty)

  pub whole_idle : (t : Bool) → (page_cell n device_write k (cond t present empty)).operation ≡ none
  unfolding implies idle same
  whole_idle true = is_none _ (page_law n (λ o z cell. implies (not (same z dirty)) (idle cell.operation)) device_write (omega arith) refl k present)
  whole_idle false = is_none _ (page_law n (λ o z cell. implies (not (same z dirty)) (idle cell.operation)) device_write (omega arith) refl k empty)
