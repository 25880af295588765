-- Which operations a step lists: each colour's that its cell has, and no others.
use mathlib.Core.Path.{◌≡◌, refl, subst}
use mathlib.Core.Bool.{Bool, true, false}
use mathlib.Core.List.Memᴰ
use mathlib.Core.List.{List, [], ◌∷◌, map, Memᴰ}
use mathlib.Core.Logic.{⊎_elim}
use Prim.Native.Nat.{ℕ, zero, suc, ◌<◌}
use native.Mathlib.Omega.{arith}
use Rattle.bits.specs.Mask.{places_of, with_zero}
use Rattle.bits.proofs.Mask.{places_at}
use Rattle.page_model.specs.declared.FrameRecord.{FrameRecord}
use Rattle.page_model.specs.declared.Op.{Op}
use Rattle.page_model.specs.declared.Op.TheVariants.{None, Flush, Purge, PurgeInstructions}
use Rattle.page_model.specs.Step.{is_flush, is_purge, cell_of, instruction_cell_of, data_operations, operations, first_two}
use Rattle.page_model.specs.Table.{Step}

-- a place below n that p picks is among the places
places_listed : (n : ℕ) (p : ℕ → Bool) (k : ℕ) → k < n → p k ≡ true → Memᴰ k (places_of n p)
unfolding places_of
places_listed zero p k l e = absurd (omega arith)
places_listed (suc n) p zero l e = rw e (Memᴰ.head refl)
places_listed (suc n) p (suc k) l e = go (p 0) (Memᴰ.map suc (places_listed n (λ j. p (suc j)) k (omega arith) e))
  where
    go : (t : Bool) → Memᴰ (suc k) (map suc (places_of n (λ j. p (suc j)))) → Memᴰ (suc k) (with_zero t (map suc (places_of n (λ j. p (suc j)))))
    go true m = Memᴰ.tail m
    go false m = m

-- what holds of none, and of each of a list, holds of the first two
pub first_two_lem : (P : Op → Type 0) → P None → (ops : List Op) → ((o : Op) → Memᴰ o ops → P o) → P (first_two ops).first × P (first_two ops).second
first_two_lem P e [] h = (e, e)
first_two_lem P e (a ∷ []) h = (h a (Memᴰ.head refl), e)
first_two_lem P e (a ∷ (z ∷ ops)) h = (h a (Memᴰ.head refl), h z (Memᴰ.tail (Memᴰ.head refl)))

module _ (n : ℕ) (s : Step) (r : FrameRecord) where
  pub flush_listed : (k : ℕ) → k < n → is_flush (cell_of s r k).operation ≡ true → Memᴰ (Flush k) (operations n s r)
  unfolding operations
  flush_listed k l e = Memᴰ.append_left _ (Memᴰ.append_left _ (Memᴰ.map Flush (places_listed n (λ j. is_flush (cell_of s r j).operation) k l e)))

  pub purge_listed : (k : ℕ) → k < n → is_purge (cell_of s r k).operation ≡ true → Memᴰ (Purge k) (operations n s r)
  unfolding operations
  purge_listed k l e =
      Memᴰ.append_left _
      (Memᴰ.append_right (map Flush (places_of n (λ j. is_flush (cell_of s r j).operation))) (Memᴰ.map Purge (places_listed n (λ j. is_purge (cell_of s r j).operation) k l e)))

  pub instruction_purge_listed : (k : ℕ) → k < n → is_purge (instruction_cell_of s r k).operation ≡ true → Memᴰ (PurgeInstructions k) (operations n s r)
  unfolding operations
  instruction_purge_listed k l e = Memᴰ.append_right (data_operations n s r) (Memᴰ.map PurgeInstructions (places_listed n (λ j. is_purge (instruction_cell_of s r j).operation) k l e))

  -- a listed operation is one of the three, at a colour below n whose cell has it
  pub listed_cases : {o : Op} {Q : Type 0}
      → ((k : ℕ) → k < n → is_flush (cell_of s r k).operation ≡ true → Flush k ≡ o → Q)
      → ((k : ℕ) → k < n → is_purge (cell_of s r k).operation ≡ true → Purge k ≡ o → Q)
      → ((k : ℕ) → k < n → is_purge (instruction_cell_of s r k).operation ≡ true → PurgeInstructions k ≡ o → Q)
      → Memᴰ o (operations n s r) → Q
  unfolding operations
  listed_cases {o} {Q} flushed purged purged-instructions m =
      ⊎_elim (λ d. ⊎_elim (at Flush _ flushed) (at Purge _ purged) (Memᴰ.append_cases (map Flush (places_of n (λ j. is_flush (cell_of s r j).operation))) d))
      (at PurgeInstructions _ purged-instructions) (Memᴰ.append_cases (data_operations n s r) m)
    where
      at : (op : ℕ → Op) (p : ℕ → Bool) → ((k : ℕ) → k < n → p k ≡ true → op k ≡ o → Q) → Memᴰ o (map op (places_of n p)) → Q
      at op p h m =
          let c = Memᴰ.of_map op (places_of n p) m in
          let there = places_at n p c.0 c.1 in h c.0 there.0 there.1 c.2

  pub listed_purge : (k : ℕ) → Memᴰ (Purge k) (operations n s r) → is_purge (cell_of s r k).operation ≡ true
  listed_purge k =
      listed_cases (λ j l p e. let z : ◌≡◌ {A = ℕ} 0 1 = cc in absurd (omega arith))
      (λ j l p e. let q : j ≡ k = cc in subst (λ (i : ℕ). is_purge (cell_of s r i).operation ≡ true) q p)
      (λ j l p e. let z : ◌≡◌ {A = ℕ} 0 1 = cc in absurd (omega arith))

  pub listed_instruction_purge : (k : ℕ) → Memᴰ (PurgeInstructions k) (operations n s r) → is_purge (instruction_cell_of s r k).operation ≡ true
  listed_instruction_purge k =
      listed_cases (λ j l p e. let z : ◌≡◌ {A = ℕ} 0 1 = cc in absurd (omega arith))
      (λ j l p e. let z : ◌≡◌ {A = ℕ} 0 1 = cc in absurd (omega arith))
      (λ j l p e. let q : j ≡ k = cc in subst (λ (i : ℕ). is_purge (instruction_cell_of s r i).operation ≡ true) q p)
