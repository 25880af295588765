-- The laws of a batch: how many items it has, which item stands at a place, and that a lent list that fits comes back.
use mathlib.Core.Path.{◌≡◌, refl, sym, ap, subst, ◌∙◌}
use mathlib.Core.Logic.{⊎_elim}
use denote.Param.Members.{Mut}
use native.Mathlib.Nat.{eq-or-lt_of_le}
use mathlib.Core.List.{List, [], ◌∷◌, ◌++◌}
use Prim.Native.Nat.{ℕ, zero, suc, ◌+◌, ◌≤◌, ◌<◌}
use native.Mathlib.Omega.{arith}
use lib.ListN.{length, get_or, take, replicate, length-take, length-append, length-replicate}
use lib.Seq.{take-append-le, take-append_seam, take-take, get_or-take, ext_get_or}
use Rattle.std.specs.Array.{IsFromFnResult, IsFromFnResultFrom}
use Rattle.std.specs.Fn.{Called}
use Rattle.mapping.specs.declared.Mapping.{Mapping}
use Rattle.mapping.specs.declared.Batch.{Batch}
use Rattle.mapping.specs.Entry.{zero_mapping}
use Rattle.mapping.specs.Batch.{batch_size, batch_of, items_of}
use Rattle.mapping.specs.Theorems.{BatchOfItems, BatchOfLength}

-- a default put last changes no element
get_or_zeros : (z : Mapping) (n k : ℕ) → get_or (replicate n z) k z ≡ z
get_or_zeros z zero k = refl
get_or_zeros z (suc n) zero = refl
get_or_zeros z (suc n) (suc k) = get_or_zeros z n k

pub get_or_pad : (xs : List Mapping) (z : Mapping) (n k : ℕ) → get_or (xs ++ replicate n z) k z ≡ get_or xs k z
get_or_pad [] z n k = get_or_zeros z n k
get_or_pad (x ∷ xs) z n zero = refl
get_or_pad (x ∷ xs) z n (suc k) = get_or_pad xs z n k

-- a batch has as many items as it counts
pub items_of_length : (x : Batch) → length (items_of x) ≡ x.count
unfolding items_of
items_of_length x = simp (length-take, length-append, length-replicate) (omega arith)

-- a counted item is the array's record at its place
pub items_of_at : (x : Batch) (k : ℕ) → k < x.count → get_or (items_of x) k zero_mapping ≡ get_or x.items k zero_mapping
unfolding items_of
items_of_at x k h = get_or-take x.count _ k zero_mapping h ∙ get_or_pad x.items zero_mapping x.count k

pub batch_of_items : BatchOfItems
unfolding items_of batch_of
batch_of_items xs h =
    let n : length xs ≤ length (take batch_size (xs ++ replicate batch_size zero_mapping)) = simp (length-take, length-append, length-replicate) (omega arith) in
    take-append-le (length xs) _ _ n ∙ take-take (length xs) batch_size _ h ∙ take-append_seam xs _

pub batch_of_length : BatchOfLength
unfolding batch_of
batch_of_length xs = items_of_length (batch_of xs)

-- ---- records made one by one

module _ {F : Type 0} (g : Mut F (ℕ × Unit {0}) Mapping) (f : F) (h : ℕ → Mapping)
    (calls : (i : ℕ) (y : Mapping) (q : F) → Called g f (i, tt) y q → (q ≡ f) × (y ≡ h i)) where
  -- each record is what its call gave, where a call leaves the closure as it was
  made_at : (ys : List Mapping) (p : F) → p ≡ f → (i n : ℕ) → IsFromFnResultFrom g p ys i n → (k : ℕ) → i ≤ k → k < i + n → get_or ys k zero_mapping ≡ h k
  made_at ys p e i zero m k l u = absurd (omega arith)
  made_at ys p e i (suc n) m k l u =
      let c = calls i m.1 m.0 (subst (λ (x : F). Called g x (i, tt) m.1 m.0) e m.3) in
      ⊎_elim (λ z. ap (λ (n : ℕ). get_or ys n zero_mapping) (sym z) ∙ m.2.1 zero_mapping ∙ c.1 ∙ ap h z) (λ o. made_at ys m.0 c.0 (i + 1) n m.4 k (omega arith) (omega arith)) (eq-or-lt_of_le l)

  pub batch_made : (ys xs : List Mapping) → IsFromFnResult g f ys batch_size → ((i : ℕ) → h i ≡ get_or xs i zero_mapping)
      → ◌≡◌ {A = Batch} (record { items = ys; count = length xs }) (batch_of xs)
  unfolding batch_of
  batch_made ys xs m e =
      ap (λ (zs : List Mapping). batch zs)
      (ext_get_or zero_mapping ys (take batch_size (xs ++ replicate batch_size zero_mapping)) (m.long ∙ sym taken)
      (λ k l. made_at ys f refl 0 batch_size m.each k (omega arith) (omega (arith, m.long)) ∙ e k
      ∙ sym (get_or-take batch_size (xs ++ replicate batch_size zero_mapping) k zero_mapping (omega (arith, m.long)) ∙ get_or_pad xs zero_mapping batch_size k)))
    where
      batch : List Mapping → Batch
      batch zs = record { items = zs; count = length xs }

      taken : length (take batch_size (xs ++ replicate batch_size zero_mapping)) ≡ batch_size
      taken = simp (length-take, length-append, length-replicate) (omega arith)
