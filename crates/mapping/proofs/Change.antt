-- What insert, remove and empty make of the list: the records, their number, the count, and the mapping at each place.
use mathlib.Core.Path.{◌≡◌, refl, ap, ◌∙◌}
use mathlib.Core.Bool.{◌&&◌, and-false}
use mathlib.Core.Logic.{⊎_elim}
use Prim.Native.Nat.{ℕ, suc, ◌+◌, ◌-◌, ◌≤◌, ◌<◌}
use native.Mathlib.Omega.{arith}
use borrow.Author.Tests.{lt-ltb, le-ltb, le-leb, lt-leb}
use lib.Dec.{leb, ltb}
use lib.ListN.{length, replicate, length-replicate, get_or-replicate, get_or-eq_default}
use Rattle.mapping.specs.declared.Mapping.{Mapping}
use Rattle.mapping.specs.declared.MappingList.{MappingList}
use Rattle.mapping.specs.Entry.{capacity, zero_mapping, mapping_at}
use Rattle.mapping.specs.Change.{empty, including, insert_at, without, remove}
use Rattle.mapping.proofs.Tests.{cond_true, cond_false, lt_or_le}
use Rattle.mapping.proofs.Including.{including_length, including_earlier, including_same, including_later}
use Rattle.mapping.proofs.Without.{without_length, without_earlier, without_later}

-- ---- empty

pub empty_count : empty.count ≡ 0
unfolding empty
empty_count = refl

pub empty_length : length empty.items ≡ capacity
unfolding empty
empty_length = length-replicate capacity zero_mapping

pub empty_at_lem : (i : ℕ) → mapping_at empty i ≡ zero_mapping
unfolding empty
empty_at_lem i =
    ⊎_elim (λ h. get_or-replicate capacity i zero_mapping zero_mapping h)
    (λ h. get_or-eq_default (replicate capacity zero_mapping) zero_mapping {n = i} (let n = empty_length in omega arith))
    (lt_or_le i capacity)

-- ---- insert

module _ (l : MappingList) (i : ℕ) (m : Mapping) where
  pub insert_at_full : capacity ≤ l.count → insert_at l i m ≡ l
  unfolding insert_at
  insert_at_full h = cond_false (ltb l.count capacity && leb i l.count) _ _ (simp (le-ltb _ _ h))

  pub insert_at_past : l.count < i → insert_at l i m ≡ l
  unfolding insert_at
  insert_at_past h = cond_false (ltb l.count capacity && leb i l.count) _ _ (simp (lt-leb _ _ h, and-false))

  pub insert_at_room : l.count < capacity → i ≤ l.count → insert_at l i m ≡ record { items = including l.items i m; count = l.count + 1 }
  unfolding insert_at
  insert_at_room h k = cond_true (ltb l.count capacity && leb i l.count) _ _ (simp (lt-ltb _ _ h, le-leb _ _ k))

module _ (l : MappingList) (i : ℕ) (m : Mapping) (room : l.count < capacity) (within : i ≤ l.count) where
  pub insert_at_count : (insert_at l i m).count ≡ l.count + 1
  insert_at_count = ap (λ (x : MappingList). x.count) (insert_at_room l i m room within)

  pub insert_at_length : i < length l.items → length (insert_at l i m).items ≡ length l.items
  insert_at_length h = ap (λ (x : MappingList). length x.items) (insert_at_room l i m room within) ∙ including_length l.items i m h

  pub insert_at_at_earlier : i < length l.items → (j : ℕ) → j < i → mapping_at (insert_at l i m) j ≡ mapping_at l j
  insert_at_at_earlier h j k = ap (λ (x : MappingList). mapping_at x j) (insert_at_room l i m room within) ∙ including_earlier l.items i m h j k

  pub insert_at_at_same : i < length l.items → mapping_at (insert_at l i m) i ≡ m
  insert_at_at_same h = ap (λ (x : MappingList). mapping_at x i) (insert_at_room l i m room within) ∙ including_same l.items i m h

  pub insert_at_at_later : i < length l.items → (j : ℕ) → i ≤ j → suc j < length l.items → mapping_at (insert_at l i m) (suc j) ≡ mapping_at l j
  insert_at_at_later h j k o = ap (λ (x : MappingList). mapping_at x (suc j)) (insert_at_room l i m room within) ∙ including_later l.items i m h j k o

-- ---- remove

module _ (l : MappingList) (i : ℕ) where
  pub remove_unlisted : l.count ≤ i → remove l i ≡ l
  unfolding remove
  remove_unlisted h = cond_false (ltb i l.count && leb l.count capacity) _ _ (simp (le-ltb _ _ h))

  pub remove_over : capacity < l.count → remove l i ≡ l
  unfolding remove
  remove_over h = cond_false (ltb i l.count && leb l.count capacity) _ _ (simp (lt-leb _ _ h, and-false))

  pub remove_listed : i < l.count → l.count ≤ capacity → remove l i ≡ record { items = without l.items i; count = l.count - 1 }
  unfolding remove
  remove_listed h k = cond_true (ltb i l.count && leb l.count capacity) _ _ (simp (lt-ltb _ _ h, le-leb _ _ k))

module _ (l : MappingList) (i : ℕ) (listed : i < l.count) (fits : l.count ≤ capacity) where
  pub remove_count : (remove l i).count ≡ l.count - 1
  remove_count = ap (λ (x : MappingList). x.count) (remove_listed l i listed fits)

  pub remove_length : i < length l.items → length (remove l i).items ≡ length l.items
  remove_length h = ap (λ (x : MappingList). length x.items) (remove_listed l i listed fits) ∙ without_length l.items i h

  pub remove_at_earlier : i < length l.items → (j : ℕ) → j < i → mapping_at (remove l i) j ≡ mapping_at l j
  remove_at_earlier h j k = ap (λ (x : MappingList). mapping_at x j) (remove_listed l i listed fits) ∙ without_earlier l.items i h j k

  pub remove_at_later : i < length l.items → (j : ℕ) → i ≤ j → mapping_at (remove l i) j ≡ mapping_at l (suc j)
  remove_at_later h j k = ap (λ (x : MappingList). mapping_at x j) (remove_listed l i listed fits) ∙ without_later l.items i h j k
