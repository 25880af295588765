-- What the tests of specs/Entry and specs/Rules and the answers of a lookup say, as facts: the statements of the laws.
use Rattle.std.specs.Prelude.{◌≡◌, ◌⊎◌, ℕ, ◌≤◌, ◌<◌, length}
use Rattle.board.specs.declared.Board.{Board}
use Rattle.board.specs.Board.{spaces, pages}
use Rattle.mapping.specs.declared.Mapping.{Mapping}
use Rattle.mapping.specs.declared.MappingList.{MappingList}
use Rattle.mapping.specs.Entry.{capacity, read_only, read_fetch, zero_mapping, mapping_at}

-- the fields of m lie in their ranges
pub record InRange (b : Board) (m : Mapping) : Type 0 where
  pub space_lt : m.space < spaces
  pub page_lt : m.page < pages
  pub frame_lt : m.frame < b.frames
  pub rights_of_holds : (read_only ≤ m.rights) × (m.rights ≤ read_fetch)

-- m is the mapping of this page of this space
abbrev pub MapsTo : Mapping → ℕ → ℕ → Type 0
MapsTo m s p = (m.space ≡ s) × (m.page ≡ p)

-- m stands before this page of this space
abbrev pub Before : Mapping → ℕ → ℕ → Type 0
Before m s p = (m.space < s) ⊎ ((m.space ≡ s) × (m.page < p))

-- every earlier listed mapping stands before every later one
abbrev pub Ordered : MappingList → Type 0
Ordered l = (i j : ℕ) → i < j → j < l.count → Before (mapping_at l i) (mapping_at l j).space (mapping_at l j).page

-- no two listed mappings share space and page
abbrev pub Distinct : MappingList → Type 0
Distinct l = (i j : ℕ) → i < l.count → j < l.count → MapsTo (mapping_at l i) (mapping_at l j).space (mapping_at l j).page → i ≡ j

-- the list keeps its rules
pub record Rules (b : Board) (l : MappingList) : Type 0 where
  pub count_le : l.count ≤ capacity
  pub in_range_holds : (i : ℕ) → i < l.count → InRange b (mapping_at l i)
  pub ordered : Ordered l
  pub rest_zero_holds : (i : ℕ) → l.count ≤ i → mapping_at l i ≡ zero_mapping

-- place i is the first listed one of this page of this space
pub record FoundAt (l : MappingList) (s p i : ℕ) : Type 0 where
  pub listed : i < l.count
  pub inside : i < length l.items
  pub maps : MapsTo (mapping_at l i) s p
  pub first : (k : ℕ) → k < i → MapsTo (mapping_at l k) s p → ⊥

-- no listed place is of this page of this space
abbrev pub Unlisted : MappingList → ℕ → ℕ → Type 0
Unlisted l s p = (i : ℕ) → i < l.count → i < length l.items → MapsTo (mapping_at l i) s p → ⊥

-- a mapping of this page of this space goes to place i: those below it stand before the page, those from there on do not
pub record GoesTo (l : MappingList) (s p i : ℕ) : Type 0 where
  pub within : i ≤ l.count
  pub earlier : (k : ℕ) → k < i → Before (mapping_at l k) s p
  pub later : (k : ℕ) → i ≤ k → k < l.count → Before (mapping_at l k) s p → ⊥
