-- What one look at the list tells a call of a page of a space, so that nothing else of the call asks the list again.
use Rattle.std.specs.Prelude.{Bool, cond, ◌&&◌, ◌≡◌, ℕ, ◌≤◌, ltb, length, Option, Some, None, option_map}
use Rattle.board.specs.declared.Board.{Board}
use Rattle.mapping.specs.declared.MappingList.{MappingList}
use Rattle.mapping.specs.declared.Seen.{Seen}
use Rattle.mapping.specs.Entry.{is_at, mapping_at}
use Rattle.mapping.specs.Lookup.{lookup, place_for}
use Rattle.mapping.specs.Rules.{keeps_rules}

-- of a list that keeps its rules: its count, where the page stands or would go, and its mapping, if there is one
abbrev pub find : MappingList → ℕ → ℕ → Seen
find l space page = record { count = l.count; place = place_for l space page; mapping = option_map (mapping_at l) (lookup l space page) }

-- of any list; nothing of one that breaks them
unfoldable pub look : Board → MappingList → ℕ → ℕ → Option Seen
look b l space page = cond (keeps_rules b l) (Some (find l space page)) None

-- ---- what `find` tells of every list, also of one that breaks its rules

-- whether place i is a listed one, of this page of this space
abbrev pub is_listed_at : MappingList → ℕ → ℕ → ℕ → Bool
is_listed_at l space page i = ltb i l.count && ltb i (length l.items) && is_at (mapping_at l i) space page

-- what place i tells
abbrev pub told_at : MappingList → ℕ → ℕ → ℕ → Seen
told_at l space page i = record { count = l.count; place = i; mapping = cond (is_listed_at l space page i) (Some (mapping_at l i)) None }

-- a place is told that is at most the count and the list's length; where the rules are broken it is free within these, and the rest is what it tells
pub record ToldWithin (l : MappingList) (space page : ℕ) (seen : Seen) : Type 0 where
  pub within_count : seen.place ≤ l.count
  pub within_items : seen.place ≤ length l.items
  pub told : seen ≡ told_at l space page seen.place
