-- A buffer of protections that is filled again agrees with the tables, and is 0 past the count.
use mathlib.Core.Path.{◌≡◌, ap, ◌∙◌}
use mathlib.Core.List.{List}
use mathlib.Core.Logic.{⊎_elim}
use Prim.Native.Nat.{ℕ, ◌≤◌}
use native.Mathlib.Omega.{arith}
use borrow.Author.Tests.{le-ltb}
use lib.ListN.{length, get_or, get_or-eq_default}
use Rattle.board.specs.declared.Board.{Board}
use Rattle.mapping.specs.declared.MappingList.{MappingList}
use Rattle.mapping.specs.Entry.{capacity}
use Rattle.mapping.proofs.Tests.{lt_or_le}
use Rattle.manager.specs.Tables.{Tables, protection_at, tabulate, refill}
use Rattle.manager.proofs.Laws.{length_tabulate, get_d_tabulate}

-- past the count a protection is 0, in the table and past its end
past_count : (b : Board) (l : MappingList) (rs : List ℕ) (n i : ℕ) → l.count ≤ i → get_or (tabulate n (protection_at b l rs)) i 0 ≡ 0
unfolding protection_at
past_count b l rs n i h =
    ⊎_elim (λ k. get_d_tabulate n (protection_at b l rs) i k ∙ rw (le-ltb _ _ h))
    (λ k. get_or-eq_default (tabulate n (protection_at b l rs)) 0 {n = i} (let e = length_tabulate n (protection_at b l rs) in omega arith))
    (lt_or_le i n)

-- the protections of tables filled anew
abbrev pub Filled : Board → Tables → Type 0
Filled b u =
    (u.protections ≡ tabulate capacity (protection_at b u.list u.records)) × ((i : ℕ) → u.list.count ≤ i → get_or u.protections i 0 ≡ 0)

pub refill_filled : (b : Board) (t : Tables) → length t.protections ≡ capacity → Filled b (refill b t)
unfolding refill
refill_filled b t e = (ap (λ (n : ℕ). tabulate n (protection_at b t.list t.records)) e, past_count b t.list t.records (length t.protections))
