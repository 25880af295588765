-- What the functions that carry out operations ask for: a regular board, a store of its lengths whose tags keep the rules, a frame of the board and
-- pages of its caches. A call has tested all of it.
use Rattle.std.specs.Prelude.{List, ◌≡◌, ℕ, ◌+◌, ◌≤◌, ◌<◌, length}
use Rattle.board.specs.declared.Board.{Board}
use Rattle.board.specs.Board.{Regular, cache_pages}
use Rattle.page_model.specs.declared.Ops.{Ops}
use Rattle.page_model.specs.Step.{OpBelow}
use Rattle.cache.specs.Store.{Store, WellFormedStore}

-- the operations on a frame
abbrev pub OperationsReady : Board → Store → ℕ → Ops → Type 0
OperationsReady b s f ops = WellFormedStore b s × (f < b.frames) × OpBelow b.colours ops.first × OpBelow b.colours ops.second × Regular b

-- and an access after them
abbrev pub AccessReady : Board → Store → ℕ → Ops → ℕ → ℕ → Type 0
AccessReady b s f ops colour offset =
    WellFormedStore b s × (f < b.frames) × OpBelow b.colours ops.first × OpBelow b.colours ops.second × (colour < cache_pages b) × (offset < b.page)
    × Regular b

-- or a device's read
abbrev pub TransferReady : Board → Store → ℕ → Ops → List ℕ → Type 0
TransferReady b s f ops buffer =
    WellFormedStore b s × (f < b.frames) × OpBelow b.colours ops.first × OpBelow b.colours ops.second × (length buffer ≡ b.page) × Regular b

-- or its write of some words from offset first on, all in the page
abbrev pub PartReady : Board → Store → ℕ → Ops → ℕ → List ℕ → Type 0
PartReady b s f ops first buffer =
    WellFormedStore b s × (f < b.frames) × OpBelow b.colours ops.first × OpBelow b.colours ops.second × (0 < length buffer)
    × (first + length buffer ≤ b.page)
    × Regular b
