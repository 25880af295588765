-- Request N11's accounts: one for each space, and one for the transfers; what a charge leaves in them, and when there is no room for it.
use Rattle.std.specs.Prelude.{Bool, ◌&&◌, List, ℕ, ◌+◌, eqb, ltb, length, get_or, set, replicate}

-- the spaces' accounts are 0 to 15
abbrev pub transfer_account : ℕ
transfer_account = 16

abbrev pub account_count : ℕ
account_count = 17

abbrev pub accounts_right : List ℕ → Bool
accounts_right accounts = eqb (length accounts) account_count

-- at the start nothing is charged
abbrev pub no_charges : List ℕ
no_charges = replicate account_count 0

-- the most that a charge may bring an account to
abbrev pub limit : ℕ
limit = 4000000000

abbrev pub balance : List ℕ → ℕ → ℕ
balance accounts k = get_or accounts k 0

-- a charge above 0 would take an account past the limit
unfoldable pub overdrawn : ℕ → ℕ → Bool
overdrawn held cycles = ltb 0 cycles && ltb limit (held + cycles)

-- the accounts with a charge on one of them
unfoldable pub charged : List ℕ → ℕ → ℕ → List ℕ
charged accounts k cycles = set accounts k (balance accounts k + cycles)
