-- A register as a table of cells in memory, account by account, with a row of issues.
use Rattle.std.specs.Prelude.{ℕ, ◌+◌, ◌-◌, ◌*◌, ◌≤◌, cond, ◌&&◌, List, nat_lt, slice_index, slice_set}
use Rattle.register.specs.Rules.{sum_to, most, Meaning}

-- The place of a balance.
abbrev pub place : ℕ → ℕ → ℕ → ℕ
place assets account asset = account * assets + asset

-- The balance of an account and an asset, 0 where either is unknown.
abbrev pub cell : List ℕ → ℕ → ℕ → ℕ → ℕ → ℕ
cell cells accounts assets account asset = cond (nat_lt account accounts && nat_lt asset assets) (slice_index cells (place assets account asset)) 0

-- The issue of an asset, 0 where it is unknown.
abbrev pub issued : List ℕ → ℕ → ℕ → ℕ
issued issues assets asset = cond (nat_lt asset assets) (slice_index issues asset) 0

-- Each issue is at least the sum of its balances,
abbrev pub Covered : List ℕ → ℕ → ℕ → List ℕ → Type 0
Covered cells accounts assets issues = (asset : ℕ) → sum_to (λ account. cell cells accounts assets account asset) accounts ≤ issued issues assets asset

-- and at most the most.
abbrev pub Bounded : ℕ → List ℕ → Type 0
Bounded assets issues = (asset : ℕ) → issued issues assets asset ≤ most

-- What cells and issues mean together.
abbrev pub table_meaning : List ℕ → ℕ → ℕ → List ℕ → Meaning
table_meaning cells accounts assets issues = record { accounts = accounts; assets = assets; balance = cell cells accounts assets; issue = issued issues assets }

-- The memory after an accepted credit, and after an accepted move.
abbrev pub credited_cells : List ℕ → ℕ → ℕ → ℕ → ℕ → List ℕ
credited_cells cells assets account asset amount =
    slice_set cells (place assets account asset) (slice_index cells (place assets account asset) + amount)

abbrev pub moved_cells : List ℕ → ℕ → ℕ → ℕ → ℕ → ℕ → List ℕ
moved_cells cells assets giver taker asset amount =
    slice_set (slice_set cells (place assets giver asset) (slice_index cells (place assets giver asset) - amount)) (place assets taker asset) (slice_index cells (place assets taker asset) + amount)
