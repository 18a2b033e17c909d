-- When memory can be made a register, and what that register means.
use Rattle.std.specs.Prelude.{ℕ, zero, suc, ◌*◌, Bool, false, cond, ◌&&◌, ◌||◌, List, length, Some, None, Ok, Err, Option, Result, ◌==◌, nat_le, nat_lt, slice_index}
use Rattle.register.specs.declared.fault.MakeFault.{MakeFault}
use Rattle.register.specs.declared.fault.MakeFault.TheVariants.{BadShape, TooMuch}
use Rattle.register.specs.Rules.{sum_to, most, Meaning}
use Rattle.table_register.specs.Table.{place, cell}

-- 1 to this many accounts, and 1 to this many assets.
abbrev pub most_accounts : ℕ
most_accounts = 1024

abbrev pub most_assets : ℕ
most_assets = 16

-- The counts are in range, and the memory has a place for each balance.
abbrev pub shaped : ℕ → ℕ → ℕ → Bool
shaped accounts assets size =
    nat_le 1 accounts && (nat_le accounts most_accounts && (nat_le 1 assets && (nat_le assets most_assets && size == accounts * assets)))

-- The sum of an asset's balances in memory,
abbrev pub column : List ℕ → ℕ → ℕ → ℕ → ℕ
column cells accounts assets asset = sum_to (λ account. slice_index cells (place assets account asset)) accounts

-- the sum where it is not above the most,
abbrev pub within_most : ℕ → Option ℕ
within_most n = cond (nat_le n most) (Some n) None

-- and whether one of the first n sums is above the most.
abbrev pub any_over : (ℕ → ℕ) → ℕ → Bool
any_over f zero = false
any_over f (suc n) = any_over f n || nat_lt most (f n)

-- The first reason not to make this memory a register of these counts.
abbrev pub make_refused : List ℕ → ℕ → ℕ → Option MakeFault
make_refused cells accounts assets =
    cond (shaped accounts assets (length cells))
    (cond (any_over (column cells accounts assets) assets) (Some TooMuch) None)
    (Some BadShape)

-- A register is laid out once: one that has accounts is not laid out again.
abbrev pub lay_out_refused : ℕ → List ℕ → ℕ → ℕ → Option MakeFault
lay_out_refused laid cells accounts assets = cond (laid == 0) (make_refused cells accounts assets) (Some BadShape)

-- The refusal in an answer.
abbrev pub refusal : {X : Type 0} → Result X MakeFault → Option MakeFault
refusal (Ok _) = None
refusal (Err fault) = Some fault

-- What memory means as a table: the balances there, and their sums as issues.
abbrev pub memory_meaning : List ℕ → ℕ → ℕ → Meaning
memory_meaning cells accounts assets = record {
  accounts = accounts;
  assets = assets;
  balance = cell cells accounts assets;
  issue = λ asset. sum_to (λ account. cell cells accounts assets account asset) accounts;
}

-- The meaning of a register that is not laid out yet.
abbrev pub nothing : Meaning
nothing = record { accounts = 0; assets = 0; balance = λ account asset. 0; issue = λ asset. 0 }
