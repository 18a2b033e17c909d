-- Counts with which memory is laid out.
use Rattle.std.specs.Prelude.{◌≡◌, ℕ, ◌*◌, ◌≤◌, List, length}
use Rattle.table_register.specs.declared.counts.Counts.{Counts}
use Rattle.table_register.specs.Table.{Covered, table_meaning}
use Rattle.table_register.specs.Make.{memory_meaning}

-- They tell the balances that stand there, and their sums as issues; the memory has a place for each.
pub record LaidOut (cells : List ℕ) (accounts assets : ℕ) (k : Counts) : Type 0 where
  pub means : table_meaning cells k.accounts k.assets k.issues ≡ memory_meaning cells accounts assets
  pub size : k.accounts * k.assets ≤ length cells
  pub covered : Covered cells k.accounts k.assets k.issues
