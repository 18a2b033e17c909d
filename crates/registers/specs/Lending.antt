-- The memory that a caller has back.
use Rattle.std.specs.Prelude.{◌≡◌, ℕ, List, Some, None, Option}
use Rattle.register.specs.declared.fault.MakeFault.{MakeFault}
use Rattle.register.specs.Rules.{Meaning}
use Rattle.table_register.specs.Table.{cell}

-- It tells each balance of what the register came to mean; where making was refused, it is as it was.
abbrev pub HasBack : Option MakeFault → Meaning → List ℕ → List ℕ → Type 0
HasBack None m cells cells' = (account asset : ℕ) → cell cells' m.accounts m.assets account asset ≡ m.balance account asset
HasBack (Some _) m cells cells' = cells' ≡ cells
