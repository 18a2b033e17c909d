use Rattle.std.proofs.Common.{◌≡◌, ℕ, ◌<◌, false, length, get_or}
use Rattle.table_register.specs.Make.{most_assets, column, any_over}
use Rattle.table_register.proofs.issues.counted_issues.Given as goal

abbrev pub invariant-loop-asset : goal.invariant-loop-asset
invariant-loop-asset l =
    (any_over (column l.cells l.accounts l.assets) l.asset ≡ false)
    × ((s : ℕ) → s < l.asset → get_or l.issues s 0 ≡ column l.cells l.accounts l.assets s)
    × (length l.issues ≡ most_assets)
