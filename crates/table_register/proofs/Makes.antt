-- A table that is accepted in making is covered and bounded. Assumes nothing.
use Rattle.std.proofs.Common.{◌≡◌, ℕ, ◌+◌, ◌*◌, ◌<◌, ◌≤◌, false, List, length, get_or, None, ⊎_elim, arith}
use Rattle.std.proofs.lemmas.Bool.{cases_lt}
use Rattle.std.proofs.lemmas.Bool.Decides.{nat_tests}
use Rattle.register.specs.Rules.{sum_to}
use Rattle.table_register.specs.Table.{cell, issued, Covered, Bounded}
use Rattle.table_register.specs.Make.{most_accounts, most_assets, column, any_over, make_refused}
use Rattle.register.proofs.Sums.{sum_ext, sum_zero}
use Rattle.table_register.proofs.Overs.{none_over}
use Rattle.table_register.proofs.Tables.{cell_in, issued_in}

module _ (cells : List ℕ) (accounts assets : ℕ) (accepted : make_refused cells accounts assets ≡ None) where
  pub made_shape : (1 ≤ accounts) × ((accounts ≤ most_accounts) × ((1 ≤ assets) × ((assets ≤ most_assets) × (length cells ≡ accounts * assets))))
  made_shape = (grind (arith, nat_tests), (grind (arith, nat_tests), (grind (arith, nat_tests), (grind (arith, nat_tests), grind (arith, nat_tests)))))

  pub made_none : any_over (column cells accounts assets) assets ≡ false
  made_none = grind (arith, nat_tests)

  pub made_covered : (issues : List ℕ) → ((s : ℕ) → s < assets → get_or issues s 0 ≡ column cells accounts assets s) → Covered cells accounts assets issues
  made_covered issues counted s =
      ⊎_elim
      (λ (h : s < assets).
      let sums = sum_ext (λ a. cell cells accounts assets a s) (λ a. get_or cells (a * assets + s) 0) accounts (λ a l. cell_in cells accounts assets a s l h) in
      omega (arith, sums, counted s h, issued_in issues assets s h))
      (λ (h : assets ≤ s).
      let none = sum_zero (λ a. cell cells accounts assets a s) accounts (λ a l. grind (arith, nat_tests)) in
      omega (arith, none))
      (cases_lt s assets)

  pub made_bounded : (issues : List ℕ) → ((s : ℕ) → s < assets → get_or issues s 0 ≡ column cells accounts assets s) → Bounded assets issues
  made_bounded issues counted s =
      ⊎_elim
      (λ (h : s < assets). let le = none_over (column cells accounts assets) assets s made_none h in omega (arith, le, counted s h, issued_in issues assets s h))
      (λ (h : assets ≤ s). grind (arith, nat_tests))
      (cases_lt s assets)

  pub made_issues : (issues : List ℕ) → ((s : ℕ) → s < assets → get_or issues s 0 ≡ column cells accounts assets s) → (s : ℕ) → issued issues assets s ≡ sum_to (λ a. cell cells accounts assets a s) accounts
  made_issues issues counted s =
      ⊎_elim
      (λ (h : s < assets).
      let sums = sum_ext (λ a. cell cells accounts assets a s) (λ a. get_or cells (a * assets + s) 0) accounts (λ a l. cell_in cells accounts assets a s l h) in
      omega (arith, sums, counted s h, issued_in issues assets s h))
      (λ (h : assets ≤ s).
      let none = sum_zero (λ a. cell cells accounts assets a s) accounts (λ a l. grind (arith, nat_tests)) in
      let out : issued issues assets s ≡ 0 = grind (arith, nat_tests) in
      omega (arith, none, out))
      (cases_lt s assets)
