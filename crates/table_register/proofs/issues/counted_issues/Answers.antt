use Rattle.std.proofs.Common.{ℕ, arith}
use Rattle.std.proofs.lemmas.Bool.Decides.{nat_tests}
use Rattle.table_register.specs.Make.{column}
use Rattle.table_register.proofs.Overs.{over_found, most_err}
use Rattle.table_register.proofs.issues.counted_issues.Goals as goal

pub returns-in_err-issues-clause-fault : goal.returns-in_err-issues-clause-fault
returns-in_err-issues-clause-fault c =
    let f : ℕ → ℕ = column c.args.cells.now c.args.accounts c.args.assets in
    let over = most_err (f c.loop-asset.asset) c.column_sum.result _ c.column_sum.ensures c.in_err-issues.ensures.value in
    let found = over_found f c.loop-asset.asset c.args.assets c.loop-asset-test.true over.1 in
    let too_much = over.0 in
    let shape = c.if-not-is_shaped.false in
    let came = c.from_residual.ensures in
    grind (arith, nat_tests, found, shape, too_much, came)
