use Rattle.std.proofs.Common.{ℕ, ◌+◌, ◌*◌, ◌<◌, ◌≡◌, ◌++◌, ◌∷◌, [], length, get_or, ap, ◌∙◌, arith, length-append}
use Rattle.std.proofs.lemmas.Bool.Decides.{nat_tests}
use Rattle.register.specs.Rules.{most, sum_to}
use Rattle.register.proofs.Sums.{sum_more, sum_grows}
use Rattle.table_register.proofs.Overs.{most_none, most_some, most_is}
use Rattle.table_register.proofs.Rows.{row_rest, row_reads, row_counts, rows_done}
use Rattle.table_register.proofs.issues.column_sum.Goals as goal

pub loop-row-preserved : goal.loop-row-preserved
loop-row-preserved c =
    let cells = c.args.cells.now in
    let n = c.args.assets in
    let f : ℕ → ℕ = λ a. get_or cells (a * n + c.args.asset) 0 in
    let ys = c.loop-row.yielded in
    let k : ℕ = length ys in
    let inv = c.loop-row.invariant in
    let row = c.in-Some.row in
    let rest = c.next.new.self.rest.now in
    let steps = c.in-Some.ensures.steps in
    let long : length row.now ≡ n = steps.1.1 ∙ inv.size in
    let next : length (ys ++ row ∷ []) ≡ k + 1 = length-append ys (row ∷ []) in
    let reads = row_reads cells _ row.now rest c.args.accounts k n c.requires.size inv.rest steps.1.0 long c.args.asset c.requires.known in
    let counts = row_counts cells _ row.now rest c.args.accounts k n c.requires.size inv.rest steps.1.0 long (omega (arith, c.requires.known)) in
    let is = most_is _ _ c.in_ok-sum.ensures in
    record {
      ready = omega (arith, steps.0, inv.ready);
      finite = tt;
      size = steps.0 ∙ inv.size;
      rest = row_rest cells _ row.now rest c.args.accounts k n c.requires.size inv.rest steps.1.0 long (length (ys ++ row ∷ [])) next;
      sum = omega (arith, is, inv.sum, reads, sum_more f k, ap (sum_to f) next);
      within = omega (arith, is, most_some _ _ c.in_ok-sum.ensures);
      few = omega (arith, next, counts);
    }

pub returns-in_err-sum : goal.returns-in_err-sum
returns-in_err-sum c =
    let cells = c.args.cells.now in
    let n = c.args.assets in
    let f : ℕ → ℕ = λ a. get_or cells (a * n + c.args.asset) 0 in
    let k : ℕ = length c.loop-row.yielded in
    let inv = c.loop-row.invariant in
    let row = c.in-Some.row in
    let rest = c.next.new.self.rest.now in
    let steps = c.in-Some.ensures.steps in
    let long : length row.now ≡ n = steps.1.1 ∙ inv.size in
    let reads = row_reads cells _ row.now rest c.args.accounts k n c.requires.size inv.rest steps.1.0 long c.args.asset c.requires.known in
    let counts = row_counts cells _ row.now rest c.args.accounts k n c.requires.size inv.rest steps.1.0 long (omega (arith, c.requires.known)) in
    let grows = sum_grows f (k + 1) c.args.accounts (omega (arith, counts)) in
    let big : most < sum_to f c.args.accounts = omega (arith, most_none _ c.in_err-sum.ensures, inv.sum, reads, sum_more f k, grows) in
    let none = c.from_residual.ensures in
    grind (arith, nat_tests, big, none)

pub returns : goal.returns
returns c =
    let f : ℕ → ℕ = λ a. get_or c.args.cells.now (a * c.args.assets + c.args.asset) 0 in
    let inv = c.loop-row.invariant in
    let all : length c.loop-row.yielded ≡ c.args.accounts = rows_done c.args.cells.now c.loop-row.row-iterator.rest.now c.args.accounts (length c.loop-row.yielded) c.args.assets (omega (arith, c.requires.known)) c.requires.size inv.rest (omega (arith, inv.size, c.in-None.ensures.steps.1.0)) inv.few in
    let sums = ap (sum_to f) all in
    let le = inv.within in
    let is = inv.sum in
    grind (arith, nat_tests, sums, le, is)
