-- Every table whose sums are covered and bounded is a lawful register.
use Rattle.std.specs.Prelude.{ℕ, ◌+◌, ◌*◌, ◌&&◌, List, nat_lt, slice_index}
use Rattle.std.proofs.lemmas.Bool.{le-ltb, and_left, and_right, cond-false}
use Rattle.register.specs.Rules.{Lawful}
use Rattle.table_register.specs.Table.{Covered, Bounded, table_meaning}

pub table_lawful : (cells : List ℕ) (accounts assets : ℕ) (issues : List ℕ) → Covered cells accounts assets issues → Bounded assets issues → Lawful (table_meaning cells accounts assets issues)
table_lawful cells accounts assets issues covered bounded = record {
  no_account = λ a s h. cond-false (nat_lt a accounts && nat_lt s assets) (slice_index cells (a * assets + s)) 0 (and_left _ _ (le-ltb a accounts h));
  no_asset = λ a s h. cond-false (nat_lt a accounts && nat_lt s assets) (slice_index cells (a * assets + s)) 0 (and_right _ _ (le-ltb s assets h));
  no_issue = λ s h. cond-false (nat_lt s assets) (slice_index issues s) 0 (le-ltb s assets h);
  covered = covered;
  bounded = bounded;
}
