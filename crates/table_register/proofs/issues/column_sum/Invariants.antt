use Rattle.std.proofs.Common.{◌≡◌, ◌*◌, ◌≤◌, drop, length}
use Rattle.register.specs.Rules.{most}
use Rattle.table_register.specs.Make.{column}
use Rattle.table_register.proofs.issues.column_sum.Given as goal

abbrev pub invariant-loop-row : goal.invariant-loop-row
invariant-loop-row l = record {
  ready : (goal.iterator-loop-row).can_next l.row-iterator;
  finite : (goal.iterator-loop-row).is_finite l.row-iterator;
  size : l.row-iterator.size ≡ l.assets;
  rest : l.row-iterator.rest.now ≡ drop (length l.yielded * l.assets) l.cells;
  sum : l.sum ≡ column l.cells (length l.yielded) l.assets l.asset;
  within : l.sum ≤ most;
  few : length l.yielded ≤ l.accounts;
}
