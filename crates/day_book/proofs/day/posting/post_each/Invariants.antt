use Rattle.std.proofs.Common.{◌≡◌, ◌*◌, ◌≤◌, length, take}
use Rattle.register.specs.Instructions.{after_all}
use Rattle.table_register.specs.Table.{Covered}
use Rattle.day_book.specs.DayTable.{posted_in, LaterPlacesStay}
use Rattle.day_book.proofs.day.posting.post_each.Given as goal

abbrev pub invariant-loop-entry : goal.invariant-loop-entry
invariant-loop-entry l = record {
  meaning : posted_in l.cells l.counts ≡ after_all (posted_in l.initial.cells l.initial.counts) (take l.entry-index l.entries);
  size : l.counts.accounts * l.counts.assets ≤ length l.cells;
  covered : Covered l.cells l.counts.accounts l.counts.assets l.counts.issues;
  later : LaterPlacesStay (l.initial.counts.accounts * l.initial.counts.assets) l.initial.cells l.cells;
}
