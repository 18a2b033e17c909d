-- What a day book means.
use Rattle.register.specs.Rules.{Meaning, Lawful}
use Rattle.register.specs.Instructions.{after_all}
use Rattle.table_register.specs.Lawful.{table_lawful}
use Rattle.table_register.specs.Table.{table_meaning}
use Rattle.day_book.specs.declared.day.DayBook.{DayBook}
use Rattle.day_book.specs.DayTable.{waits}

-- What its memory and posted issues mean as a table register,
abbrev pub posted_means : DayBook → Meaning
posted_means x = table_meaning x.cells.now x.counts.accounts x.counts.assets x.counts.issues

-- and what that register means once each entry that waits is carried out in it, the oldest first.
abbrev pub means : DayBook → Meaning
means x = after_all (posted_means x) (waits x.entries)

-- The register of the posted balances is lawful.
pub posted_lawful : (x : DayBook) → Lawful (posted_means x)
posted_lawful x = table_lawful x.cells.now x.counts.accounts x.counts.assets x.counts.issues x.covered x.counts.bounded
