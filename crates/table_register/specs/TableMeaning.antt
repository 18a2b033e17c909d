-- What a table register means.
use Rattle.table_register.specs.declared.table.TableRegister.{TableRegister}
use Rattle.register.specs.Rules.{Meaning}
use Rattle.table_register.specs.Table.{table_meaning}

abbrev pub means : TableRegister → Meaning
means x = table_meaning x.cells.now x.counts.accounts x.counts.assets x.counts.issues
