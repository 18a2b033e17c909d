use Rattle.std.proofs.Common.{sym, ap, ◌∙◌}
use Rattle.register.specs.Instructions.{after_all}
use Rattle.table_register.specs.Table.{table_meaning}
use Rattle.table_register.proofs.Tables.{issued_in}
use Rattle.day_book.specs.Entering.{each_accepted}
use Rattle.day_book.specs.DayMeaning.{posted_means}
use Rattle.day_book.proofs.Turns.{none_accepted}
use Rattle.day_book.proofs.day.DayBook.take.Goals as goal

pub invariant_of-self : goal.invariant_of-self
invariant_of-self c =
    let x = c.args.self.now in
    let k = c.args.counts in
    record {
      size = c.requires.laid_out.size;
      covered = c.requires.laid_out.covered;
      told = λ s h. sym (ap (λ es. (after_all (table_meaning x.cells.now k.accounts k.assets k.issues) es).issue s) (none_accepted (posted_means x) x.entries.items c.requires.empty x.accepted) ∙ issued_in k.issues k.assets s h);
      accepted = ap (each_accepted (table_meaning x.cells.now k.accounts k.assets k.issues)) (none_accepted (posted_means x) x.entries.items c.requires.empty x.accepted);
    }

pub returns-clause-meaning : goal.returns-clause-meaning
returns-clause-meaning c =
    let x = c.args.self.now in
    let k = c.args.counts in
    ap (after_all (table_meaning x.cells.now k.accounts k.assets k.issues)) (none_accepted (posted_means x) x.entries.items c.requires.empty x.accepted) ∙ c.requires.laid_out.means
