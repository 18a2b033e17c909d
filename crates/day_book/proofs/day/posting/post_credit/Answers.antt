use Rattle.std.proofs.Common.{◌<◌, length, arith, rules}
use Rattle.table_register.proofs.Enters.{credit_fits, credit_done}
use Rattle.day_book.proofs.day.posting.post_credit.Goals as goal

pub overflow_add-cells : goal.overflow_add-cells
overflow_add-cells c =
    let k = c.args.counts.now in
    let fits = credit_fits c.args.cells.now k.accounts k.assets k.issues c.requires.size c.requires.covered c.args.account c.args.asset c.args.amount c.place-to.result c.requires.accepted c.place-to.ensures.place in
    omega (arith, fits)

pub returns-clause-meaning : goal.returns-clause-meaning
returns-clause-meaning c =
    let k = c.args.counts.now in
    let hl : c.args.asset < length k.issues = search rules in
    (credit_done c.args.cells.now k.accounts k.assets k.issues c.requires.size c.requires.covered c.args.account c.args.asset c.args.amount c.place-to.result c.requires.accepted c.place-to.ensures.place hl).meaning

pub returns-clause-covered : goal.returns-clause-covered
returns-clause-covered c =
    let k = c.args.counts.now in
    let hl : c.args.asset < length k.issues = search rules in
    (credit_done c.args.cells.now k.accounts k.assets k.issues c.requires.size c.requires.covered c.args.account c.args.asset c.args.amount c.place-to.result c.requires.accepted c.place-to.ensures.place hl).covered
