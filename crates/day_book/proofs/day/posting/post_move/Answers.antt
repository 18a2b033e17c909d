use Rattle.std.proofs.Common.{arith}
use Rattle.table_register.proofs.Enters.{taken_fits, move_done}
use Rattle.day_book.proofs.day.posting.post_move.Goals as goal

pub overflow_add-cells : goal.overflow_add-cells
overflow_add-cells c =
    let k = c.args.counts.now in
    let fits = taken_fits c.args.cells.now k.accounts k.assets k.issues c.requires.size c.requires.covered c.args.giver c.args.taker c.args.asset c.args.amount c.place-from.result c.place-to.result c.requires.accepted c.place-from.ensures.place c.place-to.ensures.place k.bounded in
    omega (arith, fits)

pub returns-clause-meaning : goal.returns-clause-meaning
returns-clause-meaning c =
    let k = c.args.counts.now in
    (move_done c.args.cells.now k.accounts k.assets k.issues c.requires.size c.requires.covered c.args.giver c.args.taker c.args.asset c.args.amount c.place-from.result c.place-to.result c.requires.accepted c.place-from.ensures.place c.place-to.ensures.place).meaning

pub returns-clause-covered : goal.returns-clause-covered
returns-clause-covered c =
    let k = c.args.counts.now in
    (move_done c.args.cells.now k.accounts k.assets k.issues c.requires.size c.requires.covered c.args.giver c.args.taker c.args.asset c.args.amount c.place-from.result c.place-to.result c.requires.accepted c.place-from.ensures.place c.place-to.ensures.place).covered
