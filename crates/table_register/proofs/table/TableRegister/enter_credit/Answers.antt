use Rattle.std.proofs.Common.{◌+◌, ◌<◌, length, get_or, set, refl, ap, arith, rules}
use Rattle.table_register.proofs.Enters.{credit_fits, credit_done}
use Rattle.table_register.proofs.table.TableRegister.enter_credit.Goals as goal

pub overflow_add-self-2 : goal.overflow_add-self-2
overflow_add-self-2 c =
    let x = c.args.self.now in
    let fits = credit_fits x.cells.now x.counts.accounts x.counts.assets x.counts.issues x.size x.covered c.args.account c.args.asset c.args.amount c.place-place.result c.requires.accepted c.place-place.ensures.place in
    omega (arith, fits)

pub invariant_of-self-2 : goal.invariant_of-self-2
invariant_of-self-2 c =
    let x = c.args.self.now in
    let hl : c.args.asset < length x.counts.issues = search rules in
    let done = credit_done x.cells.now x.counts.accounts x.counts.assets x.counts.issues x.size x.covered c.args.account c.args.asset c.args.amount c.place-place.result c.requires.accepted c.place-place.ensures.place hl in
    record { size = done.size; covered = done.covered }

pub returns : goal.returns
returns c =
    let x = c.args.self.now in
    let at = c.place-place.ensures.place in
    let hl : c.args.asset < length x.counts.issues = search rules in
    let done = credit_done x.cells.now x.counts.accounts x.counts.assets x.counts.issues x.size x.covered c.args.account c.args.asset c.args.amount c.place-place.result c.requires.accepted at hl in
    record {
      meaning = done.meaning;
      memory = ap (λ p. set x.cells.now p (get_or x.cells.now p 0 + c.args.amount)) at;
      lender = refl;
    }
