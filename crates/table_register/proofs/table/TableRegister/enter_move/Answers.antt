use Rattle.std.proofs.Common.{ℕ, ◌+◌, ◌-◌, ◌*◌, get_or, set, refl, ap, ◌∙◌, arith}
use Rattle.table_register.proofs.Tables.{size_set}
use Rattle.table_register.proofs.Enters.{given_covered, taker_stays, taken_fits, move_done}
use Rattle.table_register.proofs.table.TableRegister.enter_move.Goals as goal

pub invariant_of-self : goal.invariant_of-self
invariant_of-self c =
    let x = c.args.self.now in
    record {
      size = size_set _ _ _ _ x.size;
      covered = given_covered x.cells.now x.counts.accounts x.counts.assets x.counts.issues x.size x.covered c.args.giver c.args.taker c.args.asset c.args.amount c.place-from.result c.place-to.result c.requires.accepted c.place-from.ensures.place c.place-to.ensures.place;
    }

pub overflow_add-self : goal.overflow_add-self
overflow_add-self c =
    let x = c.args.self.now in
    let fits = taken_fits x.cells.now x.counts.accounts x.counts.assets x.counts.issues x.size x.covered c.args.giver c.args.taker c.args.asset c.args.amount c.place-from.result c.place-to.result c.requires.accepted c.place-from.ensures.place c.place-to.ensures.place x.counts.bounded in
    omega (arith, fits)

pub invariant_of-self-2 : goal.invariant_of-self-2
invariant_of-self-2 c =
    let x = c.args.self.now in
    let done = move_done x.cells.now x.counts.accounts x.counts.assets x.counts.issues x.size x.covered c.args.giver c.args.taker c.args.asset c.args.amount c.place-from.result c.place-to.result c.requires.accepted c.place-from.ensures.place c.place-to.ensures.place in
    record { size = done.size; covered = done.covered }

pub returns : goal.returns
returns c =
    let x = c.args.self.now in
    let cells = x.cells.now in
    let n = c.args.amount in
    let from = c.place-from.ensures.place in
    let to = c.place-to.ensures.place in
    let given : ℕ = c.args.giver * x.counts.assets + c.args.asset in
    let stays = taker_stays cells x.counts.accounts x.counts.assets x.counts.issues x.size x.covered c.args.giver c.args.taker c.args.asset n c.place-from.result c.place-to.result c.requires.accepted from to in
    let done = move_done cells x.counts.accounts x.counts.assets x.counts.issues x.size x.covered c.args.giver c.args.taker c.args.asset n c.place-from.result c.place-to.result c.requires.accepted from to in
    let lowered = set cells c.place-from.result (get_or cells c.place-from.result 0 - n) in
    record {
      meaning = done.meaning;
      memory = ap (λ v. set lowered c.place-to.result (v + n)) stays ∙ ap (λ p. set (set cells p (get_or cells p 0 - n)) c.place-to.result (get_or cells c.place-to.result 0 + n)) from
          ∙ ap (λ q. set (set cells given (get_or cells given 0 - n)) q (get_or cells q 0 + n)) to;
      lender = refl;
    }
