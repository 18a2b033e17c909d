use Rattle.std.proofs.Common.{◌≡◌, List, sym, ap, ◌∙◌, subst}
use Rattle.register.specs.Registers.{meaning}
use Rattle.register.specs.Rules.{Meaning}
use Rattle.book.specs.Data.{contents}
use Rattle.book.specs.Books.{Contents}
use Rattle.pairing.specs.declared.line.Line.{Line}
use Rattle.rules.specs.declared.side.Side.TheVariants.{Cash}
use Rattle.rules.specs.Postings.{Posting, all_posted, NoneRefused}
use Rattle.delivery.specs.Handing.{paid_agents}
use Rattle.delivery.specs.Whole.{net_postings}
use Rattle.delivery.proofs.Outcomes.{ok_err}
use Rattle.delivery.proofs.WholeSides.{whole_units, whole_cash, nets_paid}
use Rattle.delivery.proofs.whole.settle_whole.Goals as goal

pub returns-in_err-settle_by-clause-settles_where_no_move_is_refused : goal.returns-in_err-settle_by-clause-settles_where_no_move_is_refused
returns-in_err-settle_by-clause-settles_where_no_move_is_refused g c = λ fit us cs.
    let units = whole_units (contents c.args.book.now) c.args.lines.now (meaning g.S.Balances c.args.securities.now) us in
    absurd (ok_err (c.settle_by.ensures.settles_where_no_move_is_refused units.0).0 c.in_err-settle_by.was)

pub returns-clause-settles_where_no_move_is_refused : goal.returns-clause-settles_where_no_move_is_refused
returns-clause-settles_where_no_move_is_refused g c = λ fit us cs.
    let b : Contents = contents c.args.book.now in
    let ls : List Line = c.args.lines.now in
    let m : Meaning = meaning g.C.Balances c.args.cash.now in
    let u = whole_units b ls (meaning g.S.Balances c.args.securities.now) us in
    let k = whole_cash b ls m cs in
    let did = c.settle_by.ensures.settles_where_no_move_is_refused u.0 in
    let e : paid_agents c.credits-amounts.result ≡ net_postings b ls = nets_paid b ls c.credits-amounts.result fit c.credits-amounts.ensures.each_net_above_0 in
    let p : NoneRefused Cash m (paid_agents c.credits-amounts.result) = subst (λ (z : List Posting). NoneRefused Cash m z) (sym e) k.0 in
    let paid = c.pay_agents.ensures.pays_where_no_move_is_refused p in (
      paid.0,
      did.2,
      did.1 ∙ sym u.1,
      paid.1 ∙ (ap (λ (z : List Posting). all_posted Cash m z) e ∙ sym k.1),
    )
