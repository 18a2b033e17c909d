use Rattle.std.proofs.Common.{◌∷◌, ◌++◌, Ok, sym, ap, subst}
use Rattle.register.specs.Registers.{meaning}
use Rattle.register.specs.Rules.{Meaning}
use Rattle.book.specs.declared.records.Terms.{Terms}
use Rattle.rules.specs.declared.answer.Answer.TheVariants.{Done}
use Rattle.rules.specs.Histories.{Stands}
use Rattle.delivery.proofs.Outcomes.{ok_err}
use Rattle.state.specs.declared.state.State.{State}
use Rattle.state.specs.Seeing.{seen}
use Rattle.state.specs.Calls.{close_call}
use Rattle.settlement.proofs.ClosedOut.{units_go_back, closed_stands}
use Rattle.settlement.proofs.closing.close_made.Goals as goal

pub returns-in_err-return_units-clause-goes_on_by_the_rules : goal.returns-in_err-return_units-clause-goes_on_by_the_rules
returns-in_err-return_units-clause-goes_on_by_the_rules g c =
    let s : Meaning = meaning g.S.Balances c.args.securities.now in
    λ cash rest many o h st now'.
    absurd (ok_err
    (c.return_units.ensures.returns_where_no_move_is_refused
    (units_go_back o h c.args.state.now c.args.lines.now rest s cash st many now' c.terms.result.multiplier (ap (λ (x : Terms). x.multiplier) c.terms.ensures.value))).0
    c.in_err-return_units.was)

pub returns-clause-goes_on_by_the_rules : goal.returns-clause-goes_on_by_the_rules
returns-clause-goes_on_by_the_rules g c =
    let s : Meaning = meaning g.S.Balances c.args.securities.now in
    let s' : Meaning = meaning g.S.Balances c.return_units.new.securities in
    λ cash rest many o h st now'.
    let by_book = ap (λ (x : Terms). x.multiplier) c.terms.ensures.value in
    let back = c.return_units.ensures.returns_where_no_move_is_refused
    (units_go_back o h c.args.state.now c.args.lines.now rest s cash st many now' c.terms.result.multiplier by_book) in
    subst (λ (x : State). Stands o ((close_call, Ok Done) ∷ h) (seen x (c.return_units.new.lines ++ rest) s' cash)) (sym c.closed.ensures.closed_with_claims)
    (closed_stands o h c.args.state.now c.args.lines.now rest s cash st many now' c.terms.result.multiplier by_book
    c.return_units.new.lines s' c.claims-owed.result back.2 back.1 c.closed.ensures.a_place_for_each c.claims-owed.ensures.each_claim)
