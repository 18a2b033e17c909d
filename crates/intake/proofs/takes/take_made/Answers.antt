use Rattle.std.proofs.Common.{◌∷◌, ◌++◌, Err, Result, sym, ap, ◌∙◌, subst, arith}
use Rattle.std.proofs.lemmas.Result.{err_from_is_err_and}
use Rattle.book.specs.declared.records.Terms.{Terms}
use Rattle.register.specs.Registers.{meaning}
use Rattle.rules.specs.declared.answer.Answer.{Answer}
use Rattle.rules.specs.declared.fault.Cause.{Cause}
use Rattle.rules.specs.Histories.{Stands}
use Rattle.state.specs.Seeing.{seen}
use Rattle.state.specs.Following.{answered}
use Rattle.state.specs.Calls.{take_call}
use Rattle.intake.specs.Taking.{asked_for}
use Rattle.intake.proofs.Taken.{took, take_not_due, take_goes}
use Rattle.intake.proofs.takes.take_made.Goals as goal

pub returns-then-due-eq0-clause-goes_on_by_the_rules : goal.returns-then-due-eq0-clause-goes_on_by_the_rules
returns-then-due-eq0-clause-goes_on_by_the_rules g c = λ member number cash at rest many o h st now'.
    take_not_due o h c.args.state.now c.args.lines.now rest (meaning g.S.Balances c.args.securities.now) cash st many member number c.args.asset c.args.row at
    c.outstanding-due.result c.outstanding-due.ensures.all_that_are_open c.if-due-eq0.true now'

pub returns-in_err-take-clause-goes_on_by_the_rules : goal.returns-in_err-take-clause-goes_on_by_the_rules
returns-in_err-take-clause-goes_on_by_the_rules g c =
    let p = err_from_is_err_and c.from_residual.result c.from_residual.ensures.1 in
    λ member number cash at rest many o h st now'.
    subst (λ (r : Result Answer Cause). Stands o ((take_call member number c.args.asset, answered (take_call member number c.args.asset) r) ∷ h)
    (seen c.args.state.now (c.take.new.lines ++ rest) (meaning g.S.Balances c.take.new.securities) cash))
    (ap (took c.contracts_asked-contracts.result) c.in_err-take.was ∙ sym (p.1 ∙ ap Err p.2))
    (take_goes o h c.args.state.now c.args.lines.now rest (meaning g.S.Balances c.args.securities.now) cash st many member number c.args.asset c.args.row at
    c.outstanding-due.result c.terms-multiplier.result.multiplier c.contracts_asked-contracts.result c.outstanding-due.ensures.all_that_are_open (let z = c.if-due-eq0.false in omega (arith, z))
    (ap (λ (x : Terms). x.multiplier) c.terms-multiplier.ensures.value)
    (c.contracts_asked-contracts.ensures ∙ ap (asked_for c.args.state.now.session c.outstanding-due.result) c.covered.ensures.whole_contracts) now'
    c.take.result (meaning g.S.Balances c.take.new.securities) c.take.new.lines c.take.ensures.answers_by_the_rules c.take.ensures.meaning_follows_the_rules c.take.ensures.taken_or_as_they_were)

pub returns-clause-goes_on_by_the_rules : goal.returns-clause-goes_on_by_the_rules
returns-clause-goes_on_by_the_rules g c = λ member number cash at rest many o h st now'.
    subst (λ (r : Result Answer Cause). Stands o ((take_call member number c.args.asset, answered (take_call member number c.args.asset) r) ∷ h)
    (seen c.args.state.now (c.take.new.lines ++ rest) (meaning g.S.Balances c.take.new.securities) cash))
    (ap (took c.contracts_asked-contracts.result) c.in_ok-take.was)
    (take_goes o h c.args.state.now c.args.lines.now rest (meaning g.S.Balances c.args.securities.now) cash st many member number c.args.asset c.args.row at
    c.outstanding-due.result c.terms-multiplier.result.multiplier c.contracts_asked-contracts.result c.outstanding-due.ensures.all_that_are_open (let z = c.if-due-eq0.false in omega (arith, z))
    (ap (λ (x : Terms). x.multiplier) c.terms-multiplier.ensures.value)
    (c.contracts_asked-contracts.ensures ∙ ap (asked_for c.args.state.now.session c.outstanding-due.result) c.covered.ensures.whole_contracts) now'
    c.take.result (meaning g.S.Balances c.take.new.securities) c.take.new.lines c.take.ensures.answers_by_the_rules c.take.ensures.meaning_follows_the_rules c.take.ensures.taken_or_as_they_were)
