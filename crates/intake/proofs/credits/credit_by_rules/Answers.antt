use Rattle.std.proofs.Common.{◌∷◌, Err, Result, sym, ap, ◌∙◌, subst}
use Rattle.std.proofs.lemmas.Result.{err_from_is_err_and}
use Rattle.register.specs.Registers.{meaning}
use Rattle.register.specs.Rules.{Meaning}
use Rattle.rules.specs.declared.answer.Answer.{Answer}
use Rattle.rules.specs.declared.call.Call.{Call}
use Rattle.rules.specs.declared.fault.Cause.{Cause}
use Rattle.rules.specs.Histories.{Stands}
use Rattle.state.specs.Seeing.{seen}
use Rattle.state.specs.Following.{answered}
use Rattle.state.specs.Calls.{credit_call}
use Rattle.intake.proofs.Credited.{credit_goes, done_by}
use Rattle.intake.proofs.credits.credit_by_rules.Goals as goal

pub returns-in_err-enter_on_its_side-clause-goes_on_by_the_rules : goal.returns-in_err-enter_on_its_side-clause-goes_on_by_the_rules
returns-in_err-enter_on_its_side-clause-goes_on_by_the_rules g c =
    let call : Call = credit_call c.args.asked.side c.args.asked.account c.args.asked.asset c.args.asked.amount in
    let s : Meaning = meaning g.S.Balances c.args.securities.now in
    let m : Meaning = meaning g.C.Balances c.args.cash.now in
    let s' : Meaning = meaning g.S.Balances c.enter_on_its_side.new.securities in
    let m' : Meaning = meaning g.C.Balances c.enter_on_its_side.new.cash in
    let p = err_from_is_err_and c.from_residual.result c.from_residual.ensures.1 in
    let done = c.enter_on_its_side.ensures in
    λ e lines o h st now'.
    subst (λ (r : Result Answer Cause). Stands o ((call, answered call r) ∷ h) (seen e lines s' m'))
    (ap done_by c.in_err-enter_on_its_side.was ∙ sym (p.1 ∙ ap Err p.2))
    (credit_goes o h e lines s m s' m' c.args.asked.side c.args.asked.account c.args.asked.asset c.args.asked.amount c.enter_on_its_side.result
    done.answers_by_the_rules done.securities_follow_the_rules done.cash_follows_the_rules st)

pub returns-clause-goes_on_by_the_rules : goal.returns-clause-goes_on_by_the_rules
returns-clause-goes_on_by_the_rules g c =
    let call : Call = credit_call c.args.asked.side c.args.asked.account c.args.asked.asset c.args.asked.amount in
    let s : Meaning = meaning g.S.Balances c.args.securities.now in
    let m : Meaning = meaning g.C.Balances c.args.cash.now in
    let s' : Meaning = meaning g.S.Balances c.enter_on_its_side.new.securities in
    let m' : Meaning = meaning g.C.Balances c.enter_on_its_side.new.cash in
    let done = c.enter_on_its_side.ensures in
    λ e lines o h st now'.
    subst (λ (r : Result Answer Cause). Stands o ((call, answered call r) ∷ h) (seen e lines s' m'))
    (ap done_by c.in_ok-enter_on_its_side.was)
    (credit_goes o h e lines s m s' m' c.args.asked.side c.args.asked.account c.args.asked.asset c.args.asked.amount c.enter_on_its_side.result
    done.answers_by_the_rules done.securities_follow_the_rules done.cash_follows_the_rules st)
