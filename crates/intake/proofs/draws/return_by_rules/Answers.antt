use Rattle.std.proofs.Common.{◌∷◌, Ok, sym, subst}
use Rattle.register.specs.Registers.{meaning}
use Rattle.register.specs.Rules.{Meaning}
use Rattle.rules.specs.declared.answer.Answer.TheVariants.{Done}
use Rattle.rules.specs.Histories.{Stands}
use Rattle.delivery.proofs.Outcomes.{ok_err}
use Rattle.state.specs.declared.state.State.{State}
use Rattle.state.specs.Seeing.{seen}
use Rattle.state.specs.Calls.{end_call}
use Rattle.intake.proofs.ReturnedDraws.{draws_go_back, returned_stands}
use Rattle.intake.proofs.draws.return_by_rules.Goals as goal

pub returns-in_err-pay_agents-clause-goes_on_by_the_rules : goal.returns-in_err-pay_agents-clause-goes_on_by_the_rules
returns-in_err-pay_agents-clause-goes_on_by_the_rules g c =
    let m : Meaning = meaning g.C.Balances c.args.cash.now in
    λ lines s in_4 o h st now'.
    absurd (ok_err (c.pay_agents.ensures.pays_where_no_move_is_refused (draws_go_back o h c.args.state.now lines s m st now')).0 c.in_err-pay_agents.was)

pub returns-clause-goes_on_by_the_rules : goal.returns-clause-goes_on_by_the_rules
returns-clause-goes_on_by_the_rules g c =
    let m : Meaning = meaning g.C.Balances c.args.cash.now in
    let m' : Meaning = meaning g.C.Balances c.pay_agents.new.cash in
    λ lines s in_4 o h st now'.
    let paid = c.pay_agents.ensures.pays_where_no_move_is_refused (draws_go_back o h c.args.state.now lines s m st now') in
    subst (λ (x : State). Stands o ((end_call, Ok Done) ∷ h) (seen x lines s m')) (sym c.drop_draws.ensures.no_draw_held)
    (returned_stands o h c.args.state.now lines s m st now' m' in_4 paid.1)
