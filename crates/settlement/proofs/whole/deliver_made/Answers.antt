use Rattle.std.proofs.Common.{◌∷◌, ◌++◌, Ok, sym, ◌∙◌, subst}
use Rattle.register.specs.Registers.{meaning}
use Rattle.register.specs.Rules.{Meaning}
use Rattle.rules.specs.declared.side.Side.TheVariants.{Securities, Cash}
use Rattle.rules.specs.declared.answer.Answer.TheVariants.{Done}
use Rattle.rules.specs.Histories.{Stands}
use Rattle.delivery.proofs.Outcomes.{ok_err}
use Rattle.state.specs.declared.state.State.{State}
use Rattle.state.specs.Seeing.{seen}
use Rattle.state.specs.Calls.{whole_call}
use Rattle.settlement.proofs.WholeSettled.{in_range, not_all_in, all_go_out, settled_stands}
use Rattle.settlement.proofs.whole.deliver_made.Goals as goal

pub returns-then-not-all_in-clause-goes_on_by_the_rules : goal.returns-then-not-all_in-clause-goes_on_by_the_rules
returns-then-not-all_in-clause-goes_on_by_the_rules g c =
    let s : Meaning = meaning g.S.Balances c.args.securities.now in
    let m : Meaning = meaning g.C.Balances c.args.cash.now in
    λ rest many o h st now'.
    let fit = in_range o h c.args.state.now c.args.lines.now rest s m st many now' in
    not_all_in o h c.args.state.now c.args.lines.now rest s m st many now' (sym (c.all_in.ensures fit) ∙ c.if-not-all_in.true)

pub returns-in_err-settle_whole-clause-goes_on_by_the_rules : goal.returns-in_err-settle_whole-clause-goes_on_by_the_rules
returns-in_err-settle_whole-clause-goes_on_by_the_rules g c =
    let s : Meaning = meaning g.S.Balances c.args.securities.now in
    let m : Meaning = meaning g.C.Balances c.args.cash.now in
    λ rest many o h st now'.
    let fit = in_range o h c.args.state.now c.args.lines.now rest s m st many now' in
    let out = all_go_out o h c.args.state.now c.args.lines.now rest s m st many now' (sym (c.all_in.ensures fit) ∙ c.if-not-all_in.false) in
    absurd (ok_err (c.settle_whole.ensures.settles_where_no_move_is_refused fit (out Securities) (out Cash)).0 c.in_err-settle_whole.was)

pub returns-clause-goes_on_by_the_rules : goal.returns-clause-goes_on_by_the_rules
returns-clause-goes_on_by_the_rules g c =
    let s : Meaning = meaning g.S.Balances c.args.securities.now in
    let m : Meaning = meaning g.C.Balances c.args.cash.now in
    let s' : Meaning = meaning g.S.Balances c.settle_whole.new.securities in
    let m' : Meaning = meaning g.C.Balances c.settle_whole.new.cash in
    λ rest many o h st now'.
    let fit = in_range o h c.args.state.now c.args.lines.now rest s m st many now' in
    let ready = sym (c.all_in.ensures fit) ∙ c.if-not-all_in.false in
    let out = all_go_out o h c.args.state.now c.args.lines.now rest s m st many now' ready in
    let did = c.settle_whole.ensures.settles_where_no_move_is_refused fit (out Securities) (out Cash) in
    subst (λ (x : State). Stands o ((whole_call, Ok Done) ∷ h) (seen x (c.settle_whole.new.lines ++ rest) s' m')) (sym c.drop_draws.ensures.no_draw_held)
    (settled_stands o h c.args.state.now c.args.lines.now rest s m st many now' ready c.settle_whole.new.lines s' m' did.1 did.2 did.3)
