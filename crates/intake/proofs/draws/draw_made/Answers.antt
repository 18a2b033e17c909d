use Rattle.std.proofs.Common.{◌≡◌, ℕ, ◌≤◌, List, ◌∷◌, ◌++◌, get_or, None, Ok, Err, Result, ok_or, sym, ap, ◌∙◌, subst, inl, inr, arith, rules}
use Rattle.std.specs.Result.{result_ok}
use Rattle.std.proofs.lemmas.Result.{err_from_is_err_and}
use Rattle.register.specs.Registers.{meaning}
use Rattle.rules.specs.declared.answer.Answer.{Answer}
use Rattle.rules.specs.declared.answer.Answer.TheVariants.{Done}
use Rattle.rules.specs.declared.fault.Cause.{Cause}
use Rattle.rules.specs.declared.fault.Cause.TheVariants.{NothingDue}
use Rattle.rules.specs.Histories.{Stands}
use Rattle.state.specs.Seeing.{seen}
use Rattle.state.specs.Following.{answered}
use Rattle.state.specs.Calls.{draw_call}
use Rattle.intake.proofs.Drawn.{with_draws, draw_past, draw_not_due, draw_refused, draw_accepted}
use Rattle.intake.proofs.draws.draw_made.Goals as goal
use Rattle.intake.proofs.draws.draw_made.Goals.{then-amount-eq0-via-then-amount-eq0, then-amount-eq0-via-else-amount-eq0+then-drawn-ne0}

cause_is : {X : Type 0} (x y : Cause) → ◌≡◌ {A = Result X Cause} (Err x) (Err y) → x ≡ y
cause_is x y e = cc

pub returns-in_err-drawn-clause-goes_on_by_the_rules : goal.returns-in_err-drawn-clause-goes_on_by_the_rules
returns-in_err-drawn-clause-goes_on_by_the_rules g c =
    let none : c.get.result ≡ None = c.ok_or.ensures.ok_part ∙ ap result_ok c.in_err-drawn.was in
    let past : 65 ≤ c.args.agent = search (rules, none) in
    let cause = cause_is c.in_err-drawn.field-0.0 NothingDue (sym c.in_err-drawn.was ∙ (c.ok_or.ensures.value ∙ ap (λ x. ok_or x NothingDue) none)) in
    let p = err_from_is_err_and c.from_residual.result c.from_residual.ensures.1 in
    λ s rest many o h st now'.
    subst (λ (r : Result Answer Cause). Stands o ((draw_call c.args.agent, answered (draw_call c.args.agent) r) ∷ h)
    (seen c.args.state.now (c.args.lines.now ++ rest) s (meaning g.C.Balances c.args.cash.now)))
    (sym (p.1 ∙ ap Err (p.2 ∙ cause)))
    (draw_past o h c.args.state.now c.args.lines.now rest s (meaning g.C.Balances c.args.cash.now) st many c.args.agent now' past)

pub returns-then-amount-eq0-clause-goes_on_by_the_rules : goal.returns-then-amount-eq0-clause-goes_on_by_the_rules
returns-then-amount-eq0-clause-goes_on_by_the_rules g c =
    let drawn : get_or c.args.state.now.draws c.args.agent 0 ≡ c.in_ok-drawn.field-0.now = search rules in
    λ s rest many o h st now'.
    draw_not_due o h c.args.state.now c.args.lines.now rest s (meaning g.C.Balances c.args.cash.now) st many c.args.agent now' c.debit-amount.result c.debit-amount.ensures.net_below_0
    (elim c.then-amount-eq0.branch [ then-amount-eq0-via-then-amount-eq0 w ↦ inl w.if-amount-eq0.true | then-amount-eq0-via-else-amount-eq0+then-drawn-ne0 w ↦ inr (λ e. w.if-drawn-ne0.true (sym drawn ∙ e)) ])

pub returns-in_err-draw-clause-goes_on_by_the_rules : goal.returns-in_err-draw-clause-goes_on_by_the_rules
returns-in_err-draw-clause-goes_on_by_the_rules g c =
    let p = err_from_is_err_and c.from_residual-in_err-draw.result c.from_residual-in_err-draw.ensures.1 in
    λ s rest many o h st now'.
    subst (λ (r : Result Answer Cause). Stands o ((draw_call c.args.agent, answered (draw_call c.args.agent) r) ∷ h)
    (seen c.args.state.now (c.args.lines.now ++ rest) s (meaning g.C.Balances c.draw.new.cash)))
    (sym (p.1 ∙ ap Err p.2))
    (draw_refused o h c.args.state.now c.args.lines.now rest s (meaning g.C.Balances c.args.cash.now) st many c.args.agent now' c.debit-amount.result c.debit-amount.ensures.net_below_0
    (let z = c.if-amount-eq0.false in omega (arith, z)) (search rules) c.in_err-draw.field-0.0 (meaning g.C.Balances c.draw.new.cash)
    (sym c.draw.ensures.answers_by_the_rules ∙ c.in_err-draw.was) c.draw.ensures.meaning_follows_the_rules)

pub returns-clause-goes_on_by_the_rules : goal.returns-clause-goes_on_by_the_rules
returns-clause-goes_on_by_the_rules g c = λ s rest many o h st now'.
    subst (λ (draws : List ℕ). Stands o ((draw_call c.args.agent, Ok Done) ∷ h) (seen (with_draws c.args.state.now draws) (c.args.lines.now ++ rest) s (meaning g.C.Balances c.draw.new.cash)))
    (sym c.hold.ensures.held)
    (draw_accepted o h c.args.state.now c.args.lines.now rest s (meaning g.C.Balances c.args.cash.now) st many c.args.agent now' c.debit-amount.result c.debit-amount.ensures.net_below_0
    (let z = c.if-amount-eq0.false in omega (arith, z)) (search rules) (meaning g.C.Balances c.draw.new.cash)
    (sym c.draw.ensures.answers_by_the_rules ∙ c.in_ok-draw.was) c.draw.ensures.meaning_follows_the_rules c.hold.ensures.there)
