use Rattle.std.proofs.Common.{◌≡◌, ℕ, ◌∷◌, ◌++◌, length, set, Some, None, Err, Option, Result, ok_or, sym, ap, ◌∙◌, subst}
use Rattle.std.specs.Result.{result_ok}
use Rattle.std.proofs.lemmas.Result.{err_from_is_err_and}
use Rattle.register.specs.Registers.{meaning}
use Rattle.rules.specs.declared.answer.Answer.{Answer}
use Rattle.rules.specs.declared.fault.Cause.{Cause}
use Rattle.rules.specs.declared.fault.Cause.TheVariants.{NothingDue}
use Rattle.rules.specs.Histories.{Stands}
use Rattle.state.specs.Seeing.{seen}
use Rattle.state.specs.Following.{answered}
use Rattle.state.specs.Calls.{line_call}
use Rattle.settlement.specs.Placing.{Placed}
use Rattle.settlement.proofs.LineSettled.{no_such_line, nothing_in, line_refused, line_accepted}
use Rattle.settlement.proofs.part.deliver_made.Goals as goal

cause_is : (x y : Cause) → ◌≡◌ {A = Result ℕ Cause} (Err x) (Err y) → x ≡ y
cause_is x y e = cc

pub returns-in_err-place-clause-goes_on_by_the_rules : goal.returns-in_err-place-clause-goes_on_by_the_rules
returns-in_err-place-clause-goes_on_by_the_rules g c =
    let none : c.place_of.result ≡ None = c.ok_or.ensures.ok_part ∙ ap result_ok c.in_err-place.was in
    let past : Placed (length c.args.lines.now) c.args.line None = subst (Placed (length c.args.lines.now) c.args.line) none c.place_of.ensures in
    let cause = cause_is c.in_err-place.field-0.0 NothingDue (sym c.in_err-place.was ∙ (c.ok_or.ensures.value ∙ ap (λ (x : Option ℕ). ok_or x NothingDue) none)) in
    let p = err_from_is_err_and c.from_residual.result c.from_residual.ensures.1 in
    λ rest many o h st now'.
    subst (λ (r : Result Answer Cause). Stands o ((line_call c.args.line, answered (line_call c.args.line) r) ∷ h)
    (seen c.args.state.now (c.args.lines.now ++ rest) (meaning g.S.Balances c.args.securities.now) (meaning g.C.Balances c.args.cash.now)))
    (sym (p.1 ∙ ap Err (p.2 ∙ cause)))
    (no_such_line o h c.args.state.now c.args.lines.now rest (meaning g.S.Balances c.args.securities.now) (meaning g.C.Balances c.args.cash.now) st many c.args.line now' past)

pub returns-then-contracts-eq0-clause-goes_on_by_the_rules : goal.returns-then-contracts-eq0-clause-goes_on_by_the_rules
returns-then-contracts-eq0-clause-goes_on_by_the_rules g c =
    let at : Placed (length c.args.lines.now) c.args.line (Some c.in_ok-place.place) = subst (Placed (length c.args.lines.now) c.args.line) c.in_ok-place.ensures.ok_part c.place_of.ensures in
    λ rest many o h st now'.
    nothing_in o h c.args.state.now c.args.lines.now rest (meaning g.S.Balances c.args.securities.now) (meaning g.C.Balances c.args.cash.now) st many c.args.line now'
    c.in_ok-place.place at.0 at.1 at.2 c.inside-contracts.result c.inside-contracts.ensures.taken_less_settled_and_returned c.if-contracts-eq0.true

pub returns-in_err-settle_line-clause-goes_on_by_the_rules : goal.returns-in_err-settle_line-clause-goes_on_by_the_rules
returns-in_err-settle_line-clause-goes_on_by_the_rules g c =
    let at : Placed (length c.args.lines.now) c.args.line (Some c.in_ok-place.place) = subst (Placed (length c.args.lines.now) c.args.line) c.in_ok-place.ensures.ok_part c.place_of.ensures in
    let p = err_from_is_err_and c.from_residual-in_err-settle_line.result c.from_residual-in_err-settle_line.ensures.1 in
    λ rest many o h st now'.
    subst (λ (r : Result Answer Cause). Stands o ((line_call c.args.line, answered (line_call c.args.line) r) ∷ h)
    (seen c.args.state.now (set c.args.lines.now c.in_ok-place.place c.settle_line.new.line ++ rest) (meaning g.S.Balances c.settle_line.new.securities) (meaning g.C.Balances c.settle_line.new.cash)))
    (sym (p.1 ∙ ap Err p.2))
    (line_refused o h c.args.state.now c.args.lines.now rest (meaning g.S.Balances c.args.securities.now) (meaning g.C.Balances c.args.cash.now) st many c.args.line now'
    c.in_ok-place.place at.0 at.1 at.2 c.inside-contracts.result c.inside-contracts.ensures.taken_less_settled_and_returned c.if-contracts-eq0.false
    c.settle_line.new.line (meaning g.S.Balances c.settle_line.new.securities) (meaning g.C.Balances c.settle_line.new.cash) c.settle_line.result
    c.settle_line.ensures.settles_where_no_move_is_refused c.settle_line.ensures.refused_moves_nothing c.in_err-settle_line.field-0.0 c.in_err-settle_line.was)

pub returns-clause-goes_on_by_the_rules : goal.returns-clause-goes_on_by_the_rules
returns-clause-goes_on_by_the_rules g c =
    let at : Placed (length c.args.lines.now) c.args.line (Some c.in_ok-place.place) = subst (Placed (length c.args.lines.now) c.args.line) c.in_ok-place.ensures.ok_part c.place_of.ensures in
    λ rest many o h st now'.
    line_accepted o h c.args.state.now c.args.lines.now rest (meaning g.S.Balances c.args.securities.now) (meaning g.C.Balances c.args.cash.now) st many c.args.line now'
    c.in_ok-place.place at.0 at.1 at.2 c.inside-contracts.result c.inside-contracts.ensures.taken_less_settled_and_returned c.if-contracts-eq0.false
    c.settle_line.new.line (meaning g.S.Balances c.settle_line.new.securities) (meaning g.C.Balances c.settle_line.new.cash) c.settle_line.result
    c.settle_line.ensures.settles_where_no_move_is_refused c.settle_line.ensures.refused_moves_nothing c.in_ok-settle_line.was
