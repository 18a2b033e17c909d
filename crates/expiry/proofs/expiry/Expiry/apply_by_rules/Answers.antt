use Rattle.std.proofs.Common.{◌∷◌, length, Err, Result, sym, ap, ◌∙◌, subst}
use Rattle.std.proofs.lemmas.Result.{err_from_is_err_and}
use Rattle.register.specs.Registers.{meaning}
use Rattle.rules.specs.declared.answer.Answer.{Answer}
use Rattle.rules.specs.declared.fault.Fault.{Fault}
use Rattle.rules.specs.Verdict.{too_small}
use Rattle.rules.specs.Histories.{Seen, Stands}
use Rattle.state.specs.Seeing.{seen}
use Rattle.state.proofs.Checked.{refused_by}
use Rattle.expiry.proofs.Roomy.{small_goes}
use Rattle.expiry.proofs.expiry.Expiry.apply_by_rules.Goals as goal

pub returns-in_err-check_call-clause-goes_on_by_the_rules : goal.returns-in_err-check_call-clause-goes_on_by_the_rules
returns-in_err-check_call-clause-goes_on_by_the_rules g c =
    let n : Seen = seen c.args.self.now.state c.args.lines.now (meaning g.S.Balances c.args.securities.now) (meaning g.C.Balances c.args.cash.now) in
    let p = err_from_is_err_and c.from_residual.result c.from_residual.ensures.1 in
    let small = refused_by (too_small n.book (length n.table) n.securities n.cash c.args.call) c.in_err-check_call.field-0.0 (sym c.check_call.ensures ∙ c.in_err-check_call.was) in
    λ o h st. subst (λ (r : Result Answer Fault). Stands o ((c.args.call, r) ∷ h) n) (sym (p.1 ∙ ap Err p.2)) (small_goes n c.args.call c.in_err-check_call.field-0.0 n small o h st)
