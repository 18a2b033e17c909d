use Rattle.std.proofs.Common.{◌≡◌, ℕ, get_or, sym, refl, subst, rules}
use Rattle.book.specs.Data.{contents}
use Rattle.delivery.specs.Sums.{ValuesFit}
use Rattle.settlement.proofs.whole.falls_short.Goals as goal

pub returns : goal.returns
returns c = λ fit.
    let e : c.from-agent.result ≡ c.args.holder.now.agent = search rules in
    let held : c.unwrap_or.result ≡ get_or c.args.state.now.draws c.from-agent.result 0 = search rules in
    let owed = c.debit.ensures.net_below_0 (subst (λ (a : ℕ). ValuesFit (contents c.args.state.now.book) c.args.lines.now a) (sym e) fit) in
    rw (held, owed, e) refl
