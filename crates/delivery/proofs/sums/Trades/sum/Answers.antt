use Rattle.std.proofs.Common.{◌≡◌, ℕ, min, eqb, ap, ◌∙◌, arith}
use Rattle.book.specs.Data.{contents}
use Rattle.book.specs.Books.{Contents}
use Rattle.delivery.specs.Widths.{most_64, most_128}
use Rattle.delivery.specs.Parties.{agent_on}
use Rattle.delivery.specs.Sums.{measured, summed}
use Rattle.delivery.proofs.SaturatedSums.{saturated}
use Rattle.delivery.proofs.sums.Trades.sum.Goals as goal

pub returns : goal.returns
returns c =
    let b : Contents = contents c.args.self.now.book.now in
    let all : ℕ = summed c.args.measure b c.args.party c.args.self.now.lines.now c.args.self.now.agent in
    let added : c.added.result ≡ min all most_128 = c.added.ensures ∙ saturated most_128 (λ l. eqb (agent_on c.args.party b l) c.args.self.now.agent) (measured c.args.measure b) c.args.self.now.lines.now in
    c.narrowed.ensures ∙ (ap (λ z. min z most_64) added ∙ omega arith)
