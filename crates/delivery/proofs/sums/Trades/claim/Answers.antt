use Rattle.std.proofs.Common.{◌≡◌, ◌∙◌, arith, w64, SFits, rules}
use lib.IntN.{sub_ℕ}
use Rattle.std.proofs.lemmas.Int.{to_z-of_z}
use Rattle.book.specs.Data.{contents}
use Rattle.book.specs.Books.{Contents}
use Rattle.delivery.proofs.ClaimSums.{gains, losses, claims_split}
use Rattle.delivery.proofs.sums.Trades.claim.Goals as goal

pub returns : goal.returns
returns c = λ fit.
    let b : Contents = contents c.args.self.now.book.now in
    let ls = c.args.self.now.lines.now in
    let agent = c.args.self.now.agent in
    let fits : SFits w64 c.difference.result = search rules in
    let up : c.saturating_add.result ≡ gains b ls agent = omega (arith, fit.bought_at_market, fit.sold_at_invoice) in
    let down : c.saturating_add-2.result ≡ losses b ls agent = omega (arith, fit.sold_at_market, fit.bought_at_invoice) in
    let told = c.difference.ensures (omega (arith, up, fit.bought_at_market, fit.sold_at_invoice)) (omega (arith, down, fit.sold_at_market, fit.bought_at_invoice)) in
    to_z-of_z w64 c.difference.result fits ∙ (told ∙ ((λ i. sub_ℕ (up i) (down i)) ∙ claims_split b ls agent))
