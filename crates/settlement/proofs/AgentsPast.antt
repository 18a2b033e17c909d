-- No line is of an agent above 64.
use Rattle.std.proofs.Common.{◌≡◌, ℕ, ◌<◌, List, [], ◌∷◌, pos, refl, arith}
use Rattle.std.specs.List.{AllByRecursion}
use Rattle.std.proofs.lemmas.Bool.{ne_eqb}
use Rattle.book.specs.Books.{Contents, Sound}
use Rattle.pairing.specs.declared.line.Line.{Line}
use Rattle.pairing.specs.Lines.{buyer_agent, seller_agent, sumℤ, claim_on}
use Rattle.rules.proofs.Kept.{Sane}
use Rattle.rules.proofs.Balances.{agent_in}

pub no_claim : (b : Contents) (ls : List Line) (agent : ℕ) → Sound b → AllByRecursion (Sane b) ls → 64 < agent → sumℤ (claim_on b agent) ls ≡ pos 0
no_claim b [] agent d sane past = refl
no_claim b (l ∷ ls) agent d sane past =
    let buyer = (agent_in b d l.buyer sane.0.buyer).1 in
    let seller = (agent_in b d l.seller sane.0.seller).1 in
    rw (ne_eqb (buyer_agent b l) agent (λ e. omega arith), ne_eqb (seller_agent b l) agent (λ e. omega arith), no_claim b ls agent d sane.1 past) refl
