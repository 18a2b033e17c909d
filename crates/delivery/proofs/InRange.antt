-- The sums of a book's lines are in range: no book has more than a million contracts.
use Rattle.std.proofs.Common.{ℕ, ◌*◌, ◌≤◌, Bool, true, false, cond, eqb, List, [], ◌∷◌, sum_by, mul_assoc, add-mul, mul-le-mul, arith}
use Rattle.std.proofs.lemmas.List.Sums.{sum_by-cons}
use Rattle.book.specs.Limits.{most_bought}
use Rattle.book.specs.Books.{Contents, Sound, asset_at}
use Rattle.pairing.specs.declared.line.Line.{Line}
use Rattle.pairing.specs.Lines.{unsettled}
use Rattle.rules.proofs.Totals.{all_of}
use Rattle.rules.proofs.Bounds.{market_bound, bought_bound, sold_bound}
use Rattle.delivery.specs.declared.party.Party.{Party}
use Rattle.delivery.specs.declared.sums.Measure.TheVariants.{UnsettledAtMarket}
use Rattle.delivery.specs.Parties.{to_buyer, to_seller, agent_on}
use Rattle.delivery.specs.Sums.{measured, summed, ValuesFit, ClaimsFit}

pub values_fit : (b : Contents) (ls : List Line) → Sound b → sum_by (λ l. l.contracts) ls ≤ most_bought → (agent : ℕ) → ValuesFit b ls agent
values_fit b ls s few agent =
    let each = all_of (λ (l : Line). l.contracts ≤ l.contracts) (λ l. omega arith) ls in
    (bought_bound b (λ l. l.contracts) ls agent s each few, sold_bound b (λ l. l.contracts) ls agent s each few)

-- At most 1,000 units a contract, each at most 210,000,000.
market_on : (b : Contents) (l : Line) (counts : Bool) → Sound b → cond counts (measured UnsettledAtMarket b l) 0 ≤ l.contracts * 210000000000
market_on b l true s =
    let u : unsettled l ≤ l.contracts = omega arith in
    let p : unsettled l * b.terms.multiplier * (asset_at b l.asset).market ≤ l.contracts * 1000 * 210000000 = mul-le-mul (mul-le-mul u s.multiplier.1) (market_bound b l.asset s) in
    let q = mul_assoc l.contracts 1000 210000000 in
    omega (arith, p, q)
market_on b l false s = omega arith

market_scaled : (b : Contents) (ls : List Line) (party : Party) (agent : ℕ) → Sound b → summed UnsettledAtMarket b party ls agent ≤ sum_by (λ l. l.contracts) ls * 210000000000
market_scaled b [] party agent s = omega arith
market_scaled b (l ∷ ls) party agent s =
    let here = market_on b l (eqb (agent_on party b l) agent) s in
    let rest = market_scaled b ls party agent s in
    let split = add-mul l.contracts (sum_by (λ x. x.contracts) ls) 210000000000 in
    rw (sum_by-cons (λ x. cond (eqb (agent_on party b x) agent) (measured UnsettledAtMarket b x) 0) l ls, sum_by-cons (λ x. x.contracts) l ls, split) (omega (arith, here, rest))

pub claims_fit : (b : Contents) (ls : List Line) → Sound b → sum_by (λ l. l.contracts) ls ≤ most_bought → (agent : ℕ) → ClaimsFit b ls agent
claims_fit b ls s few agent =
    let each = all_of (λ (l : Line). unsettled l ≤ l.contracts) (λ l. omega arith) ls in
    let buyers = market_scaled b ls to_buyer agent s in
    let sellers = market_scaled b ls to_seller agent s in
    record {
      bought_at_market = omega (arith, buyers, few);
      sold_at_market = omega (arith, sellers, few);
      bought_at_invoice = bought_bound b unsettled ls agent s each few;
      sold_at_invoice = sold_bound b unsettled ls agent s each few;
    }
