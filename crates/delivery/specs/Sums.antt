-- Sums over the lines of an agent's clients, and when they fit the widths of the answers.
use Rattle.std.specs.Prelude.{ℕ, ◌*◌, ◌≤◌, List, nat_eq}
use Rattle.book.specs.Books.{Contents, value, asset_at}
use Rattle.pairing.specs.declared.line.Line.{Line}
use Rattle.pairing.specs.Lines.{total, unsettled, value_bought, value_sold}
use Rattle.rules.specs.Ranges.{most_value}
use Rattle.delivery.specs.declared.party.Party.{Party}
use Rattle.delivery.specs.declared.sums.Measure.{Measure}
use Rattle.delivery.specs.declared.sums.Measure.TheVariants.{Contracts, UnsettledAtInvoice, UnsettledAtMarket}
use Rattle.delivery.specs.Parties.{agent_on, to_buyer, to_seller}

-- What a line counts for: its contracts, or the unsettled of them, at the invoice or the market price.
abbrev pub measured : Measure → Contents → Line → ℕ
measured Contracts b l = value b l.asset l.contracts
measured UnsettledAtInvoice b l = value b l.asset (unsettled l)
measured UnsettledAtMarket b l = unsettled l * b.terms.multiplier * (asset_at b l.asset).market

-- The sum over the lines on which an agent's clients buy, or sell.
abbrev pub summed : Measure → Contents → Party → List Line → ℕ → ℕ
summed measure b party ls agent = total (λ l. nat_eq (agent_on party b l) agent) (measured measure b) ls

-- What an agent's clients buy and sell is in range, as it is of every book's lines.
abbrev pub ValuesFit : Contents → List Line → ℕ → Type 0
ValuesFit b ls agent = (value_bought b (λ l. l.contracts) ls agent ≤ most_value) × (value_sold b (λ l. l.contracts) ls agent ≤ most_value)

-- So are the unsettled contracts at either price.
pub record ClaimsFit (b : Contents) (ls : List Line) (agent : ℕ) : Type 0 where
  pub bought_at_market : summed UnsettledAtMarket b to_buyer ls agent ≤ most_value
  pub sold_at_market : summed UnsettledAtMarket b to_seller ls agent ≤ most_value
  pub bought_at_invoice : summed UnsettledAtInvoice b to_buyer ls agent ≤ most_value
  pub sold_at_invoice : summed UnsettledAtInvoice b to_seller ls agent ≤ most_value
