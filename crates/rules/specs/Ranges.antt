-- No sum of the rules passes what the types hold: contracts fit 32 bits, units, values and balances 64, nets and claims
-- 64 with a sign.
use Rattle.std.specs.Prelude.{ℕ, ◌+◌, ◌-◌, ◌*◌, ◌≤◌, List, ℤ, sum_by, unsigned_abs}
use Rattle.std.specs.List.{AllByRecursion}
use Rattle.register.specs.Rules.{Lawful}
use Rattle.book.specs.Limits.{most_bought, most_multiplier, most_market}
use Rattle.book.specs.Books.{value}
use Rattle.pairing.specs.Lines.{lot, total, of_seller, of_buyer, of_asset, inside, outstanding, value_bought, value_sold, net}
use Rattle.rules.specs.declared.side.Side.{Side}
use Rattle.rules.specs.Tally.{Opening, Tally, opened, told, all_held, claim}
use Rattle.rules.specs.Histories.{Entry, tally_of, Lived, Opens}

-- The most contracts of a book, at the largest multiplier.
abbrev pub most_units : ℕ
most_units = most_bought * most_multiplier

-- Those, at the highest market price. No invoice price is higher.
abbrev pub most_value : ℕ
most_value = most_units * most_market

-- A signed number at most so far from 0.
abbrev pub Within : ℕ → ℤ → Type 0
Within most z = unsigned_abs z ≤ most

pub record InRange (o : Opening) (t : Tally) : Type 0 where
  -- The contracts of a lot, of all lines together, and of each line in their order: settled and returned, taken, all.
  pub lots : (row asset : ℕ) → lot t.lots row asset ≤ most_bought
  pub contracts : sum_by (λ l. l.contracts) t.lines ≤ most_bought
  pub counts : AllByRecursion (λ l. (l.settled + l.returned ≤ l.taken) × (l.taken ≤ l.contracts)) t.lines
  -- The units that a seller has outstanding, gave and did not get back, that a buyer got, and that account 0 holds.
  pub outstanding_units : (row asset : ℕ) → o.book.terms.multiplier * outstanding t.lines row asset ≤ most_units
  pub given_units : (row asset : ℕ) → o.book.terms.multiplier * total (of_seller row asset) (λ l. l.taken - l.returned) t.lines ≤ most_units
  pub got_units : (row asset : ℕ) → o.book.terms.multiplier * total (of_buyer row asset) (λ l. l.settled) t.lines ≤ most_units
  pub units_in : (asset : ℕ) → o.book.terms.multiplier * total (of_asset asset) inside t.lines ≤ most_units
  -- The value of each line, of all that an agent buys and sells, all draws held, and nets and claims on either side of 0.
  pub values : AllByRecursion (λ l. value o.book l.asset l.contracts ≤ most_value) t.lines
  pub bought : (agent : ℕ) → value_bought o.book (λ l. l.contracts) t.lines agent ≤ most_value
  pub sold : (agent : ℕ) → value_sold o.book (λ l. l.contracts) t.lines agent ≤ most_value
  pub draws : all_held t ≤ most_value
  pub nets : (agent : ℕ) → Within most_value (net o.book t.lines agent)
  pub claims : (agent : ℕ) → Within most_value (claim o.book t agent)
  -- A lawful register is told as a lawful one: no balance of an unknown account or asset, and the balances of an asset
  -- together at most its issue, which is at most 10^18.
  pub registers : (side : Side) → Lawful (opened o side) → Lawful (told o t side)

-- For every book, opening and history.
abbrev pub SumsInRange : Type 0
SumsInRange = (o : Opening) (h : List Entry) → Opens o → Lived o h → InRange o (tally_of o h)
