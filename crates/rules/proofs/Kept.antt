-- What every tally keeps, whatever was called.
use Rattle.std.proofs.Common.{◌≡◌, ℕ, ◌+◌, ◌-◌, ◌*◌, ◌<◌, ◌≤◌, cond, eqb, ◌⊎◌, List, [], map, length, sum_by}
use Rattle.std.specs.List.{AllByRecursion}
use Rattle.pairing.specs.declared.line.Line.{Line}
use Rattle.rules.specs.declared.side.Side.{Side}
use Rattle.rules.specs.declared.side.Side.TheVariants.{Securities, Cash}
use Rattle.book.specs.Books.{Contents, In, holder, sells, volume}
use Rattle.pairing.specs.Lines.{Lot, lines_of, total, of_seller, of_buyer, value_bought, value_sold, debit}
use Rattle.rules.specs.Numbers.{session_number}
use Rattle.rules.specs.Tally.{Opening, Tally, credited, held, counts, line, closed_on}

-- A line at any time.
pub record Sane (b : Contents) (l : Line) : Type 0 where
  pub buyer : In 1 (length b.holders) l.buyer
  pub seller : In 1 (length b.holders) l.seller
  pub asset : l.asset < length b.assets
  pub some : 0 < l.contracts
  pub used : l.settled + l.returned ≤ l.taken
  pub within : l.taken ≤ l.contracts

-- All the contracts in the lots of a row, and those that the row has to sell.
abbrev pub in_lots : List Lot → ℕ → ℕ
in_lots lots row = sum_by (λ x. cond (eqb x.row row) x.contracts 0) lots

abbrev pub for_sale : Contents → ℕ → ℕ
for_sale b row = cond (sells (holder b row)) (volume (holder b row)) 0

-- Lots that make up each seller's volume, in assets of the book.
pub record FullLots (b : Contents) (lots : List Lot) : Type 0 where
  pub volumes : (row : ℕ) → in_lots lots row ≡ for_sale b row
  pub assets : AllByRecursion (λ x. x.asset < length b.assets) lots

-- Contracts that the row k gave of the asset a and did not get back, and those that it got.
abbrev pub gave : List Line → ℕ → ℕ → ℕ
gave ls k a = total (of_seller k a) (λ l. l.taken - l.returned) ls

abbrev pub got : List Line → ℕ → ℕ → ℕ
got ls k a = total (of_buyer k a) (λ l. l.settled) ls

-- Value that the agent k bought and sold, settled.
abbrev pub spent : Contents → List Line → ℕ → ℕ
spent b ls k = value_bought b (λ l. l.settled) ls k

abbrev pub earned : Contents → List Line → ℕ → ℕ
earned b ls k = value_sold b (λ l. l.settled) ls k

-- A line as it was before any take: what pairing made stays.
abbrev pub anew : Line → Line
anew l = counts l 0 0 0

-- Nothing is settled or returned yet; nothing is in.
abbrev pub Untouched : Line → Type 0
Untouched l = (l.settled ≡ 0) × (l.returned ≡ 0)

abbrev pub NoneIn : Line → Type 0
NoneIn l = l.settled + l.returned ≡ l.taken

pub record Kept (o : Opening) (t : Tally) : Type 0 where
  -- a seller's lots never pass its volume, and make it up from session 3 on; nobody else has lots
  pub lots_within : (row : ℕ) → in_lots t.lots row ≤ for_sale o.book row
  pub lots_full : 3 ≤ session_number t.session → (row : ℕ) → in_lots t.lots row ≡ for_sale o.book row
  pub lots_assets : AllByRecursion (λ x. x.asset < length o.book.assets) t.lots
  -- before pairing there are no lines
  pub no_lines : session_number t.session < 4 → t.lines ≡ []
  -- after it the lines are those of the lots, but for their counts
  pub paired : 4 ≤ session_number t.session → map anew t.lines ≡ map anew (lines_of o.book t.lots)
  pub lines : AllByRecursion (Sane o.book) t.lines
  pub few : sum_by (λ l. l.contracts) t.lines ≤ 1000000
  pub untouched : session_number t.session ≤ 4 → AllByRecursion Untouched t.lines
  pub none_in : session_number t.session ≡ 6 → AllByRecursion NoneIn t.lines
  -- what is closed by differences, which is nothing before the end
  pub closed : AllByRecursion (Sane o.book) t.closed
  pub closed_few : sum_by (λ l. l.contracts) t.closed ≤ 1000000
  pub not_closed : session_number t.session < 6 → t.closed ≡ []
  pub finished : session_number t.session ≡ 6 → (i : ℕ) → (line t i).settled + closed_on t i ≡ (line t i).contracts
  -- draws only in session 4, each of an agent's debit, once
  pub draws_before : session_number t.session < 4 → t.draws ≡ []
  pub draws_after : 4 < session_number t.session → t.draws ≡ []
  pub drawn : (agent : ℕ) → (held t agent ≡ 0) ⊎ (held t agent ≡ debit o.book t.lines agent)
  pub draws : AllByRecursion (λ x. x.amount ≡ debit o.book t.lines x.agent) t.draws
  pub some_drawn : AllByRecursion (λ x. 0 < x.amount) t.draws
  pub once : (agent : ℕ) → sum_by (λ x. cond (eqb x.agent agent) 1 0) t.draws ≤ 1
  -- account 0 is never credited
  pub house : (side : Side) (a : ℕ) → credited t side 0 a ≡ 0
  -- what an account gives is at most what it has
  pub units_cover : (k a : ℕ) → 0 < k → o.book.terms.multiplier * gave t.lines k a ≤ o.securities.balance k a + credited t Securities k a + o.book.terms.multiplier * got t.lines k a
  pub money_covers : (k : ℕ) → 0 < k → spent o.book t.lines k + held t k ≤ o.cash.balance k 0 + credited t Cash k 0 + earned o.book t.lines k
