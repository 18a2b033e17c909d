-- The tally: kept from the book, the opening balances and the calls alone, each with whether it was accepted.
use Rattle.std.specs.Prelude.{ℕ, ◌+◌, ◌-◌, ◌*◌, ◌/◌, min, Bool, true, false, cond, ◌&&◌, List, [], ◌∷◌, ◌++◌, map, ℤ, sum_by, ◌==◌, slice_index_or, slice_set}
use Rattle.pairing.specs.declared.line.Line.{Line}
use Rattle.pairing.specs.declared.stage.Stage.TheVariants.{Member}
use Rattle.rules.specs.declared.session.Session.{Session}
use Rattle.rules.specs.declared.session.Session.TheVariants.{MembersNotices, ClearingNotices, Pairing, WholeDelivery, PartialDelivery, Closed}
use Rattle.rules.specs.declared.side.Side.{Side}
use Rattle.rules.specs.declared.side.Side.TheVariants.{Securities, Cash}
use Rattle.rules.specs.declared.call.Call.{Call}
use Rattle.rules.specs.declared.call.Call.TheVariants as call
use Rattle.register.specs.Rules.{Meaning}
use Rattle.book.specs.Books.{Contents, row_named}
use Rattle.rules.specs.Numbers.{session_number}
use Rattle.pairing.specs.Lines.{Lot, added, total, sumℤ, of_seller, of_buyer, of_asset, lines_of, open_on, inside, unsettled, outstanding, value_bought, value_sold, debit, claim_on}

-- What an expiry opens with: a book, the places for lines, and two registers.
pub record Opening : Type 0 where
  pub book : Contents
  pub table : List Line
  pub securities : Meaning
  pub cash : Meaning

-- The register of a side, as it was at the opening.
abbrev pub opened : Opening → Side → Meaning
opened o Securities = o.securities
opened o Cash = o.cash

-- An accepted credit, and a draw that account 0 holds.
pub record Credited : Type 0 where
  pub side : Side
  pub account : ℕ
  pub asset : ℕ
  pub amount : ℕ

pub record Drawn : Type 0 where
  pub agent : ℕ
  pub amount : ℕ

-- All that the calls so far come to.
pub record Tally : Type 0 where
  pub session : Session
  pub lots : List Lot
  pub lines : List Line
  pub credits : List Credited
  pub draws : List Drawn
  -- The lines whose unsettled contracts a close closed by differences; none before it, nor after a whole settlement.
  pub closed : List Line

-- Before the first call.
abbrev pub empty : Tally
empty = record { session = MembersNotices; lots = []; lines = []; credits = []; draws = []; closed = [] }

-- ---- what it tells

abbrev pub in_session : Session → Tally → Bool
in_session s t = session_number t.session == session_number s

-- Whether two sides are one.
abbrev pub same_side : Side → Side → Bool
same_side Securities Securities = true
same_side Securities Cash = false
same_side Cash Securities = false
same_side Cash Cash = true

-- Accepted credits to an account and asset, and to an asset in all.
abbrev pub credited : Tally → Side → ℕ → ℕ → ℕ
credited t side k a = sum_by (λ x. cond (same_side x.side side && (x.account == k && x.asset == a)) x.amount 0) t.credits

abbrev pub issued : Tally → Side → ℕ → ℕ
issued t side a = sum_by (λ x. cond (same_side x.side side && x.asset == a) x.amount 0) t.credits

-- The draw held of an agent, and all draws held.
abbrev pub held : Tally → ℕ → ℕ
held t agent = sum_by (λ x. cond (x.agent == agent) x.amount 0) t.draws

abbrev pub all_held : Tally → ℕ
all_held t = sum_by (λ x. x.amount) t.draws

-- In each register account 0 is the house's own, and in the cash register cash is asset 0.
abbrev pub house : ℕ
house = 0

abbrev pub cash_asset : ℕ
cash_asset = 0

-- So much at account 0, or of asset 0, and nothing at another.
abbrev pub at_0 : ℕ → ℕ → ℕ
at_0 k n = cond (k == 0) n 0

-- A balance of units: opening balance plus credits; a seller's less units taken and not returned, a buyer's plus units
-- settled; account 0's plus units of contracts in. A holder's account is its row.
abbrev pub units : Opening → Tally → ℕ → ℕ → ℕ
units o t k a =
    (o.securities.balance k a + credited t Securities k a
    + o.book.terms.multiplier * (total (of_buyer k a) (λ l. l.settled) t.lines + at_0 k (total (of_asset a) inside t.lines)))
    - o.book.terms.multiplier * total (of_seller k a) (λ l. l.taken - l.returned) t.lines

-- A balance of cash: opening balance plus credits; an agent's plus value sold and settled, less value bought and settled
-- and draw held; account 0's plus draws held. An agent's account is its number. Only credits change another asset than cash.
abbrev pub money : Opening → Tally → ℕ → ℕ → ℕ
money o t k a =
    (o.cash.balance k a + credited t Cash k a
    + at_0 a (value_sold o.book (λ l. l.settled) t.lines k + at_0 k (all_held t)))
    - at_0 a (value_bought o.book (λ l. l.settled) t.lines k + held t k)

abbrev pub balance : Opening → Tally → Side → ℕ → ℕ → ℕ
balance o t Securities = units o t
balance o t Cash = money o t

-- A register as the tally tells it.
abbrev pub told : Opening → Tally → Side → Meaning
told o t side = record { accounts = (opened o side).accounts; assets = (opened o side).assets; balance = balance o t side; issue = λ a. (opened o side).issue a + issued t side a }

-- An agent's claim: 0 until a close.
abbrev pub claim : Contents → Tally → ℕ → ℤ
claim b t agent = sumℤ (claim_on b agent) t.closed

-- ---- how calls change it

-- A line of nobody, with nothing on it.
abbrev pub no_line : Line
no_line = record { stage = Member; buyer = 0; seller = 0; asset = 0; contracts = 0; taken = 0; settled = 0; returned = 0 }

-- A line by its number. Lines count from 1; as line 0, and after the last, there is one with no contracts.
abbrev pub line : Tally → ℕ → Line
line t i = slice_index_or (no_line ∷ t.lines) i no_line

-- The contracts of a line, by its number, that a close closed by differences.
abbrev pub closed_on : Tally → ℕ → ℕ
closed_on t i = unsettled (slice_index_or (no_line ∷ t.closed) i no_line)

-- The line with other counts.
abbrev pub counts : Line → ℕ → ℕ → ℕ → Line
counts l taken settled returned = record { stage = l.stage; buyer = l.buyer; seller = l.seller; asset = l.asset; contracts = l.contracts; taken = taken; settled = settled; returned = returned }

-- The tally with other lines and draws, in a session.
abbrev pub with_lines : Tally → Session → List Line → List Drawn → Tally
with_lines t session ls draws = record { session = session; lots = t.lots; lines = ls; credits = t.credits; draws = draws; closed = t.closed }

-- After a close: the lines that it leaves, and the same, as those whose unsettled contracts it closed by differences.
abbrev pub with_closed : Tally → List Line → Tally
with_closed t ls = record { session = Closed; lots = t.lots; lines = ls; credits = t.credits; draws = t.draws; closed = ls }

-- The tally with other lots, in a session.
abbrev pub with_lots : Tally → Session → List Lot → Tally
with_lots t session lots = record { session = session; lots = lots; lines = t.lines; credits = t.credits; draws = t.draws; closed = t.closed }

-- The tally with one credit more.
abbrev pub with_credit : Tally → Credited → Tally
with_credit t x = record { session = t.session; lots = t.lots; lines = t.lines; credits = x ∷ t.credits; draws = t.draws; closed = t.closed }

-- The contracts that a take moves: in session 4 all outstanding, in 5 as many of them as the seller's balance covers.
abbrev pub takes : Opening → Tally → ℕ → ℕ → ℕ
takes o t row a =
    let due = outstanding t.lines row a in
    let covered = units o t row a / o.book.terms.multiplier in
    cond (in_session PartialDelivery t) (min due covered) due

-- What a line takes of n contracts of a seller and asset, and the line with them.
abbrev pub here : ℕ → ℕ → ℕ → Line → ℕ
here row a n l = cond (of_seller row a l) (min n (open_on l)) 0

abbrev pub loaded : ℕ → ℕ → ℕ → Line → Line
loaded row a n l = counts l (l.taken + here row a n l) l.settled l.returned

-- They count as in on the seller's lines of that asset, in line order.
abbrev pub take_on : ℕ → ℕ → ℕ → List Line → List Line
take_on row a n [] = []
take_on row a n (l ∷ ls) = loaded row a n l ∷ take_on row a (n - here row a n l) ls

-- What is in becomes settled, or is returned.
abbrev pub settle : Line → Line
settle l = counts l l.taken (l.settled + inside l) l.returned

abbrev pub give_back : Line → Line
give_back l = counts l l.taken l.settled (l.returned + inside l)

-- A session's end. The end of 2 gives unnotified contracts to the first deliverable, the end of 4 gives draws back.
abbrev pub ended : Contents → Tally → Session → Tally
ended b t MembersNotices = with_lots t ClearingNotices t.lots
ended b t ClearingNotices = with_lots t Pairing (added b t.lots ++ t.lots)
ended b t Pairing = t
ended b t WholeDelivery = with_lines t PartialDelivery t.lines []
ended b t PartialDelivery = t
ended b t Closed = t

-- One accepted call.
abbrev pub accepted : Opening → Tally → Call → Tally
accepted o t (call.Notice speaker member number asset contracts) =
    with_lots t t.session (record { row = row_named o.book member number; asset = asset; contracts = contracts } ∷ t.lots)
accepted o t call.End = ended o.book t t.session
accepted o t call.Pair = with_lines t WholeDelivery (lines_of o.book t.lots) t.draws
accepted o t (call.Credit side account asset amount) = with_credit t (record { side = side; account = account; asset = asset; amount = amount })
accepted o t (call.Take member number asset) =
    let row = row_named o.book member number in
    with_lines t t.session (take_on row asset (takes o t row asset) t.lines) t.draws
accepted o t (call.Draw agent) = with_lines t t.session t.lines (record { agent = agent; amount = debit o.book t.lines agent } ∷ t.draws)
accepted o t call.SettleWhole = with_lines t Closed (map settle t.lines) []
accepted o t (call.SettleLine i) = with_lines t t.session (slice_set t.lines (i - 1) (settle (line t i))) t.draws
accepted o t call.Close = with_closed t (map give_back t.lines)

-- The tally after calls, the newest first, each with whether it was accepted. A refused call leaves it.
abbrev pub tally : Opening → List (Call × Bool) → Tally
tally o [] = empty
tally o ((c, true) ∷ h) = accepted o (tally o h) c
tally o ((c, false) ∷ h) = tally o h
