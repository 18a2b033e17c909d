-- Lots, the lines that pairs make of them, and the sums over lines: nets and claims.
use Rattle.std.specs.Prelude.{ℕ, zero, suc, ◌+◌, ◌-◌, ◌*◌, min, Bool, cond, ◌&&◌, List, [], ◌∷◌, ◌++◌, length, drop, ℤ, pos, ◌+ℤ◌, ◌-ℤ◌, ◌*ℤ◌, sum_by, ◌==◌, nat_eq}
use Rattle.std.proofs.Math.IntN.{sub_ℕ}
use Rattle.book.specs.declared.records.Holder.{Holder}
use Rattle.pairing.specs.declared.pair.Pair.{Pair}
use Rattle.pairing.specs.declared.line.Line.{Line}
use Rattle.book.specs.Books.{Contents, holder, sells, volume, value, difference}
use Rattle.pairing.specs.Orders.{first_deliverable}
use Rattle.pairing.specs.Pairing.{pairs}

-- ---- lots

-- Contracts added to the lot of the seller in a row for an asset.
pub record Lot : Type 0 where
  pub row : ℕ
  pub asset : ℕ
  pub contracts : ℕ

-- The seller's lot for an asset: all that was added to it.
abbrev pub lot : List Lot → ℕ → ℕ → ℕ
lot lots row a = sum_by (λ x. cond (x.row == row && x.asset == a) x.contracts 0) lots

-- All contracts in lots of the seller.
abbrev pub notified : List Lot → ℕ → ℕ
notified lots row = sum_by (λ x. cond (x.row == row) x.contracts 0) lots

-- The contracts of the seller in no lot yet.
abbrev pub unnotified : List Lot → ℕ → Holder → ℕ
unnotified lots row h = volume h - notified lots row

-- What the end of the notices adds: each seller's unnotified contracts, to the first deliverable (and nothing for buyers).
abbrev pub added_from : ℕ → List Holder → ℕ → List Lot → List Lot
added_from row [] a lots = []
added_from row (h ∷ hs) a lots = record { row = row; asset = a; contracts = cond (sells h) (unnotified lots row h) 0 } ∷ added_from (row + 1) hs a lots

abbrev pub added : Contents → List Lot → List Lot
added b lots = added_from 1 b.holders (first_deliverable b) lots

-- ---- sums over lines

-- The sum of f over the lines that pass.
abbrev pub total : (Line → Bool) → (Line → ℕ) → List Line → ℕ
total passes f ls = sum_by (λ l. cond (passes l) (f l) 0) ls

abbrev pub sumℤ : {X : Type 0} → (X → ℤ) → List X → ℤ
sumℤ f [] = pos 0
sumℤ f (x ∷ xs) = f x +ℤ sumℤ f xs

abbrev pub of_seller : ℕ → ℕ → Line → Bool
of_seller row a l = l.seller == row && l.asset == a

abbrev pub of_buyer : ℕ → ℕ → Line → Bool
of_buyer row a l = l.buyer == row && l.asset == a

abbrev pub of_asset : ℕ → Line → Bool
of_asset a l = l.asset == a

-- ---- lines

-- What the lines so far leave of the seller's lot for an asset.
abbrev pub left : List Lot → List Line → ℕ → ℕ → ℕ
left lots ls row a = lot lots row a - total (of_seller row a) (λ l. l.contracts) ls

-- The lines so far and one more, unless it has no contracts.
abbrev pub add_line : List Line → Line → List Line
add_line ls l = cond (l.contracts == 0) ls (ls ++ (l ∷ []))

-- The line of a pair in an asset, with nothing taken yet; rows are places and one.
abbrev pub fresh : Pair → ℕ → ℕ → Line
fresh p a contracts = record { stage = p.stage; buyer = p.buyer + 1; seller = p.seller + 1; asset = a; contracts = contracts; taken = 0; settled = 0; returned = 0 }

-- A pair puts n contracts into lines, from asset a on: it uses up the seller's lots, lowest asset first.
abbrev pub lines_of_pair : List Lot → Pair → ℕ → ℕ → ℕ → List Line → List Line
lines_of_pair lots p zero a n ls = ls
lines_of_pair lots p (suc assets) a n ls =
    let used = min n (left lots ls (p.seller + 1) a) in
    lines_of_pair lots p assets (a + 1) (n - used) (add_line ls (fresh p a used))

-- Pair by pair, in the order made.
abbrev pub lines_of_pairs : List Lot → ℕ → List Pair → List Line → List Line
lines_of_pairs lots assets [] ls = ls
lines_of_pairs lots assets (p ∷ ps) ls = lines_of_pairs lots assets ps (lines_of_pair lots p assets 0 p.contracts ls)

-- The lines of a book with these lots, numbered from 1.
abbrev pub lines_of : Contents → List Lot → List Line
lines_of b lots = lines_of_pairs lots (length b.assets) (pairs b) []

-- A table with lines in its first places, and later places as they were.
abbrev pub over : List Line → List Line → List Line
over lines table = lines ++ drop (length lines) table

-- ---- the contracts of a line

-- Not yet taken.
abbrev pub open_on : Line → ℕ
open_on l = l.contracts - l.taken

-- In: taken, and neither settled nor returned.
abbrev pub inside : Line → ℕ
inside l = l.taken - (l.settled + l.returned)

abbrev pub unsettled : Line → ℕ
unsettled l = l.contracts - l.settled

-- A seller's outstanding contracts of an asset.
abbrev pub outstanding : List Line → ℕ → ℕ → ℕ
outstanding ls row a = total (of_seller row a) open_on ls

-- ---- nets and claims

abbrev pub buyer_agent : Contents → Line → ℕ
buyer_agent b l = (holder b l.buyer).agent

abbrev pub seller_agent : Contents → Line → ℕ
seller_agent b l = (holder b l.seller).agent

-- The value that an agent's clients buy and sell, where f tells the contracts of a line that count.
abbrev pub value_bought : Contents → (Line → ℕ) → List Line → ℕ → ℕ
value_bought b f ls agent = total (λ l. nat_eq (buyer_agent b l) agent) (λ l. value b l.asset (f l)) ls

abbrev pub value_sold : Contents → (Line → ℕ) → List Line → ℕ → ℕ
value_sold b f ls agent = total (λ l. nat_eq (seller_agent b l) agent) (λ l. value b l.asset (f l)) ls

-- An agent's net: the value of the lines it sells less those it buys. It is 0 while there are no lines.
abbrev pub net : Contents → List Line → ℕ → ℤ
net b ls agent = sub_ℕ (value_sold b (λ l. l.contracts) ls agent) (value_bought b (λ l. l.contracts) ls agent)

-- What a net is below 0.
abbrev pub debit : Contents → List Line → ℕ → ℕ
debit b ls agent = value_bought b (λ l. l.contracts) ls agent - value_sold b (λ l. l.contracts) ls agent

-- The differences of a line's unsettled contracts.
abbrev pub differences : Contents → Line → ℤ
differences b l = pos (unsettled l * b.terms.multiplier) *ℤ difference b l.asset

-- They add to the claim of the buyer's agent, and are subtracted from that of the seller's.
abbrev pub claim_on : Contents → ℕ → Line → ℤ
claim_on b agent l = cond (buyer_agent b l == agent) (differences b l) (pos 0) -ℤ cond (seller_agent b l == agent) (differences b l) (pos 0)
