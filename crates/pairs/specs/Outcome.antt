-- What pairing answers, and what it leaves in the table of lines and in the records of lots.
use Rattle.std.specs.Prelude.{◌≡◌, ℕ, ◌*◌, ◌<◌, Bool, cond, List, ◌++◌, length, take, IfOk, Ok, Err, Result, nat_lt}
use Rattle.book.specs.Books.{Contents}
use Rattle.pairing.specs.declared.line.Line.{Line}
use Rattle.pairing.specs.Laws.{places_a_holder}
use Rattle.pairing.specs.Lines.{Lot, lot, added, lines_of, over}
use Rattle.pairs.specs.declared.fault.PairingFault.{PairingFault}
use Rattle.pairs.specs.declared.fault.PairingFault.TheVariants.{FewLines, FewRecords}
use Rattle.pairs.specs.declared.lots.SellerLots.{SellerLots}
use Rattle.pairs.specs.Records.{lots_in, handed}

-- ---- pairing

-- The table has too few places.
abbrev pub too_small : Contents → List Line → Bool
too_small b table = nat_lt (length table) (places_a_holder * length b.holders)

-- The answer: the number of lines, or that the table is too small.
abbrev pub pair_answer : Contents → List Lot → List Line → Result ℕ PairingFault
pair_answer b lots table = cond (too_small b table) (Err FewLines) (Ok (length (lines_of b lots)))

-- The table afterwards: the lines in its first places and later ones as they were; where it is too small, all as it was.
abbrev pub pair_leaves : Contents → List Lot → List Line → List Line
pair_leaves b lots table = cond (too_small b table) table (over (lines_of b lots) table)

-- What holds of the lines that a table has after pairing: of those in its first places, as many as the answer says.
abbrev pub OfLines : Result ℕ PairingFault → List Line → (List Line → Type 0) → Type 0
OfLines r table law = IfOk r (λ n. law (take n table))

-- ---- the end of the notices

-- There are fewer records than holders.
abbrev pub too_few : Contents → List SellerLots → Bool
too_few b records = nat_lt (length records) (length b.holders)

abbrev pub hand_answer : Contents → List SellerLots → Result (Unit {0}) PairingFault
hand_answer b records = cond (too_few b records) (Err FewRecords) (Ok tt)

abbrev pub hand_leaves : Contents → List SellerLots → List SellerLots
hand_leaves b records = cond (too_few b records) records (handed b records)

-- The records then hold, for each row and asset of the book, the lot so far and what the end of the notices adds to it.
abbrev pub Adds : Contents → List SellerLots → List SellerLots → Type 0
Adds b before after = (row a : ℕ) → a < length b.assets → lot (lots_in b after) row a ≡ lot (added b (lots_in b before) ++ lots_in b before) row a
