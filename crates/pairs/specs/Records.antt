-- The lots that a table of records holds: one record for each holder, in the order of the rows.
use Rattle.std.specs.Prelude.{ℕ, zero, suc, ◌+◌, ◌-◌, Bool, true, cond, ◌&&◌, List, [], ◌∷◌, ◌++◌, length, sum_by, ◌==◌, slice_index, slice_index_or}
use Rattle.book.specs.declared.records.Holder.{Holder}
use Rattle.book.specs.Books.{Contents, sells, volume}
use Rattle.pairing.specs.Orders.{first_deliverable}
use Rattle.pairing.specs.Lines.{Lot}
use Rattle.pairs.specs.declared.lots.SellerLots.{SellerLots}

-- Nothing notified.
abbrev pub no_lots : SellerLots
no_lots = record { lots = []; notified = 0 }

-- What the holder at a place has in its lot for an asset; nothing where there is no record.
abbrev pub held : List SellerLots → ℕ → ℕ → ℕ
held records place a = slice_index (slice_index_or records place no_lots).lots a

-- The lots of a row, one for each of n assets from a on.
abbrev pub row_lots : ℕ → List ℕ → ℕ → ℕ → List Lot
row_lots row lots a zero = []
row_lots row lots a (suc n) = record { row = row; asset = a; contracts = slice_index lots a } ∷ row_lots row lots (a + 1) n

-- The lots of all rows from one on, for n assets.
abbrev pub lots_from : ℕ → ℕ → List SellerLots → List Lot
lots_from n row [] = []
lots_from n row (x ∷ xs) = row_lots row x.lots 0 n ++ lots_from n (row + 1) xs

-- The lots of a book that the records hold: those of its own assets.
abbrev pub lots_in : Contents → List SellerLots → List Lot
lots_in b records = lots_from (length b.assets) 1 records

-- Whether all records are empty.
abbrev pub zeros : List ℕ → Bool
zeros [] = true
zeros (n ∷ ns) = n == 0 && zeros ns

abbrev pub all_empty : List SellerLots → Bool
all_empty [] = true
all_empty (x ∷ xs) = zeros x.lots && all_empty xs

-- ---- what the end of the notices leaves

-- The contracts in the lots of a record, for n assets.
abbrev pub in_lots : ℕ → SellerLots → ℕ
in_lots n x = sum_by (λ l. l.contracts) (row_lots 0 x.lots 0 n)

-- A lot of the record, raised by so much where it is the one for asset a.
abbrev pub raised : SellerLots → ℕ → ℕ → ℕ → ℕ
raised x a rest i = slice_index x.lots i + cond (i == a) rest 0

-- The record of a seller with all of its contracts notified: those in no lot yet stand in the one for asset a.
abbrev pub filled : ℕ → ℕ → ℕ → SellerLots → SellerLots
filled n a volume x =
    let rest = volume - in_lots n x in
    record { lots = raised x a rest 0 ∷ raised x a rest 1 ∷ raised x a rest 2 ∷ raised x a rest 3 ∷ []; notified = volume }

-- Each seller's record so filled; the others stay.
abbrev pub handed_from : ℕ → ℕ → List Holder → List SellerLots → List SellerLots
handed_from n a [] xs = xs
handed_from n a (h ∷ hs) [] = []
handed_from n a (h ∷ hs) (x ∷ xs) = cond (sells h) (filled n a (volume h) x) x ∷ handed_from n a hs xs

-- The records of a book after the unnotified contracts went to the first deliverable.
abbrev pub handed : Contents → List SellerLots → List SellerLots
handed b records = handed_from (length b.assets) (first_deliverable b) b.holders records
