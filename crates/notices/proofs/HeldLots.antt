-- The lots that the records hold are those that the tally tells.
use Rattle.std.proofs.Common.{◌≡◌, ℕ, zero, suc, ◌+◌, ◌<◌, ◌≤◌, cond, ◌&&◌, eqb, List, [], ◌∷◌, length, get_or, sym, refl, ap, ◌∙◌, inl, inr, add-one, arith}
use Rattle.std.specs.List.{AllByRecursion}
use Rattle.std.proofs.ByRecursion.{All-append, All-weaker}
use Rattle.std.proofs.lemmas.Bool.{cases_lt}
use Rattle.register.specs.Rules.{Meaning}
use Rattle.pairing.specs.declared.line.Line.{Line}
use Rattle.pairing.specs.Lines.{Lot, lot}
use Rattle.pairing.proofs.LineSums.{off}
use Rattle.pairs.specs.declared.lots.SellerLots.{SellerLots}
use Rattle.pairs.specs.Records.{row_lots, lots_from, lots_in}
use Rattle.pairs.proofs.WrittenLines.{earlier_row, lot_held}
use Rattle.rules.specs.Tally.{Opening}
use Rattle.rules.specs.Histories.{Entry, tally_of, Stands}
use Rattle.rules.proofs.Totals.{sum_zero}
use Rattle.rules.proofs.KeptAlways.{kept}
use Rattle.state.specs.declared.state.State.{State}
use Rattle.state.specs.Seeing.{record_of, seen}

-- the part of a lot that counts for a row and an asset
abbrev part : ℕ → ℕ → Lot → ℕ
part row a x = cond (eqb x.row row && eqb x.asset a) x.contracts 0

-- ---- rows and assets that have no lot

other_assets : (row a : ℕ) (lots : List Lot) → AllByRecursion (λ (x : Lot). (x.asset ≡ a → ⊥)) lots → lot lots row a ≡ 0
other_assets row a lots none =
    sum_zero (part row a) lots (All-weaker (λ (x : Lot). (x.asset ≡ a → ⊥)) (λ x. part row a x ≡ 0) (λ x ne. off (eqb x.row row) x.contracts x.asset a ne) lots none)

pub none_beyond : (lots : List Lot) (row a n : ℕ) → AllByRecursion (λ (x : Lot). x.asset < n) lots → n ≤ a → lot lots row a ≡ 0
none_beyond lots row a n all past = other_assets row a lots (All-weaker (λ (x : Lot). x.asset < n) (λ x. (x.asset ≡ a → ⊥)) (λ x lt e. omega arith) lots all)

-- ---- the lots of records

row_names : (row : ℕ) (lots : List ℕ) (from k : ℕ) → AllByRecursion (λ (x : Lot). (x.row ≡ row) × (from ≤ x.asset) × (x.asset < from + k)) (row_lots row lots from k)
row_names row lots from zero = tt
row_names row lots from (suc k) = (
  (refl, omega arith, omega arith),
  All-weaker (λ (x : Lot). (x.row ≡ row) × (from + 1 ≤ x.asset) × (x.asset < from + 1 + k)) (λ x. (x.row ≡ row) × (from ≤ x.asset) × (x.asset < from + suc k)) (λ x q. (q.0, omega (arith, q.1), omega (arith, q.2)))
      (row_lots row lots (from + 1) k) (row_names row lots (from + 1) k),
)

names : (n from : ℕ) (xs : List SellerLots) → AllByRecursion (λ (x : Lot). (from ≤ x.row) × (x.asset < n)) (lots_from n from xs)
names n from [] = tt
names n from (x ∷ xs) =
    All-append (λ (y : Lot). (from ≤ y.row) × (y.asset < n)) (row_lots from x.lots 0 n) (lots_from n (from + 1) xs)
    (All-weaker (λ (y : Lot). (y.row ≡ from) × (0 ≤ y.asset) × (y.asset < 0 + n)) (λ y. (from ≤ y.row) × (y.asset < n)) (λ y q. (omega (arith, q.0), omega (arith, q.2))) (row_lots from x.lots 0 n) (row_names from x.lots 0 n))
    (All-weaker (λ (y : Lot). (from + 1 ≤ y.row) × (y.asset < n)) (λ y. (from ≤ y.row) × (y.asset < n)) (λ y q. (omega (arith, q.0), q.1)) (lots_from n (from + 1) xs) (names n (from + 1) xs))

-- Records have lots for so many assets only.
pub held_assets : (n : ℕ) (xs : List SellerLots) → AllByRecursion (λ (x : Lot). x.asset < n) (lots_from n 1 xs)
held_assets n xs = All-weaker (λ (x : Lot). (1 ≤ x.row) × (x.asset < n)) (λ x. x.asset < n) (λ x q. q.1) (lots_from n 1 xs) (names n 1 xs)

-- The lot of a row for an asset is the one in its record.
pub lot_of_row : (n row a : ℕ) (xs : List SellerLots) → a < n → lot (lots_from n 1 xs) row a ≡ get_or (record_of xs row).lots a 0
lot_of_row n zero a xs h = earlier_row n 0 a 1 xs (omega arith)
lot_of_row n (suc j) a xs h = ap (λ (r : ℕ). lot (lots_from n 1 xs) r a) (sym (add-one j)) ∙ lot_held n 1 j a xs h

-- ---- where an expiry stands

pub same_lots : (o : Opening) (h : List Entry) (e : State) (ls : List Line) (s c : Meaning) → Stands o h (seen e ls s c)
    → (row a : ℕ) → lot (lots_in o.book e.lots) row a ≡ lot (tally_of o h).lots row a
same_lots o h e ls s c st row a = elim (cases_lt a (length o.book.assets)) [
  | inl lt ↦ lot_of_row (length o.book.assets) row a e.lots lt ∙ st.lots row a
  | inr past ↦ none_beyond (lots_in o.book e.lots) row a (length o.book.assets) (held_assets (length o.book.assets) e.lots) past
      ∙ sym (none_beyond (tally_of o h).lots row a (length o.book.assets) (kept o h st.opens st.lived).lots_assets past)
]
