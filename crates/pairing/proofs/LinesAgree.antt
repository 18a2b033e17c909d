-- Lines hang on the lots of rows and assets alone, not on how these are listed.
use Rattle.std.proofs.Common.{◌≡◌, ℕ, zero, suc, ◌+◌, ◌-◌, ◌<◌, ◌≤◌, min, List, [], ◌∷◌, length, refl, ap, ◌∙◌, arith}
use Rattle.book.specs.Books.{Contents}
use Rattle.pairing.specs.declared.pair.Pair.{Pair}
use Rattle.pairing.specs.declared.line.Line.{Line}
use Rattle.pairing.specs.Pairing.{pairs}
use Rattle.pairing.specs.Lines.{Lot, lot, total, of_seller, left, add_line, fresh, lines_of_pair, lines_of_pairs, lines_of}

module _ (xs ys : List Lot) (K : ℕ) (same : (row a : ℕ) → a < K → lot xs row a ≡ lot ys row a) where
  pair_agrees : (p : Pair) (k a n : ℕ) (ls : List Line) → a + k ≤ K → lines_of_pair xs p k a n ls ≡ lines_of_pair ys p k a n ls
  pair_agrees p zero a n ls h = refl
  pair_agrees p (suc k) a n ls h =
      let e : left xs ls (p.seller + 1) a ≡ left ys ls (p.seller + 1) a
      = ap (λ m. m - total (of_seller (p.seller + 1) a) (λ l. l.contracts) ls) (same (p.seller + 1) a (omega arith)) in
      let u = min n (left xs ls (p.seller + 1) a) in
      pair_agrees p k (a + 1) (n - u) (add_line ls (fresh p a u)) (omega arith)
      ∙ ap (λ m. lines_of_pair ys p k (a + 1) (n - min n m) (add_line ls (fresh p a (min n m)))) e

  pairs_agree : (ps : List Pair) (ls : List Line) → lines_of_pairs xs K ps ls ≡ lines_of_pairs ys K ps ls
  pairs_agree [] ls = refl
  pairs_agree (p ∷ ps) ls = pairs_agree ps (lines_of_pair xs p K 0 p.contracts ls)
      ∙ ap (lines_of_pairs ys K ps) (pair_agrees p K 0 p.contracts ls (omega arith))

-- Two lists of lots that agree in each row and asset of the book give the same lines.
pub lines_agree : (b : Contents) (xs ys : List Lot) → ((row a : ℕ) → a < length b.assets → lot xs row a ≡ lot ys row a) → lines_of b xs ≡ lines_of b ys
lines_agree b xs ys same = pairs_agree xs ys (length b.assets) same (pairs b) []
