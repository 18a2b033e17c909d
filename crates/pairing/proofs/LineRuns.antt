-- What the lines of all pairs have.
use Rattle.std.proofs.Common.{◌≡◌, ℕ, zero, suc, ◌+◌, ◌*◌, ◌<◌, ◌≤◌, Bool, cond, eqb, List, [], ◌∷◌, length, sum_by, refl, ap, add-mul, arith}
use Rattle.std.specs.List.{AllByRecursion}
use Rattle.std.proofs.lemmas.List.Sums.{sum_by-cons}
use Rattle.std.proofs.lemmas.Bool.{eq-eqb}
use Rattle.pairing.specs.declared.pair.Pair.{Pair}
use Rattle.pairing.specs.declared.line.Line.{Line}
use Rattle.pairing.specs.Lines.{Lot, lot, left, fresh, lines_of_pair, lines_of_pairs}
use Rattle.pairing.specs.Laws.{different_pairs}
use Rattle.pairing.proofs.LineSums.{over_assets, by_assets}
use Rattle.pairing.proofs.LineSteps.{sold_of, between, InLots, pair_between, pair_in_lots, pair_all, pair_length}
use Rattle.pairing.proofs.LineNames.{pair_adds_one}

-- Each seller's lots cover what its lines have and its pairs still want.
abbrev pub Enough : List Lot → ℕ → List Pair → List Line → Type 0
Enough lots K ps ls = (row : ℕ) → sum_by (λ p. cond (eqb (p.seller + 1) row) p.contracts 0) ps + between (λ buyer seller. eqb seller row) ls ≤ over_assets (lot lots row) 0 K

-- The contracts of the pairs whose buyer and seller, as rows, pass.
abbrev pub between_pairs : (ℕ → ℕ → Bool) → List Pair → ℕ
between_pairs φ ps = sum_by (λ p. cond (φ (p.buyer + 1) (p.seller + 1)) p.contracts 0) ps

abbrev pub sold_by : ℕ → ℕ → ℕ → Bool
sold_by row buyer seller = eqb seller row

module _ (lots : List Lot) (K : ℕ) where
  -- what is left of a seller's lots, and what its lines have, are its lots
  left_and_sold : (ls : List Line) → InLots lots ls → (row a k : ℕ) → over_assets (left lots ls row) a k + over_assets (sold_of ls row) a k ≡ over_assets (lot lots row) a k
  left_and_sold ls h row a zero = refl
  left_and_sold ls h row a (suc k) = let ih = left_and_sold ls h row (a + 1) k in let z = h row a in omega (arith, ih, z)

  module _ (p : Pair) (ps : List Pair) (ls : List Line) (fits : InLots lots ls) (assets : AllByRecursion (λ l. l.asset < K) ls) where
    pub covered : Enough lots K (p ∷ ps) ls → p.contracts ≤ over_assets (left lots ls (p.seller + 1)) 0 K
    covered enough =
        let row = p.seller + 1 in
        let e = enough row in
        let l = left_and_sold ls fits row 0 K in
        let s = by_assets (λ (x : Line). eqb x.seller row) (λ x. x.asset) (λ x. x.contracts) K ls assets in
        let c = sum_by-cons (λ (q : Pair). cond (eqb (q.seller + 1) row) q.contracts 0) p ps in
        let h = ap (λ t. cond t p.contracts 0) (eq-eqb row row refl) in
        omega (arith, e, l, s, c, h)

    pub covers_rest : Enough lots K (p ∷ ps) ls → Enough lots K ps (lines_of_pair lots p K 0 p.contracts ls)
    covers_rest enough row =
        let e = enough row in
        let b = pair_between lots p (sold_by row) K 0 p.contracts ls (covered enough) in
        let c = sum_by-cons (λ (q : Pair). cond (eqb (q.seller + 1) row) q.contracts 0) p ps in
        omega (arith, e, b, c)

    pub assets_rest : AllByRecursion (λ l. l.asset < K) (lines_of_pair lots p K 0 p.contracts ls)
    assets_rest = pair_all lots p (λ l. l.asset < K) K (λ a n lt some. lt) K 0 p.contracts ls (omega arith) assets

  -- Pairs that the lots cover put all their contracts into lines of their buyers and sellers.
  pub runs_between : (φ : ℕ → ℕ → Bool) (ps : List Pair) (ls : List Line) → InLots lots ls → AllByRecursion (λ l. l.asset < K) ls → Enough lots K ps ls
      → between φ (lines_of_pairs lots K ps ls) ≡ between φ ls + between_pairs φ ps
  runs_between φ [] ls fits assets enough = omega arith
  runs_between φ (p ∷ ps) ls fits assets enough =
      let rs = lines_of_pair lots p K 0 p.contracts ls in
      let one = pair_between lots p φ K 0 p.contracts ls (covered p ps ls fits assets enough) in
      let ih = runs_between φ ps rs (pair_in_lots lots p K 0 p.contracts ls fits) (assets_rest p ps ls fits assets) (covers_rest p ps ls fits assets enough) in
      let c = sum_by-cons (λ (q : Pair). cond (φ (q.buyer + 1) (q.seller + 1)) q.contracts 0) p ps in
      omega (arith, one, ih, c)

  pub runs_in_lots : (ps : List Pair) (ls : List Line) → InLots lots ls → InLots lots (lines_of_pairs lots K ps ls)
  runs_in_lots [] ls h = h
  runs_in_lots (p ∷ ps) ls h = runs_in_lots ps (lines_of_pair lots p K 0 p.contracts ls) (pair_in_lots lots p K 0 p.contracts ls h)

  pub runs_all : (P : Line → Type 0) (ps : List Pair) (ls : List Line) → AllByRecursion (λ p. (a n : ℕ) → a < K → 0 < n → P (fresh p a n)) ps → AllByRecursion P ls → AllByRecursion P (lines_of_pairs lots K ps ls)
  runs_all P [] ls new all = all
  runs_all P (p ∷ ps) ls new all = runs_all P ps (lines_of_pair lots p K 0 p.contracts ls) new.1 (pair_all lots p P K new.0 K 0 p.contracts ls (omega arith) all)

  pub runs_length : (ps : List Pair) (ls : List Line) → length (lines_of_pairs lots K ps ls) ≤ length ls + length ps * K
  runs_length [] ls = omega arith
  runs_length (p ∷ ps) ls =
      let ih = runs_length ps (lines_of_pair lots p K 0 p.contracts ls) in
      let e = pair_length lots p K 0 p.contracts ls in
      let m : suc (length ps) * K ≡ K + length ps * K = omega (arith, add-mul 1 (length ps) K) in
      omega (arith, ih, e, m)

  pub runs_names : (ps : List Pair) (ls : List Line) → different_pairs (lines_of_pairs lots K ps ls) ≤ different_pairs ls + length ps
  runs_names [] ls = omega arith
  runs_names (p ∷ ps) ls =
      let ih = runs_names ps (lines_of_pair lots p K 0 p.contracts ls) in
      let e = pair_adds_one lots p K 0 p.contracts ls in omega (arith, ih, e)
