-- The laws of the lines of a book, from those of its pairs.
use Rattle.std.proofs.Common.{◌≡◌, ℕ, zero, suc, ◌+◌, ◌*◌, ◌<◌, ◌≤◌, Bool, true, false, cond, eqb, List, [], length, sum_by, sym, refl, ap, ◌∙◌, subst, ⊎_elim, mul-le-mul, add-one, arith}
use lib.IntN.{sub_ℕ}
use Rattle.std.specs.List.{AllByRecursion}
use Rattle.std.proofs.ByRecursion.{All-weaker}
use Rattle.std.proofs.lemmas.List.{get_or_past}
use Rattle.std.proofs.lemmas.Bool.{cases_eq, cases_lt, cases_Bool, eq-eqb, ne_eqb, both_ways}
use Rattle.book.specs.declared.records.Holder.{Holder}
use Rattle.pairing.specs.declared.pair.Pair.{Pair}
use Rattle.pairing.specs.declared.line.Line.{Line}
use Rattle.book.specs.Books.{Contents, Sound, holder, nobody, buys, sells, volume}
use Rattle.pairing.specs.Pairing.{pairs}
use Rattle.pairing.specs.Lines.{Lot, lot, fresh, lines_of}
use Rattle.pairing.specs.Laws.{different_pairs, Pairing}
use Rattle.pairing.proofs.PairRelations.{contracts_of, Sides, Lawful}
use Rattle.pairing.proofs.PairLaws.{rows, rows_length, row_is, sound_rows, pairs_lawful}
use Rattle.pairing.specs.Laws.{Notified}
use Rattle.pairing.proofs.LineWords.{Fresh}
use Rattle.pairing.proofs.LineSums.{over_assets, over_parts, by_assets}
use Rattle.pairing.proofs.LineSteps.{sold_of, between}
use Rattle.pairing.proofs.LineRuns.{between_pairs, Enough, runs_between, runs_in_lots, runs_all, runs_length, runs_names}
use Rattle.pairing.proofs.Signs.{not_buys_sells, sells_not_buys, position_from}
use Rattle.pairing.proofs.EqualSums.{sum_same, each, sum_add, sum_none}

pub eqb_next : (x k : ℕ) → eqb (x + 1) (k + 1) ≡ eqb x k
eqb_next x k = ⊎_elim
    (λ e. eq-eqb (x + 1) (k + 1) (omega arith) ∙ sym (eq-eqb x k e))
    (λ ne. ne_eqb (x + 1) (k + 1) (λ q. ne (omega arith)) ∙ sym (ne_eqb x k ne))
    (cases_eq x k)

-- A holder that a test tells from nobody stands in a row of the book.
pub in_book : (b : Contents) (f : Holder → Bool) → f nobody ≡ false → (row : ℕ) → f (holder b row) ≡ true → (1 ≤ row) × (row ≤ length b.holders)
in_book b f never zero e = absurd (both_ways (f nobody) never e)
in_book b f never (suc k) e = ⊎_elim
    (λ lt. (omega arith, omega arith))
    (λ past. absurd (both_ways (f nobody) never (sym (ap f (get_or_past b.holders k nobody past)) ∙ e)))
    (cases_lt k (length b.holders))

-- Where the tested rows of records all pass a test that a row fails, none has that row.
pub no_row : {X : Type 0} (b : Contents) (f : Holder → Bool) (place : X → ℕ) (row : ℕ) → f (holder b row) ≡ false
    → (xs : List X) → AllByRecursion (λ x. f (holder b (place x)) ≡ true) xs → AllByRecursion (λ x. eqb (place x) row ≡ false) xs
no_row b f place row never xs all = All-weaker (λ x. f (holder b (place x)) ≡ true) (λ x. eqb (place x) row ≡ false)
    (λ x e. ne_eqb (place x) row (λ q. both_ways (f (holder b row)) never (sym (ap (λ r. f (holder b r)) q) ∙ e))) xs all

module _ (b : Contents) (ok : Sound b) where
  law : Lawful (rows b) (pairs b)
  law = pairs_lawful b ok

  pub row_sides : AllByRecursion (λ p. (buys (holder b (p.buyer + 1)) ≡ true) × (sells (holder b (p.seller + 1)) ≡ true)) (pairs b)
  row_sides = All-weaker (Sides (rows b)) (λ p. (buys (holder b (p.buyer + 1)) ≡ true) × (sells (holder b (p.seller + 1)) ≡ true))
      (λ p s.
      let x = row_is b p.buyer in let y = row_is b p.seller in
      let v = (sound_rows b ok).traded p.seller s.1 in (
        sym (ap (λ u. u.buys) x) ∙ s.2,
        not_buys_sells (holder b (p.seller + 1)).position (sym (ap (λ u. u.buys) y) ∙ s.3) (let w = ap (λ u. u.volume) y in omega (arith, v, w)),
      ))
      (pairs b) law.pairing.sides

  -- what the pairs of a row bought and sold
  bought_in : ℕ → ℕ
  bought_in row = between_pairs (λ x y. eqb x row) (pairs b)

  pub none_bought_in : (row : ℕ) → buys (holder b row) ≡ false → between_pairs (λ x y. eqb x row) (pairs b) ≡ 0
  none_bought_in row never = sum_none (λ (p : Pair). eqb (p.buyer + 1) row) (λ p. p.contracts) (pairs b)
      (no_row b buys (λ (p : Pair). p.buyer + 1) row never (pairs b) (All-weaker _ (λ (p : Pair). buys (holder b (p.buyer + 1)) ≡ true) (λ p s. s.0) (pairs b) row_sides))

  pub none_sold_in : (row : ℕ) → sells (holder b row) ≡ false → between_pairs (λ x y. eqb y row) (pairs b) ≡ 0
  none_sold_in row never = sum_none (λ (p : Pair). eqb (p.seller + 1) row) (λ p. p.contracts) (pairs b)
      (no_row b sells (λ (p : Pair). p.seller + 1) row never (pairs b) (All-weaker _ (λ (p : Pair). sells (holder b (p.seller + 1)) ≡ true) (λ p s. s.1) (pairs b) row_sides))

  by_rows : (k : ℕ) → contracts_of k (pairs b) ≡ between_pairs (λ x y. eqb x (k + 1)) (pairs b) + between_pairs (λ x y. eqb y (k + 1)) (pairs b)
  by_rows k =
      let s = sum_same (λ (p : Pair). cond (eqb p.buyer k) p.contracts 0 + cond (eqb p.seller k) p.contracts 0)
      (λ p. cond (eqb (p.buyer + 1) (k + 1)) p.contracts 0 + cond (eqb (p.seller + 1) (k + 1)) p.contracts 0) (pairs b)
      (each (λ p. let x = ap (λ t. cond t p.contracts 0) (eqb_next p.buyer k) in let y = ap (λ t. cond t p.contracts 0) (eqb_next p.seller k) in omega (arith, x, y)) (pairs b)) in
      let a = sum_add (λ (p : Pair). cond (eqb (p.buyer + 1) (k + 1)) p.contracts 0) (λ p. cond (eqb (p.seller + 1) (k + 1)) p.contracts 0) (pairs b) in
      s ∙ a

  -- Each row's pairs add up to its volume.
  pub row_volume : (row : ℕ) → between_pairs (λ x y. eqb x row) (pairs b) + between_pairs (λ x y. eqb y row) (pairs b) ≡ volume (holder b row)
  row_volume zero = let x = none_bought_in 0 refl in let y = none_sold_in 0 refl in omega (arith, x, y)
  row_volume (suc k) = ⊎_elim
      (λ lt.
      let l = rows_length b.holders in
      let c = law.pairing.sums k (omega (arith, lt, l)) in
      let v = ap (λ u. u.volume) (row_is b k) in
      let s = by_rows k in
      subst (λ r. between_pairs (λ x y. eqb x r) (pairs b) + between_pairs (λ x y. eqb y r) (pairs b) ≡ volume (holder b r)) (add-one k) (sym s ∙ c ∙ v))
      (λ past.
      let e : holder b (suc k) ≡ nobody = get_or_past b.holders k nobody past in
      let x = none_bought_in (suc k) (ap buys e) in let y = none_sold_in (suc k) (ap sells e) in let v = ap volume e in
      omega (arith, x, y, v))
      (cases_lt k (length b.holders))

  module _ (lots : List Lot) (full : Notified b lots) where
    lots_sum : (row : ℕ) → over_assets (lot lots row) 0 (length b.assets) ≡ sum_by (λ x. cond (eqb x.row row) x.contracts 0) lots
    lots_sum row = by_assets (λ (x : Lot). eqb x.row row) (λ x. x.asset) (λ x. x.contracts) (length b.assets) lots full.assets

    pub enough : Enough lots (length b.assets) (pairs b) []
    enough row =
        let l = lots_sum row in
        let v = row_volume row in
        ⊎_elim
        (λ does. let w = full.whole row does in omega (arith, l, v, w))
        (λ never. let z = none_sold_in row never in omega (arith, z))
        (cases_Bool (sells (holder b row)))

    -- The lines between buyers and sellers that pass have the contracts of the pairs between them.
    pub lines_between : (φ : ℕ → ℕ → Bool) → between φ (lines_of b lots) ≡ between_pairs φ (pairs b)
    lines_between φ = let r = runs_between lots (length b.assets) φ (pairs b) [] (λ row a. omega arith) tt enough in omega (arith, r)

    pub lines_fresh : AllByRecursion (Fresh b) (lines_of b lots)
    lines_fresh = runs_all lots (length b.assets) (Fresh b) (pairs b) []
        (All-weaker _ (λ (p : Pair). (a n : ℕ) → a < length b.assets → 0 < n → Fresh b (fresh p a n))
        (λ p s a n lt some. record { some = some; buyer = s.0; seller = s.1; asset = lt; none_taken = refl; none_settled = refl; none_returned = refl }) (pairs b) row_sides) tt

    -- Each seller's lines of an asset add up to its lot.
    pub lines_lots : (row : ℕ) → sells (holder b row) ≡ true → (a : ℕ) → a < length b.assets → sold_of (lines_of b lots) row a ≡ lot lots row a
    lines_lots row does a lt =
        let assets = All-weaker (Fresh b) (λ l. l.asset < length b.assets) (λ l f. f.asset) (lines_of b lots) lines_fresh in
        let s = by_assets (λ (x : Line). eqb x.seller row) (λ x. x.asset) (λ x. x.contracts) (length b.assets) (lines_of b lots) assets in
        let t = lines_between (λ x y. eqb y row) in
        let l = lots_sum row in
        let w = full.whole row does in
        let v = row_volume row in
        let z = none_bought_in row (sells_not_buys (holder b row).position does) in
        over_parts (sold_of (lines_of b lots) row) (lot lots row) 0 (length b.assets) (runs_in_lots lots (length b.assets) (pairs b) [] (λ r c. omega arith) row)
        (omega (arith, s, t, l, w, v, z)) a (omega arith) (omega arith)

    -- At most 4 lines a holder.
    pub lines_few : length (lines_of b lots) ≤ 4 * length b.holders
    lines_few =
        let r = runs_length lots (length b.assets) (pairs b) [] in
        let f = law.fewer in
        let l = rows_length b.holders in
        let k = ok.asset_count.1 in
        let m = mul-le-mul {n₁ = length (pairs b)} {m₁ = length b.assets} {n₂ = length b.holders} {m₂ = 4} (omega (arith, f, l)) k in
        omega (arith, r, m)

    pub lines_pairing : Pairing b (lines_of b lots)
    lines_pairing = record {
      sides = All-weaker (Fresh b) (λ l. (buys (holder b l.buyer) ≡ true) × (sells (holder b l.seller) ≡ true)) (λ l f. (f.buyer, f.seller)) (lines_of b lots) lines_fresh;
      positions = λ row.
          ap (λ n. sub_ℕ n (between (λ x y. eqb y row) (lines_of b lots))) (lines_between (λ x y. eqb x row))
          ∙ ap (sub_ℕ (between_pairs (λ x y. eqb x row) (pairs b))) (lines_between (λ x y. eqb y row))
          ∙ position_from (holder b row).position _ _ (none_bought_in row) (none_sold_in row) (row_volume row);
    }

    pub lines_fewer : different_pairs (lines_of b lots) < length b.holders
    lines_fewer =
        let r = runs_names lots (length b.assets) (pairs b) [] in
        let f = law.fewer in
        let l = rows_length b.holders in
        omega (arith, r, f, l)
