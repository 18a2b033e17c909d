-- Lines keep most contracts near: any lines that pair the book are pairs of its rows, and the pairs made are nearest among these.
use Rattle.std.proofs.Common.{◌≡◌, ℕ, ◌+◌, ◌-◌, ◌<◌, ◌≤◌, true, cond, ◌&&◌, eqb, ◌⊎◌, List, [], ◌∷◌, map, length, sym, refl, ap, ◌∙◌, subst, inl, inr, ⊎_elim, arith}
use Rattle.std.specs.List.{AllByRecursion}
use Rattle.std.proofs.ByRecursion.{All-weaker, All-map}
use Rattle.std.proofs.lemmas.List.Sums.{sum_by-cons}
use Rattle.std.proofs.lemmas.Bool.{cases_eq, cases_Bool, eq-eqb, ne_eqb, eqb-true, and_parts}
use Rattle.pairing.specs.declared.pair.Unpaired.{Unpaired}
use Rattle.pairing.specs.declared.pair.Pair.{Pair}
use Rattle.pairing.specs.declared.line.Line.{Line}
use Rattle.pairing.specs.declared.stage.Stage.{Stage}
use Rattle.book.specs.Books.{Contents, Sound, holder, buys, sells, volume}
use Rattle.pairing.specs.Pairing.{unpaired, pairs, key}
use Rattle.pairing.specs.Lines.{Lot, lines_of}
use Rattle.pairing.specs.Laws.{group_of, within, Pairing, WellPaired}
use Rattle.pairing.specs.InWords.{at}
use Rattle.pairing.proofs.PairRelations.{contracts_of, Sides}
use Rattle.pairing.proofs.PairRelations as words
use Rattle.pairing.proofs.PairLaws.{rows, rows_length, row_is, pairs_lawful}
use Rattle.pairing.specs.Laws.{Notified}
use Rattle.pairing.proofs.LineSteps.{between}
use Rattle.pairing.proofs.LineLaws.{in_book, no_row, lines_between, lines_pairing, lines_fewer}
use Rattle.pairing.proofs.Signs.{sells_not_buys, volume_from}
use Rattle.pairing.proofs.EqualSums.{sum_same, each, sum_add, sum_none, sum_map_is}

-- A line as a pair: places are rows less one.
abbrev pub back : Line → Pair
back l = record { stage = l.stage; buyer = l.buyer - 1; seller = l.seller - 1; contracts = l.contracts }

eqb_back : (row k : ℕ) → 1 ≤ row → eqb (row - 1) k ≡ eqb row (k + 1)
eqb_back row k h = ⊎_elim
    (λ e. eq-eqb (row - 1) k e ∙ sym (eq-eqb row (k + 1) (omega arith)))
    (λ ne. ne_eqb (row - 1) k ne ∙ sym (ne_eqb row (k + 1) (λ q. ne (omega arith))))
    (cases_eq (row - 1) k)

back_is : (b : Contents) (row : ℕ) → 1 ≤ row → at (rows b) (row - 1) ≡ unpaired (holder b row)
back_is b row h = let e : row - 1 + 1 ≡ row = omega arith in row_is b (row - 1) ∙ ap (λ r. unpaired (holder b r)) e

-- No contracts are within a number, or a holder has it.
found : (hs : List Unpaired) (stage : Stage) (n : ℕ) (ps : List Pair) → AllByRecursion (Sides hs) ps
    → (words.within (λ i. key stage (at hs i)) n ps ≡ 0) ⊎ ((k : ℕ) × (k < length hs) × (key stage (at hs k) ≡ n))
found hs stage n [] all = inl refl
found hs stage n (p ∷ ps) all = ⊎_elim
    (λ here. inr (p.buyer, all.0.0, eqb-true _ _ (and_parts (eqb (key stage (at hs p.buyer)) n) (eqb (key stage (at hs p.seller)) n) here).0))
    (λ away. ⊎_elim
    (λ z. inl (
    let c = sum_by-cons (λ (q : Pair). cond (eqb (key stage (at hs q.buyer)) n && eqb (key stage (at hs q.seller)) n) q.contracts 0) p ps in
    let a = ap (λ t. cond t p.contracts 0) away in
    omega (arith, z, c, a)))
    (λ f. inr f)
    (found hs stage n ps all.1))
    (cases_Bool (eqb (key stage (at hs p.buyer)) n && eqb (key stage (at hs p.seller)) n))

module _ (b : Contents) (ls : List Line) (all : Pairing b ls) where
  seats : AllByRecursion (λ l. (1 ≤ l.buyer) × (l.buyer ≤ length b.holders) × (1 ≤ l.seller) × (l.seller ≤ length b.holders)) ls
  seats = All-weaker (λ l. (buys (holder b l.buyer) ≡ true) × (sells (holder b l.seller) ≡ true))
      (λ l. (1 ≤ l.buyer) × (l.buyer ≤ length b.holders) × (1 ≤ l.seller) × (l.seller ≤ length b.holders))
      (λ l s. let x = in_book b buys refl l.buyer s.0 in let y = in_book b sells refl l.seller s.1 in (x.0, x.1, y.0, y.1)) ls all.sides

  back_sides : AllByRecursion (Sides (rows b)) (map back ls)
  back_sides = All-map (Sides (rows b)) back ls (All-weaker (λ l. (buys (holder b l.buyer) ≡ true) × (sells (holder b l.seller) ≡ true)) (λ l. Sides (rows b) (back l))
      (λ l s.
      let x = in_book b buys refl l.buyer s.0 in let y = in_book b sells refl l.seller s.1 in
      let n = rows_length b.holders in (
        omega (arith, x.0, x.1, n),
        omega (arith, y.0, y.1, n),
        ap (λ u. u.buys) (back_is b l.buyer x.0) ∙ s.0,
        ap (λ u. u.buys) (back_is b l.seller y.0) ∙ sells_not_buys (holder b l.seller).position s.1,
      )) ls all.sides)

  line_volume : (row : ℕ) → between (λ x y. eqb x row) ls + between (λ x y. eqb y row) ls ≡ volume (holder b row)
  line_volume row = volume_from (holder b row).position (between (λ x y. eqb x row) ls) (between (λ x y. eqb y row) ls)
      (λ off. sum_none (λ (l : Line). eqb l.buyer row) (λ l. l.contracts) ls
      (no_row b buys (λ (l : Line). l.buyer) row off ls (All-weaker _ (λ (l : Line). buys (holder b l.buyer) ≡ true) (λ l s. s.0) ls all.sides)))
      (λ off. sum_none (λ (l : Line). eqb l.seller row) (λ l. l.contracts) ls
      (no_row b sells (λ (l : Line). l.seller) row off ls (All-weaker _ (λ (l : Line). sells (holder b l.seller) ≡ true) (λ l s. s.1) ls all.sides)))
      (all.positions row)

  back_sums : (k : ℕ) → contracts_of k (map back ls) ≡ volume (holder b (k + 1))
  back_sums k =
      let m = sum_map_is (λ (p : Pair). cond (eqb p.buyer k) p.contracts 0 + cond (eqb p.seller k) p.contracts 0) back ls in
      let s = sum_same (λ (l : Line). cond (eqb (l.buyer - 1) k) l.contracts 0 + cond (eqb (l.seller - 1) k) l.contracts 0)
      (λ l. cond (eqb l.buyer (k + 1)) l.contracts 0 + cond (eqb l.seller (k + 1)) l.contracts 0) ls
      (All-weaker _ _ (λ l s. let x = ap (λ t. cond t l.contracts 0) (eqb_back l.buyer k s.0) in
      let y = ap (λ t. cond t l.contracts 0) (eqb_back l.seller k s.2) in omega (arith, x, y)) ls seats) in
      let a = sum_add (λ (l : Line). cond (eqb l.buyer (k + 1)) l.contracts 0) (λ l. cond (eqb l.seller (k + 1)) l.contracts 0) ls in
      m ∙ s ∙ a ∙ line_volume (k + 1)

  -- Lines that pair the book are pairs of its rows that do.
  pub back_pairing : words.Pairing (rows b) (map back ls)
  back_pairing = record { sides = back_sides; sums = λ k h. back_sums k ∙ sym (ap (λ u. u.volume) (row_is b k)) }

  pub back_within : (stage : Stage) (n : ℕ) → words.within (λ i. key stage (at (rows b) i)) n (map back ls) ≡ within b stage n ls
  back_within stage n =
      let m = sum_map_is (λ (p : Pair). cond (eqb (key stage (at (rows b) p.buyer)) n && eqb (key stage (at (rows b) p.seller)) n) p.contracts 0) back ls in
      let s = sum_same (λ (l : Line). cond (eqb (key stage (at (rows b) (l.buyer - 1))) n && eqb (key stage (at (rows b) (l.seller - 1))) n) l.contracts 0)
      (λ l. cond (eqb (group_of b stage l.buyer) n && eqb (group_of b stage l.seller) n) l.contracts 0) ls
      (All-weaker _ _ (λ l s.
      ap (λ u. cond (eqb (key stage u) n && eqb (key stage (at (rows b) (l.seller - 1))) n) l.contracts 0) (back_is b l.buyer s.0)
      ∙ ap (λ u. cond (eqb (group_of b stage l.buyer) n && eqb (key stage u) n) l.contracts 0) (back_is b l.seller s.2)) ls seats) in
      m ∙ s

module _ (b : Contents) (ok : Sound b) (lots : List Lot) (full : Notified b lots) where
  lines_within : (stage : Stage) (n : ℕ) → within b stage n (lines_of b lots) ≡ words.within (λ i. key stage (at (rows b) i)) n (pairs b)
  lines_within stage n =
      lines_between b ok lots full (λ x y. eqb (group_of b stage x) n && eqb (group_of b stage y) n)
      ∙ sum_same (λ (p : Pair). cond (eqb (group_of b stage (p.buyer + 1)) n && eqb (group_of b stage (p.seller + 1)) n) p.contracts 0)
      (λ p. cond (eqb (key stage (at (rows b) p.buyer)) n && eqb (key stage (at (rows b) p.seller)) n) p.contracts 0) (pairs b)
      (each (λ p.
      ap (λ u. cond (eqb (key stage u) n && eqb (group_of b stage (p.seller + 1)) n) p.contracts 0) (sym (row_is b p.buyer))
      ∙ ap (λ u. cond (eqb (key stage (at (rows b) p.buyer)) n && eqb (key stage u) n) p.contracts 0) (sym (row_is b p.seller))) (pairs b))

  nearest : (other : List Line) → Pairing b other → (stage : Stage) (number : ℕ) → within b stage number other ≤ within b stage number (lines_of b lots)
  nearest other all stage n =
      let w = back_within b other all stage n in
      let v = lines_within stage n in
      let p = back_pairing b other all in
      ⊎_elim
      (λ z. omega (arith, w, z))
      (λ f.
      let W : ℕ → Type 0 = λ m. words.within (λ i. key stage (at (rows b) i)) m (map back other) ≤ words.within (λ i. key stage (at (rows b) i)) m (pairs b) in
      let le : W n = subst W f.2 ((pairs_lawful b ok).nearest stage f.0 f.1 (map back other) p) in
      omega (arith, w, v, le))
      (found (rows b) stage n (map back other) p.sides)

  -- THE LAW of lines: they are a pairing of the book, name fewer pairs than it has holders, and keep most contracts near.
  pub lines_well_paired : WellPaired b (lines_of b lots)
  lines_well_paired = record { pairing = lines_pairing b ok lots full; fewer = lines_fewer b ok lots full; nearest = nearest }
