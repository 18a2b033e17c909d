-- Lines written one after the other into a table.
use Rattle.std.proofs.Common.{◌≡◌, ℕ, zero, suc, ◌+◌, ◌-◌, ◌<◌, ◌≤◌, min, Bool, true, false, cond, ◌&&◌, eqb, List, [], ◌∷◌, length, get_or, map, drop, sum_by, sym, refl, ap, ◌∙◌, ⊎_elim, arith}
use Rattle.std.specs.List.{fold, filter}
use Rattle.std.proofs.lemmas.List.Sums.{sum_by-cons, sum_by-append}
use Rattle.std.proofs.lemmas.List.{drop-drop, drop_more}
use Rattle.std.proofs.lemmas.Bool.{cases_eq, eq-eqb, ne_eqb, and_left, and_right}
use Rattle.pairing.specs.declared.stage.Stage.TheVariants.{Member}
use Rattle.pairing.specs.declared.line.Line.{Line}
use Rattle.pairing.specs.declared.pair.Pair.{Pair}
use Rattle.pairing.specs.Lines.{Lot, lot, total, of_seller, left, add_line, fresh, lines_of_pair, lines_of_pairs}
use Rattle.pairs.specs.declared.lots.SellerLots.{SellerLots}
use Rattle.pairs.specs.Records.{held, row_lots, lots_from}

-- What stands where a table has no pair.
abbrev pub no_pair : Pair
no_pair = record { stage = Member; buyer = 0; seller = 0; contracts = 0 }

-- ---- the lots that records hold

-- the part of a lot that counts for a row and an asset
abbrev part : ℕ → ℕ → Lot → ℕ
part row a x = cond (eqb x.row row && eqb x.asset a) x.contracts 0

other_row : (r row a : ℕ) (lots : List ℕ) (from n : ℕ) → (r ≡ row → ⊥) → sum_by (part row a) (row_lots r lots from n) ≡ 0
other_row r row a lots from zero ne = refl
other_row r row a lots from (suc n) ne =
    let x : Lot = record { row = r; asset = from; contracts = get_or lots from 0 } in
    let c = sum_by-cons (part row a) x (row_lots r lots (from + 1) n) in
    let z : part row a x ≡ 0 = ap (λ t. cond t (get_or lots from 0) 0) (and_left (eqb r row) (eqb from a) (ne_eqb r row ne)) in
    let ih = other_row r row a lots (from + 1) n ne in omega (arith, c, z, ih)

past_asset : (r a : ℕ) (lots : List ℕ) (from n : ℕ) → a < from → sum_by (part r a) (row_lots r lots from n) ≡ 0
past_asset r a lots from zero h = refl
past_asset r a lots from (suc n) h =
    let x : Lot = record { row = r; asset = from; contracts = get_or lots from 0 } in
    let c = sum_by-cons (part r a) x (row_lots r lots (from + 1) n) in
    let z : part r a x ≡ 0 = ap (λ t. cond t (get_or lots from 0) 0) (and_right (eqb r r) (eqb from a) (ne_eqb from a (λ e. omega arith))) in
    let ih = past_asset r a lots (from + 1) n (omega arith) in omega (arith, c, z, ih)

own_asset : (r a : ℕ) (lots : List ℕ) (from n : ℕ) → from ≤ a → a < from + n → sum_by (part r a) (row_lots r lots from n) ≡ get_or lots a 0
own_asset r a lots from zero low high = absurd (omega arith)
own_asset r a lots from (suc n) low high =
    let x : Lot = record { row = r; asset = from; contracts = get_or lots from 0 } in
    let c = sum_by-cons (part r a) x (row_lots r lots (from + 1) n) in
    ⊎_elim
    (λ e.
    let here : part r a x ≡ get_or lots from 0 = ap (λ t. cond (t && eqb from a) (get_or lots from 0) 0) (eq-eqb r r refl) ∙ ap (λ t. cond t (get_or lots from 0) 0) (eq-eqb from a e) in
    let is = ap (λ k. get_or lots k 0) e in
    let past = past_asset r a lots (from + 1) n (omega arith) in
    omega (arith, c, here, is, past))
    (λ ne.
    let z : part r a x ≡ 0 = ap (λ t. cond t (get_or lots from 0) 0) (and_right (eqb r r) (eqb from a) (ne_eqb from a ne)) in
    let ih = own_asset r a lots (from + 1) n (omega arith) (omega arith) in
    omega (arith, c, z, ih))
    (cases_eq from a)

pub earlier_row : (n row a from : ℕ) (xs : List SellerLots) → row < from → lot (lots_from n from xs) row a ≡ 0
earlier_row n row a from [] h = refl
earlier_row n row a from (x ∷ xs) h =
    let s = sum_by-append (part row a) (row_lots from x.lots 0 n) (lots_from n (from + 1) xs) in
    let o = other_row from row a x.lots 0 n (λ e. omega arith) in
    let ih = earlier_row n row a (from + 1) xs (omega arith) in omega (arith, s, o, ih)

-- The lot of a row for an asset of the book is what its record holds.
pub lot_held : (n from place a : ℕ) (xs : List SellerLots) → a < n → lot (lots_from n from xs) (place + from) a ≡ held xs place a
lot_held n from place a [] h = refl
lot_held n from zero a (x ∷ xs) h =
    let s = sum_by-append (part (0 + from) a) (row_lots from x.lots 0 n) (lots_from n (from + 1) xs) in
    let row : 0 + from ≡ from = omega arith in
    let o : sum_by (part (0 + from) a) (row_lots from x.lots 0 n) ≡ get_or x.lots a 0
    = ap (λ r. sum_by (part r a) (row_lots from x.lots 0 n)) row ∙ own_asset from a x.lots 0 n (omega arith) (omega arith) in
    let e = earlier_row n (0 + from) a (from + 1) xs (omega arith) in
    omega (arith, s, o, e)
lot_held n from (suc k) a (x ∷ xs) h =
    let row : suc k + from ≡ k + (from + 1) = omega arith in
    let s = sum_by-append (part (suc k + from) a) (row_lots from x.lots 0 n) (lots_from n (from + 1) xs) in
    let o = other_row from (suc k + from) a x.lots 0 n (λ e. omega arith) in
    let ih = ap (λ r. lot (lots_from n (from + 1) xs) r a) row ∙ lot_held n (from + 1) k a xs h in
    omega (arith, s, o, ih)

-- ---- later places

-- What two writings one after the other leave alone.
pub stays_both : {X : Type 0} (n m : ℕ) (xs ys zs : List X) → n ≤ m → drop n ys ≡ drop n xs → drop m zs ≡ drop m ys → drop m zs ≡ drop m xs
stays_both n m xs ys zs h e f =
    let k : m ≡ n + (m - n) = omega arith in
    f ∙ ap (λ j. drop j ys) k ∙ sym (drop-drop (m - n) n ys) ∙ ap (drop (m - n)) e ∙ drop-drop (m - n) n xs ∙ ap (λ j. drop j xs) (sym k)

-- ---- what lines leave of a lot

-- One line after the other, or all at once.
pub less_each : (p : Line → Bool) (n : ℕ) (ls : List Line)
    → fold (λ (left n : ℕ). left - n) n (map (λ (l : Line). l.contracts) (filter p ls)) ≡ n - total p (λ l. l.contracts) ls
less_each p n [] = omega arith
less_each p n (l ∷ ls) = go (p l) refl (less_each p (n - l.contracts) ls) (less_each p n ls)
  where
    all : ℕ → List Line → ℕ
    all k xs = fold (λ (left n : ℕ). left - n) k (map (λ (x : Line). x.contracts) xs)

    c : total p (λ x. x.contracts) (l ∷ ls) ≡ cond (p l) l.contracts 0 + total p (λ x. x.contracts) ls
    c = sum_by-cons (λ x. cond (p x) x.contracts 0) l ls

    go : (t : Bool) → p l ≡ t → all (n - l.contracts) (filter p ls) ≡ (n - l.contracts) - total p (λ x. x.contracts) ls
        → all n (filter p ls) ≡ n - total p (λ x. x.contracts) ls → all n (cond (p l) (l ∷ filter p ls) (filter p ls)) ≡ n - total p (λ x. x.contracts) (l ∷ ls)
    go true e taken left =
        let here : cond (p l) l.contracts 0 ≡ l.contracts = ap (λ t. cond t l.contracts 0) e in
        let d = ap (λ t. all n (cond t (l ∷ filter p ls) (filter p ls))) e in
        omega (arith, c, here, taken, d)
    go false e taken left =
        let here : cond (p l) l.contracts 0 ≡ 0 = ap (λ t. cond t l.contracts 0) e in
        let d = ap (λ t. all n (cond t (l ∷ filter p ls) (filter p ls))) e in
        omega (arith, c, here, left, d)

-- ---- an asset more, and a pair more

-- What is left of a lot in the records, with the lines so far.
pub left_held : (K place a : ℕ) (xs : List SellerLots) (ls : List Line) → a < K
    → held xs place a - total (of_seller (place + 1) a) (λ l. l.contracts) ls ≡ left (lots_from K 1 xs) ls (place + 1) a
left_held K place a xs ls h = ap (λ n. n - total (of_seller (place + 1) a) (λ l. l.contracts) ls) (sym (lot_held K 1 place a xs h))

pub asset_more : (lots : List Lot) (p : Pair) (K a n used : ℕ) (ls rs : List Line) → a < K
    → used ≡ min n (left lots ls (p.seller + 1) a) → rs ≡ add_line ls (fresh p a used)
    → lines_of_pair lots p (K - (a + 1)) (a + 1) (n - used) rs ≡ lines_of_pair lots p (K - a) a n ls
asset_more lots p K a n used ls rs h eu er =
    let k : K - a ≡ suc (K - (a + 1)) = omega arith in
    ap (lines_of_pair lots p (K - (a + 1)) (a + 1) (n - used)) er
    ∙ ap (λ u. lines_of_pair lots p (K - (a + 1)) (a + 1) (n - u) (add_line ls (fresh p a u))) eu
    ∙ ap (λ j. lines_of_pair lots p j a n ls) (sym k)

pub pairs_more : (lots : List Lot) (K i : ℕ) (ps : List Pair) (d : Pair) (ls rs : List Line) → i < length ps
    → rs ≡ lines_of_pair lots (get_or ps i d) K 0 (get_or ps i d).contracts ls
    → lines_of_pairs lots K (drop (i + 1) ps) rs ≡ lines_of_pairs lots K (drop i ps) ls
pairs_more lots K i ps d ls rs h e =
    ap (lines_of_pairs lots K (drop (i + 1) ps)) e ∙ ap (λ qs. lines_of_pairs lots K qs ls) (sym (drop_more ps i d h))
