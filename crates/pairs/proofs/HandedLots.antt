-- What the records hold after the unnotified contracts were handed out.
use Rattle.std.proofs.Common.{◌≡◌, ℕ, zero, suc, ◌+◌, ◌-◌, ◌<◌, ◌≤◌, Bool, true, false, cond, ◌&&◌, eqb, List, [], ◌∷◌, ◌++◌, length, get_or, take, drop, sum_by, sym, refl, ap, ◌∙◌, subst, ⊎_elim, add-one, arith}
use Rattle.std.specs.List.{fold}
use Rattle.std.proofs.lemmas.List.Sums.{sum_by-cons, sum_by-append}
use Rattle.std.proofs.lemmas.Bool.{cases_eq, eq-eqb, ne_eqb}
use Rattle.std.proofs.lemmas.List.{drop_more}
use Rattle.book.specs.declared.records.Holder.{Holder}
use Rattle.book.specs.Books.{nobody, sells, volume}
use Rattle.pairing.specs.Lines.{Lot, lot, unnotified, added_from}
use Rattle.pairs.specs.declared.lots.SellerLots.{SellerLots}
use Rattle.pairs.proofs.WrittenLines.{lot_held, earlier_row}
use Rattle.pairs.specs.Records.{no_lots, held, row_lots, lots_from, in_lots, filled, handed_from}

abbrev pub contracts_in : List Lot → ℕ
contracts_in xs = sum_by (λ (x : Lot). x.contracts) xs

-- The lots taken off one after the other, or all at once.
pub less_lots : (n a v : ℕ) (lots : List ℕ) → a + n ≤ length lots
    → fold (λ (left lot : ℕ). left - lot) v (take n (drop a lots)) ≡ v - contracts_in (row_lots 0 lots a n)
less_lots zero a v lots h = omega arith
less_lots (suc n) a v lots h =
    let x = get_or lots a 0 in
    let c = sum_by-cons (λ (l : Lot). l.contracts) (record { row = 0; asset = a; contracts = x }) (row_lots 0 lots (a + 1) n) in
    let d = ap (λ (xs : List ℕ). fold (λ (left lot : ℕ). left - lot) v (take (suc n) xs)) (drop_more lots a 0 (omega arith)) in
    let ih = less_lots n (a + 1) (v - x) lots (omega arith) in
    omega (arith, c, d, ih)

-- Each lot is one of them.
pub one_in_row : (row a from n : ℕ) (lots : List ℕ) → from ≤ a → a < from + n → get_or lots a 0 ≤ contracts_in (row_lots row lots from n)
one_in_row row a from zero lots low high = absurd (omega arith)
one_in_row row a from (suc n) lots low high =
    let c = sum_by-cons (λ (x : Lot). x.contracts) (record { row = row; asset = from; contracts = get_or lots from 0 }) (row_lots row lots (from + 1) n) in
    ⊎_elim
    (λ e. let s = ap (λ k. get_or lots k 0) e in omega (arith, c, s))
    (λ ne. let ih = one_in_row row a (from + 1) n lots (omega arith) (omega arith) in omega (arith, c, ih))
    (cases_eq from a)

-- A lot with the rest added to it is no more than the volume.
pub rest_fits : (n a volume rest : ℕ) (x : SellerLots) → a < n → rest ≡ volume - in_lots n x → 0 < rest → get_or x.lots a 0 + rest ≤ volume
rest_fits n a volume rest x h e some =
    let one : get_or x.lots a 0 ≤ in_lots n x = one_in_row 0 a 0 n x.lots (omega arith) (omega arith) in
    omega (arith, one)

-- ---- what the records mean

-- the contracts of a lot that count for a row
abbrev of_row : ℕ → Lot → ℕ
of_row row x = cond (eqb x.row row) x.contracts 0

own_row : (r : ℕ) (lots : List ℕ) (from n : ℕ) → sum_by (of_row r) (row_lots r lots from n) ≡ contracts_in (row_lots 0 lots from n)
own_row r lots from zero = refl
own_row r lots from (suc n) =
    let x : Lot = record { row = r; asset = from; contracts = get_or lots from 0 } in
    let c = sum_by-cons (of_row r) x (row_lots r lots (from + 1) n) in
    let d = sum_by-cons (λ (y : Lot). y.contracts) (record { row = 0; asset = from; contracts = get_or lots from 0 }) (row_lots 0 lots (from + 1) n) in
    let here : of_row r x ≡ get_or lots from 0 = ap (λ t. cond t (get_or lots from 0) 0) (eq-eqb r r refl) in
    let ih = own_row r lots (from + 1) n in omega (arith, c, d, here, ih)

other_rows : (r row : ℕ) (lots : List ℕ) (from n : ℕ) → (r ≡ row → ⊥) → sum_by (of_row row) (row_lots r lots from n) ≡ 0
other_rows r row lots from zero ne = refl
other_rows r row lots from (suc n) ne =
    let x : Lot = record { row = r; asset = from; contracts = get_or lots from 0 } in
    let c = sum_by-cons (of_row row) x (row_lots r lots (from + 1) n) in
    let z : of_row row x ≡ 0 = ap (λ t. cond t (get_or lots from 0) 0) (ne_eqb r row ne) in
    let ih = other_rows r row lots (from + 1) n ne in omega (arith, c, z, ih)

later_rows : (n row from : ℕ) (xs : List SellerLots) → row < from → sum_by (of_row row) (lots_from n from xs) ≡ 0
later_rows n row from [] h = refl
later_rows n row from (x ∷ xs) h =
    let s = sum_by-append (of_row row) (row_lots from x.lots 0 n) (lots_from n (from + 1) xs) in
    let o = other_rows from row x.lots 0 n (λ e. omega arith) in
    let ih = later_rows n row (from + 1) xs (omega arith) in omega (arith, s, o, ih)

-- The contracts of a row in lots are those in its record.
pub row_held : (n from place : ℕ) (xs : List SellerLots) → sum_by (of_row (place + from)) (lots_from n from xs) ≡ in_lots n (get_or xs place no_lots)
row_held n from place [] = sym (no_contracts 0 n)
  where
    no_contracts : (from n : ℕ) → contracts_in (row_lots 0 [] from n) ≡ 0
    no_contracts from zero = refl
    no_contracts from (suc n) =
        let c = sum_by-cons (λ (y : Lot). y.contracts) (record { row = 0; asset = from; contracts = 0 }) (row_lots 0 [] (from + 1) n) in
        let ih = no_contracts (from + 1) n in omega (arith, c, ih)
row_held n from zero (x ∷ xs) =
    let row : 0 + from ≡ from = omega arith in
    let s = sum_by-append (of_row (0 + from)) (row_lots from x.lots 0 n) (lots_from n (from + 1) xs) in
    let o : sum_by (of_row (0 + from)) (row_lots from x.lots 0 n) ≡ in_lots n x = ap (λ r. sum_by (of_row r) (row_lots from x.lots 0 n)) row ∙ own_row from x.lots 0 n in
    let l = later_rows n (0 + from) (from + 1) xs (omega arith) in
    omega (arith, s, o, l)
row_held n from (suc k) (x ∷ xs) =
    let row : suc k + from ≡ k + (from + 1) = omega arith in
    let s = sum_by-append (of_row (suc k + from)) (row_lots from x.lots 0 n) (lots_from n (from + 1) xs) in
    let o = other_rows from (suc k + from) x.lots 0 n (λ e. omega arith) in
    let ih = ap (λ r. sum_by (of_row r) (lots_from n (from + 1) xs)) row ∙ row_held n (from + 1) k xs in
    omega (arith, s, o, ih)

-- What the end of the notices adds to the lot of the holder at a place for asset c.
added_before : (row from a c : ℕ) (hs : List Holder) (lots : List Lot) → row < from → lot (added_from from hs a lots) row c ≡ 0
added_before row from a c [] lots h = refl
added_before row from a c (x ∷ hs) lots h =
    let y : Lot = record { row = from; asset = a; contracts = cond (sells x) (unnotified lots from x) 0 } in
    let s = sum_by-cons (λ (l : Lot). cond (eqb l.row row && eqb l.asset c) l.contracts 0) y (added_from (from + 1) hs a lots) in
    let z = ap (λ t. cond (t && eqb a c) y.contracts 0) (ne_eqb from row (λ e. omega arith)) in
    let ih = added_before row (from + 1) a c hs lots (omega arith) in omega (arith, s, z, ih)

added_at : (place from a c : ℕ) (hs : List Holder) (lots : List Lot)
    → lot (added_from from hs a lots) (place + from) c ≡ cond (eqb a c) (cond (sells (get_or hs place nobody)) (unnotified lots (place + from) (get_or hs place nobody)) 0) 0
added_at place from a c [] lots = none (eqb a c)
  where
    none : (t : Bool) → 0 ≡ cond {A = ℕ} t 0 0
    none true = refl
    none false = refl
added_at zero from a c (x ∷ hs) lots =
    let row : 0 + from ≡ from = omega arith in
    let y : Lot = record { row = from; asset = a; contracts = cond (sells x) (unnotified lots from x) 0 } in
    let s = sum_by-cons (λ (l : Lot). cond (eqb l.row (0 + from) && eqb l.asset c) l.contracts 0) y (added_from (from + 1) hs a lots) in
    let here : cond (eqb from (0 + from) && eqb a c) y.contracts 0 ≡ cond (eqb a c) (cond (sells x) (unnotified lots (0 + from) x) 0) 0
    = ap (λ t. cond (t && eqb a c) y.contracts 0) (eq-eqb from (0 + from) (sym row)) ∙ ap (λ r. cond (eqb a c) (cond (sells x) (unnotified lots r x) 0) 0) (sym row) in
    let b = added_before (0 + from) (from + 1) a c hs lots (omega arith) in
    omega (arith, s, here, b)
added_at (suc k) from a c (x ∷ hs) lots =
    let row : suc k + from ≡ k + (from + 1) = omega arith in
    let y : Lot = record { row = from; asset = a; contracts = cond (sells x) (unnotified lots from x) 0 } in
    let s = sum_by-cons (λ (l : Lot). cond (eqb l.row (suc k + from) && eqb l.asset c) l.contracts 0) y (added_from (from + 1) hs a lots) in
    let z = ap (λ t. cond (t && eqb a c) y.contracts 0) (ne_eqb from (suc k + from) (λ e. omega arith)) in
    let h = get_or hs k nobody in
    let ih : lot (added_from (from + 1) hs a lots) (suc k + from) c ≡ cond (eqb a c) (cond (sells h) (unnotified lots (suc k + from) h) 0) 0
    = ap (λ r. lot (added_from (from + 1) hs a lots) r c) row ∙ added_at k (from + 1) a c hs lots ∙ ap (λ r. cond (eqb a c) (cond (sells h) (unnotified lots r h) 0) 0) (sym row) in
    omega (arith, s, z, ih)

-- What a record handed out holds.
filled_at : (n a volume c : ℕ) (x : SellerLots) → c < 4 → get_or (filled n a volume x).lots c 0 ≡ get_or x.lots c 0 + cond (eqb c a) (volume - in_lots n x) 0
filled_at n a volume zero x h = refl
filled_at n a volume (suc zero) x h = refl
filled_at n a volume (suc (suc zero)) x h = refl
filled_at n a volume (suc (suc (suc zero))) x h = refl
filled_at n a volume (suc (suc (suc (suc c)))) x h = absurd (omega arith)

handed_at : (n a : ℕ) (hs : List Holder) (xs : List SellerLots) (place c : ℕ) → c < 4 → length hs ≤ length xs
    → held (handed_from n a hs xs) place c
    ≡ held xs place c + cond (eqb c a) (cond (sells (get_or hs place nobody)) (volume (get_or hs place nobody) - in_lots n (get_or xs place no_lots)) 0) 0
handed_at n a [] xs place c h l = none (eqb c a)
  where
    none : (t : Bool) → held xs place c ≡ held xs place c + cond {A = ℕ} t 0 0
    none true = omega arith
    none false = omega arith
handed_at n a (x ∷ hs) [] place c h l = absurd (omega arith)
handed_at n a (x ∷ hs) (r ∷ xs) zero c h l = one (sells x)
  where
    one : (t : Bool) → get_or (cond t (filled n a (volume x) r) r).lots c 0 ≡ get_or r.lots c 0 + cond (eqb c a) (cond t (volume x - in_lots n r) 0) 0
    one true = filled_at n a (volume x) c r h
    one false = nothing (eqb c a)
      where
        nothing : (u : Bool) → get_or r.lots c 0 ≡ get_or r.lots c 0 + cond {A = ℕ} u 0 0
        nothing true = omega arith
        nothing false = omega arith
handed_at n a (x ∷ hs) (r ∷ xs) (suc k) c h l = handed_at n a hs xs k c h (omega arith)

eqb_swap : (x y : ℕ) → eqb x y ≡ eqb y x
eqb_swap x y = ⊎_elim (λ e. eq-eqb x y e ∙ sym (eq-eqb y x (sym e))) (λ ne. ne_eqb x y ne ∙ sym (ne_eqb y x (λ e. ne (sym e)))) (cases_eq x y)

-- The records handed out hold the lots so far and what the end of the notices adds.
pub handed_means : (n a : ℕ) (hs : List Holder) (xs : List SellerLots) → n ≤ 4 → length hs ≤ length xs → (row c : ℕ) → c < n
    → lot (lots_from n 1 (handed_from n a hs xs)) row c ≡ lot (added_from 1 hs a (lots_from n 1 xs) ++ lots_from n 1 xs) row c
handed_means n a hs xs few l zero c h =
    let L = lots_from n 1 xs in
    let s = sum_by-append (λ (x : Lot). cond (eqb x.row 0 && eqb x.asset c) x.contracts 0) (added_from 1 hs a L) L in
    let x = earlier_row n 0 c 1 (handed_from n a hs xs) (omega arith) in
    let y = earlier_row n 0 c 1 xs (omega arith) in
    let z = added_before 0 1 a c hs L (omega arith) in
    omega (arith, s, x, y, z)
handed_means n a hs xs few l (suc k) c h =
    let L = lots_from n 1 xs in
    let A = added_from 1 hs a L in
    let holder = get_or hs k nobody in
    let rest = cond (sells holder) (volume holder - in_lots n (get_or xs k no_lots)) 0 in
    let s = sum_by-append (λ (x : Lot). cond (eqb x.row (k + 1) && eqb x.asset c) x.contracts 0) A L in
    let x = lot_held n 1 k c (handed_from n a hs xs) h ∙ handed_at n a hs xs k c (omega arith) l in
    let y = lot_held n 1 k c xs h in
    let z : lot A (k + 1) c ≡ cond (eqb c a) rest 0
    = added_at k 1 a c hs L
    ∙ ap (λ m. cond (eqb a c) (cond (sells holder) (volume holder - m) 0) 0) (row_held n 1 k xs)
    ∙ ap (λ t. cond t rest 0) (eqb_swap a c) in
    let e : lot (lots_from n 1 (handed_from n a hs xs)) (k + 1) c ≡ lot (A ++ L) (k + 1) c = omega (arith, s, x, y, z) in
    subst (λ r. lot (lots_from n 1 (handed_from n a hs xs)) r c ≡ lot (A ++ L) r c) (add-one k) e

-- The records hold nothing.
abbrev pub NothingHeld : List SellerLots → Type 0
NothingHeld records = (place a : ℕ) → held records place a ≡ 0

no_lots_in : (n : ℕ) (xs : List SellerLots) → NothingHeld xs → (place : ℕ) → in_lots n (get_or xs place no_lots) ≡ 0
no_lots_in n xs none place = go 0 n
  where
    go : (from m : ℕ) → contracts_in (row_lots 0 (get_or xs place no_lots).lots from m) ≡ 0
    go from zero = refl
    go from (suc m) =
        let c = sum_by-cons (λ (y : Lot). y.contracts) (record { row = 0; asset = from; contracts = held xs place from }) (row_lots 0 (get_or xs place no_lots).lots (from + 1) m) in
        let z = none place from in
        let ih = go (from + 1) m in omega (arith, c, z, ih)

-- Where nothing was notified, the records hold what the end of the notices adds to no lots.
pub handed_unnotified : (n a : ℕ) (hs : List Holder) (xs : List SellerLots) → n ≤ 4 → length hs ≤ length xs → NothingHeld xs → (row c : ℕ) → c < n
    → lot (lots_from n 1 (handed_from n a hs xs)) row c ≡ lot (added_from 1 hs a []) row c
handed_unnotified n a hs xs few l none zero c h =
    let x = earlier_row n 0 c 1 (handed_from n a hs xs) (omega arith) in
    let z = added_before 0 1 a c hs [] (omega arith) in
    omega (arith, x, z)
handed_unnotified n a hs xs few l none (suc k) c h =
    let holder = get_or hs k nobody in
    let x = lot_held n 1 k c (handed_from n a hs xs) h ∙ handed_at n a hs xs k c (omega arith) l in
    let y = none k c in
    let z : lot (added_from 1 hs a []) (k + 1) c ≡ cond (eqb c a) (cond (sells holder) (volume holder - in_lots n (get_or xs k no_lots)) 0) 0
    = added_at k 1 a c hs []
    ∙ ap (λ m. cond (eqb a c) (cond (sells holder) (volume holder - m) 0) 0) (sym (no_lots_in n xs none k))
    ∙ ap (λ t. cond t (cond (sells holder) (volume holder - in_lots n (get_or xs k no_lots)) 0) 0) (eqb_swap a c) in
    let e : lot (lots_from n 1 (handed_from n a hs xs)) (k + 1) c ≡ lot (added_from 1 hs a []) (k + 1) c = omega (arith, x, y, z) in
    subst (λ r. lot (lots_from n 1 (handed_from n a hs xs)) r c ≡ lot (added_from 1 hs a []) r c) (add-one k) e
