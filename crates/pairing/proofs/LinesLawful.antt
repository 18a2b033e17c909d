-- The lines of a book that is not empty are lawful, and so are those without notices.
use Rattle.std.proofs.Common.{◌≡◌, ℕ, zero, suc, ◌+◌, ◌-◌, ◌<◌, true, cond, eqb, List, [], ◌∷◌, length, get_or, sum_by, sym, refl, ap, ◌∙◌, mul-le-mul, add-one, arith}
use Rattle.std.specs.List.{AllByRecursion}
use Rattle.std.proofs.lemmas.List.Sums.{sum_by-cons}
use Rattle.std.proofs.lemmas.Bool.{eq-eqb, ne_eqb}
use Rattle.book.specs.declared.records.Holder.{Holder}
use Rattle.book.specs.Books.{Contents, Sound, holder, nobody, sells, volume}
use Rattle.pairing.specs.Pairing.{pairs}
use Rattle.pairing.specs.Orders.{first_deliverable}
use Rattle.pairing.specs.Lines.{Lot, unnotified, added_from, added, lines_of}
use Rattle.pairing.specs.Laws.{Notified, Lawful}
use Rattle.pairing.proofs.PairLaws.{rows_length, pairs_lawful}
use Rattle.pairing.proofs.LineRuns.{runs_length, runs_names}
use Rattle.pairing.proofs.LineLaws.{lines_lots}
use Rattle.pairing.proofs.LineNear.{lines_well_paired}
use Rattle.pairing.proofs.LineParts.{lines_parts}
use Rattle.pairing.proofs.FirstDeliverable.{first_deliverable_in}
use Rattle.pairing.proofs.RuleToldOnce.{pairs_as_told}

module _ (b : Contents) (ok : Sound b) (lots : List Lot) where
  names_few : length (pairs b) < length b.holders
  names_few = let f = (pairs_lawful b ok).fewer in let l = rows_length b.holders in omega (arith, f, l)

  pub lines_lawful : Lawful b lots (lines_of b lots)
  lines_lawful = record {
    pairs_as_told = pairs_as_told b ok;
    fewer_pairs_than_holders = let r = runs_names lots (length b.assets) (pairs b) [] in let f = names_few in omega (arith, r, f);
    four_lines_a_holder =
        let r = runs_length lots (length b.assets) (pairs b) [] in
        let f = names_few in
        let m = mul-le-mul {n₁ = length (pairs b)} {m₁ = length b.assets} {n₂ = length b.holders} {m₂ = 4} (omega (arith, f)) ok.asset_count.1 in
        omega (arith, r, m);
    parts_of_pairs = lines_parts b ok lots;
    positions_are_met = λ full. (lines_well_paired b ok lots full).pairing;
    lots_are_used_up = λ full. lines_lots b ok lots full;
    most_contracts_near = λ full. (lines_well_paired b ok lots full).nearest;
  }

-- ---- without notices

abbrev of_row : ℕ → Lot → ℕ
of_row row x = cond (eqb x.row row) x.contracts 0

added_before : (row from a : ℕ) (hs : List Holder) → row < from → sum_by (of_row row) (added_from from hs a []) ≡ 0
added_before row from a [] h = refl
added_before row from a (x ∷ hs) h =
    let y : Lot = record { row = from; asset = a; contracts = cond (sells x) (unnotified [] from x) 0 } in
    let s = sum_by-cons (of_row row) y (added_from (from + 1) hs a []) in
    let z = ap (λ t. cond t y.contracts 0) (ne_eqb from row (λ e. omega arith)) in
    let ih = added_before row (from + 1) a hs (omega arith) in omega (arith, s, z, ih)

added_row : (place from a : ℕ) (hs : List Holder) → sells (get_or hs place nobody) ≡ true
    → sum_by (of_row (place + from)) (added_from from hs a []) ≡ volume (get_or hs place nobody)
added_row place from a [] does = let z : ◌≡◌ {A = ℕ} 0 1 = cc in absurd (omega arith)
added_row zero from a (x ∷ hs) does =
    let y : Lot = record { row = from; asset = a; contracts = cond (sells x) (unnotified [] from x) 0 } in
    let s = sum_by-cons (of_row (0 + from)) y (added_from (from + 1) hs a []) in
    let here = ap (λ t. cond t y.contracts 0) (eq-eqb from (0 + from) (omega arith)) in
    let all : cond (sells x) (unnotified [] from x) 0 ≡ volume x - 0 = ap (λ t. cond t (unnotified [] from x) 0) does in
    let b = added_before (0 + from) (from + 1) a hs (omega arith) in
    omega (arith, s, here, all, b)
added_row (suc k) from a (x ∷ hs) does =
    let row : suc k + from ≡ k + (from + 1) = omega arith in
    let y : Lot = record { row = from; asset = a; contracts = cond (sells x) (unnotified [] from x) 0 } in
    let s = sum_by-cons (of_row (suc k + from)) y (added_from (from + 1) hs a []) in
    let z = ap (λ t. cond t y.contracts 0) (ne_eqb from (suc k + from) (λ e. omega arith)) in
    let ih : sum_by (of_row (suc k + from)) (added_from (from + 1) hs a []) ≡ volume (get_or hs k nobody)
    = ap (λ r. sum_by (of_row r) (added_from (from + 1) hs a [])) row ∙ added_row k (from + 1) a hs does in
    omega (arith, s, z, ih)

added_assets : (K row : ℕ) (hs : List Holder) (a : ℕ) → a < K → AllByRecursion (λ x. x.asset < K) (added_from row hs a [])
added_assets K row [] a h = tt
added_assets K row (x ∷ hs) a h = (h, added_assets K (row + 1) hs a h)

-- Without notices every contract sold is in the lot for the first deliverable.
pub all_notified : (b : Contents) → Sound b → Notified b (added b [])
all_notified b ok = record {
  assets = added_assets (length b.assets) 1 b.holders (first_deliverable b) (first_deliverable_in b ok);
  whole = rows;
}
  where
    rows : (row : ℕ) → sells (holder b row) ≡ true → sum_by (of_row row) (added b []) ≡ volume (holder b row)
    rows zero does = let z : ◌≡◌ {A = ℕ} 0 1 = cc in absurd (omega arith)
    rows (suc k) does = ap (λ r. sum_by (of_row r) (added b [])) (sym (add-one k)) ∙ added_row k 1 (first_deliverable b) b.holders does
