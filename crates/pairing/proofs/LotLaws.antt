-- Lots: the first deliverable is an asset of the book, so the end of the notices names only such; and the lines of all lots are few.
use Rattle.std.proofs.Common.{◌≡◌, ℕ, ◌+◌, ◌<◌, ◌≤◌, true, cond, eqb, List, [], ◌∷◌, ◌++◌, length, sum_by, refl, ap, ◌∙◌, arith}
use Rattle.std.specs.List.{AllByRecursion}
use Rattle.std.proofs.ByRecursion.{All-append}
use Rattle.book.specs.declared.records.Holder.{Holder}
use Rattle.pairing.specs.declared.stage.Stage.TheVariants.{Whole}
use Rattle.book.specs.Books.{Contents, Sound, holder, sells, volume}
use Rattle.pairing.specs.Orders.{first_deliverable}
use Rattle.pairing.specs.Pairing.{pairs}
use Rattle.pairing.specs.Lines.{Lot, added, added_from, lines_of}
use Rattle.pairing.proofs.FirstDeliverable.{first_deliverable_in}
use Rattle.pairing.proofs.GroupShares.{at_most}
use Rattle.pairing.proofs.PairLaws.{rows, rows_bought, pairs_lawful}
use Rattle.pairing.specs.Laws.{Notified}
use Rattle.pairing.proofs.LineLaws.{lines_between}

added_from_assets : (K row : ℕ) (hs : List Holder) (a : ℕ) (lots : List Lot) → a < K → AllByRecursion (λ x. x.asset < K) (added_from row hs a lots)
added_from_assets K row [] a lots h = tt
added_from_assets K row (x ∷ hs) a lots h = (h, added_from_assets K (row + 1) hs a lots h)

-- The end of the notices names assets of the book.
pub added_assets : (b : Contents) → Sound b → (lots : List Lot) → AllByRecursion (λ x. x.asset < length b.assets) lots → AllByRecursion (λ x. x.asset < length b.assets) (added b lots ++ lots)
added_assets b ok lots all = All-append (λ (x : Lot). x.asset < length b.assets) (added b lots) lots
    (added_from_assets (length b.assets) 1 b.holders (first_deliverable b) lots (first_deliverable_in b ok)) all

-- From lots that make up what each row has to sell.
pub notified : (b : Contents) (lots : List Lot) → AllByRecursion (λ x. x.asset < length b.assets) lots
    → ((row : ℕ) → sum_by (λ x. cond (eqb x.row row) x.contracts 0) lots ≡ cond (sells (holder b row)) (volume (holder b row)) 0) → Notified b lots
notified b lots all full = record { assets = all; whole = λ row does. full row ∙ ap (λ t. cond t (volume (holder b row)) 0) does }

-- All lines together have the contracts of all pairs, which are those bought: at most a million.
pub lines_contracts : (b : Contents) → Sound b → (lots : List Lot) → Notified b lots → sum_by (λ l. l.contracts) (lines_of b lots) ≤ 1000000
lines_contracts b ok lots full =
    let e = lines_between b ok lots full (λ x y. true) in
    let m = (at_most (record { stage = Whole; number = 0 }) (λ i. 0) (pairs b) (rows b) (λ k. refl) (pairs_lawful b ok).pairing).0 in
    let r = rows_bought b.holders in
    let f = ok.few in
    omega (arith, e, m, r, f)
