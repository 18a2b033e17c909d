-- What pairing makes of a sound book whose sellers' contracts are all in lots.
use Rattle.std.proofs.Common.{◌≡◌, ℕ, ◌*◌, ◌<◌, ◌≤◌, true, List, length, sum_by, refl}
use Rattle.std.specs.List.{AllByRecursion}
use Rattle.std.proofs.ByRecursion.{All-weaker}
use Rattle.book.specs.Books.{Contents, Sound, In, holder, buys, sells}
use Rattle.pairing.specs.declared.line.Line.{Line}
use Rattle.pairing.specs.Lines.{Lot, lot, lines_of, total, of_seller}
use Rattle.pairing.specs.Laws.{WellPaired}
use Rattle.pairing.proofs.LineWords.{Fresh}
use Rattle.pairing.proofs.LineLaws.{in_book, lines_fresh, lines_lots, lines_few}
use Rattle.pairing.proofs.LineNear.{lines_well_paired}
use Rattle.pairing.proofs.LotLaws.{notified, lines_contracts}
use Rattle.rules.proofs.Kept.{FullLots}

-- A line as pairing makes it: rows and asset are the book's, it has contracts, and none is taken.
pub record MadeLine (b : Contents) (l : Line) : Type 0 where
  pub buyer : In 1 (length b.holders) l.buyer
  pub seller : In 1 (length b.holders) l.seller
  pub asset : l.asset < length b.assets
  pub some : 0 < l.contracts
  pub taken : l.taken ≡ 0
  pub settled : l.settled ≡ 0
  pub returned : l.returned ≡ 0

pub record MadeLines (b : Contents) (lots : List Lot) (ls : List Line) : Type 0 where
  pub each : AllByRecursion (MadeLine b) ls
  pub contracts : sum_by (λ l. l.contracts) ls ≤ 1000000
  pub few : length ls ≤ 4 * length b.holders
  pub in_lots : (row asset : ℕ) → sells (holder b row) ≡ true → asset < length b.assets → total (of_seller row asset) (λ l. l.contracts) ls ≡ lot lots row asset
  pub well : WellPaired b ls

pub made_lines : (b : Contents) → Sound b → (lots : List Lot) → FullLots b lots → MadeLines b lots (lines_of b lots)
made_lines b ok lots full =
    let n = notified b lots full.assets full.volumes in
    record {
      each = All-weaker (Fresh b) (MadeLine b) (λ l f. record {
        buyer = in_book b buys refl l.buyer f.buyer;
        seller = in_book b sells refl l.seller f.seller;
        asset = f.asset;
        some = f.some;
        taken = f.none_taken;
        settled = f.none_settled;
        returned = f.none_returned;
      }) (lines_of b lots) (lines_fresh b ok lots n);
      contracts = lines_contracts b ok lots n;
      few = lines_few b ok lots n;
      in_lots = λ row asset does in_it. lines_lots b ok lots n row does asset in_it;
      well = lines_well_paired b ok lots n;
    }
