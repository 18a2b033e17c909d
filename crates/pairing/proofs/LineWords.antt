-- Words of the proofs on lines.
use Rattle.std.proofs.Common.{◌≡◌, ◌<◌, true, length}
use Rattle.pairing.specs.declared.line.Line.{Line}
use Rattle.book.specs.Books.{Contents, holder, buys, sells}

-- A line as pairing makes it: some contracts of a buyer and a seller in an asset of the book, with nothing taken yet.
pub record Fresh (b : Contents) (l : Line) : Type 0 where
  pub some : 0 < l.contracts
  pub buyer : buys (holder b l.buyer) ≡ true
  pub seller : sells (holder b l.seller) ≡ true
  pub asset : l.asset < length b.assets
  pub none_taken : l.taken ≡ 0
  pub none_settled : l.settled ≡ 0
  pub none_returned : l.returned ≡ 0
