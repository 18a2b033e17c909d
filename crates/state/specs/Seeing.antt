-- What is seen of the state of an expiry, its lines and its registers, in the words of the rules.
use Rattle.std.specs.Prelude.{ℕ, List, ◌∷◌, pos, slice_index, slice_index_or}
use Rattle.book.specs.Books.{Contents}
use Rattle.book.specs.Data.{contents}
use Rattle.register.specs.Rules.{Meaning}
use Rattle.pairing.specs.declared.line.Line.{Line}
use Rattle.pairs.specs.declared.lots.SellerLots.{SellerLots}
use Rattle.pairs.specs.Records.{no_lots}
use Rattle.rules.specs.Tally.{Opening}
use Rattle.rules.specs.Histories.{Seen}
use Rattle.state.specs.declared.state.State.{State}

-- The record of a row. Rows count from 1; row 0 has nothing.
abbrev pub record_of : List SellerLots → ℕ → SellerLots
record_of records row = slice_index_or (no_lots ∷ records) row no_lots

-- The lots and the contracts notified of a row are those of its record; an amount of an agent stands at its number.
abbrev pub seen : State → List Line → Meaning → Meaning → Seen
seen e lines securities cash = record {
  book = contents e.book;
  session = e.session;
  lot = λ row a. slice_index (record_of e.lots row).lots a;
  notified = λ row. (record_of e.lots row).notified;
  table = lines;
  count = e.count;
  draw = λ agent. slice_index e.draws agent;
  net = λ agent. slice_index_or e.nets agent (pos 0);
  claim = λ agent. slice_index_or e.claims agent (pos 0);
  securities = securities;
  cash = cash;
}

-- What an expiry opens with.
abbrev pub opening : Contents → List Line → Meaning → Meaning → Opening
opening b lines securities cash = record { book = b; table = lines; securities = securities; cash = cash }
