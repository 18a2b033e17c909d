-- The two parties of a line.
use Rattle.std.specs.Prelude.{ℕ}
use Rattle.book.specs.Books.{Contents, holder}
use Rattle.pairing.specs.declared.line.Line.{Line}
use Rattle.rules.specs.Tally.{settle, give_back}
use Rattle.delivery.specs.declared.party.Party.{Party}
use Rattle.delivery.specs.declared.party.Party.TheVariants.{Buyer, Seller}

abbrev pub to_buyer : Party
to_buyer = Buyer

abbrev pub to_seller : Party
to_seller = Seller

-- The row of a line's buyer or seller, and its agent.
abbrev pub row_on : Party → Line → ℕ
row_on Buyer l = l.buyer
row_on Seller l = l.seller

abbrev pub agent_on : Party → Contents → Line → ℕ
agent_on party b l = (holder b (row_on party l)).agent

-- The line afterwards: a buyer's units are settled, a seller's are returned.
abbrev pub handed : Party → Line → Line
handed Buyer l = settle l
handed Seller l = give_back l
