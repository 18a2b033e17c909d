-- What is listed of a line: its number and stage, the names of both holders, the asset, the contracts and their value; and how it is printed.
use Rattle.std.specs.Prelude.{ℕ, List, ◌++◌, codes, decimal}
use Rattle.book.specs.Books.{Contents, holder, value}
use Rattle.pairing.specs.StageNumber.{stage_number}
use Rattle.pairing.specs.declared.line.Line.{Line}
use Rattle.listing.specs.declared.Name.{Name}
use Rattle.listing.specs.declared.ListedLine.{ListedLine}

abbrev pub listed : Contents → ℕ → Line → ListedLine
listed b number l = record {
  number = number;
  stage = l.stage;
  buyer = record { member = (holder b l.buyer).member; number = (holder b l.buyer).number };
  seller = record { member = (holder b l.seller).member; number = (holder b l.seller).number };
  asset = l.asset;
  contracts = l.contracts;
  value = value b l.asset l.contracts;
}

-- A name is printed as member and number, with a comma between them.
abbrev pub name_text : Name → List ℕ
name_text n = decimal n.member ++ codes "," ++ decimal n.number

-- A line is printed as its fields in their order, the stage by its number, with commas between them.
abbrev pub line_text : ListedLine → List ℕ
line_text l =
    codes "line," ++ (decimal l.number ++ (codes "," ++ (decimal (stage_number l.stage) ++ (codes "," ++ (name_text l.buyer ++ (codes "," ++ (name_text l.seller
    ++ (codes "," ++ (decimal l.asset ++ (codes "," ++ (decimal l.contracts ++ (codes "," ++ decimal l.value))))))))))))
