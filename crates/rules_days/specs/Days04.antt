-- Days that the separate player played, with what it told. Written by tests/rules_days.py.
use Rattle.std.specs.Prelude.{List, [], ◌∷◌, pos, negsuc}
use Rattle.rules.specs.declared.side.Side.TheVariants.{Securities, Cash}
use Rattle.rules.specs.declared.call.Call.TheVariants as call
use Rattle.pairing.specs.Cases.{asset, buyer, seller, book}
use Rattle.rules_days.specs.Trials.{Day, asks, tell, ok, counts, refused, refused_by, stands}

abbrev pub day_1 : Day
day_1 = record {
  book = book 1 100
      (asset 1000000 0 107 ∷ [])
      (buyer 1 1 1 63 2 ∷ seller 2 1 2 64 2 ∷ []);
  places = 8;
  securities = (3, 1);
  cash = (65, 1);
  placed = record { side = Securities; account = 2; asset = 0; amount = 2 } ∷ record { side = Cash; account = 63; asset = 0; amount = 200 } ∷ [];
  asked = asks (call.End) ∷ asks (call.End) ∷ asks (call.Pair) ∷ asks (call.Take 2 1 0) ∷ asks (call.Draw 63) ∷ asks (call.Draw 64) ∷ asks (call.Draw 65) ∷
      asks (call.Draw 0) ∷ tell ∷ asks (call.End) ∷ asks (call.Credit Cash 65 0 1) ∷ asks (call.SettleLine 1) ∷ asks (call.SettleLine 2) ∷
      asks (call.Close) ∷ tell ∷ [];
  told = ok ∷ ok ∷ ok ∷ counts 1 ∷ counts 2 ∷ ok ∷ refused 13 ∷ refused 13 ∷ refused 13 ∷
      stands (record {
        session = 4;
        lines = (2, 2, 0, 0) ∷ [];
        securities = (0, 0, 2) ∷ [];
        cash = (0, 0, 200) ∷ [];
        agents = (63, negsuc 199, pos 0) ∷ (64, pos 200, pos 0) ∷ [];
      }) ∷
      ok ∷ refused_by Cash 20 ∷ counts 2 ∷ refused 13 ∷ ok ∷
      stands (record {
        session = 6;
        lines = (2, 2, 2, 0) ∷ [];
        securities = (1, 0, 2) ∷ [];
        cash = (64, 0, 200) ∷ [];
        agents = (63, negsuc 199, pos 0) ∷ (64, pos 200, pos 0) ∷ [];
      }) ∷
      [];
}

abbrev pub day_2 : Day
day_2 = record {
  book = book 1 100
      (asset 1000000 0 107 ∷ [])
      (buyer 1 1 1 63 2 ∷ seller 2 1 2 64 2 ∷ []);
  places = 8;
  securities = (3, 1);
  cash = (64, 1);
  placed = [];
  asked = [];
  told = refused_by Cash 15 ∷ [];
}

abbrev pub day_3 : Day
day_3 = record {
  book = book 1 100
      (asset 1000000 0 107 ∷ [])
      (buyer 1 1 1 63 2 ∷ seller 2 1 2 64 2 ∷ []);
  places = 8;
  securities = (3, 1);
  cash = (65, 1);
  placed = [];
  asked = asks (call.End) ∷ asks (call.End) ∷ asks (call.Pair) ∷ asks (call.End) ∷ asks (call.Close) ∷ tell ∷ [];
  told = ok ∷ ok ∷ ok ∷ counts 1 ∷ ok ∷ ok ∷
      stands (record {
        session = 6;
        lines = (2, 0, 0, 0) ∷ [];
        securities = [];
        cash = [];
        agents = (63, negsuc 199, pos 14) ∷ (64, pos 200, negsuc 13) ∷ [];
      }) ∷
      [];
}

abbrev pub day_4 : Day
day_4 = record {
  book = book 1 100
      (asset 1000000 0 107 ∷ [])
      (seller 1 1 1 63 2 ∷ buyer 2 1 2 64 2 ∷ []);
  places = 8;
  securities = (3, 1);
  cash = (65, 1);
  placed = record { side = Securities; account = 1; asset = 0; amount = 2 } ∷ record { side = Cash; account = 64; asset = 0; amount = 200 } ∷ [];
  asked = asks (call.End) ∷ asks (call.End) ∷ asks (call.Pair) ∷ asks (call.Take 1 1 0) ∷ asks (call.Draw 63) ∷ asks (call.Draw 64) ∷ asks (call.Draw 65) ∷
      asks (call.Draw 0) ∷ tell ∷ asks (call.SettleWhole) ∷ tell ∷ [];
  told = ok ∷ ok ∷ ok ∷ counts 1 ∷ counts 2 ∷ refused 13 ∷ ok ∷ refused 13 ∷ refused 13 ∷
      stands (record {
        session = 4;
        lines = (2, 2, 0, 0) ∷ [];
        securities = (0, 0, 2) ∷ [];
        cash = (0, 0, 200) ∷ [];
        agents = (63, pos 200, pos 0) ∷ (64, negsuc 199, pos 0) ∷ [];
      }) ∷
      ok ∷
      stands (record {
        session = 6;
        lines = (2, 2, 2, 0) ∷ [];
        securities = (2, 0, 2) ∷ [];
        cash = (63, 0, 200) ∷ [];
        agents = (63, pos 200, pos 0) ∷ (64, negsuc 199, pos 0) ∷ [];
      }) ∷
      [];
}

abbrev pub day_5 : Day
day_5 = record {
  book = book 1 100
      (asset 1000000 0 107 ∷ [])
      (seller 1 1 1 63 2 ∷ buyer 2 1 2 64 2 ∷ []);
  places = 8;
  securities = (3, 1);
  cash = (65, 1);
  placed = record { side = Securities; account = 1; asset = 0; amount = 2 } ∷ record { side = Cash; account = 64; asset = 0; amount = 200 } ∷ [];
  asked = asks (call.End) ∷ asks (call.End) ∷ asks (call.Pair) ∷ asks (call.Take 1 1 0) ∷ asks (call.Draw 63) ∷ asks (call.Draw 64) ∷ asks (call.Draw 65) ∷
      asks (call.Draw 0) ∷ tell ∷ asks (call.End) ∷ asks (call.Credit Cash 65 0 1) ∷ asks (call.SettleLine 1) ∷ asks (call.SettleLine 2) ∷
      asks (call.Close) ∷ tell ∷ [];
  told = ok ∷ ok ∷ ok ∷ counts 1 ∷ counts 2 ∷ refused 13 ∷ ok ∷ refused 13 ∷ refused 13 ∷
      stands (record {
        session = 4;
        lines = (2, 2, 0, 0) ∷ [];
        securities = (0, 0, 2) ∷ [];
        cash = (0, 0, 200) ∷ [];
        agents = (63, pos 200, pos 0) ∷ (64, negsuc 199, pos 0) ∷ [];
      }) ∷
      ok ∷ refused_by Cash 20 ∷ counts 2 ∷ refused 13 ∷ ok ∷
      stands (record {
        session = 6;
        lines = (2, 2, 2, 0) ∷ [];
        securities = (2, 0, 2) ∷ [];
        cash = (63, 0, 200) ∷ [];
        agents = (63, pos 200, pos 0) ∷ (64, negsuc 199, pos 0) ∷ [];
      }) ∷
      [];
}

abbrev pub day_6 : Day
day_6 = record {
  book = book 1 100
      (asset 1000000 0 107 ∷ [])
      (seller 1 1 1 63 2 ∷ buyer 2 1 2 64 2 ∷ []);
  places = 8;
  securities = (3, 1);
  cash = (64, 1);
  placed = [];
  asked = [];
  told = refused_by Cash 15 ∷ [];
}

abbrev pub day_7 : Day
day_7 = record {
  book = book 1 100
      (asset 1000000 0 107 ∷ [])
      (seller 1 1 1 63 2 ∷ buyer 2 1 2 64 2 ∷ []);
  places = 8;
  securities = (3, 1);
  cash = (65, 1);
  placed = [];
  asked = asks (call.End) ∷ asks (call.End) ∷ asks (call.Pair) ∷ asks (call.End) ∷ asks (call.Close) ∷ tell ∷ [];
  told = ok ∷ ok ∷ ok ∷ counts 1 ∷ ok ∷ ok ∷
      stands (record {
        session = 6;
        lines = (2, 0, 0, 0) ∷ [];
        securities = [];
        cash = [];
        agents = (63, pos 200, negsuc 13) ∷ (64, negsuc 199, pos 14) ∷ [];
      }) ∷
      [];
}

abbrev pub day_8 : Day
day_8 = record {
  book = book 1000 100000000
      (asset 2000000 10000000 1 ∷ [])
      (buyer 1 1 1 1 1000000 ∷ seller 2 1 2 2 1000000 ∷ []);
  places = 8;
  securities = (3, 1);
  cash = (3, 1);
  placed = record { side = Securities; account = 2; asset = 0; amount = 1000000000000000000 } ∷
      record { side = Cash; account = 1; asset = 0; amount = 209999999999999999 } ∷ [];
  asked = asks (call.End) ∷ asks (call.End) ∷ asks (call.Pair) ∷ asks (call.Credit Securities 1 0 1) ∷ asks (call.Take 2 1 0) ∷ asks (call.Draw 1) ∷ tell ∷
      asks (call.End) ∷ asks (call.SettleLine 1) ∷ asks (call.Close) ∷ tell ∷ [];
  told = ok ∷ ok ∷ ok ∷ counts 1 ∷ refused_by Securities 25 ∷ counts 1000000 ∷ refused_by Cash 24 ∷
      stands (record {
        session = 4;
        lines = (1000000, 1000000, 0, 0) ∷ [];
        securities = (0, 0, 1000000000) ∷ (2, 0, 999999999000000000) ∷ [];
        cash = (1, 0, 209999999999999999) ∷ [];
        agents = (1, negsuc 209999999999999999, pos 0) ∷ (2, pos 210000000000000000, pos 0) ∷ [];
      }) ∷
      ok ∷ refused_by Cash 24 ∷ ok ∷
      stands (record {
        session = 6;
        lines = (1000000, 1000000, 0, 1000000) ∷ [];
        securities = (2, 0, 1000000000000000000) ∷ [];
        cash = (1, 0, 209999999999999999) ∷ [];
        agents = (1, negsuc 209999999999999999, negsuc 209999998999999999) ∷ (2, pos 210000000000000000, pos 209999999000000000) ∷ [];
      }) ∷
      [];
}

abbrev pub days : List Day
days = day_1 ∷ day_2 ∷ day_3 ∷ day_4 ∷ day_5 ∷ day_6 ∷ day_7 ∷ day_8 ∷ []
