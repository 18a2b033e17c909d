-- Days that the separate player played, with what it told. Written by tests/rules_days.py.
use Rattle.std.specs.Prelude.{List, [], ◌∷◌, pos, negsuc}
use Rattle.rules.specs.declared.side.Side.TheVariants.{Securities, Cash}
use Rattle.rules.specs.declared.call.Call.TheVariants as call
use Rattle.pairing.specs.Cases.{asset, buyer, seller, book}
use Rattle.rules_days.specs.Trials.{Day, asks, tell, ok, counts, refused, refused_by, stands}

abbrev pub day_1 : Day
day_1 = record {
  book = book 10 1000
      (asset 1000000 0 1010 ∷ asset 900000 50 940 ∷ [])
      (seller 1 1 1 1 5 ∷ buyer 1 2 1 1 3 ∷ buyer 2 1 1 1 4 ∷ seller 3 1 2 1 4 ∷ buyer 4 1 3 2 2 ∷ []);
  places = 20;
  securities = (5, 16);
  cash = (3, 1);
  placed = [];
  asked = [];
  told = refused_by Securities 15 ∷ [];
}

abbrev pub day_2 : Day
day_2 = record {
  book = book 10 1000
      (asset 1000000 0 1010 ∷ asset 900000 50 940 ∷ [])
      (seller 1 1 1 1 5 ∷ buyer 1 2 1 1 3 ∷ buyer 2 1 1 1 4 ∷ seller 3 1 2 1 4 ∷ buyer 4 1 3 2 2 ∷ []);
  places = 20;
  securities = (6, 2);
  cash = (2, 1);
  placed = record { side = Securities; account = 0; asset = 1; amount = 1 } ∷ record { side = Cash; account = 0; asset = 0; amount = 1 } ∷ [];
  asked = [];
  told = refused_by Cash 15 ∷ [];
}

abbrev pub day_3 : Day
day_3 = record {
  book = book 10 1000
      (asset 1000000 0 1010 ∷ asset 900000 50 940 ∷ [])
      (seller 1 1 1 1 5 ∷ buyer 1 2 1 1 3 ∷ buyer 2 1 1 1 4 ∷ seller 3 1 2 1 4 ∷ buyer 4 1 3 2 2 ∷ []);
  places = 20;
  securities = (6, 2);
  cash = (2, 16);
  placed = [];
  asked = [];
  told = refused_by Cash 15 ∷ [];
}

abbrev pub day_4 : Day
day_4 = record {
  book = book 10 1000
      (asset 1000000 0 1010 ∷ asset 900000 50 940 ∷ [])
      (seller 1 1 1 1 5 ∷ buyer 1 2 1 1 3 ∷ buyer 2 1 1 1 4 ∷ seller 3 1 2 1 4 ∷ buyer 4 1 3 2 2 ∷ []);
  places = 20;
  securities = (6, 2);
  cash = (3, 1);
  placed = record { side = Securities; account = 0; asset = 0; amount = 1 } ∷ record { side = Cash; account = 0; asset = 0; amount = 1 } ∷ [];
  asked = [];
  told = refused_by Securities 16 ∷ [];
}

abbrev pub day_5 : Day
day_5 = record {
  book = book 10 1000
      (asset 1000000 0 1010 ∷ asset 900000 50 940 ∷ [])
      (seller 1 1 1 1 5 ∷ buyer 1 2 1 1 3 ∷ buyer 2 1 1 1 4 ∷ seller 3 1 2 1 4 ∷ buyer 4 1 3 2 2 ∷ []);
  places = 20;
  securities = (6, 2);
  cash = (3, 1);
  placed = record { side = Securities; account = 0; asset = 1; amount = 1 } ∷ [];
  asked = [];
  told = refused_by Securities 16 ∷ [];
}

abbrev pub day_6 : Day
day_6 = record {
  book = book 10 1000
      (asset 1000000 0 1010 ∷ asset 900000 50 940 ∷ [])
      (seller 1 1 1 1 5 ∷ buyer 1 2 1 1 3 ∷ buyer 2 1 1 1 4 ∷ seller 3 1 2 1 4 ∷ buyer 4 1 3 2 2 ∷ []);
  places = 20;
  securities = (6, 2);
  cash = (3, 1);
  placed = record { side = Cash; account = 0; asset = 0; amount = 1 } ∷ [];
  asked = [];
  told = refused_by Cash 16 ∷ [];
}

abbrev pub day_7 : Day
day_7 = record {
  book = book 10 1000
      (asset 1000000 0 1010 ∷ asset 900000 50 940 ∷ [])
      (seller 1 1 1 1 5 ∷ buyer 1 2 1 1 3 ∷ buyer 2 1 1 1 4 ∷ seller 3 1 2 1 4 ∷ buyer 4 1 3 2 2 ∷ []);
  places = 27;
  securities = (9, 3);
  cash = (65, 2);
  placed = record { side = Securities; account = 0; asset = 2; amount = 5 } ∷ record { side = Cash; account = 0; asset = 1; amount = 5 } ∷
      record { side = Securities; account = 5; asset = 1; amount = 9 } ∷ [];
  asked = tell ∷ asks (call.End) ∷ asks (call.End) ∷ asks (call.Pair) ∷ asks (call.End) ∷ asks (call.Close) ∷ tell ∷ [];
  told = ok ∷
      stands (record {
        session = 1;
        lines = [];
        securities = (0, 2, 5) ∷ (5, 1, 9) ∷ [];
        cash = (0, 1, 5) ∷ [];
        agents = [];
      }) ∷
      ok ∷ ok ∷ counts 4 ∷ ok ∷ ok ∷
      stands (record {
        session = 6;
        lines = (3, 0, 0, 0) ∷ (2, 0, 0, 0) ∷ (2, 0, 0, 0) ∷ (2, 0, 0, 0) ∷ [];
        securities = (0, 2, 5) ∷ (5, 1, 9) ∷ [];
        cash = (0, 1, 5) ∷ [];
        agents = (1, pos 19000, pos 200) ∷ (2, negsuc 18999, negsuc 199) ∷ [];
      }) ∷
      [];
}

abbrev pub day_8 : Day
day_8 = record {
  book = book 10 1000
      (asset 1000000 0 1010 ∷ asset 900000 50 940 ∷ [])
      (seller 1 1 1 1 5 ∷ buyer 1 2 1 1 3 ∷ buyer 2 1 1 1 4 ∷ seller 3 1 2 1 4 ∷ buyer 4 1 3 2 2 ∷ []);
  places = 20;
  securities = (6, 2);
  cash = (3, 1);
  placed = record { side = Securities; account = 4; asset = 1; amount = 25 } ∷ [];
  asked = asks (call.End) ∷ asks (call.End) ∷ asks (call.Pair) ∷ asks (call.Take 3 1 1) ∷ asks (call.End) ∷ asks (call.Take 3 1 1) ∷ tell ∷
      asks (call.Credit Cash 1 0 19000) ∷ asks (call.SettleLine 3) ∷ asks (call.SettleLine 4) ∷ asks (call.Close) ∷ tell ∷ [];
  told = ok ∷ ok ∷ ok ∷ counts 4 ∷ refused_by Securities 24 ∷ ok ∷ counts 2 ∷
      stands (record {
        session = 5;
        lines = (3, 0, 0, 0) ∷ (2, 0, 0, 0) ∷ (2, 2, 0, 0) ∷ (2, 0, 0, 0) ∷ [];
        securities = (0, 1, 20) ∷ (4, 1, 5) ∷ [];
        cash = [];
        agents = (1, pos 19000, pos 0) ∷ (2, negsuc 18999, pos 0) ∷ [];
      }) ∷
      ok ∷ counts 2 ∷ refused 13 ∷ ok ∷
      stands (record {
        session = 6;
        lines = (3, 0, 0, 0) ∷ (2, 0, 0, 0) ∷ (2, 2, 2, 0) ∷ (2, 0, 0, 0) ∷ [];
        securities = (3, 1, 20) ∷ (4, 1, 5) ∷ [];
        cash = (1, 0, 19000) ∷ [];
        agents = (1, pos 19000, pos 200) ∷ (2, negsuc 18999, negsuc 199) ∷ [];
      }) ∷
      [];
}

abbrev pub days : List Day
days = day_1 ∷ day_2 ∷ day_3 ∷ day_4 ∷ day_5 ∷ day_6 ∷ day_7 ∷ day_8 ∷ []
