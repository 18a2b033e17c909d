-- Days that the separate player played, with what it told. Written by tests/rules_days.py.
use Rattle.std.specs.Prelude.{List, [], ◌∷◌, pos, negsuc}
use Rattle.rules.specs.declared.side.Side.TheVariants.{Securities, Cash}
use Rattle.rules.specs.declared.speaker.Speaker.TheVariants as speaker
use Rattle.rules.specs.declared.call.Call.TheVariants as call
use Rattle.pairing.specs.Cases.{asset, buyer, seller, book}
use Rattle.rules_days.specs.Trials.{Day, asks, tell, ok, counts, refused, refused_by, stands}

abbrev pub day_1 : Day
day_1 = record {
  book = book 10 1000
      (asset 1000000 0 1010 ∷ asset 900000 50 940 ∷ [])
      (seller 1 1 1 1 5 ∷ buyer 1 2 1 1 3 ∷ buyer 2 1 1 1 4 ∷ seller 3 1 2 1 4 ∷ buyer 4 1 3 2 2 ∷ []);
  places = 20;
  securities = (6, 2);
  cash = (3, 1);
  placed = record { side = Securities; account = 1; asset = 0; amount = 20 } ∷ record { side = Securities; account = 1; asset = 1; amount = 30 } ∷
      record { side = Securities; account = 4; asset = 1; amount = 25 } ∷ [];
  asked = asks (call.Notice (speaker.Member 1) 1 1 0 2) ∷ asks (call.Notice (speaker.Member 3) 3 1 0 5) ∷ asks (call.End) ∷
      asks (call.Notice (speaker.Clearing 2) 3 1 2 1) ∷ asks (call.End) ∷ asks (call.Pair) ∷ tell ∷ asks (call.Take 1 1 0) ∷ asks (call.Take 1 1 1) ∷
      asks (call.Take 3 1 1) ∷ asks (call.Credit Cash 2 0 20000) ∷ asks (call.Draw 2) ∷ asks (call.Draw 2) ∷ asks (call.SettleWhole) ∷ tell ∷
      asks (call.End) ∷ tell ∷ asks (call.Take 3 1 1) ∷ asks (call.Credit Cash 1 0 70000) ∷ asks (call.SettleLine 1) ∷ asks (call.SettleLine 2) ∷
      asks (call.SettleLine 3) ∷ asks (call.SettleLine 4) ∷ asks (call.SettleLine 5) ∷ tell ∷ asks (call.Close) ∷ tell ∷ asks (call.End) ∷
      asks (call.Credit Securities 0 1 5) ∷ [];
  told = ok ∷ ok ∷ refused 12 ∷ ok ∷ refused 11 ∷ ok ∷ counts 5 ∷
      stands (record {
        session = 4;
        lines = (2, 0, 0, 0) ∷ (1, 0, 0, 0) ∷ (2, 0, 0, 0) ∷ (2, 0, 0, 0) ∷ (2, 0, 0, 0) ∷ [];
        securities = (1, 0, 20) ∷ (1, 1, 30) ∷ (4, 1, 25) ∷ [];
        cash = [];
        agents = (1, pos 19000, pos 0) ∷ (2, negsuc 18999, pos 0) ∷ [];
      }) ∷
      counts 2 ∷ counts 3 ∷ refused_by Securities 24 ∷ ok ∷ ok ∷ refused 13 ∷ refused 14 ∷
      stands (record {
        session = 4;
        lines = (2, 2, 0, 0) ∷ (1, 1, 0, 0) ∷ (2, 2, 0, 0) ∷ (2, 0, 0, 0) ∷ (2, 0, 0, 0) ∷ [];
        securities = (0, 0, 20) ∷ (0, 1, 30) ∷ (4, 1, 25) ∷ [];
        cash = (0, 0, 19000) ∷ (2, 0, 1000) ∷ [];
        agents = (1, pos 19000, pos 0) ∷ (2, negsuc 18999, pos 0) ∷ [];
      }) ∷
      ok ∷
      stands (record {
        session = 5;
        lines = (2, 2, 0, 0) ∷ (1, 1, 0, 0) ∷ (2, 2, 0, 0) ∷ (2, 0, 0, 0) ∷ (2, 0, 0, 0) ∷ [];
        securities = (0, 0, 20) ∷ (0, 1, 30) ∷ (4, 1, 25) ∷ [];
        cash = (2, 0, 20000) ∷ [];
        agents = (1, pos 19000, pos 0) ∷ (2, negsuc 18999, pos 0) ∷ [];
      }) ∷
      counts 2 ∷ ok ∷ counts 2 ∷ counts 1 ∷ counts 2 ∷ counts 2 ∷ refused 13 ∷
      stands (record {
        session = 5;
        lines = (2, 2, 2, 0) ∷ (1, 1, 1, 0) ∷ (2, 2, 2, 0) ∷ (2, 2, 2, 0) ∷ (2, 0, 0, 0) ∷ [];
        securities = (2, 0, 20) ∷ (2, 1, 10) ∷ (3, 1, 40) ∷ (4, 1, 5) ∷ [];
        cash = (1, 0, 70000) ∷ (2, 0, 20000) ∷ [];
        agents = (1, pos 19000, pos 0) ∷ (2, negsuc 18999, pos 0) ∷ [];
      }) ∷
      ok ∷
      stands (record {
        session = 6;
        lines = (2, 2, 2, 0) ∷ (1, 1, 1, 0) ∷ (2, 2, 2, 0) ∷ (2, 2, 2, 0) ∷ (2, 0, 0, 0) ∷ [];
        securities = (2, 0, 20) ∷ (2, 1, 10) ∷ (3, 1, 40) ∷ (4, 1, 5) ∷ [];
        cash = (1, 0, 70000) ∷ (2, 0, 20000) ∷ [];
        agents = (1, pos 19000, pos 200) ∷ (2, negsuc 18999, negsuc 199) ∷ [];
      }) ∷
      refused 8 ∷ refused 17 ∷ [];
}

abbrev pub day_2 : Day
day_2 = record {
  book = book 0 0
      ([])
      ([]);
  places = 0;
  securities = (5, 2);
  cash = (2, 1);
  placed = record { side = Securities; account = 0; asset = 0; amount = 1 } ∷ [];
  asked = [];
  told = refused 6 ∷ [];
}

abbrev pub day_3 : Day
day_3 = record {
  book = book 0 0
      ([])
      ([]);
  places = 1024;
  securities = (6, 2);
  cash = (3, 1);
  placed = [];
  asked = [];
  told = refused 6 ∷ [];
}

abbrev pub day_4 : Day
day_4 = record {
  book = book 10 1000
      (asset 1000000 0 1010 ∷ asset 900000 50 940 ∷ [])
      (seller 1 1 1 1 5 ∷ buyer 1 2 1 1 3 ∷ buyer 2 1 1 1 4 ∷ seller 3 1 2 1 4 ∷ buyer 4 1 3 2 2 ∷ []);
  places = 19;
  securities = (5, 2);
  cash = (2, 1);
  placed = record { side = Securities; account = 0; asset = 0; amount = 1 } ∷ record { side = Cash; account = 0; asset = 0; amount = 1 } ∷ [];
  asked = [];
  told = refused 15 ∷ [];
}

abbrev pub day_5 : Day
day_5 = record {
  book = book 10 1000
      (asset 1000000 0 1010 ∷ asset 900000 50 940 ∷ [])
      (seller 1 1 1 1 5 ∷ buyer 1 2 1 1 3 ∷ buyer 2 1 1 1 4 ∷ seller 3 1 2 1 4 ∷ buyer 4 1 3 2 2 ∷ []);
  places = 19;
  securities = (6, 2);
  cash = (3, 1);
  placed = [];
  asked = [];
  told = refused 15 ∷ [];
}

abbrev pub day_6 : Day
day_6 = record {
  book = book 10 1000
      (asset 1000000 0 1010 ∷ asset 900000 50 940 ∷ [])
      (seller 1 1 1 1 5 ∷ buyer 1 2 1 1 3 ∷ buyer 2 1 1 1 4 ∷ seller 3 1 2 1 4 ∷ buyer 4 1 3 2 2 ∷ []);
  places = 0;
  securities = (6, 2);
  cash = (3, 1);
  placed = [];
  asked = [];
  told = refused 15 ∷ [];
}

abbrev pub day_7 : Day
day_7 = record {
  book = book 10 1000
      (asset 1000000 0 1010 ∷ asset 900000 50 940 ∷ [])
      (seller 1 1 1 1 5 ∷ buyer 1 2 1 1 3 ∷ buyer 2 1 1 1 4 ∷ seller 3 1 2 1 4 ∷ buyer 4 1 3 2 2 ∷ []);
  places = 20;
  securities = (5, 2);
  cash = (2, 1);
  placed = record { side = Securities; account = 0; asset = 1; amount = 1 } ∷ record { side = Cash; account = 0; asset = 0; amount = 1 } ∷ [];
  asked = [];
  told = refused_by Securities 15 ∷ [];
}

abbrev pub day_8 : Day
day_8 = record {
  book = book 10 1000
      (asset 1000000 0 1010 ∷ asset 900000 50 940 ∷ [])
      (seller 1 1 1 1 5 ∷ buyer 1 2 1 1 3 ∷ buyer 2 1 1 1 4 ∷ seller 3 1 2 1 4 ∷ buyer 4 1 3 2 2 ∷ []);
  places = 20;
  securities = (5, 2);
  cash = (3, 1);
  placed = [];
  asked = [];
  told = refused_by Securities 15 ∷ [];
}

abbrev pub days : List Day
days = day_1 ∷ day_2 ∷ day_3 ∷ day_4 ∷ day_5 ∷ day_6 ∷ day_7 ∷ day_8 ∷ []
