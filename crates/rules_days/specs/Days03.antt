-- Days that the separate player played, with what it told. Written by tests/rules_days.py.
use Rattle.std.specs.Prelude.{List, [], ◌∷◌, pos, negsuc}
use Rattle.rules.specs.declared.side.Side.TheVariants.{Securities, Cash}
use Rattle.rules.specs.declared.speaker.Speaker.TheVariants as speaker
use Rattle.rules.specs.declared.call.Call.TheVariants as call
use Rattle.pairing.specs.Cases.{asset, buyer, seller, book}
use Rattle.rules_days.specs.Trials.{Day, asks, tell, ok, counts, refused, refused_by, stands}

abbrev pub day_1 : Day
day_1 = record {
  book = book 10 1000
      (asset 1000000 0 1010 ∷ asset 900000 50 940 ∷ [])
      (seller 1 1 1 1 5 ∷ buyer 1 2 1 1 3 ∷ buyer 2 1 1 1 4 ∷ seller 3 1 2 1 4 ∷ buyer 4 1 3 2 2 ∷ []);
  places = 20;
  securities = (6, 2);
  cash = (3, 1);
  placed = record { side = Securities; account = 4; asset = 1; amount = 9 } ∷ [];
  asked = asks (call.End) ∷ asks (call.End) ∷ asks (call.Pair) ∷ asks (call.Take 3 1 1) ∷ asks (call.End) ∷ asks (call.Take 3 1 1) ∷ tell ∷
      asks (call.Close) ∷ tell ∷ [];
  told = ok ∷ ok ∷ ok ∷ counts 4 ∷ refused_by Securities 24 ∷ ok ∷ refused_by Securities 24 ∷
      stands (record {
        session = 5;
        lines = (3, 0, 0, 0) ∷ (2, 0, 0, 0) ∷ (2, 0, 0, 0) ∷ (2, 0, 0, 0) ∷ [];
        securities = (4, 1, 9) ∷ [];
        cash = [];
        agents = (1, pos 19000, pos 0) ∷ (2, negsuc 18999, pos 0) ∷ [];
      }) ∷
      ok ∷
      stands (record {
        session = 6;
        lines = (3, 0, 0, 0) ∷ (2, 0, 0, 0) ∷ (2, 0, 0, 0) ∷ (2, 0, 0, 0) ∷ [];
        securities = (4, 1, 9) ∷ [];
        cash = [];
        agents = (1, pos 19000, pos 200) ∷ (2, negsuc 18999, negsuc 199) ∷ [];
      }) ∷
      [];
}

abbrev pub day_2 : Day
day_2 = record {
  book = book 10 1000
      (asset 1000000 0 1010 ∷ asset 900000 50 940 ∷ [])
      (seller 1 1 1 1 5 ∷ buyer 1 2 1 1 3 ∷ buyer 2 1 1 1 4 ∷ seller 3 1 2 1 4 ∷ buyer 4 1 3 2 2 ∷ []);
  places = 20;
  securities = (6, 2);
  cash = (3, 1);
  placed = record { side = Securities; account = 4; asset = 1; amount = 40 } ∷ [];
  asked = asks (call.End) ∷ asks (call.End) ∷ asks (call.Pair) ∷ asks (call.Take 3 1 1) ∷ asks (call.End) ∷ asks (call.Take 3 1 1) ∷ tell ∷
      asks (call.Credit Cash 1 0 38000) ∷ asks (call.SettleLine 3) ∷ asks (call.SettleLine 4) ∷ asks (call.Close) ∷ tell ∷ [];
  told = ok ∷ ok ∷ ok ∷ counts 4 ∷ counts 4 ∷ ok ∷ refused 13 ∷
      stands (record {
        session = 5;
        lines = (3, 0, 0, 0) ∷ (2, 0, 0, 0) ∷ (2, 2, 0, 0) ∷ (2, 2, 0, 0) ∷ [];
        securities = (0, 1, 40) ∷ [];
        cash = [];
        agents = (1, pos 19000, pos 0) ∷ (2, negsuc 18999, pos 0) ∷ [];
      }) ∷
      ok ∷ counts 2 ∷ refused_by Cash 24 ∷ ok ∷
      stands (record {
        session = 6;
        lines = (3, 0, 0, 0) ∷ (2, 0, 0, 0) ∷ (2, 2, 2, 0) ∷ (2, 2, 0, 2) ∷ [];
        securities = (3, 1, 20) ∷ (4, 1, 20) ∷ [];
        cash = (1, 0, 38000) ∷ [];
        agents = (1, pos 19000, pos 200) ∷ (2, negsuc 18999, negsuc 199) ∷ [];
      }) ∷
      [];
}

abbrev pub day_3 : Day
day_3 = record {
  book = book 10 1000
      (asset 1000000 0 1010 ∷ asset 900000 50 940 ∷ [])
      (seller 1 1 1 1 5 ∷ buyer 1 2 1 1 3 ∷ buyer 2 1 1 1 4 ∷ seller 3 1 2 1 4 ∷ buyer 4 1 3 2 2 ∷ []);
  places = 20;
  securities = (6, 2);
  cash = (3, 1);
  placed = record { side = Securities; account = 4; asset = 1; amount = 39 } ∷ [];
  asked = asks (call.End) ∷ asks (call.End) ∷ asks (call.Pair) ∷ asks (call.Take 3 1 1) ∷ asks (call.End) ∷ asks (call.Take 3 1 1) ∷ tell ∷
      asks (call.Credit Cash 1 0 28500) ∷ asks (call.SettleLine 3) ∷ asks (call.SettleLine 4) ∷ asks (call.Close) ∷ tell ∷ [];
  told = ok ∷ ok ∷ ok ∷ counts 4 ∷ refused_by Securities 24 ∷ ok ∷ counts 3 ∷
      stands (record {
        session = 5;
        lines = (3, 0, 0, 0) ∷ (2, 0, 0, 0) ∷ (2, 2, 0, 0) ∷ (2, 1, 0, 0) ∷ [];
        securities = (0, 1, 30) ∷ (4, 1, 9) ∷ [];
        cash = [];
        agents = (1, pos 19000, pos 0) ∷ (2, negsuc 18999, pos 0) ∷ [];
      }) ∷
      ok ∷ counts 2 ∷ refused_by Cash 24 ∷ ok ∷
      stands (record {
        session = 6;
        lines = (3, 0, 0, 0) ∷ (2, 0, 0, 0) ∷ (2, 2, 2, 0) ∷ (2, 1, 0, 1) ∷ [];
        securities = (3, 1, 20) ∷ (4, 1, 19) ∷ [];
        cash = (1, 0, 28500) ∷ [];
        agents = (1, pos 19000, pos 200) ∷ (2, negsuc 18999, negsuc 199) ∷ [];
      }) ∷
      [];
}

abbrev pub day_4 : Day
day_4 = record {
  book = book 10 1000
      (asset 1000000 0 1010 ∷ asset 900000 50 940 ∷ [])
      (seller 1 1 1 1 5 ∷ buyer 1 2 1 1 3 ∷ buyer 2 1 1 1 4 ∷ seller 3 1 2 1 4 ∷ buyer 4 1 3 2 2 ∷ []);
  places = 20;
  securities = (6, 2);
  cash = (3, 1);
  placed = record { side = Securities; account = 1; asset = 1; amount = 50 } ∷ record { side = Securities; account = 4; asset = 1; amount = 40 } ∷
      record { side = Cash; account = 1; asset = 0; amount = 28499 } ∷ [];
  asked = asks (call.End) ∷ asks (call.End) ∷ asks (call.Pair) ∷ asks (call.Take 1 1 1) ∷ asks (call.End) ∷ asks (call.Take 3 1 1) ∷
      asks (call.SettleLine 1) ∷ asks (call.Credit Cash 1 0 1) ∷ asks (call.SettleLine 1) ∷ asks (call.SettleLine 1) ∷ asks (call.SettleLine 2) ∷
      asks (call.SettleLine 3) ∷ asks (call.SettleLine 4) ∷ tell ∷ asks (call.Close) ∷ tell ∷ asks (call.Close) ∷ [];
  told = ok ∷ ok ∷ ok ∷ counts 4 ∷ counts 5 ∷ ok ∷ counts 4 ∷ refused_by Cash 24 ∷ ok ∷ counts 3 ∷ refused 13 ∷ counts 2 ∷ counts 2 ∷ refused_by Cash 24 ∷
      stands (record {
        session = 5;
        lines = (3, 3, 3, 0) ∷ (2, 2, 2, 0) ∷ (2, 2, 2, 0) ∷ (2, 2, 0, 0) ∷ [];
        securities = (0, 1, 20) ∷ (2, 1, 30) ∷ (3, 1, 40) ∷ [];
        cash = (1, 0, 28500) ∷ [];
        agents = (1, pos 19000, pos 0) ∷ (2, negsuc 18999, pos 0) ∷ [];
      }) ∷
      ok ∷
      stands (record {
        session = 6;
        lines = (3, 3, 3, 0) ∷ (2, 2, 2, 0) ∷ (2, 2, 2, 0) ∷ (2, 2, 0, 2) ∷ [];
        securities = (2, 1, 30) ∷ (3, 1, 40) ∷ (4, 1, 20) ∷ [];
        cash = (1, 0, 28500) ∷ [];
        agents = (1, pos 19000, pos 200) ∷ (2, negsuc 18999, negsuc 199) ∷ [];
      }) ∷
      refused 8 ∷ [];
}

abbrev pub day_5 : Day
day_5 = record {
  book = book 10 1000
      (asset 1000000 0 1010 ∷ asset 900000 50 940 ∷ [])
      (seller 1 1 1 1 5 ∷ buyer 1 2 1 1 3 ∷ buyer 2 1 1 1 4 ∷ seller 3 1 2 1 4 ∷ buyer 4 1 3 2 2 ∷ []);
  places = 20;
  securities = (6, 2);
  cash = (3, 1);
  placed = record { side = Securities; account = 1; asset = 1; amount = 50 } ∷ record { side = Securities; account = 4; asset = 1; amount = 40 } ∷
      record { side = Cash; account = 2; asset = 0; amount = 18999 } ∷ [];
  asked = asks (call.End) ∷ asks (call.End) ∷ asks (call.Pair) ∷ asks (call.SettleWhole) ∷ asks (call.Draw 2) ∷ asks (call.Credit Cash 2 0 1) ∷
      asks (call.Draw 1) ∷ asks (call.Draw 2) ∷ asks (call.Draw 2) ∷ asks (call.SettleWhole) ∷ asks (call.Take 1 1 1) ∷ asks (call.SettleWhole) ∷
      asks (call.Take 3 1 1) ∷ tell ∷ asks (call.SettleWhole) ∷ tell ∷ asks (call.SettleWhole) ∷ asks (call.End) ∷ asks (call.Credit Securities 3 1 7) ∷
      asks (call.Draw 2) ∷ asks (call.Take 1 1 1) ∷ asks (call.SettleLine 1) ∷ asks (call.Close) ∷ asks (call.Pair) ∷ tell ∷ [];
  told = ok ∷ ok ∷ ok ∷ counts 4 ∷ refused 14 ∷ refused_by Cash 24 ∷ ok ∷ refused 13 ∷ ok ∷ refused 13 ∷ refused 14 ∷ counts 5 ∷ refused 14 ∷ counts 4 ∷
      stands (record {
        session = 4;
        lines = (3, 3, 0, 0) ∷ (2, 2, 0, 0) ∷ (2, 2, 0, 0) ∷ (2, 2, 0, 0) ∷ [];
        securities = (0, 1, 90) ∷ [];
        cash = (0, 0, 19000) ∷ [];
        agents = (1, pos 19000, pos 0) ∷ (2, negsuc 18999, pos 0) ∷ [];
      }) ∷
      ok ∷
      stands (record {
        session = 6;
        lines = (3, 3, 3, 0) ∷ (2, 2, 2, 0) ∷ (2, 2, 2, 0) ∷ (2, 2, 2, 0) ∷ [];
        securities = (2, 1, 30) ∷ (3, 1, 40) ∷ (5, 1, 20) ∷ [];
        cash = (1, 0, 19000) ∷ [];
        agents = (1, pos 19000, pos 0) ∷ (2, negsuc 18999, pos 0) ∷ [];
      }) ∷
      refused 8 ∷ refused 8 ∷ ok ∷ refused 8 ∷ refused 8 ∷ refused 8 ∷ refused 8 ∷ refused 8 ∷
      stands (record {
        session = 6;
        lines = (3, 3, 3, 0) ∷ (2, 2, 2, 0) ∷ (2, 2, 2, 0) ∷ (2, 2, 2, 0) ∷ [];
        securities = (2, 1, 30) ∷ (3, 1, 47) ∷ (5, 1, 20) ∷ [];
        cash = (1, 0, 19000) ∷ [];
        agents = (1, pos 19000, pos 0) ∷ (2, negsuc 18999, pos 0) ∷ [];
      }) ∷
      [];
}

abbrev pub day_6 : Day
day_6 = record {
  book = book 10 1000
      (asset 1000000 0 1010 ∷ asset 900000 50 940 ∷ [])
      (seller 1 1 1 1 5 ∷ buyer 1 2 1 1 3 ∷ buyer 2 1 1 1 4 ∷ seller 3 1 2 1 4 ∷ buyer 4 1 3 2 2 ∷ []);
  places = 20;
  securities = (6, 2);
  cash = (3, 1);
  placed = record { side = Securities; account = 1; asset = 1; amount = 50 } ∷ record { side = Cash; account = 2; asset = 0; amount = 20000 } ∷ [];
  asked = asks (call.End) ∷ asks (call.End) ∷ asks (call.Pair) ∷ asks (call.Take 1 1 1) ∷ asks (call.Draw 2) ∷ asks (call.SettleWhole) ∷ tell ∷
      asks (call.End) ∷ tell ∷ asks (call.SettleLine 4) ∷ asks (call.SettleLine 1) ∷ asks (call.Close) ∷ tell ∷ [];
  told = ok ∷ ok ∷ ok ∷ counts 4 ∷ counts 5 ∷ ok ∷ refused 14 ∷
      stands (record {
        session = 4;
        lines = (3, 3, 0, 0) ∷ (2, 2, 0, 0) ∷ (2, 0, 0, 0) ∷ (2, 0, 0, 0) ∷ [];
        securities = (0, 1, 50) ∷ [];
        cash = (0, 0, 19000) ∷ (2, 0, 1000) ∷ [];
        agents = (1, pos 19000, pos 0) ∷ (2, negsuc 18999, pos 0) ∷ [];
      }) ∷
      ok ∷
      stands (record {
        session = 5;
        lines = (3, 3, 0, 0) ∷ (2, 2, 0, 0) ∷ (2, 0, 0, 0) ∷ (2, 0, 0, 0) ∷ [];
        securities = (0, 1, 50) ∷ [];
        cash = (2, 0, 20000) ∷ [];
        agents = (1, pos 19000, pos 0) ∷ (2, negsuc 18999, pos 0) ∷ [];
      }) ∷
      refused 13 ∷ refused_by Cash 24 ∷ ok ∷
      stands (record {
        session = 6;
        lines = (3, 3, 0, 3) ∷ (2, 2, 0, 2) ∷ (2, 0, 0, 0) ∷ (2, 0, 0, 0) ∷ [];
        securities = (1, 1, 50) ∷ [];
        cash = (2, 0, 20000) ∷ [];
        agents = (1, pos 19000, pos 200) ∷ (2, negsuc 18999, negsuc 199) ∷ [];
      }) ∷
      [];
}

abbrev pub day_7 : Day
day_7 = record {
  book = book 10 1000
      (asset 1000000 0 1010 ∷ asset 900000 50 940 ∷ [])
      (seller 1 1 1 1 5 ∷ buyer 1 2 1 1 3 ∷ buyer 2 1 1 1 4 ∷ seller 3 1 2 1 4 ∷ buyer 4 1 3 2 2 ∷ []);
  places = 20;
  securities = (6, 2);
  cash = (3, 1);
  placed = [];
  asked = asks (call.Notice (speaker.Member 1) 1 1 0 2) ∷ asks (call.Notice (speaker.Member 1) 1 2 0 1) ∷ asks (call.Notice (speaker.Member 1) 9 9 9 0) ∷
      asks (call.Notice (speaker.Member 2) 1 1 9 0) ∷ asks (call.Notice (speaker.Clearing 2) 1 1 0 1) ∷ asks (call.Notice (speaker.Clearing 1) 1 1 2 0) ∷
      asks (call.Notice (speaker.Clearing 1) 1 1 1 0) ∷ asks (call.Notice (speaker.Clearing 1) 1 1 1 4) ∷
      asks (call.Notice (speaker.Clearing 1) 1 1 1 1) ∷ asks (call.End) ∷ asks (call.Notice (speaker.Member 1) 1 1 0 1) ∷
      asks (call.Notice (speaker.Member 3) 3 1 0 1) ∷ asks (call.Notice (speaker.Clearing 2) 3 1 1 3) ∷ asks (call.Notice (speaker.Clearing 1) 1 1 0 3) ∷
      asks (call.Notice (speaker.Clearing 1) 1 1 0 2) ∷ asks (call.Notice (speaker.Clearing 1) 1 1 0 1) ∷ asks (call.End) ∷
      asks (call.Notice (speaker.Clearing 2) 3 1 0 1) ∷ asks (call.End) ∷ asks (call.Pair) ∷ tell ∷ asks (call.Notice (speaker.Clearing 2) 3 1 0 1) ∷ [];
  told = ok ∷ ok ∷ refused 10 ∷ refused 10 ∷ refused 9 ∷ refused 9 ∷ refused 11 ∷ refused 12 ∷ refused 12 ∷ ok ∷ ok ∷ refused 9 ∷ refused 9 ∷ ok ∷
      refused 12 ∷ ok ∷ refused 12 ∷ ok ∷ refused 8 ∷ refused 8 ∷ counts 5 ∷
      stands (record {
        session = 4;
        lines = (3, 0, 0, 0) ∷ (1, 0, 0, 0) ∷ (1, 0, 0, 0) ∷ (2, 0, 0, 0) ∷ (2, 0, 0, 0) ∷ [];
        securities = [];
        cash = [];
        agents = (1, pos 19000, pos 0) ∷ (2, negsuc 18999, pos 0) ∷ [];
      }) ∷
      refused 8 ∷ [];
}

abbrev pub day_8 : Day
day_8 = record {
  book = book 1 100
      (asset 1000000 0 107 ∷ [])
      (buyer 1 1 1 63 2 ∷ seller 2 1 2 64 2 ∷ []);
  places = 8;
  securities = (3, 1);
  cash = (65, 1);
  placed = record { side = Securities; account = 2; asset = 0; amount = 2 } ∷ record { side = Cash; account = 63; asset = 0; amount = 200 } ∷ [];
  asked = asks (call.End) ∷ asks (call.End) ∷ asks (call.Pair) ∷ asks (call.Take 2 1 0) ∷ asks (call.Draw 63) ∷ asks (call.Draw 64) ∷ asks (call.Draw 65) ∷
      asks (call.Draw 0) ∷ tell ∷ asks (call.SettleWhole) ∷ tell ∷ [];
  told = ok ∷ ok ∷ ok ∷ counts 1 ∷ counts 2 ∷ ok ∷ refused 13 ∷ refused 13 ∷ refused 13 ∷
      stands (record {
        session = 4;
        lines = (2, 2, 0, 0) ∷ [];
        securities = (0, 0, 2) ∷ [];
        cash = (0, 0, 200) ∷ [];
        agents = (63, negsuc 199, pos 0) ∷ (64, pos 200, pos 0) ∷ [];
      }) ∷
      ok ∷
      stands (record {
        session = 6;
        lines = (2, 2, 2, 0) ∷ [];
        securities = (1, 0, 2) ∷ [];
        cash = (64, 0, 200) ∷ [];
        agents = (63, negsuc 199, pos 0) ∷ (64, pos 200, pos 0) ∷ [];
      }) ∷
      [];
}

abbrev pub days : List Day
days = day_1 ∷ day_2 ∷ day_3 ∷ day_4 ∷ day_5 ∷ day_6 ∷ day_7 ∷ day_8 ∷ []
