-- Days that the separate player played, with what it told. Written by tests/rules_days.py.
use Rattle.std.specs.Prelude.{List, [], ◌∷◌, pos, negsuc}
use Rattle.rules.specs.declared.side.Side.TheVariants.{Securities, Cash}
use Rattle.rules.specs.declared.speaker.Speaker.TheVariants as speaker
use Rattle.rules.specs.declared.call.Call.TheVariants as call
use Rattle.rules.specs.declared.fault.Part.TheVariants as part
use Rattle.pairing.specs.Cases.{asset, buyer, seller, book}
use Rattle.rules_days.specs.Trials.{Day, asks, cramped, tell, ok, counts, refused, refused_by, stands}

abbrev pub day_1 : Day
day_1 = record {
  book = book 10 100
      (asset 1234567 50 173 ∷ [])
      (buyer 678 1 377 24 3 ∷ buyer 678 4 377 24 2 ∷ seller 835 4 377 24 2 ∷ buyer 835 5 377 24 1 ∷ seller 835 12 377 24 1 ∷ seller 835 437395 377 24 3 ∷
      []);
  places = 24;
  securities = (10, 1);
  cash = (28, 1);
  placed = record { side = Securities; account = 1; asset = 0; amount = 31 } ∷ [];
  asked = asks (call.Notice (speaker.Member 835) 835 437395 0 3) ∷ asks (call.Notice (speaker.Clearing 377) 678 1 0 2) ∷
      asks (call.Notice (speaker.Member 835) 835 12 0 1) ∷ asks (call.Notice (speaker.Member 835) 835 4 0 1) ∷ asks (call.Close) ∷
      asks (call.Notice (speaker.Member 835) 835 12 0 1) ∷ asks (call.End) ∷ asks (call.Notice (speaker.Member 835) 835 4 0 1) ∷
      asks (call.Notice (speaker.Clearing 377) 835 437395 0 3) ∷ asks (call.SettleWhole) ∷ asks (call.Draw 24) ∷
      asks (call.Notice (speaker.Member 678) 835 4 0 2) ∷ asks (call.Take 835 5 5) ∷ asks (call.End) ∷ asks (call.Notice (speaker.Member 835) 835 4 0 2) ∷
      asks (call.Close) ∷ asks (call.Pair) ∷ asks (call.Credit Securities 6 0 33) ∷ asks (call.Take 835 437395 0) ∷ asks (call.Take 835 12 0) ∷
      asks (call.Take 835 4 0) ∷ asks (call.Take 835 5 0) ∷ asks (call.Pair) ∷ asks (call.SettleWhole) ∷ asks (call.Draw 0) ∷
      asks (call.Credit Securities 3 0 20) ∷ asks (call.Take 835 4 0) ∷ asks (call.Credit Securities 5 0 10) ∷ asks (call.Take 835 12 0) ∷
      asks (call.Credit Securities 6 0 27) ∷ asks (call.Take 835 437395 0) ∷ tell ∷ asks (call.SettleWhole) ∷ tell ∷ [];
  told = ok ∷ ok ∷ refused 10 ∷ ok ∷ ok ∷ refused 8 ∷ refused 12 ∷ ok ∷ refused 9 ∷ refused 12 ∷ refused 8 ∷ refused 8 ∷ refused 9 ∷ refused 8 ∷ ok ∷
      refused 8 ∷ refused 8 ∷ counts 3 ∷ ok ∷ counts 3 ∷ refused_by Securities 24 ∷ refused_by Securities 24 ∷ refused 13 ∷ refused 8 ∷ refused 14 ∷
      refused 13 ∷ ok ∷ counts 2 ∷ ok ∷ counts 1 ∷ ok ∷ refused 13 ∷
      stands (record {
        session = 4;
        lines = (1, 1, 0, 0) ∷ (3, 3, 0, 0) ∷ (2, 2, 0, 0) ∷ [];
        securities = (0, 0, 60) ∷ (1, 0, 31) ∷ (6, 0, 30) ∷ [];
        cash = [];
        agents = [];
      }) ∷
      ok ∷
      stands (record {
        session = 6;
        lines = (1, 1, 1, 0) ∷ (3, 3, 3, 0) ∷ (2, 2, 2, 0) ∷ [];
        securities = (1, 0, 61) ∷ (2, 0, 20) ∷ (4, 0, 10) ∷ (6, 0, 30) ∷ [];
        cash = [];
        agents = [];
      }) ∷
      [];
}

abbrev pub day_2 : Day
day_2 = record {
  book = book 1 105
      (asset 900000 0 102 ∷ asset 100000 0 1254 ∷ [])
      (buyer 345 5 210 37 2 ∷ seller 958 4 210 37 6 ∷ buyer 958 5 210 37 2 ∷ buyer 958 6 210 37 2 ∷ []);
  places = 16;
  securities = (5, 2);
  cash = (38, 1);
  placed = record { side = Securities; account = 1; asset = 0; amount = 1 } ∷ record { side = Securities; account = 1; asset = 1; amount = 1 } ∷
      record { side = Securities; account = 4; asset = 0; amount = 2 } ∷ [];
  asked = asks (call.Notice (speaker.Member 958) 958 4 0 1) ∷ asks (call.End) ∷ asks (call.Draw 37) ∷ asks (call.Notice (speaker.Member 958) 958 4 0 2) ∷
      asks (call.End) ∷ asks (call.Close) ∷ asks (call.End) ∷ asks (call.Pair) ∷ asks (call.Draw 37) ∷ asks (call.Credit Securities 4 1 10) ∷
      asks (call.Draw 0) ∷ asks (call.Take 958 4 0) ∷ asks (call.Notice (speaker.Clearing 0) 5 4 0 1) ∷
      asks (call.Notice (speaker.Clearing 210) 958 4 0 6) ∷ asks (call.Take 958 5 3) ∷ asks (call.Take 958 4 0) ∷ asks (call.Take 4294967297 4 0) ∷
      asks (call.Credit Securities 0 2 10) ∷ asks (call.SettleWhole) ∷ asks (call.Credit Securities 2 0 6) ∷ asks (call.Take 958 4 0) ∷ tell ∷
      asks (call.SettleWhole) ∷ asks (call.Take 958 4 0) ∷ asks (call.Close) ∷ asks (call.Take 958 4 0) ∷ tell ∷ [];
  told = ok ∷ ok ∷ ok ∷ refused 8 ∷ refused 9 ∷ ok ∷ refused 8 ∷ refused 8 ∷ counts 3 ∷ refused 13 ∷ ok ∷ refused 13 ∷ refused_by Securities 24 ∷ refused 8 ∷
      refused 8 ∷ refused 13 ∷ refused_by Securities 24 ∷ refused 13 ∷ refused 17 ∷ refused 14 ∷ ok ∷ counts 6 ∷
      stands (record {
        session = 4;
        lines = (2, 2, 0, 0) ∷ (2, 2, 0, 0) ∷ (2, 2, 0, 0) ∷ [];
        securities = (0, 0, 6) ∷ (1, 0, 1) ∷ (1, 1, 1) ∷ (4, 0, 2) ∷ (4, 1, 10) ∷ [];
        cash = [];
        agents = [];
      }) ∷
      ok ∷ refused 8 ∷ refused 8 ∷ refused 8 ∷
      stands (record {
        session = 6;
        lines = (2, 2, 2, 0) ∷ (2, 2, 2, 0) ∷ (2, 2, 2, 0) ∷ [];
        securities = (1, 0, 3) ∷ (1, 1, 1) ∷ (3, 0, 2) ∷ (4, 0, 4) ∷ (4, 1, 10) ∷ [];
        cash = [];
        agents = [];
      }) ∷
      [];
}

abbrev pub day_3 : Day
day_3 = record {
  book = book 1 105
      (asset 100000 1252 1263 ∷ asset 900000 0 85 ∷ [])
      (buyer 342 1 615 39 5 ∷ buyer 342 11 615 39 4 ∷ seller 342 272224 615 39 2 ∷ seller 375 11 615 39 1 ∷ seller 566 8 615 39 7 ∷ buyer 566 12 615 39 1 ∷
      []);
  places = 24;
  securities = (10, 2);
  cash = (43, 1);
  placed = record { side = Securities; account = 5; asset = 0; amount = 6 } ∷ [];
  asked = asks (call.End) ∷ asks (call.Notice (speaker.Clearing 566) 5 11 0 1) ∷ asks (call.Take 342 272224 1) ∷
      asks (call.Notice (speaker.Member 375) 1 11 1 1) ∷ asks (call.End) ∷ asks (call.Draw 39) ∷ asks (call.Pair) ∷ asks (call.Credit Securities 3 1 2) ∷
      asks (call.Credit Securities 4 1 4) ∷ asks (call.Credit Securities 5 1 7) ∷ cramped (part.Register Securities) (call.Draw 39) ∷
      asks (call.Draw 39) ∷ asks (call.Take 375 11 999) ∷ asks (call.Draw 39) ∷ asks (call.SettleWhole) ∷ asks (call.End) ∷
      asks (call.Credit Cash 39 0 94) ∷ asks (call.Take 566 8 1) ∷ asks (call.Take 566 8 1) ∷ asks (call.SettleLine 4) ∷ asks (call.SettleLine 0) ∷
      asks (call.Take 566 8 1) ∷ asks (call.Credit Cash 34 0 18446744073709551615) ∷ tell ∷ asks (call.Close) ∷
      asks (call.Notice (speaker.Clearing 615) 566 8 0 0) ∷ asks (call.Take 342 272224 1) ∷ asks (call.Close) ∷
      cramped (part.Register Cash) (call.Credit Securities 1 1 10) ∷ asks (call.Close) ∷ tell ∷ [];
  told = ok ∷ ok ∷ refused 10 ∷ refused 8 ∷ refused 10 ∷ ok ∷ refused 8 ∷ counts 5 ∷ ok ∷ ok ∷ ok ∷ refused_by Securities 15 ∷ refused 13 ∷ refused 13 ∷
      refused 13 ∷ refused 14 ∷ ok ∷ ok ∷ counts 7 ∷ refused 13 ∷ refused_by Cash 24 ∷ refused 13 ∷ refused 13 ∷ refused_by Cash 25 ∷
      stands (record {
        session = 5;
        lines = (2, 0, 0, 0) ∷ (1, 1, 0, 0) ∷ (4, 4, 0, 0) ∷ (2, 2, 0, 0) ∷ (1, 0, 0, 0) ∷ [];
        securities = (0, 1, 7) ∷ (3, 1, 2) ∷ (4, 1, 4) ∷ (5, 0, 6) ∷ [];
        cash = (39, 0, 94) ∷ [];
        agents = [];
      }) ∷
      ok ∷ refused 8 ∷ refused 8 ∷ refused 8 ∷ refused_by Cash 15 ∷ refused 8 ∷
      stands (record {
        session = 6;
        lines = (2, 0, 0, 0) ∷ (1, 1, 0, 1) ∷ (4, 4, 0, 4) ∷ (2, 2, 0, 2) ∷ (1, 0, 0, 0) ∷ [];
        securities = (3, 1, 2) ∷ (4, 1, 4) ∷ (5, 0, 6) ∷ (5, 1, 7) ∷ [];
        cash = (39, 0, 94) ∷ [];
        agents = [];
      }) ∷
      [];
}

abbrev pub day_4 : Day
day_4 = record {
  book = book 1 100
      (asset 1234567 50 180 ∷ asset 900000 3278 3375 ∷ asset 1000000 0 63016 ∷ [])
      (seller 134 6 154 10 3 ∷ buyer 134 7 154 10 1 ∷ seller 502 7 154 10 6 ∷ buyer 502 706943 154 10 3 ∷ buyer 597 715095 604 37 1 ∷
      buyer 670 566782 604 37 4 ∷ []);
  places = 24;
  securities = (7, 5);
  cash = (38, 2);
  placed = record { side = Securities; account = 5; asset = 4; amount = 1 } ∷ record { side = Securities; account = 4; asset = 0; amount = 3 } ∷
      record { side = Securities; account = 5; asset = 1; amount = 2 } ∷ [];
  asked = asks (call.Notice (speaker.Clearing 5) 134 0 1 1) ∷ asks (call.Notice (speaker.Member 502) 502 7 0 6) ∷
      cramped (part.Register Securities) (call.End) ∷ asks (call.End) ∷ asks (call.Credit Cash 30 0 402) ∷ asks (call.SettleWhole) ∷ asks (call.Pair) ∷
      asks (call.Draw 10) ∷ asks (call.Take 134 7 18446744073709551615) ∷ asks (call.Take 670 566782 3) ∷ asks (call.Draw 10) ∷ asks (call.Draw 10) ∷
      asks (call.Credit Securities 3 3 1) ∷ asks (call.Draw 10) ∷ asks (call.Take 670 566782 4) ∷ asks (call.Notice (speaker.Member 502) 0 7 0 1) ∷ tell ∷
      [];
  told = ok ∷ refused 10 ∷ ok ∷ refused_by Securities 15 ∷ ok ∷ ok ∷ refused 8 ∷ refused 8 ∷ refused 8 ∷ refused 8 ∷ refused 8 ∷ refused 8 ∷ refused 8 ∷ ok ∷
      refused 8 ∷ refused 8 ∷ refused 10 ∷
      stands (record {
        session = 2;
        lines = [];
        securities = (3, 3, 1) ∷ (4, 0, 3) ∷ (5, 1, 2) ∷ (5, 4, 1) ∷ [];
        cash = (30, 0, 402) ∷ [];
        agents = [];
      }) ∷
      [];
}

abbrev pub day_5 : Day
day_5 = record {
  book = book 10 1000
      (asset 1000000 0 1010 ∷ asset 900000 50 940 ∷ [])
      (seller 1 1 1 1 5 ∷ buyer 1 2 1 1 3 ∷ buyer 2 1 1 1 4 ∷ seller 3 1 2 1 4 ∷ buyer 4 1 3 2 2 ∷ []);
  places = 20;
  securities = (9, 2);
  cash = (6, 2);
  placed = record { side = Securities; account = 2; asset = 0; amount = 21 } ∷ record { side = Securities; account = 4; asset = 0; amount = 11 } ∷
      record { side = Securities; account = 5; asset = 1; amount = 20 } ∷ record { side = Securities; account = 5; asset = 0; amount = 10 } ∷ [];
  asked = asks (call.End) ∷ asks (call.Notice (speaker.Clearing 2) 3 1 0 6) ∷ asks (call.Notice (speaker.Clearing 1) 1 1 0 1) ∷
      asks (call.Notice (speaker.Clearing 2) 3 1 1 2) ∷ asks (call.Notice (speaker.Member 2) 2 1 1 1) ∷ asks (call.End) ∷ asks (call.Pair) ∷
      asks (call.Credit Securities 1 0 10) ∷ asks (call.Take 1 1 1) ∷ asks (call.Take 1 1 1) ∷ asks (call.Draw 1) ∷ asks (call.Take 1 1 0) ∷
      cramped part.LineTable (call.Take 3 1 1) ∷ asks (call.Pair) ∷ asks (call.Take 3 1 1) ∷ cramped (part.Register Cash) (call.Take 1 1 1) ∷
      asks (call.Draw 1) ∷ asks (call.End) ∷ asks (call.Credit Securities 1 0 13) ∷ asks (call.Credit Securities 1 1 43) ∷
      asks (call.Credit Securities 4 1 40) ∷ asks (call.Credit Cash 1 0 10000) ∷ asks (call.SettleLine 1) ∷ asks (call.SettleLine 1) ∷
      asks (call.SettleLine 6) ∷ asks (call.SettleLine 1) ∷ asks (call.SettleLine 4) ∷ asks (call.SettleLine 4) ∷ asks (call.Credit Cash 2 0 19003) ∷
      asks (call.Take 3 1 1) ∷ asks (call.SettleLine 4) ∷ asks (call.Notice (speaker.Member 3) 3 1 0 2) ∷ asks (call.Credit Securities 4 1 40) ∷
      asks (call.Credit Cash 1 0 10000) ∷ asks (call.Credit Cash 2 0 19003) ∷ asks (call.SettleLine 999) ∷ asks (call.Take 1 1 1) ∷
      asks (call.SettleLine 2) ∷ asks (call.SettleLine 4) ∷ asks (call.SettleLine 5) ∷ asks (call.SettleLine 3) ∷ asks (call.Pair) ∷
      asks (call.SettleWhole) ∷ asks (call.Take 1 1 1) ∷ asks (call.SettleLine 0) ∷ tell ∷ asks (call.Close) ∷ asks (call.Take 2 1 4) ∷
      asks (call.Take 3 1 1) ∷ tell ∷ [];
  told = ok ∷ ok ∷ refused 12 ∷ ok ∷ ok ∷ refused 10 ∷ ok ∷ counts 5 ∷ ok ∷ refused_by Securities 24 ∷ refused_by Securities 24 ∷ refused 13 ∷ counts 1 ∷
      refused 15 ∷ refused 8 ∷ refused_by Securities 24 ∷ refused_by Cash 15 ∷ refused 13 ∷ ok ∷ ok ∷ ok ∷ ok ∷ ok ∷ counts 1 ∷ refused 13 ∷ refused 13 ∷
      refused 13 ∷ refused 13 ∷ refused 13 ∷ ok ∷ counts 4 ∷ refused_by Cash 24 ∷ refused 8 ∷ ok ∷ ok ∷ ok ∷ refused 13 ∷ counts 4 ∷ counts 2 ∷ counts 2 ∷
      counts 2 ∷ counts 2 ∷ refused 8 ∷ refused 8 ∷ refused 13 ∷ refused 13 ∷
      stands (record {
        session = 5;
        lines = (1, 1, 1, 0) ∷ (2, 2, 2, 0) ∷ (2, 2, 2, 0) ∷ (2, 2, 2, 0) ∷ (2, 2, 2, 0) ∷ [];
        securities = (1, 0, 13) ∷ (1, 1, 3) ∷ (2, 0, 31) ∷ (2, 1, 20) ∷ (3, 1, 40) ∷ (4, 0, 11) ∷ (4, 1, 40) ∷ (5, 0, 10) ∷ (5, 1, 40) ∷ [];
        cash = (1, 0, 39000) ∷ (2, 0, 19006) ∷ [];
        agents = (1, pos 19000, pos 0) ∷ (2, negsuc 18999, pos 0) ∷ [];
      }) ∷
      ok ∷ refused 8 ∷ refused 8 ∷
      stands (record {
        session = 6;
        lines = (1, 1, 1, 0) ∷ (2, 2, 2, 0) ∷ (2, 2, 2, 0) ∷ (2, 2, 2, 0) ∷ (2, 2, 2, 0) ∷ [];
        securities = (1, 0, 13) ∷ (1, 1, 3) ∷ (2, 0, 31) ∷ (2, 1, 20) ∷ (3, 1, 40) ∷ (4, 0, 11) ∷ (4, 1, 40) ∷ (5, 0, 10) ∷ (5, 1, 40) ∷ [];
        cash = (1, 0, 39000) ∷ (2, 0, 19006) ∷ [];
        agents = (1, pos 19000, pos 0) ∷ (2, negsuc 18999, pos 0) ∷ [];
      }) ∷
      [];
}

abbrev pub days : List Day
days = day_1 ∷ day_2 ∷ day_3 ∷ day_4 ∷ day_5 ∷ []
