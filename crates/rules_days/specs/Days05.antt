-- Days that the separate player played, with what it told. Written by tests/rules_days.py.
use Rattle.std.specs.Prelude.{List, [], ◌∷◌, pos, negsuc}
use Rattle.rules.specs.declared.side.Side.TheVariants.{Securities, Cash}
use Rattle.rules.specs.declared.speaker.Speaker.TheVariants as speaker
use Rattle.rules.specs.declared.call.Call.TheVariants as call
use Rattle.rules.specs.declared.fault.Part.TheVariants as part
use Rattle.pairing.specs.Cases.{asset, buyer, seller, book}
use Rattle.rules_days.specs.Trials.{Day, asks, cramped, tell, ok, counts, refused, refused_by, stands}

abbrev pub day_1 : Day
day_1 = record {
  book = book 1000 100000000
      (asset 2000000 10000000 1 ∷ [])
      (buyer 1 1 1 1 1000000 ∷ seller 2 1 2 2 1000000 ∷ []);
  places = 8;
  securities = (3, 1);
  cash = (3, 1);
  placed = record { side = Securities; account = 2; asset = 0; amount = 1000000000000000000 } ∷
      record { side = Cash; account = 1; asset = 0; amount = 210000000000000000 } ∷ [];
  asked = asks (call.End) ∷ asks (call.End) ∷ asks (call.Pair) ∷ asks (call.Credit Securities 1 0 1) ∷ asks (call.Take 2 1 0) ∷ asks (call.Draw 1) ∷ tell ∷
      asks (call.SettleWhole) ∷ tell ∷ [];
  told = ok ∷ ok ∷ ok ∷ counts 1 ∷ refused_by Securities 25 ∷ counts 1000000 ∷ ok ∷
      stands (record {
        session = 4;
        lines = (1000000, 1000000, 0, 0) ∷ [];
        securities = (0, 0, 1000000000) ∷ (2, 0, 999999999000000000) ∷ [];
        cash = (0, 0, 210000000000000000) ∷ [];
        agents = (1, negsuc 209999999999999999, pos 0) ∷ (2, pos 210000000000000000, pos 0) ∷ [];
      }) ∷
      ok ∷
      stands (record {
        session = 6;
        lines = (1000000, 1000000, 1000000, 0) ∷ [];
        securities = (1, 0, 1000000000) ∷ (2, 0, 999999999000000000) ∷ [];
        cash = (2, 0, 210000000000000000) ∷ [];
        agents = (1, negsuc 209999999999999999, pos 0) ∷ (2, pos 210000000000000000, pos 0) ∷ [];
      }) ∷
      [];
}

abbrev pub day_2 : Day
day_2 = record {
  book = book 1000 100000000
      (asset 2000000 10000000 1 ∷ [])
      (buyer 1 1 1 1 1000000 ∷ seller 2 1 2 2 1000000 ∷ []);
  places = 8;
  securities = (3, 1);
  cash = (3, 1);
  placed = record { side = Securities; account = 2; asset = 0; amount = 1000000000000000000 } ∷
      record { side = Cash; account = 1; asset = 0; amount = 1000000000000000000 } ∷ [];
  asked = asks (call.End) ∷ asks (call.End) ∷ asks (call.Pair) ∷ asks (call.Credit Securities 1 0 1) ∷ asks (call.Take 2 1 0) ∷ asks (call.Draw 1) ∷ tell ∷
      asks (call.End) ∷ asks (call.SettleLine 1) ∷ asks (call.Close) ∷ tell ∷ [];
  told = ok ∷ ok ∷ ok ∷ counts 1 ∷ refused_by Securities 25 ∷ counts 1000000 ∷ ok ∷
      stands (record {
        session = 4;
        lines = (1000000, 1000000, 0, 0) ∷ [];
        securities = (0, 0, 1000000000) ∷ (2, 0, 999999999000000000) ∷ [];
        cash = (0, 0, 210000000000000000) ∷ (1, 0, 790000000000000000) ∷ [];
        agents = (1, negsuc 209999999999999999, pos 0) ∷ (2, pos 210000000000000000, pos 0) ∷ [];
      }) ∷
      ok ∷ counts 1000000 ∷ ok ∷
      stands (record {
        session = 6;
        lines = (1000000, 1000000, 1000000, 0) ∷ [];
        securities = (1, 0, 1000000000) ∷ (2, 0, 999999999000000000) ∷ [];
        cash = (1, 0, 790000000000000000) ∷ (2, 0, 210000000000000000) ∷ [];
        agents = (1, negsuc 209999999999999999, pos 0) ∷ (2, pos 210000000000000000, pos 0) ∷ [];
      }) ∷
      [];
}

abbrev pub day_3 : Day
day_3 = record {
  book = book 1000 100000000
      (asset 2000000 10000000 210000000 ∷ [])
      (buyer 1 1 1 1 1000000 ∷ seller 2 1 2 2 1000000 ∷ []);
  places = 8;
  securities = (3, 1);
  cash = (3, 1);
  placed = record { side = Securities; account = 2; asset = 0; amount = 1000000000000000000 } ∷
      record { side = Cash; account = 1; asset = 0; amount = 209999999999999999 } ∷ [];
  asked = asks (call.End) ∷ asks (call.End) ∷ asks (call.Pair) ∷ asks (call.Credit Securities 1 0 1) ∷ asks (call.Take 2 1 0) ∷ asks (call.Draw 1) ∷ tell ∷
      asks (call.End) ∷ asks (call.SettleLine 1) ∷ asks (call.Close) ∷ tell ∷ [];
  told = ok ∷ ok ∷ ok ∷ counts 1 ∷ refused_by Securities 25 ∷ counts 1000000 ∷ refused_by Cash 24 ∷
      stands (record {
        session = 4;
        lines = (1000000, 1000000, 0, 0) ∷ [];
        securities = (0, 0, 1000000000) ∷ (2, 0, 999999999000000000) ∷ [];
        cash = (1, 0, 209999999999999999) ∷ [];
        agents = (1, negsuc 209999999999999999, pos 0) ∷ (2, pos 210000000000000000, pos 0) ∷ [];
      }) ∷
      ok ∷ refused_by Cash 24 ∷ ok ∷
      stands (record {
        session = 6;
        lines = (1000000, 1000000, 0, 1000000) ∷ [];
        securities = (2, 0, 1000000000000000000) ∷ [];
        cash = (1, 0, 209999999999999999) ∷ [];
        agents = (1, negsuc 209999999999999999, pos 0) ∷ (2, pos 210000000000000000, pos 0) ∷ [];
      }) ∷
      [];
}

abbrev pub day_4 : Day
day_4 = record {
  book = book 1000 100000000
      (asset 2000000 10000000 210000000 ∷ [])
      (buyer 1 1 1 1 1000000 ∷ seller 2 1 2 2 1000000 ∷ []);
  places = 8;
  securities = (3, 1);
  cash = (3, 1);
  placed = record { side = Securities; account = 2; asset = 0; amount = 1000000000000000000 } ∷
      record { side = Cash; account = 1; asset = 0; amount = 210000000000000000 } ∷ [];
  asked = asks (call.End) ∷ asks (call.End) ∷ asks (call.Pair) ∷ asks (call.Credit Securities 1 0 1) ∷ asks (call.Take 2 1 0) ∷ asks (call.Draw 1) ∷ tell ∷
      asks (call.SettleWhole) ∷ tell ∷ [];
  told = ok ∷ ok ∷ ok ∷ counts 1 ∷ refused_by Securities 25 ∷ counts 1000000 ∷ ok ∷
      stands (record {
        session = 4;
        lines = (1000000, 1000000, 0, 0) ∷ [];
        securities = (0, 0, 1000000000) ∷ (2, 0, 999999999000000000) ∷ [];
        cash = (0, 0, 210000000000000000) ∷ [];
        agents = (1, negsuc 209999999999999999, pos 0) ∷ (2, pos 210000000000000000, pos 0) ∷ [];
      }) ∷
      ok ∷
      stands (record {
        session = 6;
        lines = (1000000, 1000000, 1000000, 0) ∷ [];
        securities = (1, 0, 1000000000) ∷ (2, 0, 999999999000000000) ∷ [];
        cash = (2, 0, 210000000000000000) ∷ [];
        agents = (1, negsuc 209999999999999999, pos 0) ∷ (2, pos 210000000000000000, pos 0) ∷ [];
      }) ∷
      [];
}

abbrev pub day_5 : Day
day_5 = record {
  book = book 1000 100000000
      (asset 2000000 10000000 210000000 ∷ [])
      (buyer 1 1 1 1 1000000 ∷ seller 2 1 2 2 1000000 ∷ []);
  places = 8;
  securities = (3, 1);
  cash = (3, 1);
  placed = record { side = Securities; account = 2; asset = 0; amount = 1000000000000000000 } ∷
      record { side = Cash; account = 1; asset = 0; amount = 1000000000000000000 } ∷ [];
  asked = asks (call.End) ∷ asks (call.End) ∷ asks (call.Pair) ∷ asks (call.Credit Securities 1 0 1) ∷ asks (call.Take 2 1 0) ∷ asks (call.Draw 1) ∷ tell ∷
      asks (call.End) ∷ asks (call.SettleLine 1) ∷ asks (call.Close) ∷ tell ∷ [];
  told = ok ∷ ok ∷ ok ∷ counts 1 ∷ refused_by Securities 25 ∷ counts 1000000 ∷ ok ∷
      stands (record {
        session = 4;
        lines = (1000000, 1000000, 0, 0) ∷ [];
        securities = (0, 0, 1000000000) ∷ (2, 0, 999999999000000000) ∷ [];
        cash = (0, 0, 210000000000000000) ∷ (1, 0, 790000000000000000) ∷ [];
        agents = (1, negsuc 209999999999999999, pos 0) ∷ (2, pos 210000000000000000, pos 0) ∷ [];
      }) ∷
      ok ∷ counts 1000000 ∷ ok ∷
      stands (record {
        session = 6;
        lines = (1000000, 1000000, 1000000, 0) ∷ [];
        securities = (1, 0, 1000000000) ∷ (2, 0, 999999999000000000) ∷ [];
        cash = (1, 0, 790000000000000000) ∷ (2, 0, 210000000000000000) ∷ [];
        agents = (1, negsuc 209999999999999999, pos 0) ∷ (2, pos 210000000000000000, pos 0) ∷ [];
      }) ∷
      [];
}

abbrev pub day_6 : Day
day_6 = record {
  book = book 10 1000
      (asset 1000000 0 1010 ∷ asset 900000 50 940 ∷ [])
      (seller 1 1 1 1 5 ∷ buyer 1 2 1 1 3 ∷ buyer 2 1 1 1 4 ∷ seller 3 1 2 1 4 ∷ buyer 4 1 3 2 2 ∷ []);
  places = 20;
  securities = (6, 2);
  cash = (3, 1);
  placed = record { side = Securities; account = 4; asset = 1; amount = 40 } ∷ record { side = Securities; account = 1; asset = 1; amount = 10 } ∷
      record { side = Securities; account = 4; asset = 0; amount = 40 } ∷ [];
  asked = asks (call.Notice (speaker.Member 4) 18446744073709551615 1 0 4294967297) ∷ asks (call.End) ∷
      asks (call.Notice (speaker.Member 3) 5 1 1 4294967297) ∷ asks (call.End) ∷ asks (call.SettleLine 1) ∷ asks (call.End) ∷ asks (call.Close) ∷
      asks (call.Pair) ∷ asks (call.Credit Securities 1 1 20) ∷ asks (call.Credit Cash 2 0 19000) ∷ asks (call.Draw 1) ∷ asks (call.Take 3 1 1) ∷
      asks (call.Draw 2) ∷ asks (call.Take 1 1 1) ∷ asks (call.Draw 4294967297) ∷ asks (call.Take 1 1 18446744073709551615) ∷ asks (call.Take 1 1 1) ∷
      asks (call.Credit Securities 1 1 20) ∷ asks (call.Take 1 1 1) ∷ asks (call.Credit Securities 4 1 40) ∷ asks (call.Take 3 1 1) ∷ asks (call.Draw 2) ∷
      tell ∷ asks (call.SettleWhole) ∷ asks (call.Close) ∷ asks (call.Take 1 1 1) ∷ asks (call.SettleLine 0) ∷
      asks (call.Notice (speaker.Member 3) 3 1 1 6) ∷ tell ∷ [];
  told = ok ∷ refused 10 ∷ ok ∷ refused 10 ∷ ok ∷ refused 8 ∷ refused 8 ∷ refused 8 ∷ counts 4 ∷ ok ∷ ok ∷ refused 13 ∷ counts 4 ∷ ok ∷
      refused_by Securities 24 ∷ refused 13 ∷ refused 13 ∷ refused_by Securities 24 ∷ ok ∷ counts 5 ∷ ok ∷ refused 13 ∷ refused 13 ∷
      stands (record {
        session = 4;
        lines = (3, 3, 0, 0) ∷ (2, 2, 0, 0) ∷ (2, 2, 0, 0) ∷ (2, 2, 0, 0) ∷ [];
        securities = (0, 1, 90) ∷ (4, 0, 40) ∷ (4, 1, 40) ∷ [];
        cash = (0, 0, 19000) ∷ [];
        agents = (1, pos 19000, pos 0) ∷ (2, negsuc 18999, pos 0) ∷ [];
      }) ∷
      ok ∷ refused 8 ∷ refused 8 ∷ refused 8 ∷ refused 8 ∷
      stands (record {
        session = 6;
        lines = (3, 3, 3, 0) ∷ (2, 2, 2, 0) ∷ (2, 2, 2, 0) ∷ (2, 2, 2, 0) ∷ [];
        securities = (2, 1, 30) ∷ (3, 1, 40) ∷ (4, 0, 40) ∷ (4, 1, 40) ∷ (5, 1, 20) ∷ [];
        cash = (1, 0, 19000) ∷ [];
        agents = (1, pos 19000, pos 0) ∷ (2, negsuc 18999, pos 0) ∷ [];
      }) ∷
      [];
}

abbrev pub day_7 : Day
day_7 = record {
  book = book 10 100
      (asset 900000 50 130 ∷ asset 1234567 8457518 8457641 ∷ asset 1234567 50 173 ∷ [])
      (buyer 112 4 720 40 6 ∷ buyer 112 11 720 40 3 ∷ buyer 112 168011 720 40 2 ∷ seller 193 416616 720 40 4 ∷ buyer 265 10 330 4 1 ∷ buyer 816 7 330 4 3 ∷
      seller 816 680009 330 4 11 ∷ []);
  places = 28;
  securities = (8, 3);
  cash = (41, 1);
  placed = record { side = Securities; account = 3; asset = 2; amount = 10 } ∷ [];
  asked = asks (call.Credit Cash 0 0 0) ∷ asks (call.Notice (speaker.Member 816) 816 680009 2 6) ∷ asks (call.End) ∷ asks (call.End) ∷
      asks (call.Take 112 168011 0) ∷ asks (call.Credit Cash 36 0 10) ∷ asks (call.Notice (speaker.Member 193) 193 416616 0 1) ∷ asks (call.Pair) ∷
      asks (call.Credit Securities 4 0 40) ∷ cramped (part.Register Securities) (call.Credit Securities 7 0 25) ∷ asks (call.Draw 40) ∷
      asks (call.Take 816 680009 0) ∷ cramped (part.Register Securities) (call.Take 816 680009 0) ∷ asks (call.Take 816 680009 2) ∷
      asks (call.Take 816 680009 2) ∷ asks (call.Credit Cash 21 0 999999999999999991) ∷ asks (call.SettleWhole) ∷ asks (call.End) ∷
      cramped (part.Register Cash) (call.Credit Securities 7 0 50) ∷ asks (call.Credit Cash 4 0 4200) ∷ asks (call.Credit Cash 40 0 1399) ∷
      asks (call.Credit Securities 5 2 10) ∷ asks (call.Take 816 680009 5) ∷ asks (call.SettleLine 8) ∷ cramped part.LineTable (call.Take 816 680009 0) ∷
      asks (call.End) ∷ asks (call.Draw 40) ∷ asks (call.Take 816 680009 2) ∷ asks (call.SettleLine 8) ∷ asks (call.SettleLine 7) ∷
      asks (call.Take 816 4294967297 0) ∷ asks (call.SettleLine 2) ∷ asks (call.Credit Securities 7 0 49) ∷ asks (call.Credit Securities 7 2 30) ∷
      asks (call.Credit Cash 40 0 1400) ∷ asks (call.SettleLine 18446744073709551615) ∷ asks (call.Take 816 680009 2) ∷ asks (call.SettleLine 4) ∷
      asks (call.End) ∷ asks (call.Credit Cash 40 0 661) ∷ asks (call.SettleLine 5) ∷ asks (call.SettleLine 4294967297) ∷
      asks (call.Take 18446744073709551615 680009 0) ∷ asks (call.Credit Cash 40 0 1730) ∷ asks (call.SettleLine 6) ∷ asks (call.SettleLine 1) ∷
      asks (call.Take 265 10 999) ∷ asks (call.SettleWhole) ∷ tell ∷ asks (call.Close) ∷ asks (call.Draw 40) ∷ asks (call.SettleLine 4) ∷ tell ∷ [];
  told = ok ∷ refused 17 ∷ ok ∷ ok ∷ ok ∷ refused 8 ∷ ok ∷ refused 8 ∷ counts 7 ∷ ok ∷ refused_by Securities 15 ∷ refused_by Cash 24 ∷
      refused_by Securities 24 ∷ refused_by Securities 15 ∷ refused_by Securities 24 ∷ refused_by Securities 24 ∷ refused_by Cash 25 ∷ refused 14 ∷ ok ∷
      refused_by Cash 15 ∷ ok ∷ ok ∷ ok ∷ refused 13 ∷ refused 13 ∷ refused 15 ∷ refused 8 ∷ refused 8 ∷ refused_by Securities 24 ∷ refused 13 ∷
      refused 13 ∷ refused 13 ∷ refused 13 ∷ ok ∷ ok ∷ ok ∷ refused 13 ∷ counts 3 ∷ refused 13 ∷ refused 8 ∷ ok ∷ counts 2 ∷ refused 13 ∷ refused 13 ∷
      ok ∷ counts 1 ∷ refused 13 ∷ refused 13 ∷ refused 8 ∷
      stands (record {
        session = 5;
        lines = (3, 0, 0, 0) ∷ (1, 0, 0, 0) ∷ (4, 0, 0, 0) ∷ (1, 0, 0, 0) ∷ (2, 2, 2, 0) ∷ (2, 1, 1, 0) ∷ (2, 0, 0, 0) ∷ [];
        securities = (1, 2, 10) ∷ (2, 2, 20) ∷ (3, 2, 10) ∷ (4, 0, 40) ∷ (5, 2, 10) ∷ (7, 0, 49) ∷ [];
        cash = (4, 0, 9390) ∷ (36, 0, 10) ∷ [];
        agents = (4, pos 11780, pos 0) ∷ (40, negsuc 11779, pos 0) ∷ [];
      }) ∷
      ok ∷ refused 8 ∷ refused 8 ∷
      stands (record {
        session = 6;
        lines = (3, 0, 0, 0) ∷ (1, 0, 0, 0) ∷ (4, 0, 0, 0) ∷ (1, 0, 0, 0) ∷ (2, 2, 2, 0) ∷ (2, 1, 1, 0) ∷ (2, 0, 0, 0) ∷ [];
        securities = (1, 2, 10) ∷ (2, 2, 20) ∷ (3, 2, 10) ∷ (4, 0, 40) ∷ (5, 2, 10) ∷ (7, 0, 49) ∷ [];
        cash = (4, 0, 9390) ∷ (36, 0, 10) ∷ [];
        agents = (4, pos 11780, pos 100) ∷ (40, negsuc 11779, negsuc 99) ∷ [];
      }) ∷
      [];
}

abbrev pub day_8 : Day
day_8 = record {
  book = book 1 1000
      (asset 2000000 216 2216 ∷ [])
      (seller 292 2 593 32 2 ∷ buyer 292 3 593 32 2 ∷ []);
  places = 8;
  securities = (3, 3);
  cash = (33, 1);
  placed = record { side = Securities; account = 2; asset = 1; amount = 2 } ∷ record { side = Securities; account = 2; asset = 0; amount = 1 } ∷ [];
  asked = asks (call.Notice (speaker.Clearing 18446744073709551615) 5 2 0 2) ∷ asks (call.Notice (speaker.Clearing 18446744073709551615) 292 2 1 4) ∷
      asks (call.Notice (speaker.Clearing 593) 292 2 0 1) ∷ asks (call.End) ∷ asks (call.Credit Cash 31 0 10) ∷
      asks (call.Notice (speaker.Member 292) 292 2 0 1) ∷ asks (call.SettleLine 0) ∷ asks (call.End) ∷ asks (call.Take 292 3 4) ∷ asks (call.Close) ∷
      asks (call.Pair) ∷ asks (call.Take 292 2 0) ∷ asks (call.Draw 32) ∷ asks (call.Take 292 1 0) ∷ asks (call.Draw 32) ∷ asks (call.Draw 32) ∷
      asks (call.Take 292 2 0) ∷ asks (call.Take 292 2 0) ∷ asks (call.SettleWhole) ∷ asks (call.Credit Securities 1 0 2) ∷ asks (call.Take 292 2 0) ∷
      tell ∷ cramped (part.Register Securities) (call.SettleWhole) ∷ asks (call.End) ∷ asks (call.Credit Cash 32 0 4431) ∷ asks (call.Take 292 2 0) ∷
      asks (call.Draw 32) ∷ asks (call.Take 292 2 0) ∷ asks (call.Notice (speaker.Clearing 593) 292 2 0 3) ∷ asks (call.Credit Securities 1 0 5) ∷
      asks (call.SettleLine 2) ∷ asks (call.Take 292 2 0) ∷ asks (call.Take 292 2 0) ∷ asks (call.SettleLine 1) ∷ asks (call.SettleLine 1) ∷
      asks (call.SettleLine 1) ∷ asks (call.Take 292 2 0) ∷ asks (call.Credit Cash 32 0 4432) ∷ asks (call.SettleLine 0) ∷ asks (call.SettleLine 1) ∷
      asks (call.Credit Securities 0 2 10) ∷ asks (call.SettleLine 1) ∷ asks (call.SettleLine 0) ∷ asks (call.SettleLine 0) ∷ asks (call.SettleLine 2) ∷
      asks (call.Credit Securities 2 0 669) ∷ asks (call.SettleLine 2) ∷ asks (call.SettleLine 1) ∷ asks (call.SettleLine 0) ∷ tell ∷ asks (call.Close) ∷
      asks (call.SettleLine 1) ∷ asks (call.End) ∷ asks (call.Pair) ∷ asks (call.Close) ∷ asks (call.Close) ∷ tell ∷ [];
  told = ok ∷ refused 10 ∷ refused 9 ∷ ok ∷ ok ∷ ok ∷ refused 9 ∷ refused 8 ∷ ok ∷ refused 8 ∷ refused 8 ∷ counts 1 ∷ refused_by Securities 24 ∷ refused 13 ∷
      refused 13 ∷ refused 13 ∷ refused 13 ∷ refused_by Securities 24 ∷ refused_by Securities 24 ∷ refused 14 ∷ ok ∷ counts 2 ∷
      stands (record {
        session = 4;
        lines = (2, 2, 0, 0) ∷ [];
        securities = (0, 0, 2) ∷ (2, 0, 1) ∷ (2, 1, 2) ∷ [];
        cash = (31, 0, 10) ∷ [];
        agents = [];
      }) ∷
      refused_by Securities 15 ∷ ok ∷ ok ∷ refused 13 ∷ refused 8 ∷ refused 13 ∷ refused 8 ∷ ok ∷ refused 13 ∷ refused 13 ∷ refused 13 ∷
      refused_by Cash 24 ∷ refused_by Cash 24 ∷ refused_by Cash 24 ∷ refused 13 ∷ ok ∷ refused 13 ∷ counts 2 ∷ refused 17 ∷ refused 13 ∷ refused 13 ∷
      refused 13 ∷ refused 13 ∷ ok ∷ refused 13 ∷ refused 13 ∷ refused 13 ∷
      stands (record {
        session = 5;
        lines = (2, 2, 2, 0) ∷ [];
        securities = (1, 0, 5) ∷ (2, 0, 672) ∷ (2, 1, 2) ∷ [];
        cash = (31, 0, 10) ∷ (32, 0, 8863) ∷ [];
        agents = [];
      }) ∷
      ok ∷ refused 8 ∷ refused 8 ∷ refused 8 ∷ refused 8 ∷ refused 8 ∷
      stands (record {
        session = 6;
        lines = (2, 2, 2, 0) ∷ [];
        securities = (1, 0, 5) ∷ (2, 0, 672) ∷ (2, 1, 2) ∷ [];
        cash = (31, 0, 10) ∷ (32, 0, 8863) ∷ [];
        agents = [];
      }) ∷
      [];
}

abbrev pub days : List Day
days = day_1 ∷ day_2 ∷ day_3 ∷ day_4 ∷ day_5 ∷ day_6 ∷ day_7 ∷ day_8 ∷ []
