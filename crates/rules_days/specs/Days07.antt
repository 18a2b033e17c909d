-- Days that the separate player played, with what it told. Written by tests/rules_days.py.
use Rattle.std.specs.Prelude.{List, [], ◌∷◌}
use Rattle.rules.specs.declared.side.Side.TheVariants.{Securities, Cash}
use Rattle.rules.specs.declared.speaker.Speaker.TheVariants as speaker
use Rattle.rules.specs.declared.call.Call.TheVariants as call
use Rattle.rules.specs.declared.fault.Part.TheVariants as part
use Rattle.pairing.specs.Cases.{asset, buyer, seller, book}
use Rattle.rules_days.specs.Trials.{Day, asks, cramped, tell, ok, counts, refused, refused_by, stands}

abbrev pub day_1 : Day
day_1 = record {
  book = book 10 6884595
      (asset 1234567 1810 8501311 ∷ asset 100000 3755 692222 ∷ asset 1587262 7140 10934796 ∷ [])
      (buyer 400 860602 272 10 1 ∷ buyer 898 2 272 10 4 ∷ seller 898 159451 272 10 5 ∷ []);
  places = 12;
  securities = (4, 3);
  cash = (11, 1);
  placed = record { side = Securities; account = 1; asset = 2; amount = 11 } ∷ record { side = Securities; account = 1; asset = 0; amount = 11 } ∷
      record { side = Securities; account = 1; asset = 1; amount = 10 } ∷ [];
  asked = asks (call.Notice (speaker.Clearing 272) 898 159451 0 1) ∷ asks (call.Notice (speaker.Clearing 272) 898 159451 2 0) ∷
      asks (call.Notice (speaker.Clearing 272) 18446744073709551615 159451 1 4) ∷ asks (call.Notice (speaker.Member 898) 898 159451 0 5) ∷
      asks (call.Notice (speaker.Clearing 272) 898 159451 2 1) ∷ asks (call.End) ∷ asks (call.Notice (speaker.Clearing 272) 5 159451 2 1) ∷
      asks (call.Notice (speaker.Member 999) 898 159451 1 4294967297) ∷ asks (call.Take 898 999 0) ∷
      asks (call.Notice (speaker.Member 898) 898 159451 0 5) ∷ asks (call.Close) ∷ asks (call.End) ∷
      asks (call.Notice (speaker.Member 898) 898 159451 0 1) ∷ asks (call.Pair) ∷ asks (call.Credit Securities 3 0 13) ∷ asks (call.Draw 10) ∷
      asks (call.Take 898 159451 2) ∷ asks (call.Take 0 4294967297 0) ∷ asks (call.Take 898 159451 0) ∷ asks (call.Take 898 159451 0) ∷
      asks (call.Credit Securities 3 2 40) ∷ cramped (part.Register Cash) (call.Take 898 159451 2) ∷ asks (call.Credit Securities 3 0 7) ∷
      asks (call.Take 898 159451 0) ∷ tell ∷ asks (call.SettleWhole) ∷ asks (call.End) ∷ asks (call.Credit Cash 10 0 85013040) ∷
      asks (call.SettleLine 1) ∷ asks (call.Notice (speaker.Clearing 272) 898 159451 0 2) ∷ asks (call.Take 898 159451 2) ∷ asks (call.End) ∷
      asks (call.Credit Cash 10 0 24334919) ∷ cramped part.LineTable (call.SettleLine 3) ∷ tell ∷ asks (call.Close) ∷ asks (call.Draw 10) ∷
      asks (call.Pair) ∷ asks (call.Notice (speaker.Member 898) 898 159451 0 1) ∷ tell ∷ [];
  told = ok ∷ ok ∷ refused 12 ∷ refused 10 ∷ refused 12 ∷ ok ∷ ok ∷ refused 10 ∷ refused 9 ∷ refused 8 ∷ refused 9 ∷ refused 8 ∷ ok ∷ refused 8 ∷ counts 3 ∷
      ok ∷ refused 13 ∷ refused_by Securities 24 ∷ refused 13 ∷ counts 1 ∷ refused 13 ∷ ok ∷ refused_by Cash 15 ∷ ok ∷ refused 13 ∷
      stands (record {
        session = 4;
        lines = (1, 1, 0, 0) ∷ (3, 0, 0, 0) ∷ (1, 0, 0, 0) ∷ [];
        securities = (0, 0, 10) ∷ (1, 0, 11) ∷ (1, 1, 10) ∷ (1, 2, 11) ∷ (3, 0, 10) ∷ (3, 2, 40) ∷ [];
        cash = [];
        agents = [];
      }) ∷
      refused 14 ∷ ok ∷ ok ∷ counts 1 ∷ refused 8 ∷ counts 4 ∷ refused 8 ∷ ok ∷ refused 15 ∷
      stands (record {
        session = 5;
        lines = (1, 1, 1, 0) ∷ (3, 3, 0, 0) ∷ (1, 1, 0, 0) ∷ [];
        securities = (0, 2, 40) ∷ (1, 0, 11) ∷ (1, 1, 10) ∷ (1, 2, 11) ∷ (2, 0, 10) ∷ (3, 0, 10) ∷ [];
        cash = (10, 0, 109347959) ∷ [];
        agents = [];
      }) ∷
      ok ∷ refused 8 ∷ refused 8 ∷ refused 8 ∷
      stands (record {
        session = 6;
        lines = (1, 1, 1, 0) ∷ (3, 3, 0, 3) ∷ (1, 1, 0, 1) ∷ [];
        securities = (1, 0, 11) ∷ (1, 1, 10) ∷ (1, 2, 11) ∷ (2, 0, 10) ∷ (3, 0, 10) ∷ (3, 2, 40) ∷ [];
        cash = (10, 0, 109347959) ∷ [];
        agents = [];
      }) ∷
      [];
}

abbrev pub day_2 : Day
day_2 = record {
  book = book 1 100000000
      (asset 1743371 50 174337150 ∷ asset 100000 50 9965873 ∷ asset 1234567 2185 123458885 ∷ asset 1000000 650 100000650 ∷ [])
      (buyer 283 1 956 33 1 ∷ buyer 362 1 956 33 1 ∷ seller 792 3 956 33 2 ∷ []);
  places = 12;
  securities = (5, 4);
  cash = (35, 1);
  placed = record { side = Securities; account = 2; asset = 1; amount = 1 } ∷ record { side = Securities; account = 3; asset = 3; amount = 3 } ∷
      record { side = Cash; account = 33; asset = 0; amount = 999999999999070889 } ∷ [];
  asked = asks (call.End) ∷ asks (call.End) ∷ asks (call.Credit Securities 0 2 42) ∷ asks (call.Pair) ∷
      cramped (part.Register Securities) (call.Credit Securities 3 1 5) ∷ asks (call.Draw 33) ∷ asks (call.Take 792 3 1) ∷ asks (call.Draw 33) ∷
      asks (call.Take 792 3 1) ∷ asks (call.Pair) ∷ cramped (part.Register Cash) (call.Draw 33) ∷ asks (call.Draw 33) ∷ asks (call.End) ∷
      asks (call.SettleWhole) ∷ asks (call.Take 792 3 1) ∷ asks (call.SettleLine 3) ∷ asks (call.Take 792 3 1) ∷ asks (call.SettleLine 2) ∷
      asks (call.Take 792 3 1) ∷ asks (call.SettleLine 0) ∷ asks (call.Take 792 3 1) ∷ asks (call.SettleLine 3) ∷
      cramped part.LineTable (call.Take 792 3 1) ∷ tell ∷ asks (call.Close) ∷ asks (call.Draw 33) ∷ asks (call.SettleLine 2) ∷ asks (call.Draw 33) ∷
      asks (call.Take 792 3 1) ∷ tell ∷ [];
  told = ok ∷ ok ∷ ok ∷ refused 17 ∷ counts 2 ∷ refused_by Securities 15 ∷ refused 13 ∷ refused_by Securities 24 ∷ refused 13 ∷ refused_by Securities 24 ∷
      refused 8 ∷ refused_by Cash 15 ∷ refused 13 ∷ ok ∷ refused 8 ∷ refused_by Securities 24 ∷ refused 13 ∷ refused_by Securities 24 ∷ refused 13 ∷
      refused_by Securities 24 ∷ refused 13 ∷ refused_by Securities 24 ∷ refused 13 ∷ refused 15 ∷
      stands (record {
        session = 5;
        lines = (1, 0, 0, 0) ∷ (1, 0, 0, 0) ∷ [];
        securities = (2, 1, 1) ∷ (3, 3, 3) ∷ [];
        cash = (33, 0, 999999999999070889) ∷ [];
        agents = [];
      }) ∷
      ok ∷ refused 8 ∷ refused 8 ∷ refused 8 ∷ refused 8 ∷
      stands (record {
        session = 6;
        lines = (1, 0, 0, 0) ∷ (1, 0, 0, 0) ∷ [];
        securities = (2, 1, 1) ∷ (3, 3, 3) ∷ [];
        cash = (33, 0, 999999999999070889) ∷ [];
        agents = [];
      }) ∷
      [];
}

abbrev pub day_3 : Day
day_3 = record {
  book = book 883 100000000
      (asset 100000 1325 9997099 ∷ asset 1000543 2065297 102119604 ∷ asset 900000 3845187 93845187 ∷ [])
      (buyer 376 3 385 20 1 ∷ buyer 872 79011 43 20 2 ∷ seller 872 293886 43 20 4 ∷ buyer 974 7 43 20 1 ∷ []);
  places = 16;
  securities = (5, 3);
  cash = (21, 2);
  placed = [];
  asked = asks (call.Notice (speaker.Member 872) 872 4294967297 0 1) ∷ asks (call.Notice (speaker.Member 872) 872 79011 0 2) ∷ asks (call.End) ∷
      asks (call.Notice (speaker.Member 872) 872 293886 0 4) ∷ asks (call.Notice (speaker.Member 872) 872 293886 2 1) ∷
      asks (call.Notice (speaker.Clearing 5) 872 0 4294967297 3) ∷ asks (call.End) ∷ asks (call.Take 974 7 1) ∷ asks (call.SettleLine 0) ∷
      asks (call.SettleWhole) ∷ asks (call.Pair) ∷ asks (call.Credit Securities 3 0 3531) ∷ asks (call.Take 872 293886 0) ∷
      asks (call.Take 872 293886 0) ∷ asks (call.Take 376 3 4) ∷ asks (call.Draw 20) ∷
      cramped (part.Register Securities) (call.Take 18446744073709551615 293886 0) ∷ asks (call.Take 872 293886 0) ∷ asks (call.Draw 20) ∷
      asks (call.Take 872 293886 0) ∷ asks (call.Take 872 293886 0) ∷ asks (call.SettleWhole) ∷ asks (call.Credit Securities 3 0 1) ∷
      asks (call.Take 872 293886 0) ∷ tell ∷ asks (call.SettleWhole) ∷ asks (call.Draw 20) ∷ asks (call.Notice (speaker.Member 872) 872 293886 2 4) ∷
      asks (call.Close) ∷ asks (call.Draw 20) ∷ asks (call.SettleWhole) ∷ asks (call.Draw 20) ∷ tell ∷ [];
  told = ok ∷ refused 10 ∷ refused 10 ∷ ok ∷ refused 9 ∷ refused 9 ∷ refused 10 ∷ ok ∷ refused 8 ∷ refused 8 ∷ refused 8 ∷ counts 3 ∷ ok ∷
      refused_by Securities 24 ∷ refused_by Securities 24 ∷ refused 13 ∷ refused 13 ∷ refused_by Securities 15 ∷ refused_by Securities 24 ∷ refused 13 ∷
      refused_by Securities 24 ∷ refused_by Securities 24 ∷ refused 14 ∷ ok ∷ counts 4 ∷
      stands (record {
        session = 4;
        lines = (2, 2, 0, 0) ∷ (1, 1, 0, 0) ∷ (1, 1, 0, 0) ∷ [];
        securities = (0, 0, 3532) ∷ [];
        cash = [];
        agents = [];
      }) ∷
      ok ∷ refused 8 ∷ refused 8 ∷ refused 8 ∷ refused 8 ∷ refused 8 ∷ refused 8 ∷
      stands (record {
        session = 6;
        lines = (2, 2, 2, 0) ∷ (1, 1, 1, 0) ∷ (1, 1, 1, 0) ∷ [];
        securities = (1, 0, 883) ∷ (2, 0, 1766) ∷ (4, 0, 883) ∷ [];
        cash = [];
        agents = [];
      }) ∷
      [];
}

abbrev pub day_4 : Day
day_4 = record {
  book = book 1000 100000000
      (asset 1234567 5121209 128577909 ∷ asset 2000000 9559 200009549 ∷ asset 900000 7781 89928117 ∷ asset 900000 50 90000057 ∷ [])
      (buyer 991 3 816 39 1 ∷ seller 991 19496 816 39 1 ∷ []);
  places = 8;
  securities = (3, 6);
  cash = (40, 2);
  placed = record { side = Securities; account = 2; asset = 1; amount = 1000 } ∷ record { side = Securities; account = 1; asset = 1; amount = 1001 } ∷
      record { side = Securities; account = 2; asset = 2; amount = 1000 } ∷ record { side = Securities; account = 1; asset = 5; amount = 1000 } ∷
      record { side = Securities; account = 2; asset = 5; amount = 1001 } ∷ [];
  asked = asks (call.Notice (speaker.Clearing 0) 991 19496 0 1) ∷ asks (call.Notice (speaker.Member 1) 991 19496 2 6) ∷
      asks (call.Notice (speaker.Member 991) 991 3 0 1) ∷ asks (call.Take 991 3 2) ∷ asks (call.Notice (speaker.Member 991) 991 19496 0 2) ∷
      asks (call.End) ∷ asks (call.Notice (speaker.Clearing 991) 991 19496 1 1) ∷ asks (call.Credit Cash 35 999 1) ∷
      asks (call.Notice (speaker.Member 991) 991 19496 2 1) ∷ asks (call.Notice (speaker.Member 991) 991 19496 4294967297 18446744073709551615) ∷
      asks (call.End) ∷ asks (call.Credit Securities 1 1 10) ∷ asks (call.Pair) ∷ asks (call.Take 991 19496 2) ∷ asks (call.Draw 39) ∷
      asks (call.Take 991 19496 2) ∷ asks (call.Take 5 19496 2) ∷ asks (call.Close) ∷ asks (call.Draw 39) ∷ asks (call.Draw 39) ∷ asks (call.Draw 39) ∷
      asks (call.SettleWhole) ∷ asks (call.SettleWhole) ∷ tell ∷ [];
  told = ok ∷ refused 9 ∷ refused 9 ∷ refused 10 ∷ refused 8 ∷ refused 12 ∷ ok ∷ refused 9 ∷ refused_by Cash 21 ∷ refused 9 ∷ refused 9 ∷ ok ∷ ok ∷
      counts 1 ∷ counts 1 ∷ refused 13 ∷ refused 13 ∷ refused 13 ∷ refused 8 ∷ refused 13 ∷ refused 13 ∷ refused 13 ∷ ok ∷ refused 8 ∷
      stands (record {
        session = 6;
        lines = (1, 1, 1, 0) ∷ [];
        securities = (1, 1, 1011) ∷ (1, 2, 1000) ∷ (1, 5, 1000) ∷ (2, 1, 1000) ∷ (2, 5, 1001) ∷ [];
        cash = [];
        agents = [];
      }) ∷
      [];
}

abbrev pub day_5 : Day
day_5 = record {
  book = book 889 1000
      (asset 1000000 50 1050 ∷ [])
      (buyer 608 12 253 61 6 ∷ buyer 710 12 253 61 3 ∷ buyer 740 1 253 61 3 ∷ buyer 740 6 253 61 4 ∷ buyer 740 13 253 61 1 ∷ seller 740 71273 253 61 20 ∷
      buyer 773 14 253 61 3 ∷ []);
  places = 28;
  securities = (8, 1);
  cash = (62, 1);
  placed = record { side = Securities; account = 6; asset = 0; amount = 11557 } ∷
      record { side = Cash; account = 61; asset = 0; amount = 999999999999911054 } ∷ [];
  asked = asks (call.Notice (speaker.Clearing 253) 740 71273 0 1) ∷ cramped (part.Register Cash) (call.Notice (speaker.Member 740) 740 71273 0 1) ∷
      asks (call.SettleLine 1) ∷ asks (call.End) ∷ asks (call.Notice (speaker.Member 740) 740 71273 999 2) ∷ asks (call.Close) ∷ asks (call.End) ∷
      asks (call.Notice (speaker.Clearing 253) 740 71273 0 1) ∷ asks (call.Pair) ∷ asks (call.Credit Securities 6 0 3111) ∷ asks (call.Take 740 71273 0) ∷
      asks (call.Take 740 71273 0) ∷ asks (call.Draw 61) ∷ asks (call.SettleWhole) ∷ asks (call.End) ∷ asks (call.SettleLine 1) ∷
      asks (call.SettleLine 1) ∷ asks (call.SettleLine 2) ∷ asks (call.Take 740 999 0) ∷ asks (call.Credit Cash 30 1 88947) ∷ asks (call.SettleLine 2) ∷
      tell ∷ asks (call.Close) ∷ asks (call.Take 740 71273 0) ∷ asks (call.Close) ∷ asks (call.Draw 61) ∷ asks (call.Take 740 71273 0) ∷
      asks (call.Take 740 71273 1) ∷ tell ∷ [];
  told = ok ∷ ok ∷ refused_by Cash 15 ∷ refused 8 ∷ ok ∷ refused 9 ∷ refused 8 ∷ ok ∷ refused 8 ∷ counts 6 ∷ ok ∷ refused_by Securities 24 ∷
      refused_by Securities 24 ∷ refused 13 ∷ refused 14 ∷ ok ∷ refused 13 ∷ refused 13 ∷ refused 13 ∷ refused 13 ∷ refused_by Cash 21 ∷ refused 13 ∷
      stands (record {
        session = 5;
        lines = (4, 0, 0, 0) ∷ (3, 0, 0, 0) ∷ (1, 0, 0, 0) ∷ (6, 0, 0, 0) ∷ (3, 0, 0, 0) ∷ (3, 0, 0, 0) ∷ [];
        securities = (6, 0, 14668) ∷ [];
        cash = (61, 0, 999999999999911054) ∷ [];
        agents = [];
      }) ∷
      ok ∷ refused 8 ∷ refused 8 ∷ refused 8 ∷ refused 8 ∷ refused 8 ∷
      stands (record {
        session = 6;
        lines = (4, 0, 0, 0) ∷ (3, 0, 0, 0) ∷ (1, 0, 0, 0) ∷ (6, 0, 0, 0) ∷ (3, 0, 0, 0) ∷ (3, 0, 0, 0) ∷ [];
        securities = (6, 0, 14668) ∷ [];
        cash = (61, 0, 999999999999911054) ∷ [];
        agents = [];
      }) ∷
      [];
}

abbrev pub day_6 : Day
day_6 = record {
  book = book 1000 100
      (asset 900000 1267 1357 ∷ asset 430251 4085896 4085929 ∷ asset 900000 50 130 ∷ asset 1000000 3801 3901 ∷ [])
      (buyer 63 71483 633 10 1 ∷ seller 90 2 844 10 1 ∷ seller 90 6 844 10 1 ∷ buyer 258 10 403 10 1 ∷ seller 882 14 633 10 1 ∷ seller 899 1 633 10 1 ∷
      buyer 899 719482 633 10 2 ∷ []);
  places = 28;
  securities = (9, 4);
  cash = (12, 1);
  placed = record { side = Securities; account = 1; asset = 2; amount = 1000 } ∷ record { side = Securities; account = 4; asset = 3; amount = 1000 } ∷
      record { side = Securities; account = 7; asset = 3; amount = 2001 } ∷ [];
  asked = asks (call.Notice (speaker.Member 90) 90 6 0 1) ∷ asks (call.End) ∷ asks (call.Notice (speaker.Clearing 633) 18446744073709551615 1 3 2) ∷
      asks (call.End) ∷ asks (call.Pair) ∷ asks (call.Credit Securities 5 1 500) ∷ asks (call.Credit Securities 6 1 999) ∷ asks (call.Draw 10) ∷
      cramped (part.Register Securities) (call.SettleLine 2) ∷ asks (call.Take 90 2 1) ∷ asks (call.Take 4294967297 1 1) ∷ asks (call.Take 90 6 0) ∷
      asks (call.Draw 10) ∷ cramped part.LineTable (call.Pair) ∷ asks (call.SettleWhole) ∷ asks (call.Credit Securities 6 1 1) ∷
      asks (call.Take 899 1 1) ∷ asks (call.Credit Securities 2 1 1000) ∷ asks (call.Take 90 2 1) ∷
      cramped (part.Register Securities) (call.Credit Securities 3 0 1000) ∷ asks (call.Take 90 6 0) ∷ asks (call.Credit Securities 5 1 500) ∷
      asks (call.Take 882 14 1) ∷ tell ∷ asks (call.SettleWhole) ∷ asks (call.End) ∷ asks (call.Credit Securities 5 1 500) ∷
      asks (call.Credit Securities 6 1 500) ∷ asks (call.Draw 10) ∷ asks (call.Take 899 1 1) ∷ asks (call.Take 882 14 1) ∷
      asks (call.Credit Cash 10 0 4085939000) ∷ asks (call.SettleLine 3) ∷ asks (call.Credit Securities 6 3 10) ∷ asks (call.SettleLine 2) ∷
      asks (call.Take 882 14 1) ∷ cramped (part.Register Securities) (call.Take 90 6 0) ∷ asks (call.Take 90 6 0) ∷ asks (call.SettleLine 1) ∷
      asks (call.Pair) ∷ asks (call.Credit Securities 3 0 1000) ∷ asks (call.Credit Securities 6 1 500) ∷ asks (call.Credit Cash 10 0 4085938999) ∷
      asks (call.SettleLine 2) ∷ cramped (part.Register Securities) (call.SettleLine 4294967297) ∷ cramped (part.Register Securities) (call.Take 90 6 0) ∷
      asks (call.Credit Securities 5 2 544) ∷ asks (call.Take 882 14 1) ∷ asks (call.SettleLine 1) ∷ asks (call.SettleLine 2) ∷
      asks (call.Credit Securities 2 1 500) ∷ asks (call.Credit Securities 5 1 499) ∷ asks (call.SettleWhole) ∷ asks (call.SettleLine 1) ∷
      asks (call.SettleLine 0) ∷ asks (call.Pair) ∷ asks (call.SettleLine 4) ∷ asks (call.End) ∷ asks (call.SettleLine 1) ∷ asks (call.SettleLine 2) ∷
      asks (call.SettleLine 0) ∷ asks (call.SettleLine 2) ∷ tell ∷ asks (call.Close) ∷ asks (call.Pair) ∷ asks (call.Pair) ∷ tell ∷ [];
  told = ok ∷ ok ∷ ok ∷ refused 10 ∷ ok ∷ counts 4 ∷ ok ∷ ok ∷ refused 13 ∷ refused_by Securities 15 ∷ refused_by Securities 24 ∷ refused 13 ∷
      refused_by Securities 24 ∷ refused 13 ∷ refused 15 ∷ refused 14 ∷ ok ∷ counts 1 ∷ ok ∷ counts 1 ∷ refused_by Securities 15 ∷
      refused_by Securities 24 ∷ ok ∷ counts 1 ∷
      stands (record {
        session = 4;
        lines = (1, 1, 0, 0) ∷ (1, 1, 0, 0) ∷ (1, 1, 0, 0) ∷ (1, 0, 0, 0) ∷ [];
        securities = (0, 1, 3000) ∷ (1, 2, 1000) ∷ (4, 3, 1000) ∷ (7, 3, 2001) ∷ [];
        cash = [];
        agents = [];
      }) ∷
      refused 14 ∷ ok ∷ ok ∷ ok ∷ refused 8 ∷ refused 13 ∷ refused 13 ∷ ok ∷ counts 1 ∷ ok ∷ counts 1 ∷ refused 13 ∷ refused_by Securities 15 ∷
      refused_by Securities 24 ∷ counts 1 ∷ refused 8 ∷ ok ∷ ok ∷ ok ∷ refused 13 ∷ refused_by Securities 15 ∷ refused_by Securities 15 ∷ ok ∷
      refused 13 ∷ refused 13 ∷ refused 13 ∷ ok ∷ ok ∷ refused 8 ∷ refused 13 ∷ refused 13 ∷ refused 8 ∷ refused 13 ∷ refused 8 ∷ refused 13 ∷
      refused 13 ∷ refused 13 ∷ refused 13 ∷
      stands (record {
        session = 5;
        lines = (1, 1, 1, 0) ∷ (1, 1, 1, 0) ∷ (1, 1, 1, 0) ∷ (1, 0, 0, 0) ∷ [];
        securities = (1, 1, 1000) ∷ (1, 2, 1000) ∷ (2, 1, 500) ∷ (3, 0, 1000) ∷ (4, 1, 1000) ∷ (4, 3, 1000) ∷ (5, 1, 999) ∷ (5, 2, 544) ∷ (6, 1, 1000) ∷ (6, 3, 10) ∷
            (7, 1, 1000) ∷ (7, 3, 2001) ∷ [];
        cash = (10, 0, 8171877999) ∷ [];
        agents = [];
      }) ∷
      ok ∷ refused 8 ∷ refused 8 ∷
      stands (record {
        session = 6;
        lines = (1, 1, 1, 0) ∷ (1, 1, 1, 0) ∷ (1, 1, 1, 0) ∷ (1, 0, 0, 0) ∷ [];
        securities = (1, 1, 1000) ∷ (1, 2, 1000) ∷ (2, 1, 500) ∷ (3, 0, 1000) ∷ (4, 1, 1000) ∷ (4, 3, 1000) ∷ (5, 1, 999) ∷ (5, 2, 544) ∷ (6, 1, 1000) ∷ (6, 3, 10) ∷
            (7, 1, 1000) ∷ (7, 3, 2001) ∷ [];
        cash = (10, 0, 8171877999) ∷ [];
        agents = [];
      }) ∷
      [];
}

abbrev pub day_7 : Day
day_7 = record {
  book = book 10 105
      (asset 1000000 8162571 8162683 ∷ [])
      (seller 265 5 692 27 21 ∷ buyer 618 6 692 27 3 ∷ buyer 618 508782 692 27 6 ∷ buyer 751 1 692 27 2 ∷ buyer 751 151448 692 27 4 ∷
      buyer 751 397249 692 27 1 ∷ buyer 835 3 692 27 5 ∷ []);
  places = 28;
  securities = (8, 1);
  cash = (28, 2);
  placed = record { side = Securities; account = 6; asset = 0; amount = 10 } ∷ record { side = Securities; account = 1; asset = 0; amount = 130 } ∷ [];
  asked = asks (call.Notice (speaker.Member 618) 265 5 0 0) ∷ asks (call.Close) ∷ asks (call.Notice (speaker.Member 751) 751 1 0 2) ∷
      asks (call.Notice (speaker.Member 265) 265 999 0 1) ∷ asks (call.Notice (speaker.Clearing 692) 265 5 0 2) ∷ asks (call.End) ∷ asks (call.Draw 27) ∷
      asks (call.Notice (speaker.Clearing 692) 265 5 0 1) ∷ cramped (part.Register Securities) (call.Notice (speaker.Clearing 692) 265 5 0 6) ∷
      asks (call.Notice (speaker.Member 265) 265 5 0 2) ∷ asks (call.Notice (speaker.Clearing 692) 265 5 0 1) ∷ asks (call.End) ∷ asks (call.Pair) ∷
      asks (call.Credit Securities 1 0 80) ∷ asks (call.Take 265 5 0) ∷ asks (call.SettleLine 4) ∷ asks (call.Pair) ∷ asks (call.Take 265 5 0) ∷
      asks (call.SettleWhole) ∷ asks (call.Take 265 5 0) ∷ asks (call.SettleLine 3) ∷ tell ∷ [];
  told = ok ∷ refused 9 ∷ refused 8 ∷ refused 10 ∷ refused 10 ∷ ok ∷ ok ∷ refused 8 ∷ ok ∷ refused_by Securities 15 ∷ refused 9 ∷ ok ∷ ok ∷ counts 6 ∷ ok ∷
      counts 21 ∷ refused 8 ∷ refused 8 ∷ refused 13 ∷ ok ∷ refused 8 ∷ refused 8 ∷
      stands (record {
        session = 6;
        lines = (6, 6, 6, 0) ∷ (5, 5, 5, 0) ∷ (4, 4, 4, 0) ∷ (3, 3, 3, 0) ∷ (2, 2, 2, 0) ∷ (1, 1, 1, 0) ∷ [];
        securities = (2, 0, 30) ∷ (3, 0, 60) ∷ (4, 0, 20) ∷ (5, 0, 40) ∷ (6, 0, 20) ∷ (7, 0, 50) ∷ [];
        cash = [];
        agents = [];
      }) ∷
      [];
}

abbrev pub day_8 : Day
day_8 = record {
  book = book 1000 105
      (asset 1000000 4469918 4470013 ∷ [])
      (seller 176 1 874 4 1 ∷ buyer 176 3 874 4 1 ∷ []);
  places = 8;
  securities = (3, 1);
  cash = (5, 1);
  placed = record { side = Securities; account = 1; asset = 0; amount = 1000 } ∷ record { side = Securities; account = 2; asset = 0; amount = 1000 } ∷
      record { side = Cash; account = 4; asset = 0; amount = 999999999999246788 } ∷ [];
  asked = asks (call.Notice (speaker.Clearing 874) 176 1 0 4) ∷ asks (call.Notice (speaker.Clearing 874) 176 1 0 1) ∷
      asks (call.Notice (speaker.Clearing 874) 176 1 0 18446744073709551615) ∷ asks (call.Notice (speaker.Clearing 874) 176 1 0 1) ∷
      asks (call.Notice (speaker.Clearing 874) 176 1 0 2) ∷ asks (call.Notice (speaker.Clearing 176) 176 1 0 2) ∷ asks (call.End) ∷
      asks (call.Notice (speaker.Clearing 874) 176 1 0 1) ∷ asks (call.End) ∷ asks (call.Credit Cash 3 4294967297 724) ∷ asks (call.SettleWhole) ∷
      asks (call.Credit Cash 1 0 1) ∷ asks (call.Pair) ∷ asks (call.Take 176 1 3) ∷ asks (call.Take 176 1 0) ∷ asks (call.Take 176 1 999) ∷
      asks (call.Take 176 0 0) ∷ asks (call.Credit Securities 1 0 1000) ∷ asks (call.Take 176 1 0) ∷ tell ∷ asks (call.SettleWhole) ∷ asks (call.Close) ∷
      asks (call.Take 176 1 0) ∷ tell ∷ [];
  told = ok ∷ refused 12 ∷ ok ∷ refused 12 ∷ refused 12 ∷ refused 12 ∷ refused 9 ∷ ok ∷ refused 12 ∷ ok ∷ refused_by Cash 21 ∷ refused 8 ∷ ok ∷ counts 1 ∷
      refused 13 ∷ counts 1 ∷ refused 13 ∷ refused 13 ∷ ok ∷ refused 13 ∷
      stands (record {
        session = 4;
        lines = (1, 1, 0, 0) ∷ [];
        securities = (0, 0, 1000) ∷ (1, 0, 1000) ∷ (2, 0, 1000) ∷ [];
        cash = (1, 0, 1) ∷ (4, 0, 999999999999246788) ∷ [];
        agents = [];
      }) ∷
      ok ∷ refused 8 ∷ refused 8 ∷
      stands (record {
        session = 6;
        lines = (1, 1, 1, 0) ∷ [];
        securities = (1, 0, 1000) ∷ (2, 0, 2000) ∷ [];
        cash = (1, 0, 1) ∷ (4, 0, 999999999999246788) ∷ [];
        agents = [];
      }) ∷
      [];
}

abbrev pub days : List Day
days = day_1 ∷ day_2 ∷ day_3 ∷ day_4 ∷ day_5 ∷ day_6 ∷ day_7 ∷ day_8 ∷ []
