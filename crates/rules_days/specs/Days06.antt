-- Days that the separate player played, with what it told. Written by tests/rules_days.py.
use Rattle.std.specs.Prelude.{List, [], ◌∷◌, pos, negsuc}
use Rattle.rules.specs.declared.side.Side.TheVariants.{Securities, Cash}
use Rattle.rules.specs.declared.speaker.Speaker.TheVariants as speaker
use Rattle.rules.specs.declared.call.Call.TheVariants as call
use Rattle.rules.specs.declared.fault.Part.TheVariants as part
use Rattle.pairing.specs.Cases.{asset, buyer, seller, book}
use Rattle.rules_days.specs.Trials.{Day, asks, cramped, tell, ok, counts, refused, refused_by, stands}

abbrev pub day_1 : Day
day_1 = record {
  book = book 1 76667459
      (asset 900000 8581147 77487587 ∷ [])
      (seller 258 8 945 18 10 ∷ buyer 590 3 945 18 6 ∷ buyer 874 2 945 18 5 ∷ seller 874 720626 945 18 1 ∷ []);
  places = 16;
  securities = (6, 1);
  cash = (20, 2);
  placed = record { side = Securities; account = 2; asset = 0; amount = 5 } ∷ [];
  asked = asks (call.Notice (speaker.Clearing 945) 874 720626 0 5) ∷ asks (call.End) ∷ asks (call.Notice (speaker.Member 874) 874 720626 4294967297 1) ∷
      asks (call.SettleLine 1) ∷ asks (call.Credit Cash 4 1 1) ∷ asks (call.Notice (speaker.Clearing 945) 258 8 0 1) ∷
      cramped (part.Register Securities) (call.End) ∷ asks (call.Pair) ∷ asks (call.Close) ∷ asks (call.Pair) ∷ asks (call.Take 258 8 1) ∷
      asks (call.Take 874 2 4) ∷ asks (call.Take 999 3 3) ∷ asks (call.Take 590 3 0) ∷ asks (call.Draw 18) ∷ asks (call.Draw 18) ∷
      asks (call.Take 258 8 0) ∷ tell ∷ [];
  told = ok ∷ refused 12 ∷ ok ∷ refused 9 ∷ refused 8 ∷ ok ∷ ok ∷ refused_by Securities 15 ∷ refused 8 ∷ refused 8 ∷ refused 8 ∷ refused 8 ∷ refused 8 ∷
      refused 8 ∷ refused 8 ∷ refused 8 ∷ refused 8 ∷ refused 8 ∷
      stands (record {
        session = 2;
        lines = [];
        securities = (2, 0, 5) ∷ [];
        cash = (4, 1, 1) ∷ [];
        agents = [];
      }) ∷ [];
}

abbrev pub day_2 : Day
day_2 = record {
  book = book 58 1000
      (asset 100000 3744 3844 ∷ asset 900000 50 7830 ∷ asset 2000000 50 2050 ∷ [])
      (buyer 302 546039 806 12 2 ∷ seller 459 4 806 12 7 ∷ buyer 699 643444 806 12 5 ∷ []);
  places = 12;
  securities = (5, 3);
  cash = (14, 2);
  placed = record { side = Securities; account = 2; asset = 1; amount = 116 } ∷ record { side = Securities; account = 2; asset = 2; amount = 232 } ∷ [];
  asked = asks (call.Notice (speaker.Clearing 806) 459 4 0 1) ∷ asks (call.Notice (speaker.Member 459) 459 4 0 4) ∷
      asks (call.Notice (speaker.Clearing 806) 459 4 1 7) ∷ asks (call.Notice (speaker.Clearing 806) 459 4 1 2) ∷ asks (call.End) ∷
      asks (call.Notice (speaker.Member 459) 459 4 2 1) ∷ asks (call.Notice (speaker.Clearing 806) 459 4 0 2) ∷
      asks (call.Notice (speaker.Clearing 806) 459 5 2 1) ∷ asks (call.Notice (speaker.Member 459) 459 4 1 1) ∷
      asks (call.Notice (speaker.Member 459) 459 4 0 2) ∷ asks (call.End) ∷ asks (call.Close) ∷ asks (call.Pair) ∷ asks (call.Credit Securities 2 0 145) ∷
      asks (call.Take 459 4 1) ∷ asks (call.Take 459 4 0) ∷ asks (call.Draw 12) ∷ asks (call.Draw 12) ∷ asks (call.Take 459 4 1) ∷
      asks (call.Take 459 4 1) ∷ asks (call.SettleWhole) ∷ asks (call.Take 459 4 1) ∷ asks (call.Credit Securities 2 1 116) ∷ asks (call.Take 459 4 1) ∷
      asks (call.Credit Securities 2 0 145) ∷ asks (call.Take 459 4 0) ∷ tell ∷ asks (call.SettleWhole) ∷ asks (call.Credit Securities 999 1 1) ∷
      asks (call.Draw 12) ∷ asks (call.Draw 12) ∷ asks (call.SettleLine 1) ∷ asks (call.Notice (speaker.Clearing 806) 459 4 2 0) ∷ tell ∷ [];
  told = ok ∷ ok ∷ ok ∷ refused 12 ∷ ok ∷ ok ∷ refused 9 ∷ refused 12 ∷ refused 10 ∷ refused 9 ∷ refused 9 ∷ ok ∷ refused 8 ∷ counts 2 ∷ ok ∷ counts 2 ∷
      refused_by Securities 24 ∷ refused 13 ∷ refused 13 ∷ refused 13 ∷ refused 13 ∷ refused 14 ∷ refused 13 ∷ ok ∷ refused 13 ∷ ok ∷ counts 5 ∷
      stands (record {
        session = 4;
        lines = (5, 5, 0, 0) ∷ (2, 2, 0, 0) ∷ [];
        securities = (0, 0, 290) ∷ (0, 1, 116) ∷ (2, 1, 116) ∷ (2, 2, 232) ∷ [];
        cash = [];
        agents = [];
      }) ∷
      ok ∷ refused_by Securities 20 ∷ refused 8 ∷ refused 8 ∷ refused 8 ∷ refused 8 ∷
      stands (record {
        session = 6;
        lines = (5, 5, 5, 0) ∷ (2, 2, 2, 0) ∷ [];
        securities = (1, 1, 116) ∷ (2, 1, 116) ∷ (2, 2, 232) ∷ (3, 0, 290) ∷ [];
        cash = [];
        agents = [];
      }) ∷
      [];
}

abbrev pub day_3 : Day
day_3 = record {
  book = book 10 100000000
      (asset 1234567 3288 123459988 ∷ asset 2000000 0 200000000 ∷ asset 900000 4234 90004241 ∷ asset 2000000 50 200000050 ∷ [])
      (buyer 794 1 6 55 3 ∷ buyer 794 3 6 55 2 ∷ buyer 794 9 6 55 1 ∷ buyer 794 12 6 55 3 ∷ seller 794 13 6 55 9 ∷ seller 794 675166 6 55 1 ∷
      buyer 794 817341 6 55 1 ∷ []);
  places = 28;
  securities = (8, 4);
  cash = (56, 1);
  placed = record { side = Securities; account = 5; asset = 1; amount = 90 } ∷ record { side = Securities; account = 6; asset = 1; amount = 11 } ∷
      record { side = Securities; account = 4; asset = 3; amount = 30 } ∷ record { side = Securities; account = 1; asset = 0; amount = 11 } ∷
      record { side = Cash; account = 55; asset = 0; amount = 999999999999217399 } ∷ [];
  asked = asks (call.Notice (speaker.Member 794) 794 13 3 9) ∷ asks (call.Notice (speaker.Member 794) 794 675166 0 1) ∷
      asks (call.Notice (speaker.Member 794) 794 675166 1 1) ∷ asks (call.End) ∷ asks (call.Notice (speaker.Clearing 6) 4294967297 13 3 1) ∷
      asks (call.Notice (speaker.Clearing 6) 794 13 1 9) ∷ cramped (part.Register Securities) (call.Notice (speaker.Member 794) 794 675166 1 1) ∷
      asks (call.Notice (speaker.Member 794) 794 675166 2 1) ∷ asks (call.Notice (speaker.Clearing 0) 794 675166 3 1) ∷ asks (call.End) ∷
      asks (call.Credit Cash 50 1 782602) ∷ asks (call.Credit Cash 37 1 10) ∷ asks (call.Pair) ∷ asks (call.Credit Securities 6 0 10) ∷
      asks (call.Take 794 13 3) ∷ asks (call.Take 794 817341 2) ∷ asks (call.Take 794 13 3) ∷ asks (call.Take 794 9 3) ∷ asks (call.Take 794 13 3) ∷
      asks (call.Draw 55) ∷ asks (call.Take 794 817341 4) ∷ asks (call.Credit Securities 5 3 90) ∷ asks (call.Take 794 13 3) ∷
      asks (call.Take 794 675166 0) ∷ tell ∷ asks (call.SettleWhole) ∷ asks (call.Take 794 3 1) ∷ asks (call.Close) ∷ cramped part.LineTable (call.Pair) ∷
      asks (call.Pair) ∷ tell ∷ [];
  told = ok ∷ ok ∷ ok ∷ refused 12 ∷ ok ∷ refused 10 ∷ refused 12 ∷ refused_by Securities 15 ∷ refused 9 ∷ refused 9 ∷ ok ∷ refused_by Cash 21 ∷
      refused_by Cash 21 ∷ counts 5 ∷ ok ∷ refused_by Securities 24 ∷ refused 13 ∷ refused_by Securities 24 ∷ refused 13 ∷ refused_by Securities 24 ∷
      refused 13 ∷ refused 13 ∷ ok ∷ counts 9 ∷ counts 1 ∷
      stands (record {
        session = 4;
        lines = (1, 1, 0, 0) ∷ (3, 3, 0, 0) ∷ (3, 3, 0, 0) ∷ (2, 2, 0, 0) ∷ (1, 1, 0, 0) ∷ [];
        securities = (0, 0, 10) ∷ (0, 3, 90) ∷ (1, 0, 11) ∷ (4, 3, 30) ∷ (5, 1, 90) ∷ (6, 1, 11) ∷ [];
        cash = (55, 0, 999999999999217399) ∷ [];
        agents = [];
      }) ∷
      ok ∷ refused 8 ∷ refused 8 ∷ refused 15 ∷ refused 8 ∷
      stands (record {
        session = 6;
        lines = (1, 1, 1, 0) ∷ (3, 3, 3, 0) ∷ (3, 3, 3, 0) ∷ (2, 2, 2, 0) ∷ (1, 1, 1, 0) ∷ [];
        securities = (1, 0, 11) ∷ (1, 3, 30) ∷ (2, 3, 20) ∷ (3, 0, 10) ∷ (4, 3, 60) ∷ (5, 1, 90) ∷ (6, 1, 11) ∷ (7, 3, 10) ∷ [];
        cash = (55, 0, 999999999999217399) ∷ [];
        agents = [];
      }) ∷
      [];
}

abbrev pub day_4 : Day
day_4 = record {
  book = book 976 89193606
      (asset 100000 3276481 12255211 ∷ asset 2000000 8012907 186400126 ∷ asset 1000000 5058692 94311519 ∷ [])
      (buyer 169 1 948 2 5 ∷ buyer 169 2 948 2 2 ∷ buyer 169 3 948 2 2 ∷ seller 169 4 948 2 6 ∷ buyer 169 6 948 2 5 ∷ seller 169 930474 948 2 8 ∷ []);
  places = 24;
  securities = (8, 3);
  cash = (4, 1);
  placed = [];
  asked = asks (call.End) ∷ asks (call.Notice (speaker.Member 169) 169 930474 1 1) ∷ asks (call.Notice (speaker.Clearing 948) 169 4 2 1) ∷
      asks (call.Notice (speaker.Member 169) 169 4 2 1) ∷ cramped (part.Register Cash) (call.Notice (speaker.Member 169) 169 4 2 1) ∷
      asks (call.Notice (speaker.Member 169) 169 930474 1 2) ∷ asks (call.Close) ∷ asks (call.End) ∷ asks (call.Credit Cash 2 0 0) ∷
      cramped (part.Register Securities) (call.SettleWhole) ∷ asks (call.Pair) ∷ asks (call.Credit Securities 4 1 4880) ∷
      asks (call.Credit Securities 4 2 979) ∷ asks (call.Credit Securities 6 1 7811) ∷ asks (call.Take 169 1 1) ∷
      asks (call.Credit Securities 5 0 1000000000000000001) ∷ asks (call.Take 169 930474 1) ∷ asks (call.Draw 2) ∷ asks (call.SettleWhole) ∷
      asks (call.Take 169 4 2) ∷ asks (call.Credit Securities 6 1 7805) ∷ asks (call.Take 169 930474 1) ∷ asks (call.SettleWhole) ∷
      asks (call.Take 169 4 1) ∷ tell ∷ asks (call.SettleWhole) ∷ asks (call.SettleLine 6) ∷ tell ∷ [];
  told = ok ∷ ok ∷ refused 9 ∷ ok ∷ refused 9 ∷ refused_by Cash 15 ∷ refused 9 ∷ refused 8 ∷ ok ∷ refused_by Cash 23 ∷ refused_by Securities 15 ∷ counts 5 ∷
      ok ∷ ok ∷ ok ∷ refused 13 ∷ refused_by Securities 25 ∷ counts 8 ∷ refused 13 ∷ refused 14 ∷ counts 1 ∷ ok ∷ refused 13 ∷ refused 14 ∷ counts 5 ∷
      stands (record {
        session = 4;
        lines = (5, 5, 0, 0) ∷ (5, 5, 0, 0) ∷ (2, 2, 0, 0) ∷ (1, 1, 0, 0) ∷ (1, 1, 0, 0) ∷ [];
        securities = (0, 1, 12688) ∷ (0, 2, 976) ∷ (4, 2, 3) ∷ (6, 1, 7808) ∷ [];
        cash = [];
        agents = [];
      }) ∷
      ok ∷ refused 8 ∷
      stands (record {
        session = 6;
        lines = (5, 5, 5, 0) ∷ (5, 5, 5, 0) ∷ (2, 2, 2, 0) ∷ (1, 1, 1, 0) ∷ (1, 1, 1, 0) ∷ [];
        securities = (1, 1, 4880) ∷ (2, 1, 1952) ∷ (3, 1, 976) ∷ (3, 2, 976) ∷ (4, 2, 3) ∷ (5, 1, 4880) ∷ (6, 1, 7808) ∷ [];
        cash = [];
        agents = [];
      }) ∷
      [];
}

abbrev pub day_5 : Day
day_5 = record {
  book = book 420 1000
      (asset 1000000 0 1000 ∷ asset 900000 50 950 ∷ asset 1234567 50 1 ∷ [])
      (seller 604 2 853 6 1 ∷ buyer 604 6 853 6 2 ∷ seller 604 12 853 6 1 ∷ buyer 604 13 853 6 3 ∷ buyer 604 14 853 6 2 ∷ seller 604 782409 853 6 3 ∷
      seller 604 824472 853 6 2 ∷ []);
  places = 28;
  securities = (9, 3);
  cash = (8, 1);
  placed = record { side = Securities; account = 3; asset = 0; amount = 420 } ∷ record { side = Securities; account = 5; asset = 1; amount = 840 } ∷
      record { side = Securities; account = 7; asset = 0; amount = 840 } ∷ record { side = Securities; account = 6; asset = 0; amount = 841 } ∷
      record { side = Cash; account = 6; asset = 0; amount = 999999999999950850 } ∷ [];
  asked = asks (call.Notice (speaker.Clearing 0) 4294967297 782409 0 1) ∷ asks (call.End) ∷ asks (call.Notice (speaker.Member 604) 604 2 1 5) ∷
      asks (call.Notice (speaker.Clearing 853) 604 824472 0 1) ∷ asks (call.End) ∷ asks (call.Notice (speaker.Member 604) 604 782409 1 0) ∷
      asks (call.Pair) ∷ asks (call.Credit Securities 1 2 423) ∷ asks (call.Take 604 782409 2) ∷ asks (call.Draw 6) ∷ asks (call.End) ∷
      asks (call.Credit Cash 6 0 539700) ∷ asks (call.SettleLine 5) ∷ asks (call.Take 604 6 2) ∷ asks (call.SettleWhole) ∷ asks (call.SettleLine 1) ∷
      asks (call.SettleLine 3) ∷ asks (call.SettleLine 6) ∷ asks (call.SettleLine 2) ∷ asks (call.Credit Securities 6 2 1259) ∷
      asks (call.Credit Securities 7 2 419) ∷ asks (call.SettleLine 1) ∷ asks (call.Draw 6) ∷ asks (call.SettleLine 0) ∷ asks (call.SettleLine 3) ∷
      asks (call.Take 604 2 2) ∷ asks (call.Credit Securities 0 2 10) ∷ tell ∷ asks (call.Close) ∷ asks (call.Close) ∷ asks (call.Draw 6) ∷
      asks (call.Notice (speaker.Clearing 853) 604 14 2 1) ∷ asks (call.Close) ∷ tell ∷ [];
  told = ok ∷ refused 10 ∷ ok ∷ refused 9 ∷ ok ∷ ok ∷ refused 8 ∷ counts 5 ∷ ok ∷ refused_by Securities 24 ∷ refused 13 ∷ ok ∷ refused_by Cash 25 ∷
      refused 13 ∷ refused 13 ∷ refused 8 ∷ refused 13 ∷ refused 13 ∷ refused 13 ∷ refused 13 ∷ ok ∷ ok ∷ refused 13 ∷ refused 8 ∷ refused 13 ∷
      refused 13 ∷ counts 1 ∷ refused 17 ∷
      stands (record {
        session = 5;
        lines = (3, 0, 0, 0) ∷ (1, 0, 0, 0) ∷ (1, 0, 0, 0) ∷ (1, 1, 0, 0) ∷ (1, 0, 0, 0) ∷ [];
        securities = (0, 2, 420) ∷ (1, 2, 3) ∷ (3, 0, 420) ∷ (5, 1, 840) ∷ (6, 0, 841) ∷ (6, 2, 1259) ∷ (7, 0, 840) ∷ (7, 2, 419) ∷ [];
        cash = (6, 0, 999999999999950850) ∷ [];
        agents = [];
      }) ∷
      ok ∷ refused 8 ∷ refused 8 ∷ refused 8 ∷ refused 8 ∷
      stands (record {
        session = 6;
        lines = (3, 0, 0, 0) ∷ (1, 0, 0, 0) ∷ (1, 0, 0, 0) ∷ (1, 1, 0, 1) ∷ (1, 0, 0, 0) ∷ [];
        securities = (1, 2, 423) ∷ (3, 0, 420) ∷ (5, 1, 840) ∷ (6, 0, 841) ∷ (6, 2, 1259) ∷ (7, 0, 840) ∷ (7, 2, 419) ∷ [];
        cash = (6, 0, 999999999999950850) ∷ [];
        agents = [];
      }) ∷
      [];
}

abbrev pub day_6 : Day
day_6 = record {
  book = book 10 1000
      (asset 1000000 0 1010 ∷ asset 900000 50 940 ∷ [])
      (seller 1 1 1 1 5 ∷ buyer 1 2 1 1 3 ∷ buyer 2 1 1 1 4 ∷ seller 3 1 2 1 4 ∷ buyer 4 1 3 2 2 ∷ []);
  places = 20;
  securities = (7, 2);
  cash = (4, 1);
  placed = record { side = Securities; account = 2; asset = 0; amount = 31 } ∷ record { side = Securities; account = 5; asset = 1; amount = 11 } ∷ [];
  asked = asks (call.Notice (speaker.Member 3) 3 1 0 1) ∷ asks (call.Close) ∷ asks (call.Notice (speaker.Member 1) 1 1 0 4294967297) ∷ asks (call.End) ∷
      asks (call.Notice (speaker.Clearing 1) 1 2 0 1) ∷ asks (call.Notice (speaker.Clearing 2) 3 1 1 2) ∷ asks (call.Credit Securities 1 1 10) ∷
      asks (call.End) ∷ asks (call.Credit Securities 1 999 54) ∷ asks (call.SettleLine 1) ∷ asks (call.Take 1 1 3) ∷ asks (call.Pair) ∷
      asks (call.Credit Securities 1 1 39) ∷ asks (call.Credit Securities 4 0 5) ∷ asks (call.Take 3 1 1) ∷ asks (call.Take 1 0 1) ∷
      cramped (part.Register Securities) (call.Notice (speaker.Clearing 1) 1 1 1 4) ∷ asks (call.SettleWhole) ∷ asks (call.Take 3 1 0) ∷
      asks (call.Take 3 1 0) ∷ asks (call.Take 0 1 1) ∷ asks (call.End) ∷ asks (call.Credit Securities 1 1 0) ∷ asks (call.Credit Cash 2 0 19000) ∷
      asks (call.Take 3 1 1) ∷ asks (call.SettleLine 5) ∷ asks (call.Take 1 1 1) ∷ asks (call.Credit Cash 1 0 9499) ∷ asks (call.SettleLine 2) ∷
      asks (call.SettleLine 2) ∷ asks (call.SettleLine 1) ∷ asks (call.Credit Cash 1 0 19000) ∷ asks (call.SettleLine 1) ∷ asks (call.SettleWhole) ∷
      asks (call.SettleLine 5) ∷ asks (call.SettleLine 2) ∷ asks (call.Credit Cash 1 0 0) ∷ asks (call.SettleLine 1) ∷ tell ∷ asks (call.Close) ∷
      asks (call.Credit Securities 7 0 999999999999999965) ∷ asks (call.Pair) ∷ asks (call.End) ∷ tell ∷ [];
  told = ok ∷ ok ∷ refused 8 ∷ refused 12 ∷ ok ∷ refused 10 ∷ ok ∷ ok ∷ ok ∷ refused_by Securities 21 ∷ refused 8 ∷ refused 8 ∷ counts 5 ∷ ok ∷ ok ∷
      refused_by Securities 24 ∷ refused 13 ∷ refused_by Securities 15 ∷ refused 14 ∷ refused_by Securities 24 ∷ refused_by Securities 24 ∷ refused 13 ∷
      ok ∷ refused_by Securities 23 ∷ ok ∷ refused_by Securities 24 ∷ refused 13 ∷ counts 4 ∷ ok ∷ refused_by Cash 24 ∷ refused_by Cash 24 ∷
      refused_by Cash 24 ∷ ok ∷ refused_by Cash 24 ∷ refused 8 ∷ refused 13 ∷ counts 1 ∷ refused_by Cash 23 ∷ refused_by Cash 24 ∷
      stands (record {
        session = 5;
        lines = (3, 3, 0, 0) ∷ (2, 1, 1, 0) ∷ (1, 0, 0, 0) ∷ (1, 0, 0, 0) ∷ (2, 0, 0, 0) ∷ [];
        securities = (0, 1, 30) ∷ (1, 1, 9) ∷ (2, 0, 31) ∷ (3, 1, 10) ∷ (4, 0, 5) ∷ (5, 1, 11) ∷ [];
        cash = (1, 0, 28499) ∷ (2, 0, 19000) ∷ [];
        agents = (1, pos 19000, pos 0) ∷ (2, negsuc 18999, pos 0) ∷ [];
      }) ∷
      ok ∷ refused_by Securities 20 ∷ refused 8 ∷ refused 8 ∷
      stands (record {
        session = 6;
        lines = (3, 3, 0, 3) ∷ (2, 1, 1, 0) ∷ (1, 0, 0, 0) ∷ (1, 0, 0, 0) ∷ (2, 0, 0, 0) ∷ [];
        securities = (1, 1, 39) ∷ (2, 0, 31) ∷ (3, 1, 10) ∷ (4, 0, 5) ∷ (5, 1, 11) ∷ [];
        cash = (1, 0, 28499) ∷ (2, 0, 19000) ∷ [];
        agents = (1, pos 19000, pos 200) ∷ (2, negsuc 18999, negsuc 199) ∷ [];
      }) ∷
      [];
}

abbrev pub day_7 : Day
day_7 = record {
  book = book 1 100
      (asset 1234567 7174 7304 ∷ asset 2000000 50 257 ∷ asset 1000000 50 1 ∷ [])
      (buyer 134 2 599 16 450 ∷ seller 134 7 599 16 114 ∷ seller 155 9 62 16 53 ∷ buyer 155 12 62 16 216 ∷ seller 296 8 599 16 541 ∷
      buyer 296 11 599 16 929 ∷ seller 296 13 599 16 887 ∷ []);
  places = 28;
  securities = (11, 5);
  cash = (20, 2);
  placed = record { side = Securities; account = 6; asset = 4; amount = 612 } ∷ record { side = Securities; account = 4; asset = 1; amount = 79 } ∷
      record { side = Securities; account = 1; asset = 1; amount = 253 } ∷ [];
  asked = asks (call.SettleLine 1) ∷ asks (call.Notice (speaker.Member 296) 296 13 0 5) ∷ asks (call.End) ∷ asks (call.Close) ∷
      cramped (part.Register Cash) (call.Notice (speaker.Clearing 599) 134 7 1 2) ∷ asks (call.Notice (speaker.Member 134) 134 7 2 0) ∷
      asks (call.Notice (speaker.Clearing 599) 296 13 0 2) ∷ asks (call.End) ∷ asks (call.SettleWhole) ∷ asks (call.Take 999 999 0) ∷ asks (call.Pair) ∷
      asks (call.Credit Securities 2 2 114) ∷ asks (call.Credit Securities 7 0 7) ∷ asks (call.Credit Securities 7 2 440) ∷ asks (call.Draw 16) ∷
      asks (call.Credit Cash 0 0 1000000000000000001) ∷ asks (call.Draw 16) ∷ asks (call.Draw 16) ∷ asks (call.Draw 16) ∷ asks (call.Take 296 13 0) ∷
      asks (call.Take 134 7 2) ∷ asks (call.End) ∷ asks (call.Credit Securities 7 0 3) ∷ asks (call.Credit Cash 16 0 7950) ∷
      asks (call.Credit Cash 16 0 43129) ∷ asks (call.SettleLine 3) ∷ asks (call.SettleLine 18446744073709551615) ∷ asks (call.SettleLine 1) ∷
      asks (call.Take 296 13 2) ∷ asks (call.Credit Cash 16 0 14921) ∷ asks (call.SettleLine 4) ∷ asks (call.Take 296 13 2) ∷ asks (call.Take 296 8 2) ∷
      asks (call.Credit Securities 7 0 3) ∷ asks (call.Credit Cash 16 0 7950) ∷ cramped (part.Register Securities) (call.SettleLine 3) ∷ asks (call.End) ∷
      asks (call.SettleLine 0) ∷ asks (call.SettleLine 3) ∷ cramped (part.Register Securities) (call.Take 296 13 2) ∷ asks (call.Credit Cash 0 1 1) ∷
      tell ∷ asks (call.Close) ∷ asks (call.Pair) ∷ cramped (part.Register Cash) (call.Draw 16) ∷ asks (call.Notice (speaker.Clearing 62) 155 9 1 1) ∷
      asks (call.Notice (speaker.Clearing 134) 134 7 0 114) ∷ asks (call.Notice (speaker.Member 0) 134 7 0 1) ∷ tell ∷ [];
  told = ok ∷ refused 8 ∷ ok ∷ ok ∷ refused 8 ∷ refused_by Cash 15 ∷ refused 9 ∷ ok ∷ ok ∷ refused 8 ∷ refused 8 ∷ counts 7 ∷ ok ∷ ok ∷ ok ∷ refused 13 ∷
      refused 17 ∷ refused 13 ∷ refused 13 ∷ refused 13 ∷ counts 7 ∷ counts 114 ∷ ok ∷ ok ∷ ok ∷ ok ∷ counts 7 ∷ refused 13 ∷ counts 114 ∷ counts 440 ∷
      ok ∷ counts 440 ∷ refused_by Securities 24 ∷ refused_by Securities 24 ∷ ok ∷ ok ∷ refused_by Securities 15 ∷ refused 8 ∷ refused 13 ∷ refused 13 ∷
      refused_by Securities 15 ∷ refused 17 ∷
      stands (record {
        session = 5;
        lines = (114, 114, 114, 0) ∷ (53, 0, 0, 0) ∷ (7, 7, 7, 0) ∷ (880, 440, 440, 0) ∷ (42, 0, 0, 0) ∷ (336, 0, 0, 0) ∷ (163, 0, 0, 0) ∷ [];
        securities = (1, 1, 253) ∷ (1, 2, 114) ∷ (4, 1, 79) ∷ (6, 0, 7) ∷ (6, 2, 440) ∷ (6, 4, 612) ∷ (7, 0, 6) ∷ [];
        cash = (16, 0, 73950) ∷ [];
        agents = [];
      }) ∷
      ok ∷ refused 8 ∷ refused_by Cash 15 ∷ refused 8 ∷ refused 8 ∷ refused 8 ∷
      stands (record {
        session = 6;
        lines = (114, 114, 114, 0) ∷ (53, 0, 0, 0) ∷ (7, 7, 7, 0) ∷ (880, 440, 440, 0) ∷ (42, 0, 0, 0) ∷ (336, 0, 0, 0) ∷ (163, 0, 0, 0) ∷ [];
        securities = (1, 1, 253) ∷ (1, 2, 114) ∷ (4, 1, 79) ∷ (6, 0, 7) ∷ (6, 2, 440) ∷ (6, 4, 612) ∷ (7, 0, 6) ∷ [];
        cash = (16, 0, 73950) ∷ [];
        agents = [];
      }) ∷
      [];
}

abbrev pub day_8 : Day
day_8 = record {
  book = book 1000 40207554
      (asset 2000000 50 80415158 ∷ asset 900000 862 36187661 ∷ [])
      (buyer 185 1 9 34 1 ∷ buyer 286 2 557 50 3 ∷ seller 778 334135 9 34 1 ∷ seller 778 428268 9 34 3 ∷ []);
  places = 16;
  securities = (5, 2);
  cash = (51, 2);
  placed = record { side = Securities; account = 4; asset = 1; amount = 3001 } ∷ record { side = Securities; account = 4; asset = 0; amount = 3000 } ∷
      record { side = Securities; account = 2; asset = 0; amount = 1000 } ∷ [];
  asked = asks (call.Draw 34) ∷ asks (call.Notice (speaker.Clearing 557) 286 2 1 1) ∷ asks (call.Notice (speaker.Member 778) 778 428268 0 1) ∷
      asks (call.Notice (speaker.Clearing 9) 778 334135 1 1) ∷ asks (call.Notice (speaker.Member 778) 778 334135 1 1) ∷
      asks (call.Notice (speaker.Member 778) 778 334135 1 2) ∷ asks (call.End) ∷ asks (call.Draw 34) ∷ asks (call.End) ∷ asks (call.Pair) ∷
      asks (call.Credit Securities 3 1 1003) ∷ asks (call.Credit Cash 50 0 241245474000) ∷ asks (call.Take 778 428268 0) ∷ asks (call.Take 778 999 0) ∷
      asks (call.Draw 34) ∷ asks (call.Take 778 334135 1) ∷ asks (call.SettleWhole) ∷ asks (call.Credit Securities 4 0 3000) ∷
      asks (call.Take 778 428268 0) ∷ asks (call.Credit Securities 3 1 997) ∷ asks (call.Take 778 334135 1) ∷ asks (call.Draw 50) ∷ tell ∷
      asks (call.SettleWhole) ∷ asks (call.Close) ∷ asks (call.End) ∷ tell ∷ [];
  told = ok ∷ refused 8 ∷ refused 10 ∷ ok ∷ ok ∷ refused 12 ∷ refused 12 ∷ ok ∷ refused 8 ∷ ok ∷ counts 2 ∷ ok ∷ ok ∷ counts 3 ∷ refused 13 ∷ refused 13 ∷
      counts 1 ∷ refused 14 ∷ ok ∷ refused 13 ∷ ok ∷ refused 13 ∷ ok ∷
      stands (record {
        session = 4;
        lines = (1, 1, 0, 0) ∷ (3, 3, 0, 0) ∷ [];
        securities = (0, 0, 3000) ∷ (0, 1, 1000) ∷ (2, 0, 1000) ∷ (3, 1, 1000) ∷ (4, 0, 3000) ∷ (4, 1, 3001) ∷ [];
        cash = (0, 0, 241245474000) ∷ [];
        agents = (34, pos 241245474000, pos 0) ∷ (50, negsuc 241245473999, pos 0) ∷ [];
      }) ∷
      ok ∷ refused 8 ∷ refused 8 ∷
      stands (record {
        session = 6;
        lines = (1, 1, 1, 0) ∷ (3, 3, 3, 0) ∷ [];
        securities = (1, 1, 1000) ∷ (2, 0, 4000) ∷ (3, 1, 1000) ∷ (4, 0, 3000) ∷ (4, 1, 3001) ∷ [];
        cash = (34, 0, 241245474000) ∷ [];
        agents = (34, pos 241245474000, pos 0) ∷ (50, negsuc 241245473999, pos 0) ∷ [];
      }) ∷
      [];
}

abbrev pub days : List Day
days = day_1 ∷ day_2 ∷ day_3 ∷ day_4 ∷ day_5 ∷ day_6 ∷ day_7 ∷ day_8 ∷ []
