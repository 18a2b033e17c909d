-- What the law supposes can be had: books that open, expiries that stand, whatever is called.
use Rattle.std.specs.Prelude.{◌≡◌, List, [], ◌∷◌, length, pos, Result}
use Rattle.pairing.specs.Lines.{lot, notified, net}
use Rattle.rules.specs.declared.session.Session.TheVariants.{MembersNotices}
use Rattle.rules.specs.declared.side.Side.TheVariants.{Securities, Cash}
use Rattle.rules.specs.declared.call.Call.{Call}
use Rattle.rules.specs.declared.answer.Answer.{Answer}
use Rattle.rules.specs.declared.fault.Fault.{Fault}
use Rattle.rules.specs.Tally.{Opening, empty, held, told, claim}
use Rattle.rules.specs.Histories.{Entry, tally_of, Seen, over, Opens, Stands, day, history}
use Rattle.pairing.specs.Cases.{example}
use Rattle.rules.specs.Examples.{opening}

-- What is seen of an expiry that was just opened: nothing of its own yet, and all it was given as it was.
abbrev pub at_first : Opening → Seen
at_first o = record {
  book = o.book;
  session = MembersNotices;
  lot = λ _ _. 0;
  notified = λ _. 0;
  table = o.table;
  count = 0;
  draw = λ _. 0;
  net = λ _. pos 0;
  claim = λ _. pos 0;
  securities = o.securities;
  cash = o.cash;
}

-- What is seen after a history where all is as the tally tells.
abbrev pub as_told : Opening → List Entry → Seen
as_told o h = record {
  book = o.book;
  session = (tally_of o h).session;
  lot = lot (tally_of o h).lots;
  notified = notified (tally_of o h).lots;
  table = over (tally_of o h).lines o.table;
  count = length (tally_of o h).lines;
  draw = held (tally_of o h);
  net = net o.book (tally_of o h).lines;
  claim = claim o.book (tally_of o h);
  securities = told o (tally_of o h) Securities;
  cash = told o (tally_of o h) Cash;
}

-- The example book opens, with registers of zeros.
abbrev pub ExampleOpens : Type 0
ExampleOpens = Opens (opening example)

-- An expiry that was opened stands with no call made.
abbrev pub OpenedStands : Type 0
OpenedStands = (o : Opening) → Opens o → Stands o [] (at_first o)

-- Whatever calls are made of it, there is a history of the rules' own answers to them after which it stands.
abbrev pub AnyCallsStand : Type 0
AnyCallsStand = (o : Opening) → Opens o → (cs : List Call) → Stands o (history o [] cs) (as_told o (history o [] cs))

-- Calls with their answers, put upon a history.
abbrev pub entered : List Call → List (Result Answer Fault) → List Entry → List Entry
entered [] rs h = h
entered (c ∷ cs) [] h = h
entered (c ∷ cs) (r ∷ rs) h = entered cs rs ((c, r) ∷ h)

-- A day that is computed forward gives the answers and the tally of that history.
abbrev pub DaysAreHistories : Type 0
DaysAreHistories = (o : Opening) (cs : List Call) → (entered cs (day o empty cs).0 [] ≡ history o [] cs) × ((day o empty cs).1 ≡ tally_of o (history o [] cs))
