-- Histories: calls in any number and order, each upon the result of the one before, refused ones included.
use Rattle.std.specs.Prelude.{◌≡◌, ℕ, Bool, List, [], ◌∷◌, ◌++◌, length, drop, ℤ, is_ok, Some, None, Ok, Err, Result}
use Rattle.pairing.specs.declared.line.Line.{Line}
use Rattle.rules.specs.declared.session.Session.{Session}
use Rattle.rules.specs.declared.side.Side.{Side}
use Rattle.rules.specs.declared.side.Side.TheVariants.{Securities, Cash}
use Rattle.rules.specs.declared.call.Call.{Call}
use Rattle.rules.specs.declared.answer.Answer.{Answer}
use Rattle.rules.specs.declared.fault.Fault.{Fault}
use Rattle.rules.specs.declared.fault.OpeningFault.{OpeningFault}
use Rattle.register.specs.Rules.{Meaning}
use Rattle.book.specs.Books.{Contents, Sound}
use Rattle.pairing.specs.Lines.{lot, notified, net}
use Rattle.rules.specs.Tally.{Opening, Tally, accepted, tally, held, told, claim}
use Rattle.rules.specs.Verdict.{verdict, opening_refused, too_small}

-- A call with the answer that it got. A history has the newest first.
abbrev pub Entry : Type 0
Entry = Call × Result Answer Fault

-- What the tally is kept from: each call, and whether it was accepted.
abbrev pub calls : List Entry → List (Call × Bool)
calls [] = []
calls ((c, r) ∷ h) = (c, is_ok r) ∷ calls h

abbrev pub tally_of : Opening → List Entry → Tally
tally_of o h = tally o (calls h)

-- Each call was answered as the rules say, at the tally before it.
abbrev pub Lived : Opening → List Entry → Type 0
Lived o [] = Unit {0}
Lived o ((c, r) ∷ h) = (r ≡ verdict o (tally_of o h) c) × Lived o h

-- An expiry, its lines and its registers at one moment: its book and session, its lots by row and asset, the contracts
-- notified by row, the places for lines and how many are used, the draws held, nets and claims by agent, and the two
-- registers. Nothing else of it bears on an answer.
pub record Seen : Type 0 where
  pub book : Contents
  pub session : Session
  pub lot : ℕ → ℕ → ℕ
  pub notified : ℕ → ℕ
  pub table : List Line
  pub count : ℕ
  pub draw : ℕ → ℕ
  pub net : ℕ → ℤ
  pub claim : ℕ → ℤ
  pub securities : Meaning
  pub cash : Meaning

abbrev pub register : Seen → Side → Meaning
register n Securities = n.securities
register n Cash = n.cash

-- Two registers mean the same.
pub record Same (m k : Meaning) : Type 0 where
  pub accounts : m.accounts ≡ k.accounts
  pub assets : m.assets ≡ k.assets
  pub balance : (account asset : ℕ) → m.balance account asset ≡ k.balance account asset
  pub issue : (asset : ℕ) → m.issue asset ≡ k.issue asset

-- The lines stand in the first places; later places stay as they were.
abbrev pub over : List Line → List Line → List Line
over lines table = lines ++ drop (length lines) table

-- An expiry was opened: its book is one that exists, and opening refused nothing.
pub record Opens (o : Opening) : Type 0 where
  pub book : Sound o.book
  pub not_refused : opening_refused o ≡ None

-- An expiry stands after a history: it was opened, each call was answered by the rules, and all is as the tally tells.
pub record Stands (o : Opening) (h : List Entry) (n : Seen) : Type 0 where
  pub opens : Opens o
  pub lived : Lived o h
  pub book : n.book ≡ o.book
  pub session : n.session ≡ (tally_of o h).session
  pub lots : (row asset : ℕ) → n.lot row asset ≡ lot (tally_of o h).lots row asset
  pub notified : (row : ℕ) → n.notified row ≡ notified (tally_of o h).lots row
  pub count : n.count ≡ length (tally_of o h).lines
  pub table : n.table ≡ over (tally_of o h).lines o.table
  pub draws : (agent : ℕ) → n.draw agent ≡ held (tally_of o h) agent
  pub nets : (agent : ℕ) → n.net agent ≡ net o.book (tally_of o h).lines agent
  pub claims : (agent : ℕ) → n.claim agent ≡ claim o.book (tally_of o h) agent
  pub registers : (side : Side) → Same (register n side) (told o (tally_of o h) side)

-- ---- what the public calls promise, by what can be seen before and after

-- Opening answers as the rules say and, where it is not refused, the expiry stands with no call made.
abbrev pub OpensOrRefuses : {X : Type 0} → Opening → (X → Seen) → Result X OpeningFault → Type 0
OpensOrRefuses o see (Ok x) = (opening_refused o ≡ None) × Stands o [] (see x)
OpensOrRefuses o see (Err e) = opening_refused o ≡ Some e

-- A call upon any history leaves an expiry that stands after one call more: its answer is the one of the rules, and
-- all is as the tally tells, so that a refused call changes nothing.
abbrev pub GoesOn : Seen → Call → Result Answer Fault → Seen → Type 0
GoesOn before c r then = (o : Opening) (h : List Entry) → Stands o h before → Stands o ((c, r) ∷ h) then

-- A call that finds too little room is refused for that first, and changes nothing.
abbrev pub SmallRefused : Contents → Seen → Call → Result Answer Fault → Seen → Type 0
SmallRefused b before c r then = (e : Fault) → too_small b (length before.table) before.securities before.cash c ≡ Some e → (r ≡ Err e) × (then ≡ before)

-- ---- the same, forward: the answers to the calls of a day, and the tally after them

abbrev pub after : Opening → Tally → Call → Result Answer Fault → Tally
after o t c (Ok a) = accepted o t c
after o t c (Err e) = t

abbrev pub day : Opening → Tally → List Call → List (Result Answer Fault) × Tally
day o t [] = ([], t)
day o t (c ∷ cs) =
    let r = verdict o t c in
    let rest = day o (after o t c r) cs in
    (r ∷ rest.0, rest.1)

-- The entries that calls become, each answered by the rules, upon the history h.
abbrev pub history : Opening → List Entry → List Call → List Entry
history o h [] = h
history o h (c ∷ cs) = history o ((c, verdict o (tally_of o h) c) ∷ h) cs
