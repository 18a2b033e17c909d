-- One line settled by itself.
use Rattle.std.specs.Prelude.{◌≡◌, ℕ, List, [], ◌∷◌, ◌++◌, Some, Ok, Err, Result}
use Rattle.register.specs.declared.fault.RegisterFault.{RegisterFault}
use Rattle.register.specs.Rules.{Meaning, transfer_refused}
use Rattle.book.specs.Books.{Contents, value}
use Rattle.pairing.specs.declared.line.Line.{Line}
use Rattle.pairing.specs.Lines.{inside, buyer_agent, seller_agent}
use Rattle.rules.specs.declared.side.Side.TheVariants.{Securities, Cash}
use Rattle.rules.specs.Tally.{house, cash_asset, settle}
use Rattle.rules.specs.Postings.{Posting, moves, pays, refusal, all_posted, NoneRefused}
use Rattle.delivery.specs.declared.fault.SideFault.{SideFault}
use Rattle.delivery.specs.Parties.{to_buyer}
use Rattle.delivery.specs.Handing.{units_to}

-- The value of a line's contracts in.
abbrev pub worth : Contents → Line → ℕ
worth b l = value b l.asset (inside l)

-- From the buyer's agent to account 0, and on to the seller's agent.
abbrev pub line_cash : Contents → Line → List Posting
line_cash b l = moves Cash (buyer_agent b l) house cash_asset (worth b l) ∷ pays Cash (seller_agent b l) cash_asset (worth b l)

-- And the units to the buyer.
abbrev pub line_postings : Contents → Line → List Posting
line_postings b l = moves Cash (buyer_agent b l) house cash_asset (worth b l)
    ∷ (pays Cash (seller_agent b l) cash_asset (worth b l) ++ units_to to_buyer b.terms.multiplier l)

-- Nothing is moved where the first move is refused, and its refusal is told; else all are made, where none would be refused.
abbrev pub RefusedFirst : List Posting → Meaning → Meaning → Result (Unit {0}) SideFault → Type 0
RefusedFirst [] m m' r = Unit {0}
RefusedFirst (p ∷ ps) m m' r = (fault : RegisterFault) → refusal Cash m p ≡ Some fault → (r ≡ Err (record { side = Cash; fault = fault })) × (m' ≡ m)

abbrev pub PaysFor : List Posting → Meaning → Meaning → Result (Unit {0}) SideFault → Type 0
PaysFor ps m m' r = (NoneRefused Cash m ps → (r ≡ Ok tt) × (m' ≡ all_posted Cash m ps)) × RefusedFirst ps m m' r

-- All three moves are made, and the line is settled, where none would be refused.
abbrev pub Settles : Contents → Line → Line → Meaning → Meaning → Meaning → Meaning → Result (Unit {0}) SideFault → Type 0
Settles b l l' s s' c c' r = NoneRefused Securities s (line_postings b l) → NoneRefused Cash c (line_postings b l)
    → (r ≡ Ok tt) × (l' ≡ settle l) × (s' ≡ all_posted Securities s (line_postings b l)) × (c' ≡ all_posted Cash c (line_postings b l))

-- Where the first is refused, its refusal is told, and line and registers are as they were.
abbrev pub UnpaidStays : Contents → Line → Line → Meaning → Meaning → Meaning → Meaning → Result (Unit {0}) SideFault → Type 0
UnpaidStays b l l' s s' c c' r = (fault : RegisterFault) → transfer_refused c (buyer_agent b l) house cash_asset (worth b l) ≡ Some fault
    → (r ≡ Err (record { side = Cash; fault = fault })) × (l' ≡ l) × (s' ≡ s) × (c' ≡ c)
