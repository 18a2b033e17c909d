-- Units of contracts in, handed out by account 0 line by line, and cash agent by agent.
use Rattle.std.specs.Prelude.{◌≡◌, ℕ, ◌*◌, List, map, Ok, Result, slice_index}
use Rattle.register.specs.Rules.{Meaning}
use Rattle.pairing.specs.declared.line.Line.{Line}
use Rattle.pairing.specs.Lines.{inside}
use Rattle.rules.specs.declared.side.Side.{Side}
use Rattle.rules.specs.declared.side.Side.TheVariants.{Securities, Cash}
use Rattle.rules.specs.Tally.{cash_asset}
use Rattle.rules.specs.Postings.{Posting, pays, for_each, for_agents, all_posted, NoneRefused}
use Rattle.delivery.specs.declared.fault.SideFault.{SideFault}
use Rattle.delivery.specs.declared.party.Party.{Party}
use Rattle.delivery.specs.Parties.{row_on, handed}

-- The units of its contracts in, to the one or the other.
abbrev pub units_to : Party → ℕ → Line → List Posting
units_to to multiplier l = pays Securities (row_on to l) l.asset (multiplier * inside l)

-- Postings made of a register are all accepted, where it would refuse none of them, and other things are as they should be.
abbrev pub PostedAnd : Side → List Posting → Meaning → Meaning → Result (Unit {0}) SideFault → Type 0 → Type 0
PostedAnd side ps m m' r and = NoneRefused side m ps → (r ≡ Ok tt) × (m' ≡ all_posted side m ps) × and

-- One line handed on, and all lines.
abbrev pub HandsOn : Party → ℕ → Line → Line → Meaning → Meaning → Result (Unit {0}) SideFault → Type 0
HandsOn to multiplier l l' m m' r = PostedAnd Securities (units_to to multiplier l) m m' r (l' ≡ handed to l)

abbrev pub HandsOut : Party → ℕ → List Line → List Line → Meaning → Meaning → Result (Unit {0}) SideFault → Type 0
HandsOut to multiplier ls ls' m m' r = PostedAnd Securities (for_each (units_to to multiplier) ls) m m' r (ls' ≡ map (handed to) ls)

-- Cash is paid where no move of it would be refused.
abbrev pub PaysCash : List Posting → Meaning → Meaning → Result (Unit {0}) SideFault → Type 0
PaysCash ps m m' r = NoneRefused Cash m ps → (r ≡ Ok tt) × (m' ≡ all_posted Cash m ps)

-- Each agent's amount of cash, by ascending number.
unfoldable pub paid_agents : List ℕ → List Posting
paid_agents amounts = for_agents (λ agent. pays Cash agent cash_asset (slice_index amounts agent))
