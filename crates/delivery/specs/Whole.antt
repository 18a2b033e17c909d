-- The settlement of all lines at once.
use Rattle.std.specs.Prelude.{◌≡◌, ℕ, ◌-◌, List, ◌++◌, map, Ok, Result}
use Rattle.register.specs.Rules.{Meaning}
use Rattle.book.specs.Books.{Contents}
use Rattle.pairing.specs.declared.line.Line.{Line}
use Rattle.pairing.specs.Lines.{value_bought, value_sold}
use Rattle.rules.specs.declared.side.Side.TheVariants.{Securities, Cash}
use Rattle.rules.specs.Tally.{cash_asset, settle}
use Rattle.rules.specs.Postings.{Posting, pays, for_each, for_agents, all_posted, NoneRefused}
use Rattle.delivery.specs.declared.fault.SideFault.{SideFault}
use Rattle.delivery.specs.Parties.{to_buyer}
use Rattle.delivery.specs.Handing.{units_to}
use Rattle.delivery.specs.Sums.{ValuesFit}

-- What an agent's net is above 0.
abbrev pub net_above : Contents → List Line → ℕ → ℕ
net_above b ls agent = value_sold b (λ l. l.contracts) ls agent - value_bought b (λ l. l.contracts) ls agent

-- Each net above 0 to its agent, and before that each line's units to its buyer.
unfoldable pub net_postings : Contents → List Line → List Posting
net_postings b ls = for_agents (λ agent. pays Cash agent cash_asset (net_above b ls agent))

abbrev pub whole_postings : Contents → List Line → List Posting
whole_postings b ls = for_each (units_to to_buyer b.terms.multiplier) ls ++ net_postings b ls

-- All of them are made, and the lines are settled, where none would be refused and values are in range.
abbrev pub SettlesWhole : Contents → List Line → List Line → Meaning → Meaning → Meaning → Meaning → Result (Unit {0}) SideFault → Type 0
SettlesWhole b ls ls' s s' c c' r = ((agent : ℕ) → ValuesFit b ls agent) → NoneRefused Securities s (whole_postings b ls) → NoneRefused Cash c (whole_postings b ls)
    → (r ≡ Ok tt) × (ls' ≡ map settle ls) × (s' ≡ all_posted Securities s (whole_postings b ls)) × (c' ≡ all_posted Cash c (whole_postings b ls))
