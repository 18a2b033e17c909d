-- The postings of a whole settlement, side by side, and as the rules have them.
use Rattle.std.proofs.Common.{◌≡◌, ℕ, ◌*◌, ◌≤◌, List, get_or, refl}
use Rattle.std.specs.List.{range_with_len}
use Rattle.register.specs.Rules.{Meaning}
use Rattle.book.specs.Limits.{most_agent}
use Rattle.book.specs.Books.{Contents}
use Rattle.pairing.specs.declared.line.Line.{Line}
use Rattle.pairing.specs.Lines.{inside}
use Rattle.rules.specs.declared.side.Side.TheVariants.{Securities, Cash}
use Rattle.rules.specs.declared.call.Call.TheVariants as call
use Rattle.rules.specs.Tally.{Opening, Tally, cash_asset}
use Rattle.rules.specs.Postings.{pays, for_each, all_posted, NoneRefused, postings}
use Rattle.delivery.specs.Parties.{to_buyer}
use Rattle.delivery.specs.Handing.{units_to, paid_agents}
use Rattle.delivery.specs.Sums.{ValuesFit}
use Rattle.delivery.specs.Whole.{net_above, net_postings, whole_postings}
use Rattle.delivery.proofs.PostedRuns.{Leaves, units_leave_cash, cash_leaves_units, each_leaves, only_first, only_second}
use Rattle.delivery.proofs.PaidAgents.{paid_agents_are}

-- What the rules ask of the registers for it.
pub whole_is : (o : Opening) (t : Tally) → postings o t call.SettleWhole ≡ whole_postings o.book t.lines
unfolding net_postings
whole_is o t = refl

nets_leave_units : (b : Contents) (ls : List Line) → Leaves Securities (net_postings b ls)
unfolding net_postings
nets_leave_units b ls = each_leaves Securities (λ agent. pays Cash agent cash_asset (net_above b ls agent)) (range_with_len 1 most_agent) (λ agent. cash_leaves_units agent cash_asset (net_above b ls agent))

lines_leave_cash : (b : Contents) (ls : List Line) → Leaves Cash (for_each (units_to to_buyer b.terms.multiplier) ls)
lines_leave_cash b ls = each_leaves Cash (units_to to_buyer b.terms.multiplier) ls (λ l. units_leave_cash l.buyer l.asset (b.terms.multiplier * inside l))

pub whole_units : (b : Contents) (ls : List Line) (m : Meaning) → NoneRefused Securities m (whole_postings b ls)
    → NoneRefused Securities m (for_each (units_to to_buyer b.terms.multiplier) ls) × (all_posted Securities m (whole_postings b ls) ≡ all_posted Securities m (for_each (units_to to_buyer b.terms.multiplier) ls))
whole_units b ls m n = only_first Securities m (for_each (units_to to_buyer b.terms.multiplier) ls) (net_postings b ls) (nets_leave_units b ls) n

pub whole_cash : (b : Contents) (ls : List Line) (m : Meaning) → NoneRefused Cash m (whole_postings b ls)
    → NoneRefused Cash m (net_postings b ls) × (all_posted Cash m (whole_postings b ls) ≡ all_posted Cash m (net_postings b ls))
whole_cash b ls m n = only_second Cash m (for_each (units_to to_buyer b.terms.multiplier) ls) (net_postings b ls) (lines_leave_cash b ls) n

pub nets_paid : (b : Contents) (ls : List Line) (amounts : List ℕ) → ((agent : ℕ) → ValuesFit b ls agent)
    → ((k : ℕ) → k ≤ most_agent → ValuesFit b ls k → get_or amounts k 0 ≡ net_above b ls k) → paid_agents amounts ≡ net_postings b ls
unfolding net_postings
nets_paid b ls amounts fit e = paid_agents_are amounts (net_above b ls) (λ k _ q. e k q (fit k))
