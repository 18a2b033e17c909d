-- The worked cases, by computation.
use Rattle.std.proofs.Common.{refl}
use Rattle.pairing.specs.Pairing.{all_groups}
use Rattle.pairing.proofs.WorkedCases as pairing
use Rattle.rules.specs.Cases.{DeliveryCases, OpeningCases, WorkedCases}

delivery_cases : DeliveryCases
unfolding all_groups
delivery_cases = record { lines = refl; nets = (refl, refl); take_with_25 = refl; take_with_9 = refl; but_line_4_answers = refl; claims = (refl, refl); named_refusal = refl }

opening_cases : OpeningCases
opening_cases = record {
  empty_book_first = refl;
  table_next = refl;
  too_few_holders_accounts = refl;
  too_few_assets = refl;
  too_few_agents_accounts = refl;
  no_cash_asset = refl;
  house_holds_units = refl;
  house_holds_cash = refl;
  just_enough = refl;
}

pub worked_cases : WorkedCases
worked_cases = (pairing.worked_cases, delivery_cases, opening_cases)
