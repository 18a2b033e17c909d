use Rattle.pairing.proofs.WorkedCases.{worked_cases, premises_hold}
use Rattle.pairing.proofs.worked_cases_hold.Goals as goal

pub returns : goal.returns
returns c = record { cases_by_hand_agree = worked_cases; premises_can_be_had = premises_hold }
