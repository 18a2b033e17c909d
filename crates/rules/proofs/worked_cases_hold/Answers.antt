use Rattle.rules.proofs.WorkedCases.{worked_cases}
use Rattle.rules.proofs.worked_cases_hold.Goals as goal

pub returns : goal.returns
returns c = record { cases_by_hand_agree = worked_cases }
