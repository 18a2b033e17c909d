use Rattle.rules_days.proofs.Played.{days_agree}
use Rattle.rules_days.proofs.days_follow_the_rules.Goals as goal

pub returns : goal.returns
returns c = record { days_agree_with_the_separate_player = days_agree }
