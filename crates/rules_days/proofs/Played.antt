-- The days, played by computation. Written by tests/rules_days.py.
use Rattle.std.proofs.Common.{refl}
use Rattle.pairing.specs.Pairing.{all_groups}
use Rattle.rules_days.specs.Trials.{Agree}
use Rattle.rules_days.specs.Days01 as days01
use Rattle.rules_days.specs.Days02 as days02
use Rattle.rules_days.specs.Days03 as days03
use Rattle.rules_days.specs.Days04 as days04
use Rattle.rules_days.specs.Days05 as days05
use Rattle.rules_days.specs.Days06 as days06
use Rattle.rules_days.specs.Days07 as days07
use Rattle.rules_days.specs.Days08 as days08
use Rattle.rules_days.specs.Days.{DaysAgree}

in_days01 : Agree days01.days
unfolding all_groups
in_days01 = refl

in_days02 : Agree days02.days
unfolding all_groups
in_days02 = refl

in_days03 : Agree days03.days
unfolding all_groups
in_days03 = refl

in_days04 : Agree days04.days
unfolding all_groups
in_days04 = refl

in_days05 : Agree days05.days
unfolding all_groups
in_days05 = refl

in_days06 : Agree days06.days
unfolding all_groups
in_days06 = refl

in_days07 : Agree days07.days
unfolding all_groups
in_days07 = refl

in_days08 : Agree days08.days
unfolding all_groups
in_days08 = refl

pub days_agree : DaysAgree
days_agree = record { days01 = in_days01; days02 = in_days02; days03 = in_days03; days04 = in_days04; days05 = in_days05; days06 = in_days06; days07 = in_days07; days08 = in_days08 }
