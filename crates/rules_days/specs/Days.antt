-- All days agree: 61 of them. Written by tests/rules_days.py.
use Rattle.rules_days.specs.Trials.{Agree}
use Rattle.rules_days.specs.Days01 as days01
use Rattle.rules_days.specs.Days02 as days02
use Rattle.rules_days.specs.Days03 as days03
use Rattle.rules_days.specs.Days04 as days04
use Rattle.rules_days.specs.Days05 as days05
use Rattle.rules_days.specs.Days06 as days06
use Rattle.rules_days.specs.Days07 as days07
use Rattle.rules_days.specs.Days08 as days08

pub record DaysAgree : Type 0 where
  pub days01 : Agree days01.days
  pub days02 : Agree days02.days
  pub days03 : Agree days03.days
  pub days04 : Agree days04.days
  pub days05 : Agree days05.days
  pub days06 : Agree days06.days
  pub days07 : Agree days07.days
  pub days08 : Agree days08.days
