-- What the parts of an engine promise of one call.
use Rattle.std.specs.Prelude.{◌≡◌, true, List, ◌∷◌, Ok, Err, Result}
use Rattle.rules.specs.declared.call.Call.{Call}
use Rattle.rules.specs.declared.answer.Answer.{Answer}
use Rattle.rules.specs.declared.fault.Cause.{Cause}
use Rattle.rules.specs.declared.fault.Fault.{Fault}
use Rattle.rules.specs.Tally.{Opening}
use Rattle.rules.specs.Verdict.{in_its_session}
use Rattle.rules.specs.Histories.{Entry, tally_of, Seen, Stands}

-- The answer to a call: a refusal has its cause, and the call with all of its names.
abbrev pub answered : Call → Result Answer Cause → Result Answer Fault
answered c (Ok a) = Ok a
answered c (Err cause) = Err (record { cause = cause; call = c })

-- In a session in which it is made, a call upon any history leaves an expiry that stands after one call more: the answer
-- is the one of the rules, and all is as the tally tells, so that a refused call changes nothing.
abbrev pub Follows : Seen → Call → Result Answer Cause → Seen → Type 0
Follows before c r then = (o : Opening) (h : List Entry) → Stands o h before → in_its_session (tally_of o h) c ≡ true → Stands o ((c, answered c r) ∷ h) then
