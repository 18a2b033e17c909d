-- What a call promises of the lines made, where they are the first places of a table.
use Rattle.std.specs.Prelude.{◌≡◌, List, ◌++◌, length, Result}
use Rattle.register.specs.Rules.{Meaning}
use Rattle.pairing.specs.declared.line.Line.{Line}
use Rattle.rules.specs.declared.call.Call.{Call}
use Rattle.rules.specs.declared.answer.Answer.{Answer}
use Rattle.rules.specs.declared.fault.Cause.{Cause}
use Rattle.state.specs.declared.state.State.{State}
use Rattle.state.specs.Seeing.{seen}
use Rattle.state.specs.Following.{Follows}

-- The call goes on by the rules, whatever stands in later places, which stay.
abbrev pub FollowsOnMade : State → State → List Line → List Line → Meaning → Meaning → Meaning → Meaning → Call → Result Answer Cause → Type 0
FollowsOnMade e e' made made' s s' m m' c r = (rest : List Line) → e.count ≡ length made
    → Follows (seen e (made ++ rest) s m) c r (seen e' (made' ++ rest) s' m')
