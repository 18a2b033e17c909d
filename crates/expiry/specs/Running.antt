-- Runs of calls with their answers, and the law over them.
use Rattle.std.specs.Prelude.{◌≡◌, List, [], ◌∷◌, Some, Ok, Err, Result}
use Rattle.rules.specs.declared.call.Call.{Call}
use Rattle.rules.specs.declared.answer.Answer.{Answer}
use Rattle.rules.specs.declared.fault.Fault.{Fault}
use Rattle.rules.specs.declared.fault.OpeningFault.{OpeningFault}
use Rattle.rules.specs.Tally.{Opening}
use Rattle.rules.specs.Verdict.{opening_refused}
use Rattle.rules.specs.Histories as histories
use Rattle.rules.specs.Histories.{Seen, Stands}
use Rattle.rules.specs.Law.{Law}
use Rattle.expiry.specs.declared.expiry.runs.Entry.{Entry}

-- The calls of a run, in their order.
abbrev pub calls_in : List Entry → List Call
calls_in [] = []
calls_in (e ∷ es) = e.call ∷ calls_in es

-- A call with another answer beside it.
abbrev pub with_answer : Entry → Result Answer Fault → Entry
with_answer e answer = record { call = e.call; answer = answer }

-- A run upon a history: its calls with their answers, the newest first.
abbrev pub entered : List Entry → List histories.Entry → List histories.Entry
entered [] h = h
entered (e ∷ es) h = entered es ((e.call, e.answer) ∷ h)

-- From an expiry that stands, a run leads to one that stands after all of its calls, and there the law holds.
abbrev pub RunsOn : Seen → List Entry → Seen → Type 0
RunsOn before es then = (o : Opening) (h : List histories.Entry) → Stands o h before → Stands o (entered es h) then × Law o (entered es h) then

-- A day: opened and run, the law holds after all of its calls; where opening refuses, it says why.
abbrev pub Plays : {X : Type 0} → Opening → (X → Seen) → List Entry → Result X OpeningFault → Type 0
Plays o see es (Ok x) = Stands o (entered es []) (see x) × Law o (entered es []) (see x)
Plays o see es (Err fault) = opening_refused o ≡ Some fault

-- What is so where opening refuses.
abbrev pub RefusedStays : {X : Type 0} → Result X OpeningFault → Type 0 → Type 0
RefusedStays (Ok x) stays = Unit {0}
RefusedStays (Err fault) stays = stays
