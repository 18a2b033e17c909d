-- A day computed forward is the history of its calls.
use Rattle.std.proofs.Common.{◌≡◌, List, [], ◌∷◌, Ok, Err, Result, sym, refl, ap, ◌∙◌}
use Rattle.rules.specs.declared.call.Call.{Call}
use Rattle.rules.specs.declared.answer.Answer.{Answer}
use Rattle.rules.specs.declared.fault.Fault.{Fault}
use Rattle.rules.specs.Tally.{Opening, Tally}
use Rattle.rules.specs.Verdict.{verdict}
use Rattle.rules.specs.Premises.{entered, DaysAreHistories}
use Rattle.rules.specs.Histories.{Entry, tally_of, Lived, after, day, history}

after_one : (o : Opening) (h : List Entry) (c : Call) (r : Result Answer Fault) → tally_of o ((c, r) ∷ h) ≡ after o (tally_of o h) c r
after_one o h c (Ok a) = refl
after_one o h c (Err e) = refl

-- The tally after a day is the tally of the history that its calls become.
same_tally : (o : Opening) (h : List Entry) (cs : List Call) → tally_of o (history o h cs) ≡ (day o (tally_of o h) cs).1
same_tally o h [] = refl
same_tally o h (c ∷ cs) =
    same_tally o ((c, verdict o (tally_of o h) c) ∷ h) cs
    ∙ ap (λ (t : Tally). (day o t cs).1) (after_one o h c (verdict o (tally_of o h) c))

-- So are the answers.
same_answers : (o : Opening) (h : List Entry) (cs : List Call) → history o h cs ≡ entered cs (day o (tally_of o h) cs).0 h
same_answers o h [] = refl
same_answers o h (c ∷ cs) =
    let r = verdict o (tally_of o h) c in
    same_answers o ((c, r) ∷ h) cs
    ∙ ap (λ (t : Tally). entered cs (day o t cs).0 ((c, r) ∷ h)) (after_one o h c r)

-- A history of the rules' own answers is lived.
pub lived_on : (o : Opening) (h : List Entry) (cs : List Call) → Lived o h → Lived o (history o h cs)
lived_on o h [] l = l
lived_on o h (c ∷ cs) l = lived_on o ((c, verdict o (tally_of o h) c) ∷ h) cs (refl, l)

pub days_are_histories : DaysAreHistories
days_are_histories o cs = (sym (same_answers o [] cs), sym (same_tally o [] cs))
