-- A credit goes on by the rules.
use Rattle.std.proofs.Common.{◌≡◌, ℕ, Bool, true, false, cond, ltb, List, ◌∷◌, is_ok, Some, None, Ok, Err, Option, Result, sym, refl, ap}
use Rattle.register.specs.declared.fault.RegisterFault.{RegisterFault}
use Rattle.register.specs.Rules.{Meaning, answer, credit_refused, unless_refused, with_credit, after_credit}
use Rattle.pairing.specs.declared.line.Line.{Line}
use Rattle.rules.specs.declared.side.Side.{Side}
use Rattle.rules.specs.declared.side.Side.TheVariants.{Securities, Cash}
use Rattle.rules.specs.declared.call.Call.{Call}
use Rattle.rules.specs.declared.answer.Answer.{Answer}
use Rattle.rules.specs.declared.answer.Answer.TheVariants.{Done}
use Rattle.rules.specs.declared.fault.Cause.{Cause}
use Rattle.rules.specs.declared.fault.Cause.TheVariants.{HouseCredit}
use Rattle.rules.specs.Tally.{Opening, told, accepted, house, same_side}
use Rattle.rules.specs.Verdict.{verdict, by_register, first_failed}
use Rattle.rules.specs.Histories.{Entry, tally_of, Same, register, Stands}
use Rattle.rules.specs.Postings.{credits}
use Rattle.rules.proofs.SameRegisters.{same_refusal}
use Rattle.state.specs.declared.state.State.{State}
use Rattle.state.specs.Seeing.{seen}
use Rattle.state.specs.Following.{answered}
use Rattle.state.proofs.FirstFailed.{by_check}
use Rattle.state.proofs.Standing.{due_judged, refused, accepted_posts, posted_told}
use Rattle.state.specs.Calls.{credit_call}
use Rattle.intake.specs.Crediting.{of_side, credit_stops, credit_leaves}

same_credit : (side : Side) (m k : Meaning) (account asset amount : ℕ) → Same m k → credit_refused m account asset amount ≡ credit_refused k account asset amount
same_credit Securities m k account asset amount p = same_refusal Securities m k (credits Securities account asset amount) p
same_credit Cash m k account asset amount p = same_refusal Cash m k (credits Cash account asset amount) p

same_stops : (side : Side) (m k : Meaning) (account asset amount : ℕ) → Same m k → credit_stops side m account asset amount ≡ credit_stops side k account asset amount
same_stops side m k account asset amount p =
    ap (λ (x : Option RegisterFault). first_failed ((ltb house account, HouseCredit) ∷ by_register side x)) (same_credit side m k account asset amount p)

as_told_on : (o : Opening) (h : List Entry) (e : State) (ls : List Line) (s c : Meaning) (side : Side) → Stands o h (seen e ls s c) → Same (of_side side s c) (told o (tally_of o h) side)
as_told_on o h e ls s c Securities st = st.registers Securities
as_told_on o h e ls s c Cash st = st.registers Cash

-- an accepted credit is its posting
left_by : (on : Bool) (m : Meaning) (account asset amount : ℕ) → cond on (credit_refused m account asset amount) None ≡ None
    → cond on (with_credit m account asset amount) m ≡ cond on (after_credit m account asset amount) m
left_by true m account asset amount h = sym (ap (λ (x : Option RegisterFault). unless_refused x (with_credit m account asset amount) m) h)
left_by false m account asset amount h = refl

credited_stands : (o : Opening) (h : List Entry) (e : State) (ls : List Line) (s c : Meaning) (side : Side) (account asset amount : ℕ)
    → verdict o (tally_of o h) (credit_call side account asset amount) ≡ Ok Done → Stands o h (seen e ls s c)
    → Stands o ((credit_call side account asset amount, Ok Done) ∷ h)
    (seen e ls (cond (same_side side Securities) (with_credit s account asset amount) s) (cond (same_side side Cash) (with_credit c account asset amount) c))
credited_stands o h e ls s c side account asset amount v st = record {
  opens = st.opens;
  lived = (sym v, st.lived);
  book = st.book;
  session = st.session;
  lots = st.lots;
  notified = st.notified;
  count = st.count;
  table = st.table;
  draws = st.draws;
  nets = st.nets;
  claims = st.claims;
  registers = both;
}
  where
    call : Call
    call = credit_call side account asset amount

    both : (which : Side) → Same (register (seen e ls (cond (same_side side Securities) (with_credit s account asset amount) s) (cond (same_side side Cash) (with_credit c account asset amount) c)) which) (told o (accepted o (tally_of o h) (credit_call side account asset amount)) which)
    both Securities = posted_told o h (seen e ls s c) (credit_call side account asset amount) st Securities _ (ap is_ok v) (left_by (same_side side Securities) s account asset amount (accepted_posts o h (seen e ls s c) (credit_call side account asset amount) st Securities (ap is_ok v)).0)
    both Cash = posted_told o h (seen e ls s c) (credit_call side account asset amount) st Cash _ (ap is_ok v) (left_by (same_side side Cash) c account asset amount (accepted_posts o h (seen e ls s c) (credit_call side account asset amount) st Cash (ap is_ok v)).0)

-- What an answer of nothing becomes.
abbrev pub done_by : Result (Unit {0}) Cause → Result Answer Cause
done_by (Ok u) = Ok Done
done_by (Err cause) = Err cause

pub credit_goes : (o : Opening) (h : List Entry) (e : State) (ls : List Line) (s c s' c' : Meaning) (side : Side) (account asset amount : ℕ) (r : Result (Unit {0}) Cause)
    → r ≡ answer (credit_stops side (of_side side s c) account asset amount)
    → s' ≡ credit_leaves side Securities (credit_stops side (of_side side s c) account asset amount) s account asset amount
    → c' ≡ credit_leaves side Cash (credit_stops side (of_side side s c) account asset amount) c account asset amount
    → Stands o h (seen e ls s c)
    → Stands o ((credit_call side account asset amount, answered (credit_call side account asset amount) (done_by r)) ∷ h) (seen e ls s' c')
credit_goes o h e ls s c s' c' side account asset amount r er es ec st =
    go (credit_stops side (of_side side s c) account asset amount) r s' c' er es ec
    (due_judged o (tally_of o h) (credit_call side account asset amount) (credit_stops side (of_side side s c) account asset amount) refl refl
    (sym (same_stops side (of_side side s c) (told o (tally_of o h) side) account asset amount (as_told_on o h e ls s c side st))))
  where
    go : (x : Option Cause) (r : Result (Unit {0}) Cause) (s' c' : Meaning) → r ≡ answer x
        → s' ≡ credit_leaves side Securities x s account asset amount → c' ≡ credit_leaves side Cash x c account asset amount
        → verdict o (tally_of o h) (credit_call side account asset amount) ≡ by_check x (credit_call side account asset amount) Done
        → Stands o ((credit_call side account asset amount, answered (credit_call side account asset amount) (done_by r)) ∷ h) (seen e ls s' c')
    go None r s' c' er es ec v = rw (er, es, ec) (credited_stands o h e ls s c side account asset amount v st)
    go (Some cause) r s' c' er es ec v = rw (er, es, ec) (refused o h (seen e ls s c) (credit_call side account asset amount) st cause v)
