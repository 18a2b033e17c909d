-- A call in its session goes on as its part of the engine promises; in another it is refused.
use Rattle.std.proofs.Common.{◌≡◌, Bool, true, ◌||◌, eqb, List, ◌∷◌, length, None, Ok, Result, sym, refl, ap, ◌∙◌, subst}
use Rattle.register.specs.Rules.{Meaning}
use Rattle.pairing.specs.declared.line.Line.{Line}
use Rattle.pairing.specs.Lines.{lot, notified, net}
use Rattle.rules.specs.declared.session.Session.{Session}
use Rattle.rules.specs.declared.session.Session.TheVariants.{MembersNotices, ClearingNotices}
use Rattle.rules.specs.declared.side.Side.{Side}
use Rattle.rules.specs.declared.side.Side.TheVariants.{Securities, Cash}
use Rattle.rules.specs.declared.call.Call.{Call}
use Rattle.rules.specs.declared.call.Call.TheVariants as call
use Rattle.rules.specs.declared.answer.Answer.{Answer}
use Rattle.rules.specs.declared.answer.Answer.TheVariants.{Done}
use Rattle.rules.specs.declared.fault.Cause.{Cause}
use Rattle.rules.specs.Numbers.{session_number}
use Rattle.rules.specs.Tally.{Opening, Tally, held, told, claim, with_lots, accepted, ended}
use Rattle.rules.specs.Verdict.{in_its_session}
use Rattle.rules.specs.Histories.{Entry, tally_of, Seen, Same, register, over, Stands}
use Rattle.state.specs.declared.state.State.{State}
use Rattle.state.specs.Seeing.{seen}
use Rattle.state.specs.Following.{answered, Follows}
use Rattle.state.proofs.Standing.{due_judged}

-- The sessions in which a call is made.
abbrev pub allowed : Session → Call → Bool
allowed s (call.Notice speaker member number asset contracts) = eqb (session_number s) 1 || eqb (session_number s) 2
allowed s call.End = eqb (session_number s) 1 || (eqb (session_number s) 2 || eqb (session_number s) 4)
allowed s call.Pair = eqb (session_number s) 3
allowed s (call.Credit side account asset amount) = true
allowed s (call.Take member number asset) = eqb (session_number s) 4 || eqb (session_number s) 5
allowed s (call.Draw agent) = eqb (session_number s) 4
allowed s call.SettleWhole = eqb (session_number s) 4
allowed s (call.SettleLine i) = eqb (session_number s) 5
allowed s call.Close = eqb (session_number s) 5

allowed_is : (t : Tally) (c : Call) → in_its_session t c ≡ allowed t.session c
allowed_is t (call.Notice speaker member number asset contracts) = refl
allowed_is t call.End = refl
allowed_is t call.Pair = refl
allowed_is t (call.Credit side account asset amount) = refl
allowed_is t (call.Take member number asset) = refl
allowed_is t (call.Draw agent) = refl
allowed_is t call.SettleWhole = refl
allowed_is t (call.SettleLine i) = refl
allowed_is t call.Close = refl

module _ (o : Opening) (h : List Entry) (n : Seen) (st : Stands o h n) (c : Call) where
  told_allowed : in_its_session (tally_of o h) c ≡ allowed n.session c
  told_allowed = allowed_is (tally_of o h) c ∙ ap (λ (s : Session). allowed s c) (sym st.session)

  pub by_its_part : (x : Call) (r : Result Answer Cause) (then : Seen) → c ≡ x → allowed n.session c ≡ true → Follows n x r then → Stands o ((c, answered c r) ∷ h) then
  by_its_part x r then e now' part =
      subst (λ (y : Call). Stands o ((y, answered y r) ∷ h) then) (sym e)
      (part o h st (ap (in_its_session (tally_of o h)) (sym e) ∙ (told_allowed ∙ now')))

-- The state in another session.
abbrev pub with_session : State → Session → State
with_session e s = record { book = e.book; session = s; lots = e.lots; count = e.count; draws = e.draws; nets = e.nets; claims = e.claims }

-- The end of the members' notices changes the session and nothing else.
pub first_ends : (o : Opening) (h : List Entry) (e : State) (ls : List Line) (s m : Meaning) (c : Call) → Stands o h (seen e ls s m) → c ≡ call.End → e.session ≡ MembersNotices
    → Stands o ((c, answered c (Ok Done)) ∷ h) (seen (with_session e ClearingNotices) ls s m)
first_ends o h e ls s m c st ec es = subst (λ (y : Call). Stands o ((y, answered y (Ok Done)) ∷ h) (seen (with_session e ClearingNotices) ls s m)) (sym ec) (record {
  opens = st.opens;
  lived = (sym (due_judged o t call.End None now' refl refl), st.lived);
  book = st.book;
  session = ap (λ (x : Tally). x.session) (sym told_then);
  lots = λ row a. st.lots row a ∙ ap (λ (x : Tally). lot x.lots row a) (sym told_then);
  notified = λ row. st.notified row ∙ ap (λ (x : Tally). notified x.lots row) (sym told_then);
  count = st.count ∙ ap (λ (x : Tally). length x.lines) (sym told_then);
  table = st.table ∙ ap (λ (x : Tally). over x.lines o.table) (sym told_then);
  draws = λ agent. st.draws agent ∙ ap (λ (x : Tally). held x agent) (sym told_then);
  nets = λ agent. st.nets agent ∙ ap (λ (x : Tally). net o.book x.lines agent) (sym told_then);
  claims = λ agent. st.claims agent ∙ ap (λ (x : Tally). claim o.book x agent) (sym told_then);
  registers = registers_then;
})
  where
    t : Tally
    t = tally_of o h

    told_then : accepted o t call.End ≡ with_lots t ClearingNotices t.lots
    told_then = ap (ended o.book t) (sym st.session ∙ es)

    now' : in_its_session t call.End ≡ true
    now' = told_allowed o h (seen e ls s m) st call.End ∙ ap (λ (x : Session). allowed x call.End) es

    registers_then : (side : Side) → Same (register (seen (with_session e ClearingNotices) ls s m) side) (told o (accepted o t call.End) side)
    registers_then Securities = subst (λ (x : Tally). Same s (told o x Securities)) (sym told_then) (st.registers Securities)
    registers_then Cash = subst (λ (x : Tally). Same m (told o x Cash)) (sym told_then) (st.registers Cash)
