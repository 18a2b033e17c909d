-- A trial of the definitions: coverage follows from the answers alone.
use Rattle.std.proofs.Common.{◌≡◌, Bool, true, false, ◌&&◌, List, [], ◌∷◌, is_ok, Err, Result, sym, refl, subst}
use Rattle.rules.specs.declared.call.Call.{Call}
use Rattle.rules.specs.declared.call.Call.TheVariants as call
use Rattle.rules.specs.declared.answer.Answer.{Answer}
use Rattle.rules.specs.declared.side.Side.TheVariants.{Securities, Cash}
use Rattle.register.specs.declared.fault.RegisterFault.TheVariants.{Short}
use Rattle.rules.specs.declared.fault.Cause.{Cause}
use Rattle.rules.specs.declared.fault.Cause.TheVariants.{WrongSession, NothingDue, Register}
use Rattle.rules.specs.declared.fault.Fault.{Fault}
use Rattle.rules.specs.Tally.{Opening, Tally}
use Rattle.rules.specs.Verdict.{verdict, decide, in_its_session, something_due, covers, answer}
use Rattle.rules.specs.Histories.{Entry, Lived, tally_of}
use Rattle.rules.specs.Law.{AcceptedOrShort, Covered, paying_side}

abbrev IsFalse : Bool → Type 0
IsFalse true = ⊥
IsFalse false = Unit {0}

not_both : false ≡ true → ⊥
not_both e = subst IsFalse e tt

three : (s d k : Bool) (cause : Cause) (c : Call) (a : Answer) → (s && d) ≡ true
    → (k ≡ true → is_ok (decide ((s, WrongSession) ∷ (d, NothingDue) ∷ (k, cause) ∷ []) c a) ≡ true)
    × (k ≡ false → decide ((s, WrongSession) ∷ (d, NothingDue) ∷ (k, cause) ∷ []) c a ≡ Err (record { cause = cause; call = c }))
three true true true cause c a h = (λ _. refl, λ e. absurd (not_both (sym e)))
three true true false cause c a h = (λ e. absurd (not_both e), λ _. refl)
three true false k cause c a h = absurd (not_both h)
three false true k cause c a h = absurd (not_both h)
three false false k cause c a h = absurd (not_both h)

by_verdict : (o : Opening) (t : Tally) (c : Call) → AcceptedOrShort o t c (verdict o t c) (paying_side c)
by_verdict o t (call.Notice speaker member number asset contracts) = tt
by_verdict o t call.End = tt
by_verdict o t call.Pair = tt
by_verdict o t (call.Credit side account asset amount) = tt
by_verdict o t (call.Take m n a) = three (in_its_session t (call.Take m n a)) (something_due o t (call.Take m n a)) (covers o t (call.Take m n a)) (Register Securities Short) (call.Take m n a) (answer o t (call.Take m n a))
by_verdict o t (call.Draw a) = three (in_its_session t (call.Draw a)) (something_due o t (call.Draw a)) (covers o t (call.Draw a)) (Register Cash Short) (call.Draw a) (answer o t (call.Draw a))
by_verdict o t call.SettleWhole = tt
by_verdict o t (call.SettleLine i) = three (in_its_session t (call.SettleLine i)) (something_due o t (call.SettleLine i)) (covers o t (call.SettleLine i)) (Register Cash Short) (call.SettleLine i) (answer o t (call.SettleLine i))
by_verdict o t call.Close = tt

pub lived_covered : (o : Opening) (h : List Entry) → Lived o h → Covered o h
lived_covered o [] l = tt
lived_covered o ((c, r) ∷ h) l =
    let P : Result Answer Fault → Type 0 = λ q. AcceptedOrShort o (tally_of o h) c q (paying_side c) in
    (subst P (sym l.0) (by_verdict o (tally_of o h) c), lived_covered o h l.1)
