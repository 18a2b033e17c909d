-- Accepted credits name accounts and assets that their register has, and no issue passes the most.
use Rattle.std.proofs.Common.{◌≡◌, ℕ, ◌+◌, ◌<◌, ◌≤◌, Bool, true, false, cond, ◌&&◌, eqb, ltb, leb, List, [], ◌∷◌, is_ok, Some, None, Ok, Err, Option, sym, refl, ap, subst, inl, inr, arith}
use Rattle.std.specs.List.{AllByRecursion}
use Rattle.std.proofs.lemmas.List.Sums.{sum_by-cons}
use Rattle.std.proofs.lemmas.Bool.{false≢true, cases_Bool, leb-false, ltb-false, cases_eq, eq-eqb, ne_eqb}
use Rattle.register.specs.declared.fault.RegisterFault.{RegisterFault}
use Rattle.register.specs.declared.fault.RegisterFault.TheVariants.{UnknownAccount, UnknownAsset, ZeroAmount, OverIssue}
use Rattle.register.specs.Rules.{Meaning, most, credit_refused}
use Rattle.book.specs.Books.{Contents}
use Rattle.rules.specs.declared.session.Session.{Session}
use Rattle.rules.specs.declared.session.Session.TheVariants.{MembersNotices, ClearingNotices, Pairing, WholeDelivery, PartialDelivery, Closed}
use Rattle.rules.specs.declared.side.Side.{Side}
use Rattle.rules.specs.declared.side.Side.TheVariants.{Securities, Cash}
use Rattle.rules.specs.declared.call.Call.{Call}
use Rattle.rules.specs.declared.call.Call.TheVariants as call
use Rattle.rules.specs.Tally.{Opening, Tally, Credited, opened, same_side, issued, told, with_credit, ended, accepted}
use Rattle.rules.specs.Verdict.{Check, by_register, checks, answer, verdict}
use Rattle.rules.specs.Histories.{Entry, tally_of, Lived}
use Rattle.rules.proofs.Checks.{ok_checks}

-- ---- an accepted credit

some_none : {P : Type 0} {e : RegisterFault} → Some e ≡ None → P
some_none q = absurd (let z : ◌≡◌ {A = ℕ} 0 1 = cc in omega arith)

pub none_by : (side : Side) (r : Option RegisterFault) → AllByRecursion (λ (x : Check). x.0 ≡ true) (by_register side r) → r ≡ None
none_by side None a = refl
none_by side (Some e) a = absurd (false≢true a.0)

pub credit_known : (m : Meaning) (account asset amount : ℕ) → credit_refused m account asset amount ≡ None
    → (account < m.accounts) × (asset < m.assets) × (m.issue asset + amount ≤ most)
credit_known m account asset amount e = first (leb m.accounts account) refl e
  where
    third : (b : Bool) → ltb most (m.issue asset + amount) ≡ b → cond {A = Option RegisterFault} b (Some OverIssue) None ≡ None → m.issue asset + amount ≤ most
    third true q e = some_none e
    third false q e = ltb-false most (m.issue asset + amount) q

    zero_amount : (b : Bool) → cond {A = Option RegisterFault} b (Some ZeroAmount) (cond (ltb most (m.issue asset + amount)) (Some OverIssue) None) ≡ None → m.issue asset + amount ≤ most
    zero_amount true e = some_none e
    zero_amount false e = third (ltb most (m.issue asset + amount)) refl e

    second : (b : Bool) → leb m.assets asset ≡ b → cond {A = Option RegisterFault} b (Some UnknownAsset) (cond (eqb amount 0) (Some ZeroAmount) (cond (ltb most (m.issue asset + amount)) (Some OverIssue) None)) ≡ None
        → (asset < m.assets) × (m.issue asset + amount ≤ most)
    second true q e = some_none e
    second false q e = (leb-false m.assets asset q, zero_amount (eqb amount 0) e)

    first : (b : Bool) → leb m.accounts account ≡ b
        → cond {A = Option RegisterFault} b (Some UnknownAccount) (cond (leb m.assets asset) (Some UnknownAsset) (cond (eqb amount 0) (Some ZeroAmount) (cond (ltb most (m.issue asset + amount)) (Some OverIssue) None))) ≡ None
        → (account < m.accounts) × (asset < m.assets) × (m.issue asset + amount ≤ most)
    first true q e = some_none e
    first false q e = let r = second (leb m.assets asset) refl e in (leb-false m.accounts account q, r.0, r.1)

-- ---- along a history

pub record CreditsKnown (o : Opening) (t : Tally) : Type 0 where
  pub each : AllByRecursion (λ (x : Credited). (x.account < (opened o x.side).accounts) × (x.asset < (opened o x.side).assets)) t.credits
  pub issues : (side : Side) (a : ℕ) → (opened o side).issue a ≤ most → (opened o side).issue a + issued t side a ≤ most

-- The same side is the side.
apart : (side on : Side) → (same_side on side ≡ true) → on ≡ side
apart Securities Securities e = refl
apart Securities Cash e = absurd (false≢true e)
apart Cash Securities e = absurd (false≢true e)
apart Cash Cash e = refl

-- An accepted credit of this side names an account and an asset that the register has.
pub known_to : (o : Opening) (side : Side) (x : Credited) → same_side x.side side ≡ true
    → (x.account < (opened o x.side).accounts) × (x.asset < (opened o x.side).assets) → (x.account < (opened o side).accounts) × (x.asset < (opened o side).assets)
known_to o side x e k = subst (λ (s : Side). (x.account < (opened o s).accounts) × (x.asset < (opened o s).assets)) (apart side x.side e) k

-- With the same credits.
same_credits : (o : Opening) (t u : Tally) → u.credits ≡ t.credits → CreditsKnown o t → CreditsKnown o u
same_credits o t u e k = record {
  each = rw e k.each;
  issues = λ side a h. rw e (k.issues side a h);
}

ended_credits : (b : Contents) (t : Tally) (s : Session) → (ended b t s).credits ≡ t.credits
ended_credits b t MembersNotices = refl
ended_credits b t ClearingNotices = refl
ended_credits b t Pairing = refl
ended_credits b t WholeDelivery = refl
ended_credits b t PartialDelivery = refl
ended_credits b t Closed = refl

one_more : (o : Opening) (t : Tally) (x : Credited) → (opened o x.side).issue x.asset + issued t x.side x.asset + x.amount ≤ most
    → (side : Side) (a : ℕ) → (opened o side).issue a ≤ most → (opened o side).issue a + issued t side a ≤ most → (opened o side).issue a + issued (with_credit t x) side a ≤ most
one_more o t x room side a h k =
    let e = sum_by-cons (λ (y : Credited). cond (same_side y.side side && eqb y.asset a) y.amount 0) x t.credits in
    elim (cases_Bool (same_side x.side side)) [
      | inr f ↦ rw (e, f) (omega (arith, k))
      | inl f ↦ elim (cases_eq x.asset a) [
        | inr g ↦ rw (e, f, ne_eqb x.asset a g) (omega (arith, k))
        | inl g ↦
            let r : (opened o side).issue a + issued t side a + x.amount ≤ most =
            subst (λ (s : Side). (opened o s).issue a + issued t s a + x.amount ≤ most) (apart side x.side f)
            (subst (λ z. (opened o x.side).issue z + issued t x.side z + x.amount ≤ most) g room) in
            rw (e, f, eq-eqb x.asset a g) (omega (arith, r))
      ]
    ]

known_call : (o : Opening) (t : Tally) (c : Call) → is_ok (verdict o t c) ≡ true → CreditsKnown o t → CreditsKnown o (accepted o t c)
known_call o t (call.Notice speaker member number asset contracts) e k = same_credits o t (accepted o t (call.Notice speaker member number asset contracts)) refl k
known_call o t call.End e k = same_credits o t (accepted o t call.End) (ended_credits o.book t t.session) k
known_call o t call.Pair e k = same_credits o t (accepted o t call.Pair) refl k
known_call o t (call.Credit side account asset amount) e k =
    let q = ok_checks (checks o t (call.Credit side account asset amount)) (call.Credit side account asset amount) (answer o t (call.Credit side account asset amount)) e in
    let f = credit_known (told o t side) account asset amount (none_by side (credit_refused (told o t side) account asset amount) q.1.1.1) in
    record {
      each = ((f.0, f.1), k.each);
      issues = λ on a h. one_more o t (record { side = side; account = account; asset = asset; amount = amount }) f.2 on a h (k.issues on a h);
    }
known_call o t (call.Take member number asset) e k = same_credits o t (accepted o t (call.Take member number asset)) refl k
known_call o t (call.Draw agent) e k = same_credits o t (accepted o t (call.Draw agent)) refl k
known_call o t call.SettleWhole e k = same_credits o t (accepted o t call.SettleWhole) refl k
known_call o t (call.SettleLine i) e k = same_credits o t (accepted o t (call.SettleLine i)) refl k
known_call o t call.Close e k = same_credits o t (accepted o t call.Close) refl k

pub credits_known : (o : Opening) (h : List Entry) → Lived o h → CreditsKnown o (tally_of o h)
credits_known o [] l = record { each = tt; issues = λ side a h. omega (arith, h) }
credits_known o ((c, Ok a) ∷ h) l = known_call o (tally_of o h) c (sym (ap is_ok l.0)) (credits_known o h l.1)
credits_known o ((c, Err e) ∷ h) l = credits_known o h l.1
