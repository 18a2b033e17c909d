-- The invariant holds after every lived history.
use Rattle.std.proofs.Common.{◌≡◌, ℕ, zero, suc, ◌-◌, ◌*◌, ◌/◌, ◌<◌, ◌≤◌, min, Bool, true, false, cond, ◌||◌, eqb, ltb, leb, List, [], ◌∷◌, length, get_or, set, is_ok, Ok, Err, sym, refl, ap, inl, inr, mul-le-mul_left, arith}
use native.Mathlib.Nat.{mul-div-le}
use Rattle.std.proofs.ByRecursion.{All-weaker}
use Rattle.std.proofs.lemmas.Bool.{not-true, or_cases, and_parts, ltb-true, ltb-false, leb-true, eqb-true, cases_lt}
use Rattle.std.proofs.lemmas.List.{get_or_past}
use Rattle.rules.specs.declared.session.Session.{Session}
use Rattle.rules.specs.declared.session.Session.TheVariants.{MembersNotices, ClearingNotices, Pairing, WholeDelivery, PartialDelivery, Closed}
use Rattle.rules.specs.declared.call.Call.{Call}
use Rattle.rules.specs.declared.call.Call.TheVariants as call
use Rattle.book.specs.Books.{Contents, Sound, row_named, value}
use Rattle.pairing.specs.Lines.{outstanding, open_on, inside, debit, buyer_agent}
use Rattle.rules.specs.Numbers.{session_number}
use Rattle.rules.specs.Tally.{Opening, Tally, in_session, held, units, money, takes, line, no_line, settle, ended, accepted, with_lines}
use Rattle.rules.specs.Verdict.{checks, answer, verdict}
use Rattle.rules.proofs.Checks.{ok_checks, not_any}
use Rattle.rules.specs.Histories.{Entry, Lived, Opens, tally_of}
use Rattle.rules.proofs.Kept.{Kept, Sane, FullLots}
use Rattle.rules.proofs.MadeLines.{made_lines}
use Rattle.rules.proofs.Balances.{rows_all, agent_0}
use Rattle.rules.proofs.KeptByCredits.{kept_first, kept_credit}
use Rattle.rules.proofs.KeptByTakes.{kept_take, kept_draw}
use Rattle.rules.proofs.KeptBySettlements.{kept_line, kept_close, kept_whole}
use Rattle.rules.proofs.KeptByNotices.{kept_notice, kept_end_1, kept_end_2, kept_end_4, kept_pair}

pub take_covered : (f : Bool) (m due u : ℕ) → leb (m * cond f 1 due) u ≡ true → m * cond f (min due (u / m)) due ≤ u
take_covered true m due u e =
    let a : m * min due (u / m) ≤ m * (u / m) = mul-le-mul_left m (omega arith) in
    let b = mul-div-le u m in omega arith
take_covered false m due u e = leb-true (m * due) u e

kept_ended : (o : Opening) (t : Tally) (s : Session) → Sound o.book → t.session ≡ s → (eqb (session_number s) 1 || (eqb (session_number s) 2 || eqb (session_number s) 4)) ≡ true → Kept o t → Kept o (ended o.book t s)
kept_ended o t MembersNotices d e h k = kept_end_1 o t (ap session_number e) k
kept_ended o t ClearingNotices d e h k = kept_end_2 o t d (ap session_number e) k
kept_ended o t Pairing d e h k = k
kept_ended o t WholeDelivery d e h k = kept_end_4 o t (ap session_number e) k
kept_ended o t PartialDelivery d e h k = k
kept_ended o t Closed d e h k = k

in_4_or_5 : (n : ℕ) → (eqb n 4 || eqb n 5) ≡ true → (4 ≤ n) × (n ≤ 5)
in_4_or_5 n e = elim (or_cases (eqb n 4) (eqb n 5) e) [ inl h ↦ let q = eqb-true n 4 h in (omega arith, omega arith) | inr h ↦ let q = eqb-true n 5 h in (omega arith, omega arith) ]

in_1_or_2 : (n : ℕ) → (eqb n 1 || eqb n 2) ≡ true → n ≤ 2
in_1_or_2 n e = elim (or_cases (eqb n 1) (eqb n 2) e) [ inl h ↦ let q = eqb-true n 1 h in omega arith | inr h ↦ let q = eqb-true n 2 h in omega arith ]

-- an agent with a debit is not 0
some_agent : (o : Opening) (t : Tally) (agent : ℕ) → Sound o.book → Kept o t → 0 < debit o.book t.lines agent → 0 < agent
some_agent o t zero d k p = let z = (agent_0 o.book (λ l. l.contracts) t.lines d k.lines).0 in absurd (omega (arith, z, p))
some_agent o t (suc n) d k p = omega arith

call_line : (o : Opening) (t : Tally) (i : ℕ) → session_number t.session ≡ 5 → 0 < inside (line t i)
    → value o.book (line t i).asset (inside (line t i)) ≤ money o t (buyer_agent o.book (line t i)) 0 → Kept o t
    → Kept o (with_lines t t.session (set t.lines (i - 1) (settle (line t i))) t.draws)
call_line o t zero s5 due cov k = absurd (omega arith)
call_line o t (suc j) s5 due cov k = elim (cases_lt j (length t.lines)) [
  | inl lt ↦ let e : suc j - 1 ≡ j = omega arith in rw e (kept_line o t j s5 lt cov k)
  | inr past ↦ let z : inside (get_or t.lines j no_line) ≡ 0 = ap inside (get_or_past t.lines j no_line past) in absurd (omega (arith, z, due))
]

pub full_lots : (o : Opening) (t : Tally) → Kept o t → 3 ≤ session_number t.session → FullLots o.book t.lots
full_lots o t k s3 = record { volumes = k.lots_full s3; assets = k.lots_assets }

-- one accepted call
pub kept_call : (o : Opening) (t : Tally) (c : Call) → Sound o.book → is_ok (verdict o t c) ≡ true → Kept o t → Kept o (accepted o t c)
kept_call o t (call.Notice speaker member number asset contracts) d e k =
    let q = ok_checks (checks o t (call.Notice speaker member number asset contracts)) (call.Notice speaker member number asset contracts) (answer o t (call.Notice speaker member number asset contracts)) e in
    let w = and_parts _ _ q.1.1.1.1.1.0 in
    kept_notice o t (record { row = row_named o.book member number; asset = asset; contracts = contracts }) (in_1_or_2 (session_number t.session) q.0) (ltb-true asset (length o.book.assets) q.1.1.1.1.0) q.1.1.0 (leb-true _ _ w.1) k
kept_call o t call.End d e k =
    let q = ok_checks (checks o t call.End) call.End (answer o t call.End) e in
    kept_ended o t t.session d refl q.0 k
kept_call o t call.Pair d e k =
    let q = ok_checks (checks o t call.Pair) call.Pair (answer o t call.Pair) e in
    kept_pair o t (eqb-true (session_number t.session) 3 q.0) (made_lines o.book d t.lots (full_lots o t k (let z = eqb-true (session_number t.session) 3 q.0 in omega (arith, z)))) k
kept_call o t (call.Credit side account asset amount) d e k =
    let q = ok_checks (checks o t (call.Credit side account asset amount)) (call.Credit side account asset amount) (answer o t (call.Credit side account asset amount)) e in
    kept_credit o t (record { side = side; account = account; asset = asset; amount = amount }) (ltb-true 0 account q.1.1.0) k
kept_call o t (call.Take member number asset) d e k =
    let q = ok_checks (checks o t (call.Take member number asset)) (call.Take member number asset) (answer o t (call.Take member number asset)) e in
    let row : ℕ = row_named o.book member number in
    let w = in_4_or_5 (session_number t.session) q.0 in
    kept_take o t row asset (takes o t row asset) w.0 w.1
    (take_covered (in_session PartialDelivery t) o.book.terms.multiplier (outstanding t.lines row asset) (units o t row asset) q.1.1.0) k
kept_call o t (call.Draw agent) d e k =
    let q = ok_checks (checks o t (call.Draw agent)) (call.Draw agent) (answer o t (call.Draw agent)) e in
    let w = and_parts (ltb 0 (debit o.book t.lines agent)) (eqb (held t agent) 0) q.1.0 in
    kept_draw o t agent (eqb-true (session_number t.session) 4 q.0) (some_agent o t agent d k (ltb-true 0 (debit o.book t.lines agent) w.0)) (ltb-true 0 (debit o.book t.lines agent) w.0) (eqb-true (held t agent) 0 w.1)
    (leb-true (debit o.book t.lines agent) (money o t agent 0) q.1.1.0) k
kept_call o t call.SettleWhole d e k =
    let b : Contents = o.book in
    let q = ok_checks (checks o t call.SettleWhole) call.SettleWhole (answer o t call.SettleWhole) e in
    let w = and_parts _ _ q.1.1.0 in
    let taken = not_any (λ l. ltb 0 (open_on l)) (λ l. l.contracts ≤ l.taken) (λ l f. let z = ltb-false 0 (open_on l) f in omega arith) t.lines (not-true _ w.0) in
    let each = not_any (λ h. ltb (held t h.agent) (debit b t.lines h.agent)) (λ h. debit b t.lines h.agent ≤ held t h.agent) (λ h f. ltb-false (held t h.agent) (debit b t.lines h.agent) f) b.holders (not-true _ w.1) in
    let drawn = All-weaker (Sane b) (λ l. debit b t.lines (buyer_agent b l) ≤ held t (buyer_agent b l)) (λ l v. rows_all (λ h. debit b t.lines h.agent ≤ held t h.agent) b each l.buyer v.buyer) t.lines k.lines in
    kept_whole o t (eqb-true (session_number t.session) 4 q.0) taken drawn k
kept_call o t (call.SettleLine i) d e k =
    let q = ok_checks (checks o t (call.SettleLine i)) (call.SettleLine i) (answer o t (call.SettleLine i)) e in
    call_line o t i (eqb-true (session_number t.session) 5 q.0) (ltb-true 0 (inside (line t i)) q.1.0) (leb-true _ _ q.1.1.0) k
kept_call o t call.Close d e k =
    let q = ok_checks (checks o t call.Close) call.Close (answer o t call.Close) e in
    kept_close o t (eqb-true (session_number t.session) 5 q.0) k

pub kept : (o : Opening) (h : List Entry) → Opens o → Lived o h → Kept o (tally_of o h)
kept o [] p l = kept_first o
kept o ((c, Ok a) ∷ h) p l = kept_call o (tally_of o h) c p.book (sym (ap is_ok l.0)) (kept o h p l.1)
kept o ((c, Err e) ∷ h) p l = kept o h p l.1
