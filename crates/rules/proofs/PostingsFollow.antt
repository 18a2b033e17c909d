-- The postings of every accepted call are accepted, and do what the tally tells.
use Rattle.std.proofs.Common.{◌≡◌, ℕ, zero, suc, ◌-◌, ◌<◌, ◌≤◌, true, ◌||◌, eqb, ltb, [], length, get_or, set, is_ok, refl, ap, inl, inr, arith}
use Rattle.std.specs.List.{AllByRecursion}
use Rattle.std.proofs.ByRecursion.{All-weaker}
use Rattle.std.proofs.lemmas.List.{get_or_past}
use Rattle.std.proofs.lemmas.Bool.{and_parts, eqb-true, ltb-true, leb-true, false≢true, cases_lt}
use Rattle.register.specs.Rules.{credit_refused}
use Rattle.book.specs.Books.{Contents, row_named, value}
use Rattle.pairing.specs.Lines.{lines_of, inside, outstanding, buyer_agent, debit}
use Rattle.rules.specs.declared.session.Session.{Session}
use Rattle.rules.specs.declared.session.Session.TheVariants.{MembersNotices, ClearingNotices, Pairing, WholeDelivery, PartialDelivery, Closed}
use Rattle.rules.specs.declared.side.Side.{Side}
use Rattle.rules.specs.declared.side.Side.TheVariants.{Securities, Cash}
use Rattle.rules.specs.declared.call.Call.{Call}
use Rattle.rules.specs.declared.call.Call.TheVariants as call
use Rattle.rules.specs.Numbers.{session_number}
use Rattle.rules.specs.Tally.{Opening, Tally, in_session, held, units, money, told, line, no_line, settle, with_lines, ended, accepted}
use Rattle.rules.specs.Verdict.{checks, answer, verdict}
use Rattle.rules.specs.Histories.{tally_of, Opens}
use Rattle.rules.specs.Postings.{postings, Followed, PostingsFollow}
use Rattle.rules.proofs.Totals.{value_zero}
use Rattle.rules.proofs.Kept.{Kept}
use Rattle.rules.proofs.KeptAlways.{kept, kept_call, full_lots, take_covered}
use Rattle.rules.proofs.MadeLines.{MadeLine, made_lines}
use Rattle.rules.proofs.Checks.{ok_checks}
use Rattle.rules.proofs.CreditsKnown.{none_by}
use Rattle.rules.proofs.FollowedEnds.{Untaken, end_follows, unmoved, credit_follows}
use Rattle.rules.proofs.FollowedTakes.{take_follows, draw_follows}
use Rattle.rules.proofs.FollowedLine.{for_line, line_follows}
use Rattle.rules.proofs.FollowedSettlements.{close_follows, whole_follows}

-- ---- ends

ended_lines : (b : Contents) (t : Tally) (s : Session) → (ended b t s).lines ≡ t.lines
ended_lines b t MembersNotices = refl
ended_lines b t ClearingNotices = refl
ended_lines b t Pairing = refl
ended_lines b t WholeDelivery = refl
ended_lines b t PartialDelivery = refl
ended_lines b t Closed = refl

ended_credits : (b : Contents) (t : Tally) (s : Session) → (ended b t s).credits ≡ t.credits
ended_credits b t MembersNotices = refl
ended_credits b t ClearingNotices = refl
ended_credits b t Pairing = refl
ended_credits b t WholeDelivery = refl
ended_credits b t PartialDelivery = refl
ended_credits b t Closed = refl

-- After an end no draw is held: there was none before session 4, and its end gives them back.
ended_draws : (o : Opening) (t : Tally) (s : Session) → t.session ≡ s → (eqb (session_number s) 1 || (eqb (session_number s) 2 || eqb (session_number s) 4)) ≡ true → Kept o t → (ended o.book t s).draws ≡ []
ended_draws o t MembersNotices e h k = k.draws_before (let z = ap session_number e in omega (arith, z))
ended_draws o t ClearingNotices e h k = k.draws_before (let z = ap session_number e in omega (arith, z))
ended_draws o t Pairing e h k = absurd (false≢true h)
ended_draws o t WholeDelivery e h k = refl
ended_draws o t PartialDelivery e h k = absurd (false≢true h)
ended_draws o t Closed e h k = absurd (false≢true h)

-- ---- one line

line_call : (o : Opening) (t : Tally) (i : ℕ) → Opens o → Kept o t → Kept o (with_lines t t.session (set t.lines (i - 1) (settle (line t i))) t.draws) → 0 < inside (line t i)
    → value o.book (line t i).asset (inside (line t i)) ≤ money o t (buyer_agent o.book (line t i)) 0 → (side : Side)
    → Followed side (told o t side) (for_line o.book (line t i)) (told o (with_lines t t.session (set t.lines (i - 1) (settle (line t i))) t.draws) side)
line_call o t zero p s v some le side = absurd (omega arith)
line_call o t (suc j) p s v some le side = elim (cases_lt j (length t.lines)) [
  | inl lt ↦
      let e : suc j - 1 ≡ j = omega arith in
      let v' : Kept o (with_lines t t.session (set t.lines j (settle (get_or t.lines j no_line))) t.draws) = rw e at v in
      rw e (line_follows o t j lt p s v' some le side)
  | inr past ↦ let z : inside (get_or t.lines j no_line) ≡ 0 = ap inside (get_or_past t.lines j no_line past) in absurd (omega (arith, z, some))
]

-- ---- every call

follows : (o : Opening) (t : Tally) (c : Call) → Opens o → Kept o t → is_ok (verdict o t c) ≡ true → (side : Side) → Followed side (told o t side) (postings o t c) (told o (accepted o t c) side)
follows o t (call.Notice speaker member number asset contracts) p k e Securities = record { none_refused = tt; as_then = record { accounts = refl; assets = refl; balance = λ _ _. refl; issue = λ _. refl } }
follows o t (call.Notice speaker member number asset contracts) p k e Cash = record { none_refused = tt; as_then = record { accounts = refl; assets = refl; balance = λ _ _. refl; issue = λ _. refl } }
follows o t call.End p k e side =
    let q = ok_checks (checks o t call.End) call.End (answer o t call.End) e in
    end_follows o t (accepted o t call.End) (ended_lines o.book t t.session) (ended_credits o.book t t.session) (ended_draws o t t.session refl q.0 k) p k (kept_call o t call.End p.book e k) side
follows o t call.Pair p k e side =
    let q = ok_checks (checks o t call.Pair) call.Pair (answer o t call.Pair) e in
    let s3 = eqb-true (session_number t.session) 3 q.0 in
    let made = made_lines o.book p.book t.lots (full_lots o t k (omega (arith, s3))) in
    let none : AllByRecursion Untaken t.lines = rw (k.no_lines (omega (arith, s3))) tt in
    unmoved o t (accepted o t call.Pair) none
    (All-weaker (MadeLine o.book) Untaken (λ l w. (w.taken, w.settled, w.returned)) (lines_of o.book t.lots) made.each) value_zero refl refl p k (kept_call o t call.Pair p.book e k) side
follows o t (call.Credit on account asset amount) p k e side =
    let q = ok_checks (checks o t (call.Credit on account asset amount)) (call.Credit on account asset amount) (answer o t (call.Credit on account asset amount)) e in
    credit_follows o t (record { side = on; account = account; asset = asset; amount = amount }) p k (kept_call o t (call.Credit on account asset amount) p.book e k)
    (none_by on (credit_refused (told o t on) account asset amount) q.1.1.1) side
follows o t (call.Take member number asset) p k e side =
    let q = ok_checks (checks o t (call.Take member number asset)) (call.Take member number asset) (answer o t (call.Take member number asset)) e in
    let row : ℕ = row_named o.book member number in
    take_follows o t row asset p k (kept_call o t (call.Take member number asset) p.book e k) (ltb-true 0 (outstanding t.lines row asset) q.1.0) q.1.1.0
    (take_covered (in_session PartialDelivery t) o.book.terms.multiplier (outstanding t.lines row asset) (units o t row asset) q.1.1.0) side
follows o t (call.Draw agent) p k e side =
    let q = ok_checks (checks o t (call.Draw agent)) (call.Draw agent) (answer o t (call.Draw agent)) e in
    let w = and_parts (ltb 0 (debit o.book t.lines agent)) (eqb (held t agent) 0) q.1.0 in
    draw_follows o t agent p k (kept_call o t (call.Draw agent) p.book e k) (ltb-true 0 (debit o.book t.lines agent) w.0) (leb-true (debit o.book t.lines agent) (money o t agent 0) q.1.1.0) side
follows o t call.SettleWhole p k e side = whole_follows o t p k (kept_call o t call.SettleWhole p.book e k) e side
follows o t (call.SettleLine i) p k e side =
    let q = ok_checks (checks o t (call.SettleLine i)) (call.SettleLine i) (answer o t (call.SettleLine i)) e in
    line_call o t i p k (kept_call o t (call.SettleLine i) p.book e k) (ltb-true 0 (inside (line t i)) q.1.0)
    (leb-true (value o.book (line t i).asset (inside (line t i))) (money o t (buyer_agent o.book (line t i)) 0) q.1.1.0) side
follows o t call.Close p k e side = close_follows o t p k (kept_call o t call.Close p.book e k) side

pub postings_follow : PostingsFollow
postings_follow o h c p l e side = follows o (tally_of o h) c p (kept o h p l) e side
