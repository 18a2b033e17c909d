-- What every call needs: a refusal leaves an expiry standing, its lines stand in the first places of the table, and
-- registers that got the postings of a call stand as the tally tells after it.
use Rattle.std.proofs.Common.{◌≡◌, ℕ, ◌≤◌, true, false, List, ◌∷◌, ◌++◌, length, take, drop, is_ok, Some, Err, Option, sym, ap, ◌∙◌, subst, arith, length-append}
use Rattle.std.proofs.lemmas.List.{take_at, drop_at}
use Rattle.register.specs.Rules.{Meaning}
use Rattle.pairing.specs.declared.line.Line.{Line}
use Rattle.rules.specs.declared.side.Side.{Side}
use Rattle.rules.specs.declared.call.Call.{Call}
use Rattle.rules.specs.declared.fault.Cause.{Cause}
use Rattle.rules.specs.declared.fault.Cause.TheVariants.{WrongSession, NothingDue}
use Rattle.rules.specs.Tally.{Opening, Tally, told, accepted}
use Rattle.rules.specs.Verdict.{verdict, answer, checks, in_its_session, something_due, further, first_failed}
use Rattle.rules.specs.Histories.{Entry, tally_of, Same, Seen, register, over, Stands}
use Rattle.rules.specs.Postings.{all_posted, postings, NoneRefused}
use Rattle.rules.proofs.WhereItStands.{refused_stands, registers_follow}
use Rattle.state.specs.Following.{answered}
use Rattle.state.proofs.FirstFailed.{by_check, decided, passes, fails}

-- ---- the verdict by the first check that fails

pub judged : (o : Opening) (t : Tally) (c : Call) → verdict o t c ≡ by_check (first_failed (checks o t c)) c (answer o t c)
judged o t c = decided (checks o t c) c (answer o t c)

-- In its session, with something due, the other checks decide.
pub due_judged : (o : Opening) (t : Tally) (c : Call) (x : Option Cause) → in_its_session t c ≡ true → something_due o t c ≡ true → first_failed (further o t c) ≡ x
    → verdict o t c ≡ by_check x c (answer o t c)
due_judged o t c x s d e =
    judged o t c ∙ ap (λ (y : Option Cause). by_check y c (answer o t c))
    (passes {E = Cause} (in_its_session t c) WrongSession ((something_due o t c, NothingDue) ∷ further o t c) s
    ∙ (passes {E = Cause} (something_due o t c) NothingDue (further o t c) d ∙ e))

-- ---- refusals

module _ (o : Opening) (h : List Entry) (n : Seen) (c : Call) (st : Stands o h n) where
  pub refused : (cause : Cause) → verdict o (tally_of o h) c ≡ by_check (Some cause) c (answer o (tally_of o h) c) → Stands o ((c, answered c (Err cause)) ∷ h) n
  refused cause v = refused_stands o h n c (record { cause = cause; call = c }) st v

  pub wrong_session : in_its_session (tally_of o h) c ≡ false → Stands o ((c, answered c (Err WrongSession)) ∷ h) n
  wrong_session s = refused WrongSession (judged o (tally_of o h) c ∙ ap (λ (y : Option Cause). by_check y c (answer o (tally_of o h) c))
      (fails {E = Cause} (in_its_session (tally_of o h) c) WrongSession ((something_due o (tally_of o h) c, NothingDue) ∷ further o (tally_of o h) c) s))

  pub nothing_due : in_its_session (tally_of o h) c ≡ true → something_due o (tally_of o h) c ≡ false → Stands o ((c, answered c (Err NothingDue)) ∷ h) n
  nothing_due s d = refused NothingDue (judged o (tally_of o h) c ∙ ap (λ (y : Option Cause). by_check y c (answer o (tally_of o h) c))
      (passes {E = Cause} (in_its_session (tally_of o h) c) WrongSession ((something_due o (tally_of o h) c, NothingDue) ∷ further o (tally_of o h) c) s
      ∙ fails {E = Cause} (something_due o (tally_of o h) c) NothingDue (further o (tally_of o h) c) d))

  -- ---- the registers after the postings of an accepted call

  pub accepted_posts : (side : Side) → is_ok (verdict o (tally_of o h) c) ≡ true → NoneRefused side (register n side) (postings o (tally_of o h) c)
  accepted_posts side ok = (registers_follow o h n c st ok side).none_refused

  pub posted_told : (side : Side) (m : Meaning) → is_ok (verdict o (tally_of o h) c) ≡ true → m ≡ all_posted side (register n side) (postings o (tally_of o h) c)
      → Same m (told o (accepted o (tally_of o h) c) side)
  posted_told side m ok e =
      subst (λ (x : Meaning). Same x (told o (accepted o (tally_of o h) c) side)) (sym e) (registers_follow o h n c st ok side).as_then

-- ---- the lines in the first places of the table

module _ (o : Opening) (h : List Entry) (n : Seen) (st : Stands o h n) where
  pub made_lines : take n.count n.table ≡ (tally_of o h).lines
  made_lines =
      ap (take n.count) st.table
      ∙ take_at (tally_of o h).lines (drop (length (tally_of o h).lines) o.table) n.count (sym st.count)

  pub made_fit : n.count ≤ length n.table
  made_fit =
      let e = st.count in
      let f = ap length st.table ∙ length-append (tally_of o h).lines (drop (length (tally_of o h).lines) o.table) in
      omega (arith, e, f)

  -- other lines in the same places, and later places as they were
  pub made_over : (ls : List Line) → length ls ≡ length (tally_of o h).lines → ls ++ drop n.count n.table ≡ over ls o.table
  made_over ls e =
      ap (λ (x : List Line). ls ++ x)
      (ap (drop n.count) st.table
      ∙ (drop_at (tally_of o h).lines (drop (length (tally_of o h).lines) o.table) n.count (sym st.count)
      ∙ ap (λ (k : ℕ). drop k o.table) (sym e)))
