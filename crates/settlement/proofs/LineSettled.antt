-- A line settlement goes on by the rules.
use Rattle.std.proofs.Common.{◌≡◌, ℕ, zero, suc, ◌-◌, ◌<◌, ◌≤◌, Bool, true, false, cond, ◌&&◌, ◌⊎◌, List, [], ◌∷◌, ◌++◌, map, length, get_or, set, is_ok, Some, None, Ok, Err, Result, sym, refl, ap, ◌∙◌, subst, inl, inr, arith}
use Rattle.std.proofs.lemmas.List.{get_or_past, set-get_or}
use Rattle.std.proofs.lemmas.Bool.{cases_Bool, lt-ltb, le-ltb}
use Rattle.book.specs.Data.{contents}
use Rattle.register.specs.declared.fault.RegisterFault.TheVariants.{Short}
use Rattle.register.specs.Rules.{Meaning, transfer_refused}
use Rattle.pairing.specs.declared.line.Line.{Line}
use Rattle.pairing.specs.Lines.{inside, buyer_agent}
use Rattle.delivery.specs.declared.fault.SideFault.{SideFault}
use Rattle.delivery.specs.Settling.{worth, line_postings, Settles, UnpaidStays}
use Rattle.delivery.proofs.Outcomes.{ok_err}
use Rattle.rules.specs.declared.side.Side.{Side}
use Rattle.rules.specs.declared.side.Side.TheVariants.{Securities, Cash}
use Rattle.rules.specs.declared.answer.Answer.TheVariants.{Contracts}
use Rattle.rules.specs.declared.fault.Cause.TheVariants.{NothingDue, Register}
use Rattle.rules.specs.Tally.{Opening, Tally, house, cash_asset, no_line, line, settle, told, accepted}
use Rattle.rules.specs.Verdict.{verdict, in_its_session, something_due, covers, first_failed}
use Rattle.rules.specs.Histories.{Entry, tally_of, over, Same, register, Stands}
use Rattle.rules.specs.Postings.{Posting, all_posted, NoneRefused}
use Rattle.rules.proofs.Kept.{anew}
use Rattle.rules.proofs.StayPaired.{length_kept}
use Rattle.rules.proofs.Totals.{set_map}
use Rattle.rules.proofs.WhereItStands.{covered_or_short}
use Rattle.state.specs.declared.state.State.{State}
use Rattle.state.specs.Seeing.{seen}
use Rattle.state.specs.Following.{answered}
use Rattle.state.proofs.FirstFailed.{by_check}
use Rattle.state.proofs.Standing.{due_judged, refused, nothing_due, accepted_posts, posted_told}
use Rattle.state.specs.Calls.{line_call}
use Rattle.state.proofs.Tables.{made_are, made_after}
use Rattle.state.proofs.KeptNets.{kept_nets}

-- Line 0 and lines past the last have nothing in.
none_in : (t : Tally) (i : ℕ) → (i ≡ 0) ⊎ (length t.lines < i) → inside (line t i) ≡ 0
none_in t i (inl e) = ap (λ (k : ℕ). inside (line t k)) e
none_in t i (inr past) = ap inside (get_or_past (no_line ∷ t.lines) i no_line (omega arith))

line_there : (t : Tally) (i : ℕ) → 0 < i → get_or t.lines (i - 1) no_line ≡ line t i
line_there t zero some = absurd (omega arith)
line_there t (suc j) some = let e : suc j - 1 ≡ j = omega arith in ap (λ (k : ℕ). get_or t.lines k no_line) e

module _ (o : Opening) (h : List Entry) (e : State) (made rest : List Line) (s m : Meaning) (st : Stands o h (seen e (made ++ rest) s m)) (many : e.count ≡ length made)
    (i : ℕ) (now' : in_its_session (tally_of o h) (line_call i) ≡ true) where
  none_due : inside (line (tally_of o h) i) ≡ 0 → Stands o ((line_call i, answered (line_call i) (Err NothingDue)) ∷ h) (seen e (made ++ rest) s m)
  none_due none = nothing_due o h (seen e (made ++ rest) s m) (line_call i) st now' (le-ltb 0 (inside (line (tally_of o h) i)) (omega arith))

  pub no_such_line : (i ≡ 0) ⊎ ((i ≡ 0 → ⊥) × (length made < i)) → Stands o ((line_call i, answered (line_call i) (Err NothingDue)) ∷ h) (seen e (made ++ rest) s m)
  no_such_line (inl z) = none_due (none_in (tally_of o h) i (inl z))
  no_such_line (inr p) = none_due (none_in (tally_of o h) i (inr (let l = ap length (made_are o h e made rest s m st many) in let q = p.1 in omega (arith, l, q))))

  module _ (place : ℕ) (some : i ≡ 0 → ⊥) (within : i ≤ length made) (at : place ≡ i - 1) where
    line_is : get_or made place no_line ≡ line (tally_of o h) i
    line_is = (let ls = made_are o h e made rest s m st many in λ k. get_or (ls k) (at k) no_line) ∙ line_there (tally_of o h) i (omega (arith, some))

    pub nothing_in : (n : ℕ) → n ≡ inside (get_or made place no_line) → n ≡ 0 → Stands o ((line_call i, answered (line_call i) (Err NothingDue)) ∷ h) (seen e (made ++ rest) s m)
    nothing_in n p z = none_due (sym (ap inside line_is) ∙ (sym p ∙ z))

    module _ (n : ℕ) (p : n ≡ inside (get_or made place no_line)) (in' : n ≡ 0 → ⊥) (x : Line) (s' m' : Meaning) (r : Result (Unit {0}) SideFault)
        (settles : Settles (contents e.book) (get_or made place no_line) x s s' m m' r) (stays : UnpaidStays (contents e.book) (get_or made place no_line) x s s' m m' r) where
      in_is : n ≡ inside (line (tally_of o h) i)
      in_is = p ∙ ap inside line_is

      is_due : something_due o (tally_of o h) (line_call i) ≡ true
      is_due = let q = in_is in lt-ltb 0 (inside (line (tally_of o h) i)) (omega (arith, q, in'))

      verdict_is : (cv : Bool) → covers o (tally_of o h) (line_call i) ≡ cv
          → verdict o (tally_of o h) (line_call i) ≡ by_check (first_failed ((cv, Register Cash Short) ∷ [])) (line_call i) (Contracts (inside (line (tally_of o h) i)))
      verdict_is cv c = due_judged o (tally_of o h) (line_call i) (first_failed ((cv, Register Cash Short) ∷ [])) now' is_due (ap (λ (y : Bool). first_failed ((y, Register Cash Short) ∷ [])) c)

      -- what the code asks of the registers is what the rules ask
      postings_are : line_postings (contents e.book) (get_or made place no_line) ≡ line_postings o.book (line (tally_of o h) i)
      postings_are = let b = st.book in let l = line_is in λ k. line_postings (b k) (l k)

      done : covers o (tally_of o h) (line_call i) ≡ true
          → (r ≡ Ok tt) × (x ≡ settle (get_or made place no_line)) × (s' ≡ all_posted Securities s (line_postings (contents e.book) (get_or made place no_line))) × (m' ≡ all_posted Cash m (line_postings (contents e.book) (get_or made place no_line)))
      done c =
          let v = ap is_ok (verdict_is true c) in
          settles
          (subst (λ (ps : List Posting). NoneRefused Securities s ps) (sym postings_are) (accepted_posts o h (seen e (made ++ rest) s m) (line_call i) st Securities v))
          (subst (λ (ps : List Posting). NoneRefused Cash m ps) (sym postings_are) (accepted_posts o h (seen e (made ++ rest) s m) (line_call i) st Cash v))

      short : covers o (tally_of o h) (line_call i) ≡ false → (r ≡ Err (record { side = Cash; fault = Short })) × (x ≡ get_or made place no_line) × (s' ≡ s) × (m' ≡ m)
      short c =
          let q = is_due in
          let b = st.book in
          let l = line_is in
          stays Short ((λ k. transfer_refused m (buyer_agent (b k) (l k)) house cash_asset (worth (b k) (l k)))
          ∙ (covered_or_short o h (seen e (made ++ rest) s m) (line_call i) Cash st (λ k. now' k && q k) refl ∙ ap (λ (y : Bool). cond y None (Some Short)) c))

      pub line_refused : (y : SideFault) → r ≡ Err y → Stands o ((line_call i, answered (line_call i) (Err (Register y.side y.fault))) ∷ h) (seen e (set made place x ++ rest) s' m')
      line_refused y er = elim (cases_Bool (covers o (tally_of o h) (line_call i))) [
        | inl c ↦ absurd (ok_err (done c).0 er)
        | inr c ↦
            let q = short c in
            let f = fault_of y (sym er ∙ q.0) in
            let l = ap (set made place) q.1 ∙ set-get_or made place no_line in
            let a = q.2 in
            let b = q.3 in
            rw (f, l, a, b) (refused o h (seen e (made ++ rest) s m) (line_call i) st (Register Cash Short) (verdict_is false c))
      ]
        where
          fault_of : (y : SideFault) → ◌≡◌ {A = Result (Unit {0}) SideFault} (Err y) (Err (record { side = Cash; fault = Short })) → y ≡ record { side = Cash; fault = Short }
          fault_of y q = cc

      line_stands : covers o (tally_of o h) (line_call i) ≡ true → Stands o ((line_call i, Ok (Contracts n)) ∷ h) (seen e (set made place x ++ rest) s' m')
      line_stands c = record {
        opens = st.opens;
        lived = (sym v, st.lived);
        book = st.book;
        session = st.session;
        lots = st.lots;
        notified = st.notified;
        count = st.count ∙ sym (length_kept after (tally_of o h).lines kept_lines);
        table = made_after o h e made rest s m st many (set made place x) (ap length lines_are ∙ length_kept after (tally_of o h).lines kept_lines) ∙ ap (λ (ls : List Line). over ls o.table) lines_are;
        draws = st.draws;
        nets = λ k. st.nets k ∙ sym (kept_nets o.book after (tally_of o h).lines k kept_lines);
        claims = st.claims;
        registers = both;
      }
        where
          after : List Line
          after = set (tally_of o h).lines (i - 1) (settle (line (tally_of o h) i))

          v : verdict o (tally_of o h) (line_call i) ≡ Ok (Contracts n)
          v = verdict_is true c ∙ ap (λ (k : ℕ). Ok (Contracts k)) (sym in_is)

          lines_are : set made place x ≡ set (tally_of o h).lines (i - 1) (settle (line (tally_of o h) i))
          lines_are =
              let ls = made_are o h e made rest s m st many in
              let l = (done c).1 ∙ ap settle line_is in
              λ k. set (ls k) (at k) (l k)

          lt : i - 1 < length (tally_of o h).lines
          lt = let l = ap length (made_are o h e made rest s m st many) in omega (arith, l, within, some)

          kept_lines : map anew (set (tally_of o h).lines (i - 1) (settle (line (tally_of o h) i))) ≡ map anew (tally_of o h).lines
          kept_lines = set_map anew (tally_of o h).lines (i - 1) (settle (line (tally_of o h) i)) no_line lt (sym (ap anew (line_there (tally_of o h) i (omega (arith, some)))))

          both : (which : Side) → Same (register (seen e (set made place x ++ rest) s' m') which) (told o (accepted o (tally_of o h) (line_call i)) which)
          both Securities = posted_told o h (seen e (made ++ rest) s m) (line_call i) st Securities s' (ap is_ok v) ((done c).2 ∙ ap (all_posted Securities s) postings_are)
          both Cash = posted_told o h (seen e (made ++ rest) s m) (line_call i) st Cash m' (ap is_ok v) ((done c).3 ∙ ap (all_posted Cash m) postings_are)

      pub line_accepted : r ≡ Ok tt → Stands o ((line_call i, Ok (Contracts n)) ∷ h) (seen e (set made place x ++ rest) s' m')
      line_accepted er = elim (cases_Bool (covers o (tally_of o h) (line_call i))) [
        | inl c ↦ line_stands c
        | inr c ↦ absurd (ok_err er (short c).0)
      ]
