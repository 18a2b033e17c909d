-- A take goes on by the rules.
use Rattle.std.proofs.Common.{◌≡◌, ℕ, ◌*◌, ◌/◌, ◌<◌, ◌≤◌, min, Bool, true, false, cond, ◌&&◌, ◌||◌, eqb, List, [], ◌∷◌, ◌++◌, map, length, is_ok, Some, None, Ok, Err, Result, sym, refl, ap, ◌∙◌, inl, inr, mul-le-mul, one-mul, arith}
use Rattle.std.proofs.lemmas.Bool.{false≢true, cases_Bool, cases_eq, eq-eqb, ne_eqb, lt-ltb, le-ltb}
use Rattle.book.specs.Books.{Contents, row_named}
use Rattle.book.specs.Data.{contents}
use Rattle.register.specs.declared.fault.RegisterFault.TheVariants.{Short}
use Rattle.register.specs.Rules.{Meaning, transfer_refused, transfer_answer, after_transfer, unless_refused}
use Rattle.pairing.specs.declared.line.Line.{Line}
use Rattle.pairing.specs.Lines.{outstanding}
use Rattle.delivery.specs.declared.fault.SideFault.{SideFault}
use Rattle.delivery.specs.Sides.{on_side}
use Rattle.delivery.specs.Widths.{most_32}
use Rattle.rules.specs.declared.session.Session.{Session}
use Rattle.rules.specs.declared.session.Session.TheVariants.{MembersNotices, ClearingNotices, Pairing, WholeDelivery, PartialDelivery, Closed}
use Rattle.rules.specs.declared.side.Side.{Side}
use Rattle.rules.specs.declared.side.Side.TheVariants.{Securities, Cash}
use Rattle.rules.specs.declared.answer.Answer.{Answer}
use Rattle.rules.specs.declared.answer.Answer.TheVariants.{Contracts}
use Rattle.rules.specs.declared.fault.Cause.{Cause}
use Rattle.rules.specs.declared.fault.Cause.TheVariants.{NothingDue, Register}
use Rattle.rules.specs.Numbers.{session_number}
use Rattle.rules.specs.Tally.{Opening, house, in_session, units, takes, take_on, told, accepted}
use Rattle.rules.specs.Verdict.{verdict, in_its_session, something_due, covers, first_failed}
use Rattle.rules.specs.Histories.{Entry, tally_of, over, Same, register, Stands}
use Rattle.rules.specs.Postings.{asked}
use Rattle.rules.proofs.Kept.{anew}
use Rattle.rules.proofs.Bounds.{sums_in_range}
use Rattle.rules.proofs.StayPaired.{length_kept}
use Rattle.rules.proofs.Totals.{take_map}
use Rattle.rules.proofs.FollowedTakes.{some_taken}
use Rattle.rules.proofs.WhereItStands.{covered_or_short}
use Rattle.state.specs.declared.state.State.{State}
use Rattle.state.specs.Seeing.{seen}
use Rattle.state.specs.Following.{answered}
use Rattle.state.proofs.FirstFailed.{by_check}
use Rattle.state.proofs.Standing.{due_judged, refused, nothing_due, posted_told}
use Rattle.state.specs.Calls.{take_call}
use Rattle.intake.specs.Taking.{asked_for}
use Rattle.state.proofs.Tables.{made_are, made_after}
use Rattle.state.proofs.KeptNets.{kept_nets}

-- What a register's answer to the move makes of the call.
abbrev pub took : ℕ → Result (Unit {0}) SideFault → Result Answer Cause
took n (Ok u) = Ok (Contracts n)
took n (Err x) = Err (Register x.side x.fault)

-- What is asked for, in the two sessions of takes.
some_asked : (x : Session) (due covered : ℕ) → 0 < due → (eqb (session_number x) 4 || eqb (session_number x) 5) ≡ true
    → asked_for x due covered ≡ cond (eqb (cond (eqb (session_number x) 5) (min due covered) due) 0) 1 (cond (eqb (session_number x) 5) (min due covered) due)
some_asked MembersNotices due covered p h = absurd (false≢true h)
some_asked ClearingNotices due covered p h = absurd (false≢true h)
some_asked Pairing due covered p h = absurd (false≢true h)
some_asked WholeDelivery due covered p h = rw (ne_eqb due 0 (λ e. omega arith)) refl
some_asked PartialDelivery due covered p h = elim (cases_eq (min due covered) 0) [
  | inl e ↦ rw (eq-eqb (min due covered) 0 e) (omega arith)
  | inr e ↦ rw (ne_eqb (min due covered) 0 e) (omega arith)
]
some_asked Closed due covered p h = absurd (false≢true h)

module _ (o : Opening) (h : List Entry) (e : State) (made rest : List Line) (s m : Meaning) (st : Stands o h (seen e (made ++ rest) s m)) (many : e.count ≡ length made)
    (member number asset row : ℕ) (at : row ≡ row_named (contents e.book) member number) where
  here : row ≡ row_named o.book member number
  here = at ∙ ap (λ (b : Contents). row_named b member number) st.book

  same_due : outstanding made row asset ≡ outstanding (tally_of o h).lines (row_named o.book member number) asset
  same_due = ap (λ (ls : List Line). outstanding ls row asset) (made_are o h e made rest s m st many) ∙ ap (λ (k : ℕ). outstanding (tally_of o h).lines k asset) here

  few_due : outstanding (tally_of o h).lines (row_named o.book member number) asset ≤ 1000000000
  few_due =
      let q = (sums_in_range o h st.opens st.lived).outstanding_units (row_named o.book member number) asset in
      let p = mul-le-mul st.opens.book.multiplier.0 (let z : outstanding (tally_of o h).lines (row_named o.book member number) asset ≤ outstanding (tally_of o h).lines (row_named o.book member number) asset = omega arith in z) in
      let w = one-mul (outstanding (tally_of o h).lines (row_named o.book member number) asset) in
      omega (arith, p, q, w)

  due_is : (due : ℕ) → due ≡ min (outstanding made row asset) most_32 → due ≡ outstanding (tally_of o h).lines (row_named o.book member number) asset
  due_is due p = let q = same_due in let f = few_due in omega (arith, p, q, f)

  pub take_not_due : (due : ℕ) → due ≡ min (outstanding made row asset) most_32 → due ≡ 0 → in_its_session (tally_of o h) (take_call member number asset) ≡ true
      → Stands o ((take_call member number asset, answered (take_call member number asset) (Err NothingDue)) ∷ h) (seen e (made ++ rest) s m)
  take_not_due due p z now' =
      nothing_due o h (seen e (made ++ rest) s m) (take_call member number asset) st now' (let q = due_is due p in le-ltb 0 (outstanding (tally_of o h).lines (row_named o.book member number) asset) (omega (arith, q, z)))

  -- ---- a due take

  module _ (due mult n : ℕ) (p : due ≡ min (outstanding made row asset) most_32) (some : 0 < due) (units_each : mult ≡ (contents e.book).terms.multiplier)
      (asks : n ≡ asked_for e.session due (s.balance row asset / mult)) (now' : in_its_session (tally_of o h) (take_call member number asset) ≡ true) where
    is_due : something_due o (tally_of o h) (take_call member number asset) ≡ true
    is_due = let q = due_is due p in lt-ltb 0 (outstanding (tally_of o h).lines (row_named o.book member number) asset) (omega (arith, q, some))

    mult_is : mult ≡ o.book.terms.multiplier
    mult_is = units_each ∙ ap (λ (b : Contents). b.terms.multiplier) st.book

    balance_is : s.balance row asset ≡ units o (tally_of o h) (row_named o.book member number) asset
    balance_is = (st.registers Securities).balance row asset ∙ ap (λ (k : ℕ). units o (tally_of o h) k asset) here

    asked_is : n ≡ asked o (tally_of o h) (row_named o.book member number) asset
    asked_is =
        let d = due_is due p in
        let x = st.session in
        let b = balance_is in
        let k = mult_is in
        asks
        ∙ ((λ i. asked_for (x i) (d i) (b i / k i))
        ∙ some_asked (tally_of o h).session (outstanding (tally_of o h).lines (row_named o.book member number) asset)
        (units o (tally_of o h) (row_named o.book member number) asset / o.book.terms.multiplier) (omega (arith, d, some)) now')

    -- The register's refusal is the rules': short where it is not covered.
    refusal_is : transfer_refused s row house asset (mult * n) ≡ cond (covers o (tally_of o h) (take_call member number asset)) None (Some Short)
    refusal_is =
        let k = mult_is in
        let a = asked_is in
        let r = here in
        let q = is_due in
        (λ i. transfer_refused s (r i) house asset (k i * a i))
        ∙ covered_or_short o h (seen e (made ++ rest) s m) (take_call member number asset) Securities st (λ i. now' i && q i) refl

    verdict_is : (cv : Bool) → covers o (tally_of o h) (take_call member number asset) ≡ cv
        → verdict o (tally_of o h) (take_call member number asset)
        ≡ by_check (first_failed ((cv, Register Securities Short) ∷ [])) (take_call member number asset) (Contracts (takes o (tally_of o h) (row_named o.book member number) asset))
    verdict_is cv c = due_judged o (tally_of o h) (take_call member number asset) (first_failed ((cv, Register Securities Short) ∷ [])) now' is_due
        (ap (λ (x : Bool). first_failed ((x, Register Securities Short) ∷ [])) c)

    -- An accepted take takes what it asks for.
    takes_are : covers o (tally_of o h) (take_call member number asset) ≡ true → n ≡ takes o (tally_of o h) (row_named o.book member number) asset
    takes_are c =
        let d = due_is due p in
        let w = (some_taken (in_session PartialDelivery (tally_of o h)) o.book.terms.multiplier (outstanding (tally_of o h).lines (row_named o.book member number) asset)
        (units o (tally_of o h) (row_named o.book member number) asset) st.opens.book.multiplier.0 (omega (arith, d, some)) c).0 in
        asked_is ∙ rw (ne_eqb (takes o (tally_of o h) (row_named o.book member number) asset) 0 (λ z. omega (arith, z, w))) refl

    lines_are : covers o (tally_of o h) (take_call member number asset) ≡ true
        → take_on row asset n made ≡ take_on (row_named o.book member number) asset (takes o (tally_of o h) (row_named o.book member number) asset) (tally_of o h).lines
    lines_are c =
        let r = here in
        let t = takes_are c in
        let ls = made_are o h e made rest s m st many in
        λ i. take_on (r i) asset (t i) (ls i)

    taken_stands : covers o (tally_of o h) (take_call member number asset) ≡ true
        → Stands o ((take_call member number asset, Ok (Contracts n)) ∷ h) (seen e (take_on row asset n made ++ rest) (after_transfer s row house asset (mult * n)) m)
    taken_stands c = record {
      opens = st.opens;
      lived = (sym v, st.lived);
      book = st.book;
      session = st.session;
      lots = st.lots;
      notified = st.notified;
      count = st.count ∙ sym (length_kept after (tally_of o h).lines kept_lines);
      table = made_after o h e made rest s m st many (take_on row asset n made) (ap length (lines_are c) ∙ length_kept after (tally_of o h).lines kept_lines) ∙ ap (λ (x : List Line). over x o.table) (lines_are c);
      draws = st.draws;
      nets = λ k. st.nets k ∙ sym (kept_nets o.book after (tally_of o h).lines k kept_lines);
      claims = st.claims;
      registers = both;
    }
      where
        after : List Line
        after = take_on (row_named o.book member number) asset (takes o (tally_of o h) (row_named o.book member number) asset) (tally_of o h).lines

        kept_lines : map anew (take_on (row_named o.book member number) asset (takes o (tally_of o h) (row_named o.book member number) asset) (tally_of o h).lines) ≡ map anew (tally_of o h).lines
        kept_lines = take_map anew (row_named o.book member number) asset (takes o (tally_of o h) (row_named o.book member number) asset) (tally_of o h).lines (λ _ _. refl)

        v : verdict o (tally_of o h) (take_call member number asset) ≡ Ok (Contracts n)
        v = verdict_is true c ∙ ap (λ (k : ℕ). Ok (Contracts k)) (sym (takes_are c))

        moved : after_transfer s row house asset (mult * n) ≡ after_transfer s (row_named o.book member number) house asset (o.book.terms.multiplier * asked o (tally_of o h) (row_named o.book member number) asset)
        moved = let r = here in let k = mult_is in let a = asked_is in λ i. after_transfer s (r i) house asset (k i * a i)

        both : (which : Side) → Same (register (seen e (take_on row asset n made ++ rest) (after_transfer s row house asset (mult * n)) m) which) (told o (accepted o (tally_of o h) (take_call member number asset)) which)
        both Securities = posted_told o h (seen e (made ++ rest) s m) (take_call member number asset) st Securities (after_transfer s row house asset (mult * n)) (ap is_ok v) moved
        both Cash = posted_told o h (seen e (made ++ rest) s m) (take_call member number asset) st Cash m (ap is_ok v) refl

    pub take_goes : (r : Result (Unit {0}) SideFault) (s' : Meaning) (made' : List Line) → r ≡ on_side Securities (transfer_answer s row house asset (mult * n))
        → s' ≡ after_transfer s row house asset (mult * n) → made' ≡ unless_refused (transfer_refused s row house asset (mult * n)) (take_on row asset n made) made
        → Stands o ((take_call member number asset, answered (take_call member number asset) (took n r)) ∷ h) (seen e (made' ++ rest) s' m)
    take_goes r s' made' er es em = elim (cases_Bool (covers o (tally_of o h) (take_call member number asset))) [
      | inl c ↦ let x = none c in rw (er, em, x, es) (taken_stands c)
      | inr c ↦ let x = short c in rw (er, es, em, x) (refused o h (seen e (made ++ rest) s m) (take_call member number asset) st (Register Securities Short) (verdict_is false c))
    ]
      where
        none : covers o (tally_of o h) (take_call member number asset) ≡ true → transfer_refused s row house asset (mult * n) ≡ None
        none c = refusal_is ∙ ap (λ (b : Bool). cond b None (Some Short)) c

        short : covers o (tally_of o h) (take_call member number asset) ≡ false → transfer_refused s row house asset (mult * n) ≡ Some Short
        short c = refusal_is ∙ ap (λ (b : Bool). cond b None (Some Short)) c
