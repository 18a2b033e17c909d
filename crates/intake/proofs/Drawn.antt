-- A draw goes on by the rules.
use Rattle.std.proofs.Common.{◌≡◌, ℕ, ◌+◌, ◌<◌, ◌≤◌, Bool, true, false, cond, ◌&&◌, eqb, ltb, ◌⊎◌, List, [], ◌∷◌, ◌++◌, length, get_or, set, is_ok, Some, None, Ok, Err, sym, refl, ap, ◌∙◌, subst, inl, inr, zero-add, arith}
use Rattle.std.specs.List.{AllByRecursion}
use Rattle.std.proofs.ByRecursion.{All-weaker}
use Rattle.std.proofs.lemmas.List.{get_or-set_same, get_or-set_other}
use Rattle.std.proofs.lemmas.List.Sums.{sum_by-cons}
use Rattle.std.proofs.lemmas.Bool.{cases_eq, cases_lt, eq-eqb, ne_eqb, lt-ltb, le-ltb}
use Rattle.book.specs.Books.{Contents}
use Rattle.book.specs.Data.{contents}
use Rattle.register.specs.declared.fault.RegisterFault.TheVariants.{Short}
use Rattle.register.specs.Rules.{Meaning, transfer_refused, transfer_answer, after_transfer, answer}
use Rattle.pairing.specs.declared.line.Line.{Line}
use Rattle.pairing.specs.Lines.{debit, buyer_agent}
use Rattle.delivery.specs.declared.fault.SideFault.{SideFault}
use Rattle.delivery.specs.Sides.{on_side}
use Rattle.delivery.specs.Sums.{ValuesFit}
use Rattle.delivery.proofs.InRange.{values_fit}
use Rattle.delivery.proofs.Outcomes.{ok_err}
use Rattle.rules.specs.declared.side.Side.{Side}
use Rattle.rules.specs.declared.side.Side.TheVariants.{Securities, Cash}
use Rattle.rules.specs.declared.answer.Answer.TheVariants.{Done}
use Rattle.rules.specs.declared.fault.Cause.TheVariants.{NothingDue, Register}
use Rattle.rules.specs.Tally.{Opening, Drawn, house, cash_asset, held, told, accepted}
use Rattle.rules.specs.Verdict.{verdict, in_its_session, something_due, covers, first_failed}
use Rattle.rules.specs.Histories.{Entry, tally_of, Same, register, Stands}
use Rattle.rules.proofs.Kept.{Sane}
use Rattle.rules.proofs.KeptAlways.{kept}
use Rattle.rules.proofs.Balances.{agent_in}
use Rattle.rules.proofs.Bounds.{sums_in_range}
use Rattle.rules.proofs.OnlyShort.{debit_known}
use Rattle.rules.proofs.WhereItStands.{covered_or_short}
use Rattle.state.specs.declared.state.State.{State}
use Rattle.state.specs.Seeing.{seen}
use Rattle.state.specs.Following.{answered}
use Rattle.state.proofs.FirstFailed.{by_check}
use Rattle.state.proofs.Standing.{due_judged, refused, nothing_due, posted_told}
use Rattle.state.specs.Calls.{draw_call}
use Rattle.state.proofs.Tables.{made_are}

-- The state with other draws.
abbrev pub with_draws : State → List ℕ → State
with_draws e draws = record { book = e.book; session = e.session; lots = e.lots; count = e.count; draws = draws; nets = e.nets; claims = e.claims }

-- The refusal of a move, by the register's answer.
refused_by : (x : SideFault) (cv : Bool) → on_side Cash (answer (cond cv None (Some Short))) ≡ Err x → (cv ≡ false) × (x ≡ record { side = Cash; fault = Short })
refused_by x true p = absurd (ok_err refl p)
refused_by x false p = (refl, cc)

accepted_by : (cv : Bool) → on_side Cash (answer (cond cv None (Some Short))) ≡ Ok tt → cv ≡ true
accepted_by true p = refl
accepted_by false p = absurd (ok_err p refl)

neither : (a b : Bool) → (a ≡ false) ⊎ (b ≡ false) → (a && b) ≡ false
neither true b (inl p) = absurd (let z : ◌≡◌ {A = ℕ} 0 1 = cc in omega arith)
neither true b (inr p) = p
neither false b p = refl

module _ (o : Opening) (h : List Entry) (e : State) (made rest : List Line) (s m : Meaning) (st : Stands o h (seen e (made ++ rest) s m)) (many : e.count ≡ length made) where
  pub fit : (agent : ℕ) → ValuesFit (contents e.book) made agent
  fit agent =
      subst (λ (b : Contents). ValuesFit b made agent) (sym st.book)
      (subst (λ (ls : List Line). ValuesFit o.book ls agent) (sym (made_are o h e made rest s m st many))
      (values_fit o.book (tally_of o h).lines st.opens.book (sums_in_range o h st.opens st.lived).contracts agent))

  pub debit_is : (agent : ℕ) → debit (contents e.book) made agent ≡ debit o.book (tally_of o h).lines agent
  debit_is agent = let b = st.book in let ls = made_are o h e made rest s m st many in λ i. debit (b i) (ls i) agent

  -- The agents of lines are those of the book, which go up to 64.
  no_debit_past : (agent : ℕ) → 65 ≤ agent → debit o.book (tally_of o h).lines agent ≡ 0
  no_debit_past agent past = elim (cases_lt 0 (debit o.book (tally_of o h).lines agent)) [
    | inl some ↦ absurd (let k = debit_known o.book (λ k. k ≤ 64) (tally_of o h).lines agent each some in omega (arith, k, past))
    | inr none ↦ omega arith
  ]
    where
      each : AllByRecursion (λ l. buyer_agent o.book l ≤ 64) (tally_of o h).lines
      each = All-weaker (Sane o.book) (λ l. buyer_agent o.book l ≤ 64) (λ l sane. (agent_in o.book st.opens.book l.buyer sane.buyer).1) (tally_of o h).lines (kept o h st.opens st.lived).lines

  module _ (agent : ℕ) (now' : in_its_session (tally_of o h) (draw_call agent) ≡ true) where
    not_due : (debit o.book (tally_of o h).lines agent ≡ 0) ⊎ (held (tally_of o h) agent ≡ 0 → ⊥) → Stands o ((draw_call agent, answered (draw_call agent) (Err NothingDue)) ∷ h) (seen e (made ++ rest) s m)
    not_due (inl none) = nothing_due o h (seen e (made ++ rest) s m) (draw_call agent) st now'
        (neither (ltb 0 (debit o.book (tally_of o h).lines agent)) (eqb (held (tally_of o h) agent) 0) (inl (le-ltb 0 (debit o.book (tally_of o h).lines agent) (omega arith))))
    not_due (inr drawn) = nothing_due o h (seen e (made ++ rest) s m) (draw_call agent) st now'
        (neither (ltb 0 (debit o.book (tally_of o h).lines agent)) (eqb (held (tally_of o h) agent) 0) (inr (ne_eqb (held (tally_of o h) agent) 0 drawn)))

    pub draw_past : 65 ≤ agent → Stands o ((draw_call agent, answered (draw_call agent) (Err NothingDue)) ∷ h) (seen e (made ++ rest) s m)
    draw_past past = not_due (inl (no_debit_past agent past))

    module _ (amount : ℕ) (p : ValuesFit (contents e.book) made agent → amount ≡ debit (contents e.book) made agent) where
      amount_is : amount ≡ debit o.book (tally_of o h).lines agent
      amount_is = p (fit agent) ∙ debit_is agent

      pub draw_not_due : (amount ≡ 0) ⊎ (get_or e.draws agent 0 ≡ 0 → ⊥) → Stands o ((draw_call agent, answered (draw_call agent) (Err NothingDue)) ∷ h) (seen e (made ++ rest) s m)
      draw_not_due (inl none) = not_due (inl (sym amount_is ∙ none))
      draw_not_due (inr drawn) = not_due (inr (λ z. drawn (st.draws agent ∙ z)))

      module _ (some : 0 < amount) (undrawn : get_or e.draws agent 0 ≡ 0) where
        none_held : held (tally_of o h) agent ≡ 0
        none_held = sym (st.draws agent) ∙ undrawn

        is_due : something_due o (tally_of o h) (draw_call agent) ≡ true
        is_due =
            let a = amount_is in
            let d = lt-ltb 0 (debit o.book (tally_of o h).lines agent) (omega (arith, a, some)) in
            let n = eq-eqb (held (tally_of o h) agent) 0 none_held in
            λ i. d i && n i

        refusal_is : transfer_refused m agent house cash_asset amount ≡ cond (covers o (tally_of o h) (draw_call agent)) None (Some Short)
        refusal_is =
            let q = is_due in
            ap (transfer_refused m agent house cash_asset) amount_is
            ∙ covered_or_short o h (seen e (made ++ rest) s m) (draw_call agent) Cash st (λ i. now' i && q i) refl

        verdict_is : (cv : Bool) → covers o (tally_of o h) (draw_call agent) ≡ cv
            → verdict o (tally_of o h) (draw_call agent) ≡ by_check (first_failed ((cv, Register Cash Short) ∷ [])) (draw_call agent) Done
        verdict_is cv c = due_judged o (tally_of o h) (draw_call agent) (first_failed ((cv, Register Cash Short) ∷ [])) now' is_due (ap (λ (x : Bool). first_failed ((x, Register Cash Short) ∷ [])) c)

        pub draw_refused : (x : SideFault) (m' : Meaning) → on_side Cash (transfer_answer m agent house cash_asset amount) ≡ Err x → m' ≡ after_transfer m agent house cash_asset amount
            → Stands o ((draw_call agent, answered (draw_call agent) (Err (Register x.side x.fault))) ∷ h) (seen e (made ++ rest) s m')
        draw_refused x m' er em =
            let q = refused_by x (covers o (tally_of o h) (draw_call agent)) (sym (ap (λ y. on_side Cash (answer y)) refusal_is) ∙ er) in
            let c = q.0 in
            let y = refusal_is ∙ ap (λ (b : Bool). cond b None (Some Short)) c in
            let f = q.1 in
            rw (em, y, f) (refused o h (seen e (made ++ rest) s m) (draw_call agent) st (Register Cash Short) (verdict_is false c))

        -- the draws held with this one
        held_more : (k : ℕ) → agent < length e.draws → get_or (set e.draws agent amount) k 0 ≡ held (accepted o (tally_of o h) (draw_call agent)) k
        held_more k within =
            elim (cases_eq k agent) [
              | inl same ↦ ap (λ (j : ℕ). get_or (set e.draws agent amount) j 0) same ∙ (get_or-set_same e.draws agent amount 0 within
                  ∙ (amount_is ∙ sym (more ∙ (let a = eq-eqb agent k (sym same) in let n = none_held in
                  rw (a, same, n) (omega arith)))))
              | inr other ↦ get_or-set_other e.draws agent k amount 0 other ∙ (st.draws k ∙ sym (more ∙ (let a = ne_eqb agent k (λ z. other (sym z)) in rw a (zero-add (held (tally_of o h) k)))))
            ]
          where
            more : held (accepted o (tally_of o h) (draw_call agent)) k ≡ cond (eqb agent k) (debit o.book (tally_of o h).lines agent) 0 + held (tally_of o h) k
            more = sum_by-cons (λ (x : Drawn). cond (eqb x.agent k) x.amount 0) (record { agent = agent; amount = debit o.book (tally_of o h).lines agent }) (tally_of o h).draws

        pub draw_accepted : (m' : Meaning) → on_side Cash (transfer_answer m agent house cash_asset amount) ≡ Ok tt → m' ≡ after_transfer m agent house cash_asset amount → agent < length e.draws
            → Stands o ((draw_call agent, Ok Done) ∷ h) (seen (with_draws e (set e.draws agent amount)) (made ++ rest) s m')
        draw_accepted m' er em within = record {
          opens = st.opens;
          lived = (sym v, st.lived);
          book = st.book;
          session = st.session;
          lots = st.lots;
          notified = st.notified;
          count = st.count;
          table = st.table;
          draws = λ k. held_more k within;
          nets = st.nets;
          claims = st.claims;
          registers = both;
        }
          where
            c : covers o (tally_of o h) (draw_call agent) ≡ true
            c = accepted_by (covers o (tally_of o h) (draw_call agent)) (sym (ap (λ y. on_side Cash (answer y)) refusal_is) ∙ er)

            v : verdict o (tally_of o h) (draw_call agent) ≡ Ok Done
            v = verdict_is true c

            both : (which : Side) → Same (register (seen (with_draws e (set e.draws agent amount)) (made ++ rest) s m') which) (told o (accepted o (tally_of o h) (draw_call agent)) which)
            both Securities = posted_told o h (seen e (made ++ rest) s m) (draw_call agent) st Securities s (ap is_ok v) refl
            both Cash = posted_told o h (seen e (made ++ rest) s m) (draw_call agent) st Cash m' (ap is_ok v) (em ∙ ap (after_transfer m agent house cash_asset) amount_is)
