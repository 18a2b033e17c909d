-- A close: what is in goes back to its sellers, and unsettled contracts become claims.
use Rattle.std.proofs.Common.{◌≡◌, ℕ, ◌*◌, ◌≤◌, true, List, ◌∷◌, ◌++◌, map, length, get_or, ℤ, pos, is_ok, None, Ok, sym, refl, ap, ◌∙◌, subst, inl, inr, arith}
use lib.ListN.{length-map}
use Rattle.std.proofs.lemmas.List.{get_or_past}
use Rattle.std.proofs.lemmas.Bool.{cases_lt}
use Rattle.register.specs.Rules.{Meaning}
use Rattle.book.specs.Data.{contents}
use Rattle.book.specs.Limits.{most_agent}
use Rattle.book.specs.Books.{Contents}
use Rattle.pairing.specs.declared.line.Line.{Line}
use Rattle.pairing.specs.Lines.{inside, sumℤ, claim_on}
use Rattle.rules.specs.declared.side.Side.{Side}
use Rattle.rules.specs.declared.side.Side.TheVariants.{Securities, Cash}
use Rattle.rules.specs.declared.answer.Answer.TheVariants.{Done}
use Rattle.rules.specs.Tally.{Opening, told, give_back, accepted}
use Rattle.rules.specs.Verdict.{verdict, in_its_session}
use Rattle.rules.specs.Histories.{Entry, tally_of, Lived, Same, register, Stands}
use Rattle.rules.specs.Postings.{Posting, pays, for_each, postings, all_posted, NoneRefused}
use Rattle.rules.proofs.Kept.{Kept, anew}
use Rattle.rules.proofs.KeptAlways.{kept}
use Rattle.rules.proofs.Totals.{map_map}
use Rattle.delivery.specs.Parties.{to_seller, handed}
use Rattle.delivery.specs.Handing.{units_to}
use Rattle.delivery.specs.Sums.{ClaimsFit}
use Rattle.delivery.proofs.InRange.{claims_fit}
use Rattle.delivery.proofs.PostedRuns.{each_leaves, units_leave_cash}
use Rattle.state.specs.declared.state.State.{State}
use Rattle.state.specs.Seeing.{seen}
use Rattle.state.proofs.Standing.{due_judged, accepted_posts, posted_told}
use Rattle.state.specs.Calls.{close_call}
use Rattle.state.specs.Leaving.{with_claims}
use Rattle.state.proofs.Tables.{made_are, made_after}
use Rattle.state.proofs.KeptNets.{kept_nets}
use Rattle.settlement.proofs.AgentsPast.{no_claim}

module _ (o : Opening) (h : List Entry) (e : State) (made rest : List Line) (s m : Meaning) (st : Stands o h (seen e (made ++ rest) s m)) (many : e.count ≡ length made)
    (now' : in_its_session (tally_of o h) close_call ≡ true) (multiplier : ℕ) (by_book : multiplier ≡ (contents e.book).terms.multiplier) where
  passed : verdict o (tally_of o h) close_call ≡ Ok Done
  passed = due_judged o (tally_of o h) close_call None now' refl refl

  all_back : for_each (units_to to_seller multiplier) made ≡ postings o (tally_of o h) close_call
  all_back =
      let units : multiplier ≡ o.book.terms.multiplier = by_book ∙ ap (λ (b : Contents). b.terms.multiplier) st.book in
      let lines = made_are o h e made rest s m st many in
      λ i. for_each (units_to to_seller (units i)) (lines i)

  -- no register refuses any of it
  pub units_go_back : NoneRefused Securities s (for_each (units_to to_seller multiplier) made)
  units_go_back = subst (λ (ps : List Posting). NoneRefused Securities s ps) (sym all_back) (accepted_posts o h (seen e (made ++ rest) s m) close_call st Securities (ap is_ok passed))

  module _ (made' : List Line) (s' : Meaning) (claims : List ℤ) (back : made' ≡ map (handed to_seller) made) (paid : s' ≡ all_posted Securities s (for_each (units_to to_seller multiplier) made))
      (places : length claims ≡ 65)
      (each : (k : ℕ) → k ≤ most_agent → ClaimsFit (contents e.book) made' k → get_or claims k (pos 0) ≡ sumℤ (claim_on (contents e.book) k) made') where
    lived : Lived o ((close_call, Ok Done) ∷ h)
    lived = (sym passed, st.lived)

    stays : Kept o (accepted o (tally_of o h) close_call)
    stays = kept o ((close_call, Ok Done) ∷ h) st.opens lived

    lines_then : made' ≡ map give_back (tally_of o h).lines
    lines_then = back ∙ ap (map give_back) (made_are o h e made rest s m st many)

    known : (k : ℕ) → k ≤ most_agent → ClaimsFit o.book (map give_back (tally_of o h).lines) k → get_or claims k (pos 0) ≡ sumℤ (claim_on o.book k) (map give_back (tally_of o h).lines)
    known = subst (λ (x : Contents × List Line). (k : ℕ) → k ≤ most_agent → ClaimsFit x.0 x.1 k → get_or claims k (pos 0) ≡ sumℤ (claim_on x.0 k) x.1) (λ i. (st.book i, lines_then i)) each

    claimed : (k : ℕ) → get_or claims k (pos 0) ≡ sumℤ (claim_on o.book k) (map give_back (tally_of o h).lines)
    claimed k = elim (cases_lt k 65) [
      | inl lt ↦ known k (omega arith) (claims_fit o.book (map give_back (tally_of o h).lines) st.opens.book stays.closed_few k)
      | inr past ↦ get_or_past claims k (pos 0) (omega arith) ∙ sym (no_claim o.book (map give_back (tally_of o h).lines) k st.opens.book stays.closed (omega arith))
    ]

    both : (side : Side) → Same (register (seen (with_claims e claims) (made' ++ rest) s' m) side) (told o (accepted o (tally_of o h) close_call) side)
    both Securities = posted_told o h (seen e (made ++ rest) s m) close_call st Securities s' (ap is_ok passed) (paid ∙ ap (λ (ps : List Posting). all_posted Securities s ps) all_back)
    both Cash = posted_told o h (seen e (made ++ rest) s m) close_call st Cash m (ap is_ok passed)
        (sym (each_leaves Cash (λ l. pays Securities l.seller l.asset (o.book.terms.multiplier * inside l)) (tally_of o h).lines (λ l. units_leave_cash l.seller l.asset (o.book.terms.multiplier * inside l)) m))

    pub closed_stands : Stands o ((close_call, Ok Done) ∷ h) (seen (with_claims e claims) (made' ++ rest) s' m)
    closed_stands = record {
      opens = st.opens;
      lived = lived;
      book = st.book;
      session = refl;
      lots = st.lots;
      notified = st.notified;
      count = st.count ∙ sym (length-map (tally_of o h).lines give_back);
      table = ap (λ (ls : List Line). ls ++ rest) lines_then ∙ made_after o h e made rest s m st many (map give_back (tally_of o h).lines) (length-map (tally_of o h).lines give_back);
      draws = st.draws;
      nets = λ agent. st.nets agent ∙ sym (kept_nets o.book (map give_back (tally_of o h).lines) (tally_of o h).lines agent (map_map anew give_back (tally_of o h).lines (λ _. refl)));
      claims = claimed;
      registers = both;
    }
