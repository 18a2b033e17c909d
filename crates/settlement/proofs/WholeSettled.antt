-- A whole settlement: refused until all is in, and then made at once.
use Rattle.std.proofs.Common.{◌≡◌, ℕ, true, false, not, ◌&&◌, ltb, List, [], ◌∷◌, ◌++◌, map, length, is_ok, Some, None, Ok, Err, sym, refl, ap, ◌∙◌, subst}
use lib.ListN.{length-map}
use Rattle.register.specs.Rules.{Meaning}
use Rattle.book.specs.Data.{contents}
use Rattle.book.specs.Books.{Contents}
use Rattle.order.specs.First.{any}
use Rattle.pairing.specs.declared.line.Line.{Line}
use Rattle.pairing.specs.Lines.{open_on, debit}
use Rattle.rules.specs.declared.session.Session.TheVariants.{Closed}
use Rattle.rules.specs.declared.side.Side.{Side}
use Rattle.rules.specs.declared.side.Side.TheVariants.{Securities, Cash}
use Rattle.rules.specs.declared.answer.Answer.TheVariants.{Done}
use Rattle.rules.specs.declared.fault.Cause.{Cause}
use Rattle.rules.specs.declared.fault.Cause.TheVariants.{NotAllIn}
use Rattle.rules.specs.Tally.{Opening, told, settle, accepted}
use Rattle.rules.specs.Verdict.{verdict, in_its_session, all_taken, all_drawn}
use Rattle.rules.specs.Histories.{Entry, tally_of, Same, register, Stands}
use Rattle.rules.specs.Postings.{Posting, postings, all_posted, NoneRefused}
use Rattle.rules.proofs.Kept.{anew}
use Rattle.rules.proofs.KeptAlways.{kept}
use Rattle.rules.proofs.Totals.{map_map}
use Rattle.delivery.specs.Sums.{ValuesFit}
use Rattle.delivery.specs.Whole.{whole_postings}
use Rattle.delivery.proofs.InRange.{values_fit}
use Rattle.delivery.proofs.WholeSides.{whole_is}
use Rattle.state.specs.declared.state.State.{State}
use Rattle.state.specs.Seeing.{seen}
use Rattle.state.specs.Following.{answered}
use Rattle.state.proofs.FirstFailed.{passes, fails}
use Rattle.state.proofs.Standing.{due_judged, refused, accepted_posts, posted_told}
use Rattle.state.specs.Calls.{whole_call}
use Rattle.settlement.specs.InFull.{taken_in_full, drawn_in_full}
use Rattle.state.specs.Leaving.{without_draws}
use Rattle.state.proofs.Tables.{made_are, made_after}
use Rattle.state.proofs.KeptNets.{kept_nets}
use Rattle.state.proofs.NoneHeld.{none_of}

module _ (o : Opening) (h : List Entry) (e : State) (made rest : List Line) (s m : Meaning) (st : Stands o h (seen e (made ++ rest) s m)) (many : e.count ≡ length made)
    (now' : in_its_session (tally_of o h) whole_call ≡ true) where
  -- the book and the lines are those of the tally
  tells : ◌≡◌ {A = Contents × List Line} (contents e.book, made) (o.book, (tally_of o h).lines)
  tells = λ i. (st.book i, made_are o h e made rest s m st many i)

  pub in_range : (agent : ℕ) → ValuesFit (contents e.book) made agent
  in_range = subst (λ (x : Contents × List Line). (agent : ℕ) → ValuesFit x.0 x.1 agent) (sym tells)
      (values_fit o.book (tally_of o h).lines st.opens.book (kept o h st.opens st.lived).few)

  as_told : (all_taken (tally_of o h) && all_drawn o (tally_of o h)) ≡ (taken_in_full made && drawn_in_full (contents e.book) made e.draws)
  as_told = sym (λ i. not (any (λ l. ltb 0 (open_on l)) (tells i).1)
      && not (any (λ x. ltb (st.draws x.agent i) (debit (tells i).0 (tells i).1 x.agent)) (tells i).0.holders))

  pub not_all_in : (taken_in_full made && drawn_in_full (contents e.book) made e.draws) ≡ false → Stands o ((whole_call, answered whole_call (Err NotAllIn)) ∷ h) (seen e (made ++ rest) s m)
  not_all_in lacking = refused o h (seen e (made ++ rest) s m) whole_call st NotAllIn
      (due_judged o (tally_of o h) whole_call (Some NotAllIn) now' refl (fails {E = Cause} (all_taken (tally_of o h) && all_drawn o (tally_of o h)) NotAllIn [] (as_told ∙ lacking)))

  module _ (ready : (taken_in_full made && drawn_in_full (contents e.book) made e.draws) ≡ true) where
    passed : verdict o (tally_of o h) whole_call ≡ Ok Done
    passed = due_judged o (tally_of o h) whole_call None now' refl (passes {E = Cause} (all_taken (tally_of o h) && all_drawn o (tally_of o h)) NotAllIn [] (as_told ∙ ready))

    all_moves : postings o (tally_of o h) whole_call ≡ whole_postings (contents e.book) made
    all_moves = whole_is o (tally_of o h) ∙ sym (ap (λ (x : Contents × List Line). whole_postings x.0 x.1) tells)

    -- no register refuses any of it
    pub all_go_out : (side : Side) → NoneRefused side (register (seen e (made ++ rest) s m) side) (whole_postings (contents e.book) made)
    all_go_out side = subst (λ (ps : List Posting). NoneRefused side (register (seen e (made ++ rest) s m) side) ps) all_moves
        (accepted_posts o h (seen e (made ++ rest) s m) whole_call st side (ap is_ok passed))

    module _ (made' : List Line) (s' m' : Meaning) (done : made' ≡ map settle made) (units : s' ≡ all_posted Securities s (whole_postings (contents e.book) made))
        (money : m' ≡ all_posted Cash m (whole_postings (contents e.book) made)) where
      both : (side : Side) → Same (register (seen (without_draws e Closed) (made' ++ rest) s' m') side) (told o (accepted o (tally_of o h) whole_call) side)
      both Securities = posted_told o h (seen e (made ++ rest) s m) whole_call st Securities s' (ap is_ok passed) (units ∙ ap (λ (ps : List Posting). all_posted Securities s ps) (sym all_moves))
      both Cash = posted_told o h (seen e (made ++ rest) s m) whole_call st Cash m' (ap is_ok passed) (money ∙ ap (λ (ps : List Posting). all_posted Cash m ps) (sym all_moves))

      pub settled_stands : Stands o ((whole_call, Ok Done) ∷ h) (seen (without_draws e Closed) (made' ++ rest) s' m')
      settled_stands = record {
        opens = st.opens;
        lived = (sym passed, st.lived);
        book = st.book;
        session = refl;
        lots = st.lots;
        notified = st.notified;
        count = st.count ∙ sym (length-map (tally_of o h).lines settle);
        table = ap (λ (ls : List Line). ls ++ rest) (done ∙ ap (map settle) (made_are o h e made rest s m st many))
            ∙ made_after o h e made rest s m st many (map settle (tally_of o h).lines) (length-map (tally_of o h).lines settle);
        draws = none_of;
        nets = λ agent. st.nets agent ∙ sym (kept_nets o.book (map settle (tally_of o h).lines) (tally_of o h).lines agent (map_map anew settle (tally_of o h).lines (λ _. refl)));
        claims = st.claims;
        registers = both;
      }
