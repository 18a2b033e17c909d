-- The end of whole delivery: each draw held goes back to its agent, and partial delivery follows.
use Rattle.std.proofs.Common.{◌≡◌, true, List, [], ◌∷◌, length, is_ok, None, Ok, sym, refl, ap, ◌∙◌, subst}
use Rattle.std.specs.List.{range_with_len}
use Rattle.register.specs.Rules.{Meaning}
use Rattle.book.specs.Limits.{most_agent}
use Rattle.pairing.specs.declared.line.Line.{Line}
use Rattle.pairing.specs.Lines.{lot, notified, net}
use Rattle.rules.specs.declared.session.Session.{Session}
use Rattle.rules.specs.declared.session.Session.TheVariants.{WholeDelivery, PartialDelivery}
use Rattle.rules.specs.declared.side.Side.{Side}
use Rattle.rules.specs.declared.side.Side.TheVariants.{Securities, Cash}
use Rattle.rules.specs.declared.answer.Answer.TheVariants.{Done}
use Rattle.rules.specs.Tally.{Opening, Tally, cash_asset, held, told, claim, with_lines, ended, accepted}
use Rattle.rules.specs.Verdict.{verdict, in_its_session}
use Rattle.rules.specs.Histories.{Entry, tally_of, Same, register, over, Stands}
use Rattle.rules.specs.Postings.{Posting, pays, postings, all_posted, NoneRefused}
use Rattle.delivery.specs.Handing.{paid_agents}
use Rattle.delivery.proofs.PaidAgents.{paid_agents_are}
use Rattle.delivery.proofs.PostedRuns.{each_leaves, cash_leaves_units}
use Rattle.state.specs.declared.state.State.{State}
use Rattle.state.specs.Seeing.{seen}
use Rattle.state.proofs.Standing.{due_judged, accepted_posts, posted_told}
use Rattle.state.specs.Calls.{end_call}
use Rattle.state.specs.Leaving.{without_draws}
use Rattle.state.proofs.NoneHeld.{none_of}

module _ (o : Opening) (h : List Entry) (e : State) (ls : List Line) (s m : Meaning) (st : Stands o h (seen e ls s m)) (now' : in_its_session (tally_of o h) end_call ≡ true) where
  passed : verdict o (tally_of o h) end_call ≡ Ok Done
  passed = due_judged o (tally_of o h) end_call None now' refl refl

  all_back : paid_agents e.draws ≡ postings o (tally_of o h) end_call
  all_back = paid_agents_are e.draws (held (tally_of o h)) (λ k _ _. st.draws k)

  -- no register refuses any of it
  pub draws_go_back : NoneRefused Cash m (paid_agents e.draws)
  draws_go_back = subst (λ (ps : List Posting). NoneRefused Cash m ps) (sym all_back) (accepted_posts o h (seen e ls s m) end_call st Cash (ap is_ok passed))

  pub returned_stands : (m' : Meaning) → e.session ≡ WholeDelivery → m' ≡ all_posted Cash m (paid_agents e.draws)
      → Stands o ((end_call, Ok Done) ∷ h) (seen (without_draws e PartialDelivery) ls s m')
  returned_stands m' in_4 paid = record {
    opens = st.opens;
    lived = (sym passed, st.lived);
    book = st.book;
    session = ap (λ (t : Tally). t.session) (sym then);
    lots = λ row asset. st.lots row asset ∙ ap (λ (t : Tally). lot t.lots row asset) (sym then);
    notified = λ row. st.notified row ∙ ap (λ (t : Tally). notified t.lots row) (sym then);
    count = st.count ∙ ap (λ (t : Tally). length t.lines) (sym then);
    table = st.table ∙ ap (λ (t : Tally). over t.lines o.table) (sym then);
    draws = λ agent. none_of agent ∙ ap (λ (t : Tally). held t agent) (sym then);
    nets = λ agent. st.nets agent ∙ ap (λ (t : Tally). net o.book t.lines agent) (sym then);
    claims = λ agent. st.claims agent ∙ ap (λ (t : Tally). claim o.book t agent) (sym then);
    registers = both;
  }
    where
      then : accepted o (tally_of o h) end_call ≡ with_lines (tally_of o h) PartialDelivery (tally_of o h).lines []
      then = ap (λ (x : Session). ended o.book (tally_of o h) x) (sym st.session ∙ in_4)

      both : (side : Side) → Same (register (seen (without_draws e PartialDelivery) ls s m') side) (told o (accepted o (tally_of o h) end_call) side)
      both Securities = posted_told o h (seen e ls s m) end_call st Securities s (ap is_ok passed)
          (sym (each_leaves Securities (λ agent. pays Cash agent cash_asset (held (tally_of o h) agent)) (range_with_len 1 most_agent) (λ agent. cash_leaves_units agent cash_asset (held (tally_of o h) agent)) s))
      both Cash = posted_told o h (seen e ls s m) end_call st Cash m' (ap is_ok passed) (paid ∙ ap (λ (ps : List Posting). all_posted Cash m ps) all_back)
