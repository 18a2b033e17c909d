use Rattle.std.proofs.Common.{List, ◌∷◌, Ok, Err, Result, sym, ap, ◌∙◌, subst, add-one, rules}
use Rattle.std.proofs.lemmas.Result.{err_from_is_err_and}
use Rattle.pairs.specs.declared.lots.SellerLots.{SellerLots}
use Rattle.rules.specs.declared.answer.Answer.{Answer}
use Rattle.rules.specs.declared.answer.Answer.TheVariants.{Done}
use Rattle.rules.specs.declared.call.Call.{Call}
use Rattle.rules.specs.declared.fault.Cause.{Cause}
use Rattle.rules.specs.Histories.{Stands}
use Rattle.state.specs.Seeing.{seen}
use Rattle.state.specs.Following.{answered}
use Rattle.state.specs.Calls.{notice_call}
use Rattle.notices.proofs.Noticed.{notice_refused, notice_accepted, with_records}
use Rattle.notices.proofs.notices.notice_by_rules.Goals as goal

pub returns-in_err-place : goal.returns-in_err-place
returns-in_err-place c =
    let call : Call = notice_call c.args.asked.speaker c.args.asked.member c.args.asked.number c.args.asked.asset c.args.asked.contracts in
    let p = err_from_is_err_and c.from_residual.result c.from_residual.ensures.1 in
    record {
      goes_on_by_the_rules = λ lines s m o h st now'.
          subst (λ (r : Result Answer Cause). Stands o ((call, answered call r) ∷ h) (seen c.args.state.now lines s m)) (sym (p.1 ∙ ap Err p.2))
          (notice_refused o h c.args.state.now lines s m c.args.asked.speaker c.args.asked.member c.args.asked.number c.args.asked.asset c.args.asked.contracts _
          (sym c.notice_place.ensures.place_or_cause ∙ c.in_err-place.was) st now');
    }

pub note-requires : goal.note-requires
note-requires c =
    let f = c.in_ok-place.ensures.fits in
    record { there = search rules; an_asset = f.1; countable = rw add-one at f.2 }

pub returns : goal.returns
returns c =
    let call : Call = notice_call c.args.asked.speaker c.args.asked.member c.args.asked.number c.args.asked.asset c.args.asked.contracts in
    record {
      goes_on_by_the_rules = λ lines s m o h st now'.
          subst (λ (x : List SellerLots). Stands o ((call, Ok Done) ∷ h) (seen (with_records c.args.state.now x) lines s m)) (sym c.note.ensures.noted)
          (notice_accepted o h c.args.state.now lines s m c.args.asked.speaker c.args.asked.member c.args.asked.number c.args.asked.asset c.args.asked.contracts c.in_ok-place.place
          (sym c.notice_place.ensures.place_or_cause ∙ c.in_ok-place.was) c.note.ensures.there st now');
    }
