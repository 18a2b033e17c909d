use Rattle.std.proofs.Common.{◌≡◌, ◌∷◌, length, Ok, Result, sym, subst, rules}
use Rattle.std.specs.Result.{OnOk}
use Rattle.book.specs.Data.{contents}
use Rattle.pairs.specs.declared.fault.PairingFault.{PairingFault}
use Rattle.pairs.specs.Outcome.{Adds}
use Rattle.rules.specs.declared.answer.Answer.TheVariants.{Done}
use Rattle.rules.specs.Histories.{Stands}
use Rattle.state.specs.declared.state.State.{State}
use Rattle.state.specs.Seeing.{seen}
use Rattle.state.specs.Calls.{end_call}
use Rattle.notices.proofs.Ended.{end_accepted}
use Rattle.notices.proofs.Mapped.{ok_was}
use Rattle.notices.proofs.ending.end_by_rules.Goals as goal

pub returns : goal.returns
returns c =
    let long : length c.args.state.now.lots ≡ 256 = search rules in
    let f = c.hand_out.ensures in
    let out = ok_was _ c.hand_out.result c.map_err.result tt c.map_err.ensures.cases c.map_err.ensures.variant c.in_ok-map_err.was in
    let adds = subst (λ (r : Result (Unit {0}) PairingFault). OnOk r (Adds (contents c.args.state.now.book) c.args.state.now.lots c.hand_out.new.records)) out f.adds_what_the_end_adds in
    record {
      goes_on_by_the_rules = λ lines s m clearing o h st now'.
          subst (λ (x : State). Stands o ((end_call, Ok Done) ∷ h) (seen x lines s m)) (sym c.on_to_pairing.ensures)
          (end_accepted o h c.args.state.now lines s m st long clearing now' c.hand_out.new.records f.records_as_defined adds);
    }
