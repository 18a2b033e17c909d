use Rattle.std.proofs.Common.{◌≡◌, ◌∷◌, length, Ok, sym, subst, rules}
use Rattle.rules.specs.declared.answer.Answer.TheVariants.{Lines}
use Rattle.rules.specs.Histories.{Stands}
use Rattle.state.specs.declared.state.State.{State}
use Rattle.state.specs.Seeing.{seen}
use Rattle.state.specs.Calls.{pair_call}
use Rattle.notices.proofs.PairedOff.{pair_accepted}
use Rattle.notices.proofs.Mapped.{ok_was}
use Rattle.notices.proofs.pairing_call.pair_by_rules.Goals as goal

pub returns : goal.returns
returns c =
    let long : length c.nets-each_net.result ≡ 65 = search rules in
    let made = ok_was _ c.pair.result c.map_err.result c.in_ok-n.n c.map_err.ensures.cases c.map_err.ensures.variant c.in_ok-n.was in
    record {
      goes_on_by_the_rules = λ s m o h st now'.
          subst (λ (x : State). Stands o ((pair_call, Ok (Lines c.in_ok-n.n)) ∷ h) (seen x c.pair.new.lines s m)) (sym c.on_to_delivery.ensures)
          (pair_accepted o h c.args.state.now c.args.lines.now s m st now' c.in_ok-n.n c.pair.result c.pair.ensures.answers_the_count made
          c.pair.new.lines c.pair.ensures.lines_as_defined c.nets-each_net.result long c.nets-each_net.ensures.each_net);
    }
