use Rattle.std.proofs.Common.{sym, ap, ◌∙◌}
use Rattle.pairing.specs.Pairing.{and_then, in_groups}
use Rattle.pairing.proofs.PairRelations.{stages}
use Rattle.pairing.proofs.PairLaws.{groups_are}
use Rattle.pairs.proofs.RuleContinued.{stages_then}
use Rattle.pairs.proofs.pairer.Pairer.pair_all.Goals as goal

pub returns : goal.returns
returns c =
    let m = c.args.self.now in
    stages_then 999 999 c.from.result m c.pair_stage.new.self c.pair_stage-2.new.self c.pair_stage-3.new.self c.pair_members.new.self
    c.pair_stage.ensures c.pair_stage-2.ensures c.pair_stage-3.ensures c.pair_members.ensures
    ∙ ap (λ n. and_then m (in_groups (stages 999 999 n))) c.from.ensures
    ∙ sym (ap (λ gs. and_then m (in_groups gs)) groups_are)
