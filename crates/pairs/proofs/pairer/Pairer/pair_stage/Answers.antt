use Rattle.std.proofs.Common.{◌+◌, ◌-◌, sym, ap, ◌∙◌, arith}
use Rattle.pairing.specs.Pairing.{Made, and_then, in_groups, numbered}
use Rattle.pairs.proofs.RuleContinued.{groups_more, numbered_more}
use Rattle.pairs.proofs.pairer.Pairer.pair_stage.Goals as goal

pub loop-number-preserved : goal.loop-number-preserved
loop-number-preserved c =
    let k = c.loop-number.number in
    let n = c.args.highest in
    let rest = numbered c.args.stage (k + 1) (n + 1 - (k + 1)) in
    ap (λ (m : Made). and_then m (in_groups rest)) c.pair_group.ensures
    ∙ groups_more c.loop-number.self (record { stage = c.args.stage; number = k }) rest
    ∙ ap (λ gs. and_then c.loop-number.self (in_groups gs)) (sym (numbered_more c.args.stage k (n + 1) (omega arith)))
    ∙ c.loop-number.invariant
