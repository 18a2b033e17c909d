use Rattle.std.proofs.Common.{◌≡◌, ap, ◌∙◌}
use Rattle.register.specs.Rules.{Meaning, answer, transfer_answer, after_transfer}
use Rattle.register.specs.Registers.{meaning}
use Rattle.rules.specs.declared.side.Side.TheVariants.{Cash}
use Rattle.rules.specs.Tally.{cash_asset}
use Rattle.delivery.specs.Sides.{on_side}
use Rattle.delivery.proofs.WideAmounts.{wide_refused, wide_after}
use Rattle.delivery.proofs.settling.shift.Goals as goal

pub returns-clause-answers_by_the_rules : goal.returns-clause-answers_by_the_rules
returns-clause-answers_by_the_rules g c =
    let m : Meaning = meaning g.C.Balances c.args.cash.now in
    let answered : c.transfer.result ≡ transfer_answer m c.args.giver c.args.taker cash_asset c.args.amount = c.transfer.ensures.answers_by_the_rules
    ∙ (ap (transfer_answer m c.args.giver c.args.taker cash_asset) c.narrowed.ensures ∙ ap answer (wide_refused m (g.C.Balances.lawful c.args.cash.now) c.args.giver c.args.taker cash_asset c.args.amount)) in
    c.on.ensures.side_is_told ∙ ap (on_side Cash) answered

pub returns-clause-meaning_follows_the_rules : goal.returns-clause-meaning_follows_the_rules
returns-clause-meaning_follows_the_rules g c =
    let m : Meaning = meaning g.C.Balances c.args.cash.now in
    c.transfer.ensures.meaning_follows_the_rules ∙ (ap (after_transfer m c.args.giver c.args.taker cash_asset) c.narrowed.ensures ∙ wide_after m (g.C.Balances.lawful c.args.cash.now) c.args.giver c.args.taker cash_asset c.args.amount)
