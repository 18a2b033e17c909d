use Rattle.std.proofs.Common.{rules}
use Rattle.register.specs.Registers.{meaning}
use Rattle.expiry.proofs.Dispatched.{by_its_part, first_ends}
use Rattle.expiry.proofs.expiry.Expiry.do_call.Goals as goal

pub returns-in_default-Credit-clause-goes_on_by_the_rules : goal.returns-in_default-Credit-clause-goes_on_by_the_rules
returns-in_default-Credit-clause-goes_on_by_the_rules g c = λ o h st. search (rules, by_its_part, c.credit.ensures.goes_on_by_the_rules c.args.self.now.state c.args.lines.now)

pub returns-in-MembersNotices-Notice-clause-goes_on_by_the_rules : goal.returns-in-MembersNotices-Notice-clause-goes_on_by_the_rules
returns-in-MembersNotices-Notice-clause-goes_on_by_the_rules g c = λ o h st. search (rules, by_its_part, c.notice.ensures.goes_on_by_the_rules c.args.lines.now (meaning g.S.Balances c.args.securities.now) (meaning g.C.Balances c.args.cash.now))

pub returns-in-MembersNotices-End-clause-goes_on_by_the_rules : goal.returns-in-MembersNotices-End-clause-goes_on_by_the_rules
returns-in-MembersNotices-End-clause-goes_on_by_the_rules g c = λ o h st. search (rules, first_ends)

pub returns-in-ClearingNotices-End-clause-goes_on_by_the_rules : goal.returns-in-ClearingNotices-End-clause-goes_on_by_the_rules
returns-in-ClearingNotices-End-clause-goes_on_by_the_rules g c = λ o h st. search (rules, by_its_part, c.end_notices.ensures.goes_on_by_the_rules c.args.lines.now (meaning g.S.Balances c.args.securities.now) (meaning g.C.Balances c.args.cash.now) c.in-ClearingNotices-End.is-0)

pub returns-in-Pairing-Pair-clause-goes_on_by_the_rules : goal.returns-in-Pairing-Pair-clause-goes_on_by_the_rules
returns-in-Pairing-Pair-clause-goes_on_by_the_rules g c = λ o h st. search (rules, by_its_part, c.pair_book.ensures.goes_on_by_the_rules (meaning g.S.Balances c.args.securities.now) (meaning g.C.Balances c.args.cash.now))

pub returns-in-WholeDelivery-Take-clause-goes_on_by_the_rules : goal.returns-in-WholeDelivery-Take-clause-goes_on_by_the_rules
returns-in-WholeDelivery-Take-clause-goes_on_by_the_rules g c = λ o h st. search (rules, by_its_part, c.take_contracts.ensures.goes_on_by_the_rules (meaning g.C.Balances c.args.cash.now))

pub returns-in-WholeDelivery-Draw-clause-goes_on_by_the_rules : goal.returns-in-WholeDelivery-Draw-clause-goes_on_by_the_rules
returns-in-WholeDelivery-Draw-clause-goes_on_by_the_rules g c = λ o h st. search (rules, by_its_part, c.draw_debit.ensures.goes_on_by_the_rules (meaning g.S.Balances c.args.securities.now))

pub returns-in-WholeDelivery-End-clause-goes_on_by_the_rules : goal.returns-in-WholeDelivery-End-clause-goes_on_by_the_rules
returns-in-WholeDelivery-End-clause-goes_on_by_the_rules g c = λ o h st. search (rules, by_its_part, c.return_draws.ensures.goes_on_by_the_rules c.args.lines.now (meaning g.S.Balances c.args.securities.now) c.in-WholeDelivery-End.is-0)

pub returns-in-PartialDelivery-Close-clause-goes_on_by_the_rules : goal.returns-in-PartialDelivery-Close-clause-goes_on_by_the_rules
returns-in-PartialDelivery-Close-clause-goes_on_by_the_rules g c = λ o h st. search (rules, by_its_part, c.close.ensures.goes_on_by_the_rules (meaning g.C.Balances c.args.cash.now))
