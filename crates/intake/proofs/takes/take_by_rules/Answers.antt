use Rattle.std.proofs.Common.{rules}
use Rattle.state.proofs.Tables.{on_table}
use Rattle.intake.proofs.takes.take_by_rules.Goals as goal

pub returns-clause-goes_on_by_the_rules : goal.returns-clause-goes_on_by_the_rules
returns-clause-goes_on_by_the_rules g c = λ cash. search (rules, on_table, c.take_made.ensures.goes_on_by_the_rules c.args.member c.args.number cash c.row_or_0.ensures)
