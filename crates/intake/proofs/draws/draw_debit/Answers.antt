use Rattle.std.proofs.Common.{rules}
use Rattle.state.proofs.Tables.{on_table_read}
use Rattle.intake.proofs.draws.draw_debit.Goals as goal

pub returns-clause-goes_on_by_the_rules : goal.returns-clause-goes_on_by_the_rules
returns-clause-goes_on_by_the_rules g c = λ s. search (rules, on_table_read, c.draw_made.ensures.goes_on_by_the_rules s)
