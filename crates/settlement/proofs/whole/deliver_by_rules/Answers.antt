use Rattle.std.proofs.Common.{rules}
use Rattle.state.proofs.Tables.{on_table}
use Rattle.settlement.proofs.whole.deliver_by_rules.Goals as goal

pub returns-clause-goes_on_by_the_rules : goal.returns-clause-goes_on_by_the_rules
returns-clause-goes_on_by_the_rules g c = search (rules, on_table)
