use Rattle.std.proofs.Common.{◌≡◌, ◌+◌, length}
use Rattle.register.specs.Registers.{meaning}
use Rattle.rules.specs.declared.side.Side.TheVariants.{Cash}
use Rattle.rules.specs.Postings.{NoneRefused}
use Rattle.delivery.specs.Handing.{paid_agents}
use Rattle.delivery.proofs.PaidAgents.{Paying, cash_to}
use Rattle.delivery.proofs.paying.pay_agents.Given as goal

abbrev pub invariant-loop-agent : goal.invariant-loop-agent
invariant-loop-agent g l =
    (NoneRefused Cash (meaning g.C.Balances l.initial.cash) (paid_agents l.amounts)
    → Paying Cash (cash_to l.amounts) 65 (length l.yielded + 1) (meaning g.C.Balances l.initial.cash) (meaning g.C.Balances l.cash) (paid_agents l.amounts))
    × (g.C.Balances.lender l.cash ≡ g.C.Balances.lender l.initial.cash)
