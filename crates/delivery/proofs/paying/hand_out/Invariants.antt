use Rattle.register.specs.Registers.{meaning}
use Rattle.rules.specs.declared.side.Side.TheVariants.{Securities}
use Rattle.rules.specs.Postings.{for_each, NoneRefused}
use Rattle.std.proofs.Common.{◌≡◌}
use Rattle.delivery.specs.Parties.{handed}
use Rattle.delivery.specs.Handing.{units_to}
use Rattle.delivery.proofs.HandedLines.{Going}
use Rattle.delivery.proofs.paying.hand_out.Given as goal

abbrev pub invariant-loop-line : goal.invariant-loop-line
invariant-loop-line g l =
    (NoneRefused Securities (meaning g.S.Balances l.initial.securities) (for_each (units_to l.to l.multiplier) l.initial.lines)
    → Going Securities (units_to l.to l.multiplier) (handed l.to) l.line-index l.initial.lines (meaning g.S.Balances l.initial.securities) l.lines (meaning g.S.Balances l.securities))
    × (g.S.Balances.lender l.securities ≡ g.S.Balances.lender l.initial.securities)
