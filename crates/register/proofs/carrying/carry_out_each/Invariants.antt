use Rattle.std.proofs.Common.{◌≡◌, take}
use Rattle.register.specs.Registers.{meaning}
use Rattle.register.specs.Instructions.{after_all, all_alike}
use Rattle.register.proofs.carrying.carry_out_each.Given as goal

abbrev pub invariant-loop-instruction : goal.invariant-loop-instruction
invariant-loop-instruction g l =
    (meaning g.A.Balances l.first ≡ after_all (meaning g.A.Balances l.initial.first) (take l.instruction-index l.instructions))
    × (meaning g.B.Balances l.second ≡ after_all (meaning g.B.Balances l.initial.second) (take l.instruction-index l.instructions))
    × (l.same ≡ all_alike (meaning g.A.Balances l.initial.first) (meaning g.B.Balances l.initial.second) (take l.instruction-index l.instructions))
    × (g.A.Balances.lender l.first ≡ g.A.Balances.lender l.initial.first)
    × (g.B.Balances.lender l.second ≡ g.B.Balances.lender l.initial.second)
