use Rattle.std.proofs.Common.{◌≡◌, take}
use Rattle.register.specs.Registers.{meaning}
use Rattle.register.specs.Instructions.{after_all}
use Rattle.registers.proofs.lending.carry_out_all.Given as goal

abbrev pub invariant-loop-instruction : goal.invariant-loop-instruction
invariant-loop-instruction g l =
    (meaning g.R.Balances l.register ≡ after_all (meaning g.R.Balances l.initial.register) (take l.instruction-index l.instructions))
    × (g.R.Balances.lender l.register ≡ g.R.Balances.lender l.initial.register)
