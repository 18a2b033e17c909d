use Rattle.std.proofs.Common.{◌≡◌, ◌+◌, ◌-◌}
use Rattle.pairing.specs.Pairing.{and_then, in_groups, numbered}
use Rattle.pairs.proofs.pairer.Pairer.pair_stage.Given as goal

-- the groups still to come, done from here, give what all do from the start
abbrev pub invariant-loop-number : goal.invariant-loop-number
invariant-loop-number l = and_then l.self (in_groups (numbered l.stage l.number (l.highest + 1 - l.number)))
    ≡ and_then l.initial.self (in_groups (numbered l.stage 1 l.highest))
