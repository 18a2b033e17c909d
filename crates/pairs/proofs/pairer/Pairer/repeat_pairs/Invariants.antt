use Rattle.std.proofs.Common.{◌≡◌}
use Rattle.pairing.specs.Pairing.{and_then}
use Rattle.pairing.proofs.PairRelations.{open_count}
use Rattle.pairs.specs.Search.{next_pair, exhaust}
use Rattle.pairs.proofs.pairer.Pairer.repeat_pairs.Given as goal

-- the pairs still to come, made from here, give what all give from the start
abbrev pub invariant-loop-p : goal.invariant-loop-p
invariant-loop-p l = and_then l.self (exhaust (next_pair l.choice l.group)) ≡ and_then l.initial.self (exhaust (next_pair l.choice l.group))

abbrev pub decreases-loop-p : goal.decreases-loop-p
decreases-loop-p l = open_count l.self.1
