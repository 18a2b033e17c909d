use Rattle.std.proofs.Common.{◌≡◌, ◌++◌, take, drop}
use Rattle.rules.specs.Tally.{take_on}
use Rattle.delivery.proofs.taking.Lot.spread.Given as goal

abbrev pub invariant-loop-line : goal.invariant-loop-line
invariant-loop-line l = take l.line-index l.lines ++ take_on l.self.row l.self.asset l.left (drop l.line-index l.lines) ≡ take_on l.self.row l.self.asset l.contracts l.initial.lines
