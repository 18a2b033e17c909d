use Rattle.std.proofs.Common.{◌≡◌, ◌++◌, length, drop}
use Rattle.pairing.specs.Orders.{deliverables}
use Rattle.pairs.proofs.deliverables.list_all.Given as goal

-- those listed, and those still to come, are all
abbrev pub invariant-loop-i : goal.invariant-loop-i
invariant-loop-i l = (length l.all.items ≡ l.i)
    × (l.all.items ++ deliverables l.price l.i (drop l.i l.assets) ≡ deliverables l.price 0 l.assets)
