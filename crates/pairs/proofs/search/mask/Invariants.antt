use Rattle.std.proofs.Common.{◌≡◌, map, take, drop}
use Rattle.pairs.specs.Search.{passes, masked}
use Rattle.pairs.proofs.search.mask.Given as goal

abbrev pub invariant-loop-h : goal.invariant-loop-h
invariant-loop-h l = (take l.h-index l.standing ≡ map (λ h. masked (passes l.group l.buys l.choice l.holders h) h) (take l.h-index l.holders))
    × (drop l.h-index l.standing ≡ drop l.h-index l.holders)
