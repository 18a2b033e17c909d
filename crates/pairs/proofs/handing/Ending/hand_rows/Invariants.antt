use Rattle.std.proofs.Common.{◌≡◌, ◌++◌, take, drop}
use Rattle.pairs.specs.Records.{handed_from}
use Rattle.pairs.proofs.handing.Ending.hand_rows.Given as goal

-- the records done, and those still to come handed out, are all records handed out
abbrev pub invariant-loop-i : goal.invariant-loop-i
invariant-loop-i l = take l.i l.records ++ handed_from l.self.assets l.self.first (drop l.i l.holders) (drop l.i l.records)
    ≡ handed_from l.self.assets l.self.first l.holders l.initial.records
