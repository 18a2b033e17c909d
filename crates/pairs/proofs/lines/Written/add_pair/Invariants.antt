use Rattle.std.proofs.Common.{◌≡◌, ◌+◌, ◌-◌, ◌≤◌, length, take, drop}
use Rattle.pairing.specs.Lines.{lines_of_pair}
use Rattle.pairs.specs.Records.{lots_from}
use Rattle.pairs.proofs.lines.Written.add_pair.Given as goal

-- the assets still to come, done from here, give what all give from the start
abbrev pub invariant-loop-asset : goal.invariant-loop-asset
invariant-loop-asset l = record {
  same_table : l.self.table.ghost_name ≡ l.initial.self.table.ghost_name;
  same_length : length l.self.table.now ≡ length l.initial.self.table.now;
  by_the_rule : lines_of_pair (lots_from l.lots.assets 1 l.lots.records.now) l.p (l.lots.assets - l.asset) l.asset l.rest (take l.self.count l.self.table.now)
      ≡ lines_of_pair (lots_from l.lots.assets 1 l.lots.records.now) l.p l.lots.assets 0 l.p.contracts (take l.initial.self.count l.initial.self.table.now);
  later_places_stay : drop l.self.count l.self.table.now ≡ drop l.self.count l.initial.self.table.now;
  more : l.initial.self.count ≤ l.self.count;
  few_more : l.self.count ≤ l.initial.self.count + l.asset;
}
