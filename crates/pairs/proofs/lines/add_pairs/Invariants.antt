use Rattle.std.proofs.Common.{◌≡◌, ◌*◌, ◌≤◌, [], length, take, drop}
use Rattle.pairing.specs.Lines.{lines_of_pairs}
use Rattle.pairs.specs.Records.{lots_from}
use Rattle.pairs.proofs.lines.add_pairs.Given as goal

-- the pairs still to come, done from here, give what all give from the start
abbrev pub invariant-loop-p : goal.invariant-loop-p
invariant-loop-p l = record {
  same_table : l.written.table.ghost_name ≡ l.initial.written.table.ghost_name;
  same_length : length l.written.table.now ≡ length l.initial.written.table.now;
  by_the_rule : lines_of_pairs (lots_from l.lots.assets 1 l.lots.records.now) l.lots.assets (drop l.p-index l.pairs) (take l.written.count l.written.table.now)
      ≡ lines_of_pairs (lots_from l.lots.assets 1 l.lots.records.now) l.lots.assets l.pairs [];
  later_places_stay : drop l.written.count l.written.table.now ≡ drop l.written.count l.initial.written.table.now;
  few : l.written.count ≤ 4 * l.p-index;
}
