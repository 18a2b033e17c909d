use Rattle.std.proofs.Common.{take, ◌∙◌, arith}
use Rattle.pairs.specs.Records.{lots_from}
use Rattle.pairs.proofs.WrittenLines.{no_pair, pairs_more, stays_both}
use Rattle.pairs.proofs.lines.add_pairs.Goals as goal

pub loop-p-preserved : goal.loop-p-preserved
loop-p-preserved c =
    let K = c.args.lots.now.assets in
    let L = lots_from K 1 c.args.lots.now.records.now in
    let before = c.loop-p.written in
    let after = c.add_pair.new.self in
    let more = c.add_pair.ensures.few_more in
    let so_far = c.loop-p.invariant in
    record {
      same_table = c.add_pair.ensures.same_table ∙ so_far.same_table;
      same_length = c.add_pair.ensures.same_length ∙ so_far.same_length;
      by_the_rule = pairs_more L K c.loop-p.p-index c.args.pairs.now no_pair (take before.count before.table.now) (take after.count after.table.now)
          c.loop-p-test.true c.add_pair.ensures.by_the_rule ∙ so_far.by_the_rule;
      later_places_stay = stays_both before.count after.count c.args.lines.now before.table.now after.table.now more.0 so_far.later_places_stay c.add_pair.ensures.later_places_stay;
      few = omega (arith, more.1, so_far.few, c.args.lots.now.few_assets);
    }
