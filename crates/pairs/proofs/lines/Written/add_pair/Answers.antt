use Rattle.std.proofs.Common.{◌≡◌, ◌<◌, min, take, ap, ◌∙◌, arith}
use Rattle.pairing.specs.Lines.{add_line, fresh}
use Rattle.pairs.specs.Records.{lots_from}
use Rattle.pairs.proofs.WrittenLines.{left_held, asset_more, stays_both}
use Rattle.pairs.proofs.lines.Written.add_pair.Goals as goal

pub loop-asset-preserved : goal.loop-asset-preserved
loop-asset-preserved c =
    let xs = c.args.lots.now.records.now in
    let K = c.args.lots.now.assets in
    let p = c.args.p in
    let a = c.loop-asset.asset in
    let n = c.loop-asset.rest in
    let before = c.loop-asset.self in
    let after = c.add.new.self in
    let ls = take before.count before.table.now in
    let h : a < K = omega arith in
    let used = c.min-contracts.ensures ∙ ap (λ v. min n v) (c.left.ensures ∙ left_held K p.seller a xs ls h) in
    let rs : take after.count after.table.now ≡ add_line ls (fresh p a c.min-contracts.result) = c.add.ensures.added ∙ ap (add_line ls) (cc) in
    let more = c.add.ensures.one_more in
    let so_far = c.loop-asset.invariant in
    record {
      same_table = c.add.ensures.same_table ∙ so_far.same_table;
      same_length = c.add.ensures.same_length ∙ so_far.same_length;
      by_the_rule = asset_more (lots_from K 1 xs) p K a n c.min-contracts.result ls (take after.count after.table.now) h used rs ∙ so_far.by_the_rule;
      later_places_stay = stays_both before.count after.count c.args.self.now.table.now before.table.now after.table.now more.0 so_far.later_places_stay c.add.ensures.later_places_stay;
      more = omega (arith, more.0, so_far.more);
      few_more = omega (arith, more.1, so_far.few_more);
    }
