use Rattle.std.proofs.Common.{map, length, ap, arith}
use Rattle.pairing.proofs.PairRelations.{open_count}
use Rattle.pairing.specs.Pairing.{unpaired}
use Rattle.pairing.proofs.PairLaws.{rows_length, open_le}
use Rattle.pairs.proofs.pairer.Pairer.new.Goals as goal

pub invariant_of-result : goal.invariant_of-result
invariant_of-result c =
    let few = open_le (map unpaired c.args.holders.now) in
    let same = rows_length c.args.holders.now in
    (omega arith, omega (arith, ap length c.new.ensures, ap open_count c.unpaired_all.ensures.in_the_first_places, few, same), c.unpaired_all.ensures.whole_table)
