use Rattle.std.proofs.Common.{◌≡◌, ◌<◌, List, [], map, length, sym, ap, ◌∙◌, subst, arith}
use Rattle.std.specs.List.{AllByRecursion}
use Rattle.pairing.specs.declared.pair.Unpaired.{Unpaired}
use Rattle.pairing.specs.declared.pair.Pair.{Pair}
use Rattle.pairing.specs.Pairing.{Made, in_groups, all_groups, and_then, unpaired}
use Rattle.pairing.proofs.PairLaws.{rows_length}
use Rattle.pairs.proofs.AllPairs.{pairs_few, pairs_near}
use Rattle.pairs.proofs.rows.lines_of_rows.Goals as goal

-- the pairs of a pairing that began with none
made_is : (m n : Made) (hs : List Unpaired) (ps : List Pair) → ps ≡ n.0 → n ≡ and_then m (in_groups all_groups) → m ≡ ([], hs) → ps ≡ (in_groups all_groups hs).0
made_is m n hs ps e f g = e ∙ ap (λ (x : Made). x.0) (f ∙ ap (λ (x : Made). and_then x (in_groups all_groups)) g)

pub add_pairs-requires : goal.add_pairs-requires
add_pairs-requires c =
    let hs = map unpaired c.args.holders.now in
    let is = made_is c.new-pairer.result c.pair_all.new.self hs c.pairs.result.now c.pairs.ensures c.pair_all.ensures c.new-pairer.ensures in
    let same = rows_length c.args.holders.now in
    let Near : List Pair → Type 0 = λ ps. AllByRecursion (λ (p : Pair). (p.buyer < 256) × (p.seller < 256)) ps in
    record {
      near = subst Near (sym is) (pairs_near all_groups hs 256 (omega (arith, same, c.requires.few)));
      room = omega (arith, ap length is, pairs_few all_groups hs, same, c.requires.room);
    }

pub returns-clause-room : goal.returns-clause-room
returns-clause-room c =
    let hs = map unpaired c.args.holders.now in
    let is = made_is c.new-pairer.result c.pair_all.new.self hs c.pairs.result.now c.pairs.ensures c.pair_all.ensures c.new-pairer.ensures in
    omega (arith, ap length is, pairs_few all_groups hs, rows_length c.args.holders.now, c.add_pairs.ensures.room)
