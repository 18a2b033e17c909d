use Rattle.std.proofs.Common.{Bool, length, get_or, ap, ◌∙◌, arith}
use Rattle.pairing.specs.declared.pair.Unpaired.{Unpaired}
use Rattle.pairing.specs.Pairing.{no_holder}
use Rattle.pairs.specs.Search.{passes, masked}
use Rattle.pairs.proofs.MaskedHolders.{mask_more}
use Rattle.pairs.proofs.search.mask.Goals as goal

pub loop-h-preserved : goal.loop-h-preserved
loop-h-preserved c =
    let P : Unpaired → Bool = passes c.args.group c.args.buys c.args.choice c.args.holders.now in
    let h = get_or c.loop-h.standing c.loop-h.h-index no_holder in
    let same = ap length c.requires in
    mask_more P c.args.holders.now c.loop-h.standing c.loop-h.h-index c.mask_one.result (omega (arith, same)) (omega arith) (c.mask_one.ensures ∙ ap (λ t. masked t h) c.stands_for.ensures) c.loop-h.invariant.0 c.loop-h.invariant.1
