use Rattle.std.proofs.Common.{◌≡◌, min, Bool, true, false, List, Some, subst, ap, ◌∙◌}
use Rattle.order.specs.First.{first, place_of}
use Rattle.pairing.specs.declared.pair.Unpaired.{Unpaired}
use Rattle.pairing.specs.InWords.{at}
use Rattle.pairing.specs.Orders.{holder_leq}
use Rattle.pairing.specs.Pairing.{Made}
use Rattle.pairs.specs.Search.{passes}
use Rattle.pairs.proofs.MaskedHolders.{pair_found}
use Rattle.pairs.proofs.pairer.Pairer.next_pair.Goals as goal

pub returns-clause-by_the_rule : goal.returns-clause-by_the_rule
returns-clause-by_the_rule c =
    let hs = c.args.self.now.1 in
    let P : Bool → Unpaired → Bool = λ buys. passes c.args.group buys c.args.choice hs in
    let once = ap (λ (m : Made). m.1) c.in_ok-buyer.ensures.pairing_stays in
    let twice = ap (λ (m : Made). m.1) c.in_ok-seller.ensures.pairing_stays ∙ once in
    let S : List Unpaired → Type 0 = λ l. Some c.in_ok-seller.seller ≡ place_of (first holder_leq (passes c.args.group false c.args.choice l) l) in
    pair_found c.args.group.stage (P true) (P false) hs c.in_ok-buyer.buyer c.in_ok-seller.seller c.min-contracts.result
    c.in_ok-buyer.ensures.value (subst S once c.in_ok-seller.ensures.value)
    (c.min-contracts.ensures ∙ ap (λ (l : List Unpaired). min (at l c.in_ok-buyer.buyer).volume (at l c.in_ok-seller.seller).volume) (c.holders-holders.ensures ∙ twice))
