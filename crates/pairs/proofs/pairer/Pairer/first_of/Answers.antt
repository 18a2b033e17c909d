use Rattle.std.proofs.Common.{◌≡◌, Bool, List, map, take, subst, ap, arith}
use Rattle.order.specs.First.{FirstOpen, first, place_of}
use Rattle.pairing.specs.declared.pair.Unpaired.{Unpaired}
use Rattle.pairing.specs.Orders.{holder_leq, holder_open}
use Rattle.pairing.specs.Pairing.{Made}
use Rattle.pairs.specs.Search.{passes, masked}
use Rattle.pairs.proofs.MaskedHolders.{masked_first, passes_open}
use Rattle.pairs.proofs.pairer.Pairer.first_of.Goals as goal

pub mask-requires : goal.mask-requires
mask-requires c = grind (arith)

pub returns-clause-value : goal.returns-clause-value
returns-clause-value c =
    let hs = take c.self.inside.count c.self.inside.holders in
    let r = c.first_open.result in
    let P : Unpaired → Bool = passes c.args.group c.args.buys c.args.choice hs in
    let F : List Unpaired → Type 0 = λ l. FirstOpen holder_leq holder_open l r in
    let f : F (map (λ h. masked (P h) h) hs) = subst F c.mask.ensures c.first_open.ensures.first_by_the_order in
    let R : List Unpaired → Type 0 = λ l. r ≡ place_of (first holder_leq (passes c.args.group c.args.buys c.args.choice l) l) in
    subst R (ap (λ (m : Made). m.1) c.self.view_is) (masked_first P (passes_open c.args.group c.args.buys c.args.choice hs) hs r f)
