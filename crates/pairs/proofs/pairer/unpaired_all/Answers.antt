use Rattle.std.proofs.Common.{◌≡◌, ℕ, ◌<◌, map, length, take, sym, ◌∙◌, arith, rules}
use Rattle.std.proofs.lemmas.List.{same_lists, get_or-take, get_or_default, length-take-le}
use Rattle.pairing.specs.declared.pair.Unpaired.{Unpaired}
use Rattle.pairing.specs.InWords.{at}
use Rattle.pairing.specs.Pairing.{unpaired, no_holder}
use Rattle.pairing.proofs.PairLaws.{rows_length}
use Rattle.pairing.proofs.MadePlaces.{made_at}
use Rattle.pairs.proofs.pairer.unpaired_all.Goals as goal

pub returns-clause-in_the_first_places : goal.returns-clause-in_the_first_places
returns-clause-in_the_first_places c =
    let hs = c.args.holders.now in
    let P : ℕ → Unpaired → Type 0 = λ k x. x ≡ at (map unpaired hs) k in
    let l = rows_length hs in
    let few = c.requires in
    let long : length c.from_fn.result ≡ 256 = c.from_fn.ensures.items.long in
    let n : length (take (length hs) c.from_fn.result) ≡ length hs = length-take-le (length hs) c.from_fn.result (omega (arith, few, long)) in
    same_lists (take (length hs) c.from_fn.result) (map unpaired hs) (n ∙ sym l) (λ k d h.
    let lt : k < length hs = omega (arith, h, n) in
    let e = made_at P c.from_fn.ensures.items (λ j y q call. search rules) k d (omega (arith, lt, few)) in
    get_or-take (length hs) c.from_fn.result k d lt ∙ e ∙ get_or_default (map unpaired hs) k no_holder d (omega (arith, lt, l)))
