use Rattle.std.proofs.Common.{◌≡◌, false, nat_eq, List, ◌++◌, sym, ap, ◌∙◌, subst}
use Rattle.pairing.specs.declared.pair.Unpaired.{Unpaired}
use Rattle.pairing.specs.Pairing.{key, Made}
use Rattle.pairs.specs.Search.{occurs}
use Rattle.pairs.proofs.SomePass.{any_is}
use Rattle.pairs.proofs.RuleContinued.{empty_group, and_then_none}
use Rattle.pairs.proofs.pairer.Pairer.pair_group.Goals as goal

pub returns-else-has_group : goal.returns-else-has_group
returns-else-has_group c =
    let m = c.args.self.now in
    let hs = c.holders.result.now in
    let none : occurs c.args.group hs ≡ false = sym (any_is (λ h. nat_eq (key c.args.group.stage h) c.args.group.number) hs) ∙ sym c.has_group.ensures ∙ c.if-has_group.false in
    let N : List Unpaired → Type 0 = λ l. occurs c.args.group l ≡ false in
    sym (ap (λ (x : Made). (m.0 ++ x.0, x.1)) (empty_group c.args.group m.1 (subst N c.holders.ensures none)) ∙ and_then_none m)
