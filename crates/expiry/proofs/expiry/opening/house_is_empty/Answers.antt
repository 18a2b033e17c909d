use Rattle.std.proofs.Common.{ℕ, eqb, refl, ◌∙◌, arith, rules, tests}
use Rattle.std.proofs.lemmas.Iterator.{YieldsList-from_range}
use Rattle.std.proofs.lemmas.Iterator.Search.{all_from_yields_List}
use Rattle.register.specs.Registers.{meaning}
use Rattle.register.specs.Rules.{Meaning}
use Rattle.expiry.proofs.EmptyHouse.{from_the_first}
use Rattle.expiry.proofs.expiry.opening.house_is_empty.Goals as goal

pub returns : goal.returns
returns g c =
    let m : Meaning = meaning g.R.Balances c.args.register.now in
    all_from_yields_List (λ (i : ℕ). eqb (m.balance 0 i) 0) _ _ _ c.all.ensures.ran (YieldsList-from_range 0 c.args.assets c.args.assets refl (omega arith)) (λ x b q k. search (rules, tests))
    ∙ from_the_first m c.args.assets
