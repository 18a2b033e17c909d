use Rattle.std.proofs.Common.{ap, ◌∙◌}
use Rattle.pairing.specs.Pairing.{Made, and_then}
use Rattle.pairs.specs.declared.search.Choice.TheVariants.{Firsts}
use Rattle.pairs.specs.Search.{next_pair, exhaust}
use Rattle.pairs.proofs.RuleContinued.{group_then}
use Rattle.pairs.proofs.pairer.Pairer.pair_members.Goals as goal

pub returns : goal.returns
returns c =
    c.repeat_pairs-2.ensures
    ∙ ap (λ (m : Made). and_then m (exhaust (next_pair Firsts c.args.group))) c.repeat_pairs.ensures
    ∙ group_then c.args.group c.args.self.now
