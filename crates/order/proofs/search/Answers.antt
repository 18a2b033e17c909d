use Rattle.std.proofs.Common.{rules, ◌≡◌, ℕ, Some, None, Option, cond, sym, refl, ap, ◌∙◌, subst}
use Rattle.std.proofs.lemmas.Iterator.{YieldsList-from_slice}
use Rattle.std.proofs.lemmas.Iterator.Consumers.{YieldsList-from_filter, YieldsList-from_enumerate, YieldsList-at}
use Rattle.std.specs.Option.{option_map}
use borrow.Author.Tests.{tests}
use Rattle.order.specs.First.{FirstOpen}
use Rattle.order.proofs.Reduces.{reduce_gives}
use Rattle.order.proofs.Sweep.{reduced_first}
use Rattle.order.proofs.search.Goals as goal

same_place : {X Y : Type 0} (v : X → Y) (o : Option (ℕ × X)) → option_map (λ (p : ℕ × X). p.0) o ≡ option_map (λ (p : ℕ × Y). p.0) (option_map (λ (p : ℕ × X). (p.0, v p.1)) o)
same_place v None = refl
same_place v (Some p) = refl

pub returns : goal.returns
returns g c =
    let leq = g.T.Ranked.leq in
    let is_open = g.T.Ranked.is_open in
    let xs = c.args.records.now in
    let place : c.map.result ≡ option_map (λ p. p.0) c.reduce.result = search rules in
    let reduced = reduce_gives (λ p. (p.0, p.1.now)) _ (λ a b. cond (leq a.1 b.1) a b) _ (λ a x b q k. search (rules, tests)) c.reduce.result c.reduce.ensures.ran
    (YieldsList-from_filter _ (λ p. is_open p.1) (YieldsList-at c.filter.ensures.source (YieldsList-from_enumerate (YieldsList-at c.enumerate.ensures.source (YieldsList-from_slice xs c.iter.ensures.rest)) c.enumerate.ensures.count)) c.filter.ensures.closure (λ x b q k. search (rules, tests))) in
    subst (λ o. FirstOpen leq is_open xs o) (sym (place ∙ same_place (λ r. r.now) c.reduce.result ∙ ap (λ o. option_map (λ p. p.0) o) reduced)) (reduced_first leq is_open g.met.T.Ranked.compares g.met.T.Ranked.carries xs)
