use Rattle.std.proofs.Common.{sym, ap, ◌∙◌, arith}
use Rattle.pairing.specs.Pairing.{Made, and_then}
use Rattle.pairing.proofs.PairRelations.{open_count}
use Rattle.pairs.specs.Search.{next_pair, exhaust}
use Rattle.pairs.proofs.RuleContinued.{next_fair, fair_takes, next_falls, pair_more}
use Rattle.pairs.proofs.pairer.Pairer.repeat_pairs.Goals as goal

pub add-requires : goal.add-requires
add-requires c =
    let m : Made = c.next_pair.new.self in
    let is = ap (λ (m : Made). next_pair c.args.choice c.args.group m.1) c.in-Some.ensures.pairing_stays ∙ sym c.in-Some.ensures.by_the_rule in
    record {
      takes = fair_takes (next_fair c.args.choice c.args.group m.1 c.in-Some.p is);
      closes_one = next_falls c.args.choice c.args.group m.1 c.in-Some.p is;
    }

pub loop-p-smaller : goal.loop-p-smaller
loop-p-smaller c =
    let m : Made = c.next_pair.new.self in
    let is = ap (λ (m : Made). next_pair c.args.choice c.args.group m.1) c.in-Some.ensures.pairing_stays ∙ sym c.in-Some.ensures.by_the_rule in
    let e = ap (λ (m : Made). open_count m.1) c.add.ensures in
    let s = ap (λ (m : Made). open_count m.1) c.in-Some.ensures.pairing_stays in
    let f = next_falls c.args.choice c.args.group m.1 c.in-Some.p is in
    omega (arith, e, f, s)

pub loop-p-preserved : goal.loop-p-preserved
loop-p-preserved c =
    let m : Made = c.next_pair.new.self in
    let next = next_pair c.args.choice c.args.group in
    let is = ap (λ (m : Made). next m.1) c.in-Some.ensures.pairing_stays ∙ sym c.in-Some.ensures.by_the_rule in
    ap (λ (m : Made). and_then m (exhaust next)) c.add.ensures
    ∙ pair_more next (next_falls c.args.choice c.args.group) m c.in-Some.p is
    ∙ ap (λ (m : Made). and_then m (exhaust next)) c.in-Some.ensures.pairing_stays
    ∙ c.loop-p.invariant
