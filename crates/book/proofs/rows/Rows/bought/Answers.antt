use Rattle.std.proofs.Common.{rules, tests, ◌∙◌}
use Rattle.std.specs.List.{filter}
use Rattle.std.proofs.lemmas.Iterator.{YieldsList-from_slice, YieldsList-from_map}
use Rattle.std.proofs.lemmas.Iterator.Consumers.{YieldsList-from_filter, sum_by_from_yields_List}
use Rattle.book.specs.Books.{buys, volume}
use Rattle.book.proofs.SumOf.{sum_passing}
use Rattle.book.proofs.rows.Rows.bought.Goals as goal

pub returns : goal.returns
returns c =
    let xs = c.args.self.now.holders.now in
    record {
      value =
          sum_by_from_yields_List volume (filter buys xs) c.map.result c.sum.result c.sum.ensures.ran
          (YieldsList-from_map _ volume (YieldsList-from_filter _ buys (YieldsList-from_slice xs cc) c.filter.ensures.closure (λ x r q k. search (rules, tests))) c.map.ensures.closure (λ x r q k. search (rules, tests)))
          ∙ sum_passing buys volume xs;
    }
