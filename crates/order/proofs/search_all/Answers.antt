use Rattle.std.proofs.Common.{sym, ◌∙◌}
use Rattle.order.proofs.search_all.Goals as goal
use Rattle.order.proofs.FirstIs.{words_defined}

pub returns : goal.returns
returns g c =
    let leq = g.T.Ranked.leq in
    let is_open = g.T.Ranked.is_open in
    let xs = c.args.records.now in
    let found = words_defined leq is_open xs c.search.result c.search.ensures in
    record { first_by_the_order = c.search.ensures; no_other_answer = λ o h. words_defined leq is_open xs o h ∙ sym found; as_defined = found }
