use Rattle.std.proofs.Common.{Bool, not, List, ap, ◌∙◌, rules, tests}
use Rattle.std.proofs.lemmas.Iterator.{YieldsList-from_slice}
use Rattle.std.proofs.lemmas.Iterator.Search.{any_from_yields_List}
use Rattle.book.specs.declared.records.Holder.{Holder}
use Rattle.book.specs.Data.{contents}
use Rattle.settlement.specs.InFull.{short}
use Rattle.state.proofs.AnyOf.{any_of}
use Rattle.settlement.proofs.whole.all_drawn.Goals as goal

pub returns : goal.returns
returns c = λ fit.
    let P : Holder → Bool = short (contents c.args.state.now.book) c.args.lines.now c.args.state.now.draws in
    let items : List Holder = (contents c.args.state.now.book).holders in
    ap not (any_from_yields_List P _ _ c.any.result c.any.ensures.ran (YieldsList-from_slice items cc) (λ x b q k. search (rules, tests, fit x.now.agent)) ∙ any_of P items)
