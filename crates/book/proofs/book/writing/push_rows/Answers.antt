use Rattle.std.proofs.Common.{[], ◌∷◌, ◌++◌, take, sym, ap, ◌∙◌, take_all}
use Rattle.std.proofs.lemmas.List.{flat_map_more, take_more}
use Rattle.std.specs.List.{flat_map}
use Rattle.text.specs.Pages.{most_bytes, written}
use Rattle.text.specs.Rows.{line}
use Rattle.text.proofs.Taken.{take_twice, page_whole}
use Rattle.book.proofs.book.writing.push_rows.Goals as goal

pub loop-r-init : goal.loop-r-init
loop-r-init g c = page_whole c.args.page.now

pub loop-r-preserved : goal.loop-r-preserved
loop-r-preserved g c =
    let xs = c.args.rows.now in
    let i = c.loop-r.r-index in
    let x = c.r-item.result in
    let f = λ (r : g.row.R.Denot). line g.R.Record.kind (g.R.Record.numbers r) in
    let start = written c.args.page.now in
    c.push_to.ensures.line_is_appended
    ∙ take_twice most_bytes start (flat_map f (take i xs)) (f x) (written c.loop-r.page) c.loop-r.invariant
    ∙ ap (λ t. take most_bytes (start ++ t)) (flat_map_more f [] (take i xs) x)
    ∙ ap (λ y. take most_bytes (start ++ flat_map f (take i xs ++ y ∷ []))) c.r-item.is
    ∙ ap (λ t. take most_bytes (start ++ flat_map f t)) (sym (take_more xs i x c.loop-r-test.true))

pub returns : goal.returns
returns g c =
    record { lines_are_appended = c.loop-r.invariant ∙ ap (λ t. take most_bytes (written c.args.page.now ++ flat_map (λ r. line g.R.Record.kind (g.R.Record.numbers r)) t)) (take_all c.loop-r.r-index c.args.rows.now c.loop-r-test.false) }
