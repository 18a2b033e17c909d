use Rattle.std.proofs.Common.{rules}
use Rattle.std.proofs.lemmas.List.Sorted.{answers_always}
use Rattle.book.proofs.RowOf.{key, row_searched, one_row}
use Rattle.book.proofs.book.Book.row_with.Goals as goal

-- the closure gives a row's key, and the slice is the book's rows
pub returns : goal.returns
returns c =
    let b = c.args.self.now in
    let searched = c.binary_search_by_key.ensures in
    let e = row_searched b c.args.member c.args.number c.deref.result.now c.binary_search_by_key.result c.ok.result c.map.result _ c.deref.ensures.value searched.bound
    (searched.position key (answers_always _ _ _ (λ f a r g called. search rules))) (λ x y k. search rules) c.ok.ensures.value c.map.ensures.cases in
    record { value = e; the_one_row_or_none = one_row b c.args.member c.args.number c.map.result e }
