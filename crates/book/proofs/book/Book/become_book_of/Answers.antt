use Rattle.std.proofs.lemmas.Result.{err_from_is_err_and}
use Rattle.book.specs.Data.{contents}
use Rattle.book.proofs.OneFile.{accepts_read, accepts_refused}
use Rattle.book.proofs.book.Book.become_book_of.Goals as goal

pub returns-in_err-self-clause-accepts_exactly_the_texts_of_books : goal.returns-in_err-self-clause-accepts_exactly_the_texts_of_books
returns-in_err-self-clause-accepts_exactly_the_texts_of_books c =
    let p = err_from_is_err_and c.from_residual.result c.from_residual.ensures.1 in
    rw (p.1, p.2) (accepts_refused contents c.args.file.now c.in_err-self.field-0.0 (contents c.empty.result) c.in_err-self.ensures.by_the_definition)

pub returns-clause-accepts_exactly_the_texts_of_books : goal.returns-clause-accepts_exactly_the_texts_of_books
returns-clause-accepts_exactly_the_texts_of_books c = accepts_read c.args.file.now (contents c.in_ok-self.field-0) c.in_ok-self.ensures.by_the_definition
