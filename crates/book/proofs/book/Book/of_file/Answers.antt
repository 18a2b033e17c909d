use Rattle.std.proofs.lemmas.Bool.{or_right}
use Rattle.book.specs.Data.{draft_of}
use Rattle.book.specs.Lawful.{nothing, lawful}
use Rattle.book.proofs.FileOfBook.{accepted}
use Rattle.book.proofs.book.Book.of_file.Goals as goal

-- what was read is lawful
pub invariant_of-result : goal.invariant_of-result
invariant_of-result c =
    let b = (draft_of c.in_ok-terms.field-0).book in
    record { one_that_exists = or_right (nothing b) (lawful b) (accepted c.args.file.now b c.in_ok-terms.ensures.by_the_definition).0 }
