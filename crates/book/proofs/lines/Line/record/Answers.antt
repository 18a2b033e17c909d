use Rattle.text.proofs.RoundTrip.{accepted_good}
use Rattle.book.proofs.RowOnLine.{row_is}
use Rattle.book.proofs.lines.Line.record.Goals as goal

-- numbers that were accepted are one for each bound, each within it
pub of_numbers-requires : goal.of_numbers-requires
of_numbers-requires g c =
    let e = row_is c.args.self.now.number _ _ c.in_ok-numbers.ensures.by_the_definition in
    rw (c.as_slice.ensures.value, ← c.bounds.ensures.of_each_number) (accepted_good c.kind.result.now c.bounds.result.now c.args.self.now.bytes.now _ e)
