use Rattle.std.proofs.Common.{sym, ◌∙◌}
use Rattle.book.specs.Data.{contents}
use Rattle.book_report.proofs.BytesOfText.{bytes_of_text}
use Rattle.book_report.proofs.book_of_input.Goals as goal

pub returns : goal.returns
returns c = record {
  bytes_of_its_text =
      bytes_of_text c.in_ok-accepted.accepted c.as_slice.result.now (contents c.read_or_print.new.book) c.len.result c.then_some.result c.in_ok-accepted.ensures.true_where_accepted (c.len.ensures ∙ sym c.as_slice.ensures.len) c.then_some.ensures;
}
