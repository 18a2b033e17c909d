use Rattle.std.proofs.Common.{◌<◌, List, length}
use Rattle.book.specs.Data.{contents}
use Rattle.book.proofs.BookKept.{book_sound}
use Rattle.pairing.specs.declared.line.Line.{Line}
use Rattle.pairing.specs.Laws.{Lawful}
use Rattle.pairing.proofs.LinesLawful.{lines_lawful}
use Rattle.pairs.specs.Records.{lots_in}
use Rattle.pairs.proofs.Outcomes.{of_lines}
use Rattle.pairs.proofs.whole_book.pair_by_law.Goals as goal

pub returns : goal.returns
returns c =
    let b = contents c.args.book.now in
    let lots = lots_in b c.args.lots.now in
    record {
      answers_the_count = c.pair_book.ensures.answers_the_count;
      lines_as_defined = c.pair_book.ensures.lines_as_defined;
      count_within_the_table = c.pair_book.ensures.count_within_the_table;
      lines_keep_the_laws = of_lines b lots c.args.lines.now c.pair_book.new.lines c.pair_book.result
          c.pair_book.ensures.answers_the_count c.pair_book.ensures.lines_as_defined
          (λ (ls : List Line). 0 < length b.holders → Lawful b lots ls) (λ some. lines_lawful b (book_sound c.args.book.now some) lots);
    }
