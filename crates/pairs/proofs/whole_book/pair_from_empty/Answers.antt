use Rattle.std.proofs.Common.{◌<◌, List, [], length, ◌∙◌, arith}
use Rattle.book.specs.Data.{contents}
use Rattle.book.proofs.BookKept.{book_sound}
use Rattle.pairing.specs.declared.line.Line.{Line}
use Rattle.pairing.specs.Lines.{added}
use Rattle.pairing.specs.Laws.{Notified, Lawful}
use Rattle.pairing.proofs.LinesLawful.{lines_lawful, all_notified}
use Rattle.pairs.specs.Records.{lots_in}
use Rattle.pairs.proofs.BookBounds.{few_of_each}
use Rattle.pairs.proofs.Outcomes.{of_lines, nothing_held, lines_unnotified, same_answer, same_leaves}
use Rattle.pairs.proofs.whole_book.pair_from_empty.Goals as goal

pub returns : goal.returns
returns c =
    let book = c.args.book.now in
    let b = contents book in
    let table = c.args.lines.now in
    let after = c.hand_out.new.records in
    let few = (few_of_each book).1 in
    let same = lines_unnotified book c.args.records.now after (omega (arith, few, c.requires.room)) (nothing_held c.args.records.now c.requires.empty) c.hand_out.ensures.records_as_defined in
    let answer = c.pair.ensures.answers_the_count ∙ same_answer b (lots_in b after) (added b []) table same in
    let leaves = c.pair.ensures.lines_as_defined ∙ same_leaves b (lots_in b after) (added b []) table same in
    record {
      answers_the_count = answer;
      lines_as_defined = leaves;
      count_within_the_table = c.pair.ensures.count_within_the_table;
      lines_keep_the_laws = of_lines b (added b []) table c.pair.new.lines c.pair.result answer leaves
          (λ (ls : List Line). 0 < length b.holders → Notified b (added b []) × Lawful b (added b []) ls)
          (λ some. let ok = book_sound book some in (all_notified b ok, lines_lawful b ok (added b [])));
    }
