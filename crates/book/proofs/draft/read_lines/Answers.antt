use Rattle.std.proofs.Common.{Err, sym, ap, ◌∙◌}
use Rattle.std.proofs.lemmas.Result.{err_from_is_err_and}
use Rattle.text.specs.Parts.{parts}
use Rattle.book.specs.Reading.{read_on, onward}
use Rattle.book.specs.Data.{draft_of}
use Rattle.book.proofs.ReaderTurns.{turn, refused_line}
use Rattle.book.proofs.draft.read_lines.Goals as goal

pub loop-line-preserved : goal.loop-line-preserved
loop-line-preserved c =
    let left = c.next.new.self in
    sym (ap (λ n. onward n (λ e. read_on left.number e (parts 10 left.rest.now))) c.in_ok-take_line.ensures.by_the_definition)
    ∙ sym (turn c.loop-line.line-iterator left c.in-Some.line (draft_of c.loop-line.draft) c.in-Some.ensures.steps)
    ∙ c.loop-line.invariant

pub returns-in_err-take_line : goal.returns-in_err-take_line
returns-in_err-take_line c =
    let p = err_from_is_err_and c.from_residual.result c.from_residual.ensures.1 in
    record {
      by_the_definition =
          refused_line draft_of c.from_residual.result c.in_err-take_line.field-0.0 _ _ _ _ (p.1 ∙ ap Err p.2) c.in_err-take_line.ensures.by_the_definition
          (sym c.loop-line.invariant ∙ turn c.loop-line.line-iterator c.next.new.self c.in-Some.line (draft_of c.loop-line.draft) c.in-Some.ensures.steps);
    }
