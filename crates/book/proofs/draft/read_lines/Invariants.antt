use Rattle.std.proofs.Common.{◌≡◌}
use Rattle.text.specs.Parts.{parts}
use Rattle.book.specs.Reading.{read_on, start}
use Rattle.book.specs.Data.{draft_of}
use Rattle.book.proofs.draft.read_lines.Given as goal

abbrev pub invariant-loop-line : goal.invariant-loop-line
invariant-loop-line l = read_on l.line-iterator.number (draft_of l.draft) (parts 10 l.line-iterator.rest.now) ≡ read_on 1 start (parts 10 l.file)
