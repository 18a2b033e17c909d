-- The lines of a file, one step at a time.
use Rattle.std.specs.Prelude.{◌≡◌, ◌+◌, ◌<◌, length, take, drop, Some, None, Option, not, ◌==◌}
use Rattle.text.specs.Parts.{stop}
use Rattle.book.specs.declared.lines.Line.{Line}
use Rattle.book.specs.declared.lines.Lines.{Lines}

-- the first line of what is left, and what is left after it
pub record Stepped (s : Lines) (line : Line) (t : Lines) : Type 0 where
  pub some : 0 < length s.rest.now
  pub bytes : line.bytes.now ≡ take (stop 10 s.rest.now) s.rest.now
  pub number : line.number ≡ s.number
  pub ended : line.ended ≡ not (length (drop (stop 10 s.rest.now) s.rest.now) == 0)
  pub rest : t.rest.now ≡ drop 1 (drop (stop 10 s.rest.now) s.rest.now)
  pub next_number : t.number ≡ s.number + 1

abbrev pub line_steps : Lines → Option Line → Lines → Type 0
line_steps s None t = length s.rest.now ≡ 0
line_steps s (Some line) t = Stepped s line t
