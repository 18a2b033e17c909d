use Rattle.std.proofs.Common.{◌≡◌, ◌++◌, take}
use Rattle.std.specs.List.{flat_map}
use Rattle.text.specs.Pages.{most_bytes, written}
use Rattle.text.specs.Rows.{line}
use Rattle.book.proofs.book.writing.push_rows.Given as goal

abbrev pub invariant-loop-r : goal.invariant-loop-r
invariant-loop-r g l = written l.page ≡ take most_bytes (written l.initial.page ++ flat_map (λ r. line g.R.Record.kind (g.R.Record.numbers r)) (take l.r-index l.rows))
