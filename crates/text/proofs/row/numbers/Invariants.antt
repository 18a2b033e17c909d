use Rattle.std.proofs.Common.{◌≡◌, ◌+◌, [], length, drop, vec_items}
use Rattle.text.specs.Parts.{fields}
use Rattle.text.proofs.Collects.{collect}
use Rattle.text.proofs.row.numbers.Given as goal

-- the numbers found, and after them those of the fields to come
abbrev pub invariant-loop-i : goal.invariant-loop-i
invariant-loop-i l =
    collect (vec_items l.found) (length l.yielded + 2) (drop (length l.yielded) (drop 1 (fields l.line))) ≡ collect [] 2 (drop 1 (fields l.line))
