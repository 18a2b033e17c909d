use Rattle.std.proofs.Common.{◌≡◌, ◌∷◌, ◌++◌, take}
use Rattle.std.specs.Fmt.{signed_decimal}
use Rattle.std.specs.List.{flat_map}
use Rattle.text.specs.Pages.{most_bytes, written}
use Rattle.text.proofs.page.Page.push_line.Given as goal

-- the kind, and a comma before each number so far
abbrev pub invariant-loop-v : goal.invariant-loop-v
invariant-loop-v l = written l.self ≡ take most_bytes (written l.initial.self ++ flat_map (λ z. 44 ∷ signed_decimal z) (take l.v-index l.values))
