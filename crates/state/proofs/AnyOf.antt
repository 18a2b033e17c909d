-- Whether any record passes, in the library's word.
use Rattle.std.proofs.Common.{◌≡◌, Bool, ◌||◌, List, [], ◌∷◌, refl, ap}
use Rattle.std.specs.List.{list_any}
use Rattle.order.specs.First.{any}

pub any_of : {X : Type 0} (passes : X → Bool) (xs : List X) → list_any passes xs ≡ any passes xs
any_of passes [] = refl
any_of passes (x ∷ xs) = ap (λ (b : Bool). passes x || b) (any_of passes xs)
