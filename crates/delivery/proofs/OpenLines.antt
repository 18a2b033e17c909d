-- Whether any line passes a test, in the words of the rules and in the library's.
use Rattle.std.proofs.Common.{◌≡◌, Bool, ◌||◌, List, refl}
use Rattle.std.specs.List.{list_any}
use Rattle.std.proofs.lemmas.List.Recursion.{same_from_clauses}
use Rattle.order.specs.First.{any}

pub any_is : {X : Type 0} (passes : X → Bool) (xs : List X) → list_any passes xs ≡ any passes xs
any_is passes = same_from_clauses (list_any passes) (any passes) (λ x found. passes x || found) refl (λ _ _. refl) (λ _ _. refl)
