-- Saturating addition over what the items that pass count for gives their sum, or the most that fits.
use Rattle.std.proofs.Common.{◌≡◌, ℕ, ◌+◌, ◌≤◌, Bool, true, false, cond, min, List, [], ◌∷◌, map, sum_by, ◌∙◌, arith}
use Rattle.std.specs.List.{fold, filter}
use Rattle.std.proofs.lemmas.List.Sums.{sum_by-cons}

abbrev pub capped : ℕ → ℕ → ℕ → ℕ
capped most so_far n = min (so_far + n) most

from_any : {X : Type 0} (most : ℕ) (passes : X → Bool) (f : X → ℕ) (a : ℕ) (xs : List X) → a ≤ most
    → fold (capped most) a (map f (filter passes xs)) ≡ min (a + sum_by (λ x. cond (passes x) (f x) 0) xs) most
from_any most passes f a [] h = omega (arith, h)
from_any {X} most passes f a (x ∷ xs) h =
    let split = sum_by-cons (λ z. cond (passes z) (f z) 0) x xs in
    let F : ℕ → List ℕ → ℕ = λ s ns. fold (capped most) s ns in
    let goal : Bool → Type 0 = λ t. F a (map f (cond t (x ∷ filter passes xs) (filter passes xs))) ≡ min (a + (cond t (f x) 0 + sum_by (λ z. cond (passes z) (f z) 0) xs)) most in
    let both : goal (passes x) = elim (passes x) as goal [
      | true ↦ from_any most passes f (min (a + f x) most) xs (omega arith) ∙ omega arith
      | false ↦ from_any most passes f a xs h ∙ omega arith
    ] in
    both ∙ omega (arith, split)

pub saturated : {X : Type 0} (most : ℕ) (passes : X → Bool) (f : X → ℕ) (xs : List X) → fold (capped most) 0 (map f (filter passes xs)) ≡ min (sum_by (λ x. cond (passes x) (f x) 0) xs) most
saturated most passes f xs = from_any most passes f 0 xs (omega arith) ∙ omega arith
