-- A sum over what passes a test.
use Rattle.std.proofs.Common.{◌≡◌, ℕ, ◌+◌, Bool, true, false, cond, List, [], ◌∷◌, ap, ◌∙◌, sym, refl, arith}
use Rattle.std.specs.List.{filter, sum_by}
use Rattle.std.proofs.lemmas.List.Sums.{sum_by-cons}

-- with x in front, which passes or not
cons_passing : {X : Type 0} (b : Bool) (f : X → ℕ) (x : X) (ys : List X) (n : ℕ) → sum_by f ys ≡ n → sum_by f (cond b (x ∷ ys) ys) ≡ (cond b (f x) 0) + n
cons_passing true f x ys n e = sum_by-cons f x ys ∙ ap (λ k. f x + k) e
cons_passing false f x ys n e = omega (arith, e)

pub sum_passing : {X : Type 0} (p : X → Bool) (f : X → ℕ) (xs : List X) → sum_by f (filter p xs) ≡ sum_by (λ x. cond (p x) (f x) 0) xs
sum_passing p f [] = refl
sum_passing p f (x ∷ xs) = cons_passing (p x) f x (filter p xs) _ (sum_passing p f xs) ∙ sym (sum_by-cons (λ x. cond (p x) (f x) 0) x xs)
