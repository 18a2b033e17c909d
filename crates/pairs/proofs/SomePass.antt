-- Whether any record passes, one record further.
use Rattle.std.proofs.Common.{◌≡◌, ℕ, ◌+◌, ◌<◌, ◌≤◌, Bool, true, false, ◌||◌, List, [], ◌∷◌, length, get_or, drop, refl, ap, ◌∙◌}
use Rattle.std.specs.List.{list_any}
use Rattle.std.proofs.lemmas.List.{drop_more, drop_all}
use Rattle.order.specs.First.{any}

module _ {X : Type 0} (passes : X → Bool) (xs : List X) (i : ℕ) (d : X) where
  pub any_yes : i < length xs → passes (get_or xs i d) ≡ true → any passes (drop i xs) ≡ true
  any_yes h p = ap (any passes) (drop_more xs i d h) ∙ ap (λ t. t || any passes (drop (i + 1) xs)) p

  pub any_no : i < length xs → passes (get_or xs i d) ≡ false → any passes (drop i xs) ≡ any passes (drop (i + 1) xs)
  any_no h p = ap (any passes) (drop_more xs i d h) ∙ ap (λ t. t || any passes (drop (i + 1) xs)) p

  pub any_end : length xs ≤ i → any passes (drop i xs) ≡ false
  any_end h = ap (any passes) (drop_all i xs h)

-- The library's test is the same.
pub any_is : {X : Type 0} (passes : X → Bool) (xs : List X) → list_any passes xs ≡ any passes xs
any_is passes [] = refl
any_is passes (x ∷ xs) = ap (λ t. passes x || t) (any_is passes xs)
