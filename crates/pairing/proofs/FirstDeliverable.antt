-- The first deliverable is an asset of the book.
use Rattle.std.proofs.Common.{◌≡◌, ℕ, suc, ◌+◌, ◌<◌, Bool, true, false, cond, ◌&&◌, List, [], ◌∷◌, length, Some, None, Option, refl, ap, arith}
use Rattle.book.specs.declared.records.Asset.{Asset}
use Rattle.book.specs.Books.{Contents, Sound}
use Rattle.order.specs.First.{first, chosen}
use Rattle.pairing.specs.Orders.{place_or_0, deliverable_leq, deliverables, first_deliverable}

abbrev Below : {X : Type 0} → ℕ → Option (ℕ × X) → Type 0
Below n None = Unit {0}
Below n (Some (i, x)) = i < n

chosen_below : {X : Type 0} (leq : X → X → Bool) (n : ℕ) (p : Bool) (x : X) (r : Option (ℕ × X)) → Below n r → Below (suc n) (chosen leq p x r)
chosen_below leq n true x None h = omega arith
chosen_below leq n false x None h = tt
chosen_below {X} leq n p x (Some (i, y)) h = go (p && leq x y)
  where
    go : (c : Bool) → Below {X = X} (suc n) (cond c (Some (0, x)) (Some (i + 1, y)))
    go true = omega arith
    go false = omega arith

pub first_below : {X : Type 0} (leq : X → X → Bool) (passes : X → Bool) (xs : List X) → Below (length xs) (first leq passes xs)
first_below leq passes [] = tt
first_below leq passes (x ∷ xs) = chosen_below leq (length xs) (passes x) x (first leq passes xs) (first_below leq passes xs)

place_below : {X : Type 0} (n : ℕ) (r : Option (ℕ × X)) → 0 < n → Below n r → place_or_0 r < n
place_below n None p h = p
place_below n (Some (i, x)) p h = h

length_deliverables : (price a : ℕ) (xs : List Asset) → length (deliverables price a xs) ≡ length xs
length_deliverables price a [] = refl
length_deliverables price a (x ∷ xs) = ap suc (length_deliverables price (a + 1) xs)

pub first_deliverable_in : (b : Contents) → Sound b → first_deliverable b < length b.assets
first_deliverable_in b s =
    let e = length_deliverables b.terms.price 0 b.assets in
    let c = s.asset_count.0 in
    let f = place_below (length (deliverables b.terms.price 0 b.assets)) (first deliverable_leq (λ _. true) (deliverables b.terms.price 0 b.assets)) (omega (arith, e, c)) (first_below deliverable_leq (λ _. true) (deliverables b.terms.price 0 b.assets)) in
    omega (arith, e, f)
