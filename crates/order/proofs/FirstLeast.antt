-- What `first` and `any` say: the first record that passes stands at or before every other that does.
use Rattle.std.proofs.Common.{◌≡◌, ℕ, zero, suc, ◌+◌, ◌<◌, Bool, true, false, cond, ◌&&◌, List, [], ◌∷◌, length, get_or, Some, None, Option, sym, refl, ap, ◌∙◌, subst, ⊎_elim, arith}
use Rattle.std.proofs.lemmas.Bool.{cases_Bool, both_ways, and_parts, and_cases, or_cases, or_left, or_right}
use Rattle.order.specs.First.{Total, chosen, first, any}
use Rattle.order.proofs.FirstIs.{first_none}

second : {X : Type 0} {i j : ℕ} {x y : X} → ◌≡◌ {A = Option (ℕ × X)} (Some (i, x)) (Some (j, y)) → x ≡ y
second {X = X} {i = i} {j = j} {x = x} {y = y} e = let q : ◌≡◌ {A = ℕ × X} (i, x) (j, y) = cc in ap (λ r. r.1) q

module _ {X : Type 0} (passes : X → Bool) (d : X) where
  pub any_has : (xs : List X) → any passes xs ≡ true → (k : ℕ) × (k < length xs) × (passes (get_or xs k d) ≡ true)
  any_has [] e = let z : ◌≡◌ {A = ℕ} 0 1 = cc in absurd (omega arith)
  any_has (x ∷ xs) e = ⊎_elim
      (λ h. (0, omega arith, h))
      (λ h. let r = any_has xs h in (suc r.0, omega (arith, r.1), r.2))
      (or_cases (passes x) (any passes xs) e)

  pub has_any : (xs : List X) (k : ℕ) → k < length xs → passes (get_or xs k d) ≡ true → any passes xs ≡ true
  has_any [] k h p = absurd (omega arith)
  has_any (x ∷ xs) zero h p = or_left (passes x) (any passes xs) p
  has_any (x ∷ xs) (suc k) h p = or_right (passes x) (any passes xs) (has_any xs k (omega arith) p)

module _ {X : Type 0} {leq : X → X → Bool} {alike : X → X → Type 0} (order : Total leq alike) (passes : X → Bool) (d : X) where
  itself : (x : X) → leq x x ≡ true
  itself x = ⊎_elim (λ e. e) (λ e. order.compares x x e) (cases_Bool (leq x x))

  pub none_first : (xs : List X) → first leq passes xs ≡ None → (k : ℕ) → k < length xs → passes (get_or xs k d) ≡ false
  none_first [] e k h = absurd (omega arith)
  none_first (x ∷ xs) e zero h = (first_none leq passes x xs e).0
  none_first (x ∷ xs) e (suc k) h = none_first xs (first_none leq passes x xs e).1 k (omega arith)

  pub first_least : (xs : List X) (i : ℕ) (z : X) → first leq passes xs ≡ Some (i, z)
      → (k : ℕ) → k < length xs → passes (get_or xs k d) ≡ true → leq z (get_or xs k d) ≡ true
  first_least [] i z e k h p = absurd (omega arith)
  first_least (x ∷ xs) i z e k h p = go (first leq passes xs) refl e (λ j y f m. first_least xs j y f m) k h p
    where
      go : (o : Option (ℕ × X)) → first leq passes xs ≡ o → chosen leq (passes x) x (first leq passes xs) ≡ Some (i, z)
          → ((j : ℕ) (y : X) → first leq passes xs ≡ Some (j, y) → (m : ℕ) → m < length xs → passes (get_or xs m d) ≡ true → leq y (get_or xs m d) ≡ true)
          → (k : ℕ) → k < length (x ∷ xs) → passes (get_or (x ∷ xs) k d) ≡ true → leq z (get_or (x ∷ xs) k d) ≡ true
      go None o e ih = none_case (passes x) (sym (ap (chosen leq (passes x) x) o) ∙ e)
        where
          none_case : (t : Bool) → cond {A = Option (ℕ × X)} t (Some (0, x)) None ≡ Some (i, z)
              → (k : ℕ) → k < length (x ∷ xs) → passes (get_or (x ∷ xs) k d) ≡ true → leq z (get_or (x ∷ xs) k d) ≡ true
          none_case true e zero h p = let q : x ≡ z = second e in subst (λ u. leq u x ≡ true) q (itself x)
          none_case true e (suc k) h p = absurd (both_ways (passes (get_or xs k d)) (none_first xs o k (omega arith)) p)
          none_case false e k h p = let z : ◌≡◌ {A = ℕ} 0 1 = cc in absurd (omega arith)
      go (Some (j, y)) o e ih = some_case (passes x && leq x y) refl (sym (ap (chosen leq (passes x) x) o) ∙ e) (ih j y o)
        where
          some_case : (t : Bool) → (passes x && leq x y) ≡ t → cond {A = Option (ℕ × X)} t (Some (0, x)) (Some (j + 1, y)) ≡ Some (i, z)
              → ((m : ℕ) → m < length xs → passes (get_or xs m d) ≡ true → leq y (get_or xs m d) ≡ true)
              → (k : ℕ) → k < length (x ∷ xs) → passes (get_or (x ∷ xs) k d) ≡ true → leq z (get_or (x ∷ xs) k d) ≡ true
          some_case true t e ih zero h p = let q : x ≡ z = second e in subst (λ u. leq u x ≡ true) q (itself x)
          some_case true t e ih (suc k) h p = let q : x ≡ z = second e in
              subst (λ u. leq u (get_or xs k d) ≡ true) q (order.carries x y (get_or xs k d) (and_parts (passes x) (leq x y) t).1 (ih k (omega arith) p))
          some_case false t e ih zero h p = let q : y ≡ z = second e in
              subst (λ u. leq u x ≡ true) q (⊎_elim (λ f. absurd (both_ways (passes x) f p)) (λ f. order.compares x y f) (and_cases (passes x) (leq x y) t))
          some_case false t e ih (suc k) h p = let q : y ≡ z = second e in subst (λ u. leq u (get_or xs k d) ≡ true) q (ih k (omega arith) p)
