-- The definition of the first record that passes: where it gives a record, where none, and that the words say the same.
use Rattle.std.proofs.Common.{◌≡◌, ℕ, zero, suc, ◌+◌, ◌<◌, Bool, true, false, cond, ◌&&◌, ◌⊎◌, List, [], ◌∷◌, length, get_or, Some, None, Option, sym, refl, ap, ◌∙◌, inl, inr, ⊎_elim, add-one, arith}
use Rattle.order.specs.First.{FirstOpen, chosen, first, place_of}

module _ {X : Type 0} (leq : X → X → Bool) where
  some_none : {Y : Type 0} {y : Y} {P : Type 0} → Some y ≡ None → P
  some_none e = let z : ◌≡◌ {A = ℕ} 0 1 = cc in absurd (omega arith)

  inside : {Y : Type 0} {y z : Y} → Some y ≡ Some z → y ≡ z
  inside e = cc

  chosen_none : (t : Bool) (x : X) (o : Option (ℕ × X)) → chosen leq t x o ≡ None → (t ≡ false) × (o ≡ None)
  chosen_none true x None e = some_none e
  chosen_none false x None e = (refl, refl)
  chosen_none t x (Some (i, y)) e = go (t && leq x y) e
    where
      go : (u : Bool) → cond {A = Option (ℕ × X)} u (Some (0, x)) (Some (i + 1, y)) ≡ None → (t ≡ false) × (◌≡◌ {A = Option (ℕ × X)} (Some (i, y)) None)
      go true e = some_none e
      go false e = some_none e

  chosen_some : (t : Bool) (x : X) (o : Option (ℕ × X)) (i : ℕ) (z : X) → chosen leq t x o ≡ Some (i, z)
      → ((t ≡ true) × (i ≡ 0) × (z ≡ x)) ⊎ ((j : ℕ) × (o ≡ Some (j, z)) × (i ≡ j + 1))
  chosen_some true x None i z e = inl (refl, ap (λ r. r.0) (sym (inside e)), ap (λ r. r.1) (sym (inside e)))
  chosen_some false x None i z e = some_none (sym e)
  chosen_some true x (Some (j, y)) i z e = go (leq x y) e
    where
      go : (u : Bool) → cond {A = Option (ℕ × X)} u (Some (0, x)) (Some (j + 1, y)) ≡ Some (i, z)
          → ((true ≡ true) × (i ≡ 0) × (z ≡ x)) ⊎ ((k : ℕ) × (◌≡◌ {A = Option (ℕ × X)} (Some (j, y)) (Some (k, z))) × (i ≡ k + 1))
      go true e = inl (refl, ap (λ r. r.0) (sym (inside e)), ap (λ r. r.1) (sym (inside e)))
      go false e = inr (j, ap (λ r. Some (j, r.1)) (inside e), ap (λ r. r.0) (sym (inside e)))
  chosen_some false x (Some (j, y)) i z e = inr (j, ap (λ r. Some (j, r.1)) (inside e), ap (λ r. r.0) (sym (inside e)))

  pub first_some : (passes : X → Bool) (xs : List X) (i : ℕ) (z d : X) → first leq passes xs ≡ Some (i, z)
      → (i < length xs) × (get_or xs i d ≡ z) × (passes z ≡ true)
  first_some passes [] i z d e = some_none (sym e)
  first_some passes (x ∷ xs) i z d e = ⊎_elim
      (λ h. (omega (arith, h.1), ap (λ k. get_or (x ∷ xs) k d) h.1 ∙ sym h.2, ap passes h.2 ∙ h.0))
      (λ h. let ih = first_some passes xs h.0 z d h.1 in
      (omega (arith, ih.0, h.2), ap (λ k. get_or (x ∷ xs) k d) (h.2 ∙ add-one h.0) ∙ ih.1, ih.2))
      (chosen_some (passes x) x (first leq passes xs) i z e)

  pub first_none : (passes : X → Bool) (x : X) (xs : List X) → first leq passes (x ∷ xs) ≡ None → (passes x ≡ false) × (first leq passes xs ≡ None)
  first_none passes x xs e = chosen_none (passes x) x (first leq passes xs) e

  -- A record that passes, is not after any other that passes, and before those that stand before it in the list, is the first.
  pub first_is : (passes : X → Bool) (xs : List X) (b : ℕ) (d : X) → b < length xs → passes (get_or xs b d) ≡ true
      → ((k : ℕ) → k < length xs → passes (get_or xs k d) ≡ true → leq (get_or xs b d) (get_or xs k d) ≡ true)
      → ((k : ℕ) → k < b → passes (get_or xs k d) ≡ true → leq (get_or xs k d) (get_or xs b d) ≡ false)
      → first leq passes xs ≡ Some (b, get_or xs b d)
  first_is passes [] b d within here least earliest = absurd (omega arith)
  first_is passes (x ∷ xs) zero d within here least earliest = go (first leq passes xs) refl
    where
      go : (o : Option (ℕ × X)) → first leq passes xs ≡ o → chosen leq (passes x) x (first leq passes xs) ≡ Some (0, x)
      go None e = ap (chosen leq (passes x) x) e ∙ ap (λ t. cond {A = Option (ℕ × X)} t (Some (0, x)) None) here
      go (Some (j, y)) e =
          let s = first_some passes xs j y d e in
          let le : leq x y ≡ true = ap (leq x) (sym s.1) ∙ least (suc j) (omega (arith, s.0)) (ap passes s.1 ∙ s.2) in
          ap (chosen leq (passes x) x) e ∙ ap (λ t. cond {A = Option (ℕ × X)} (t && leq x y) (Some (0, x)) (Some (j + 1, y))) here
          ∙ ap (λ t. cond {A = Option (ℕ × X)} t (Some (0, x)) (Some (j + 1, y))) le
  first_is passes (x ∷ xs) (suc b) d within here least earliest =
      let y = get_or xs b d in
      let ih = first_is passes xs b d (omega arith) here (λ k h. least (suc k) (omega arith)) (λ k h. earliest (suc k) (omega arith)) in
      ap (chosen leq (passes x) x) ih ∙ go (passes x) refl
    where
      go : (t : Bool) → passes x ≡ t → cond {A = Option (ℕ × X)} (passes x && leq x (get_or xs b d)) (Some (0, x)) (Some (b + 1, get_or xs b d)) ≡ Some (suc b, get_or xs b d)
      go true e = ap (λ t. cond {A = Option (ℕ × X)} (t && leq x (get_or xs b d)) (Some (0, x)) (Some (b + 1, get_or xs b d))) e
          ∙ ap (λ t. cond {A = Option (ℕ × X)} t (Some (0, x)) (Some (b + 1, get_or xs b d))) (earliest 0 (omega arith) e)
          ∙ ap (λ n. Some (n, get_or xs b d)) (add-one b)
      go false e = ap (λ t. cond {A = Option (ℕ × X)} (t && leq x (get_or xs b d)) (Some (0, x)) (Some (b + 1, get_or xs b d))) e
          ∙ ap (λ n. Some (n, get_or xs b d)) (add-one b)

  pub none_passes : (passes : X → Bool) (xs : List X) (d : X) → ((k : ℕ) → k < length xs → passes (get_or xs k d) ≡ false) → first leq passes xs ≡ None
  none_passes passes [] d h = refl
  none_passes passes (x ∷ xs) d h =
      ap (chosen leq (passes x) x) (none_passes passes xs d (λ k lt. h (suc k) (omega arith))) ∙ ap (λ t. cond {A = Option (ℕ × X)} t (Some (0, x)) None) (h 0 (omega arith))

  -- What the words fit is what the definition gives.
  pub words_defined : (is_open : X → Bool) (xs : List X) (o : Option ℕ) → FirstOpen leq is_open xs o → o ≡ place_of (first leq is_open xs)
  words_defined is_open [] None none = refl
  words_defined is_open (x ∷ xs) None none = sym (ap place_of (none_passes is_open (x ∷ xs) x (λ k h. none k x h)))
  words_defined is_open [] (Some b) f = absurd (omega (arith, f.within))
  words_defined is_open (x ∷ xs) (Some b) f =
      sym (ap place_of (first_is is_open (x ∷ xs) b x f.within (f.passing x) (λ k h. f.least k x h) (λ k h. f.earliest k x h)))
