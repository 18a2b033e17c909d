-- The search, one record further: what it leaves is again the first open record so far.
use Rattle.std.proofs.Common.{◌≡◌, ℕ, ◌+◌, ◌<◌, Bool, true, false, List, length, get_or, Some, None, Option, sym, refl, ◌∙◌, ⊎_elim, arith, below_more}
use Rattle.std.proofs.lemmas.List.{get_or_read}
use Rattle.std.proofs.lemmas.Bool.{true≢false, cases_Bool}
use Rattle.order.specs.First.{First, FirstAmong}

itself : {X : Type 0} (leq : X → X → Bool) → ((u v : X) → leq u v ≡ false → leq v u ≡ true) → (z : X) → leq z z ≡ true
itself leq compares z = ⊎_elim (λ e. e) (λ e. compares z z e) (cases_Bool (leq z z))

-- One more record, x at place i. The record chosen so far is y, at b.
module _ {X : Type 0} (leq : X → X → Bool) (is_open : X → Bool) (xs : List X) (i : ℕ) (x : X)
    (i_in : i < length xs) (x_is : x ≡ get_or xs i x) where
  at_x : (d : X) → x ≡ get_or xs i d
  at_x d = get_or_read xs i x i_in x_is d

  pub closed_none : FirstAmong leq is_open xs i None → is_open x ≡ false → FirstAmong leq is_open xs (i + 1) None
  closed_none none shut = λ k d. below_more (λ j. is_open (get_or xs j d) ≡ false) i (λ j h. none j d h) (rw (at_x d) at shut) k

  pub opens : ((u v : X) → leq u v ≡ false → leq v u ≡ true)
      → FirstAmong leq is_open xs i None → is_open x ≡ true → First leq is_open xs (i + 1) i
  opens compares none here = record {
    within = omega arith;
    passing = λ d. rw (at_x d) at here;
    least = λ k d. below_more (λ j. is_open (get_or xs j d) ≡ true → leq (get_or xs i d) (get_or xs j d) ≡ true) i
        (λ j h o. absurd (true≢false (sym o ∙ none j d h))) (λ _. itself leq compares _) k;
    earliest = λ k d h o. absurd (true≢false (sym o ∙ none k d h));
  }

  pub closed_some : (b : ℕ) → First leq is_open xs i b → is_open x ≡ false → First leq is_open xs (i + 1) b
  closed_some b f shut = record {
    within = omega (arith, f.within);
    passing = f.passing;
    least = λ k d. below_more (λ j. is_open (get_or xs j d) ≡ true → leq (get_or xs b d) (get_or xs j d) ≡ true) i
        (λ j h o. f.least j d h o) (λ o. absurd (true≢false (sym o ∙ (rw (at_x d) at shut)))) k;
    earliest = f.earliest;
  }

  pub closed : (o : Option ℕ) → FirstAmong leq is_open xs i o → is_open x ≡ false → FirstAmong leq is_open xs (i + 1) o
  closed None none shut = closed_none none shut
  closed (Some b) f shut = closed_some b f shut

  module _ (b : ℕ) (y : X) (f : First leq is_open xs i b) (y_is : y ≡ get_or xs b y) where
    at_y : (d : X) → y ≡ get_or xs b d
    at_y d = get_or_read xs b y (omega (arith, f.within)) y_is d

    pub keeps : leq y x ≡ true → First leq is_open xs (i + 1) b
    keeps before = record {
      within = omega (arith, f.within);
      passing = f.passing;
      least = λ k d. below_more (λ j. is_open (get_or xs j d) ≡ true → leq (get_or xs b d) (get_or xs j d) ≡ true) i
          (λ j h o. f.least j d h o) (λ o. rw (at_x d, at_y d) at before) k;
      earliest = f.earliest;
    }

    pub takes : ((u v : X) → leq u v ≡ false → leq v u ≡ true)
        → ((u v w : X) → leq u v ≡ true → leq v w ≡ true → leq u w ≡ true)
        → is_open x ≡ true → leq y x ≡ false → First leq is_open xs (i + 1) i
    takes compares carries here after = record {
      within = omega arith;
      passing = λ d. rw (at_x d) at here;
      least = λ k d. below_more (λ j. is_open (get_or xs j d) ≡ true → leq (get_or xs i d) (get_or xs j d) ≡ true) i
          (λ j h o. carries _ _ _ (x_first d) (f.least j d h o)) (λ _. itself leq compares _) k;
      earliest = λ k d h o. not_before k d (f.least k d h o) (leq (get_or xs k d) (get_or xs i d)) refl;
    }
      where
        x_first : (d : X) → leq (get_or xs i d) (get_or xs b d) ≡ true
        x_first d = compares _ _ (rw (at_x d, at_y d) at after)

        not_before : (k : ℕ) (d : X) → leq (get_or xs b d) (get_or xs k d) ≡ true → (t : Bool) → leq (get_or xs k d) (get_or xs i d) ≡ t → leq (get_or xs k d) (get_or xs i d) ≡ false
        not_before k d le true e = absurd (true≢false (sym (carries _ _ _ le e) ∙ (rw (at_x d, at_y d) at after)))
        not_before k d le false e = e
