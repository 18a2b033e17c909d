-- Going through the open records of a list, and keeping the first so far, gives the first of all.
use Rattle.std.proofs.Common.{◌≡◌, ℕ, zero, suc, ◌+◌, ◌<◌, Bool, true, false, cond, List, [], ◌∷◌, length, get_or, drop, Some, None, Option, sym, refl, subst, arith}
use Rattle.std.proofs.lemmas.List.{at_drop_more, at_drop_all, get_or_default}
use Rattle.std.specs.List.{enumerate_from, filter, reduce, fold}
use Rattle.std.specs.Option.{option_map}
use Rattle.order.specs.First.{First, FirstAmong, FirstOpen}
use Rattle.order.proofs.Searching.{closed, opens, keeps, takes}

module _ {X : Type 0} (leq : X → X → Bool) (is_open : X → Bool)
    (compares : (u v : X) → leq u v ≡ false → leq v u ≡ true)
    (carries : (u v w : X) → leq u v ≡ true → leq v w ≡ true → leq u w ≡ true) where
  abbrev step : ℕ × X → ℕ × X → ℕ × X
  step a b = cond (leq a.1 b.1) a b

  -- what the rest of the list leaves of the first so far
  abbrev left : Option (ℕ × X) → ℕ → List X → Option ℕ
  left None i xs = option_map (λ p. p.0) (reduce step (filter (λ p. is_open p.1) (enumerate_from i xs)))
  left (Some a) i xs = Some (fold step a (filter (λ p. is_open p.1) (enumerate_from i xs))).0

  abbrev Stands : List X → ℕ → Option (ℕ × X) → Type 0
  Stands xs i None = FirstAmong leq is_open xs i None
  Stands xs i (Some a) = First leq is_open xs i a.0 × (a.1 ≡ get_or xs a.0 a.1)

  abbrev later : ℕ → List X → List (ℕ × X)
  later i xs = filter (λ p. is_open p.1) (enumerate_from (i + 1) (drop (i + 1) xs))

  sweep : (n i : ℕ) (xs : List X) (o : Option (ℕ × X)) (d : X) → i + n ≡ length xs → Stands xs i o → FirstOpen leq is_open xs (left o i (drop i xs))
  sweep zero i xs None d long s =
      let all : i ≡ length xs = omega arith in
      subst (λ t. FirstOpen leq is_open xs t) (sym (at_drop_all (left None i) xs i (omega arith))) (subst (λ k. FirstAmong leq is_open xs k None) all s)
  sweep zero i xs (Some a) d long s =
      let all : i ≡ length xs = omega arith in
      subst (λ t. FirstOpen leq is_open xs t) (sym (at_drop_all (left (Some a) i) xs i (omega arith))) (subst (λ k. First leq is_open xs k a.0) all s.0)
  sweep (suc n) i xs o d long s =
      let x = get_or xs i d in
      let within : i < length xs = omega arith in
      let more : i + 1 + n ≡ length xs = omega arith in
      let here : x ≡ get_or xs i x = get_or_default xs i d x within in
      subst (λ t. FirstOpen leq is_open xs t) (sym (at_drop_more (left o i) xs i d within)) (turn o s within here (λ p r. sweep n (i + 1) xs p d more r) (is_open x) refl)
    where
      turn : (o : Option (ℕ × X)) → Stands xs i o → i < length xs → get_or xs i d ≡ get_or xs i (get_or xs i d)
          → ((p : Option (ℕ × X)) → Stands xs (i + 1) p → FirstOpen leq is_open xs (left p (i + 1) (drop (i + 1) xs)))
          → (t : Bool) → is_open (get_or xs i d) ≡ t → FirstOpen leq is_open xs (left o i (get_or xs i d ∷ drop (i + 1) xs))
      turn None s within here on true e =
          subst (λ t. FirstOpen leq is_open xs (option_map (λ p. p.0) (reduce step (cond t ((i, get_or xs i d) ∷ later i xs) (later i xs))))) (sym e)
          (on (Some (i, get_or xs i d)) (opens leq is_open xs i (get_or xs i d) within here compares s e, here))
      turn None s within here on false e =
          subst (λ t. FirstOpen leq is_open xs (option_map (λ p. p.0) (reduce step (cond t ((i, get_or xs i d) ∷ later i xs) (later i xs))))) (sym e)
          (on None (closed leq is_open xs i (get_or xs i d) within here None s e))
      turn (Some a) s within here on false e =
          subst (λ t. FirstOpen leq is_open xs (Some (fold step a (cond t ((i, get_or xs i d) ∷ later i xs) (later i xs))).0)) (sym e)
          (on (Some a) (closed leq is_open xs i (get_or xs i d) within here (Some a.0) s.0 e, s.1))
      turn (Some a) s within here on true e =
          subst (λ t. FirstOpen leq is_open xs (Some (fold step a (cond t ((i, get_or xs i d) ∷ later i xs) (later i xs))).0)) (sym e)
          (beside (leq a.1 (get_or xs i d)) refl)
        where
          beside : (t : Bool) → leq a.1 (get_or xs i d) ≡ t → FirstOpen leq is_open xs (Some (fold step (cond (leq a.1 (get_or xs i d)) a (i, get_or xs i d)) (later i xs)).0)
          beside true l =
              subst (λ t. FirstOpen leq is_open xs (Some (fold step (cond t a (i, get_or xs i d)) (later i xs)).0)) (sym l)
              (on (Some a) (keeps leq is_open xs i (get_or xs i d) within here a.0 a.1 s.0 s.1 l, s.1))
          beside false l =
              subst (λ t. FirstOpen leq is_open xs (Some (fold step (cond t a (i, get_or xs i d)) (later i xs)).0)) (sym l)
              (on (Some (i, get_or xs i d)) (takes leq is_open xs i (get_or xs i d) within here a.0 a.1 s.0 s.1 compares carries e l, here))

  pub reduced_first : (xs : List X) → FirstOpen leq is_open xs (option_map (λ p. p.0) (reduce step (filter (λ p. is_open p.1) (enumerate_from 0 xs))))
  reduced_first [] = λ k d h. absurd (omega arith)
  reduced_first (x ∷ xs) = sweep (length (x ∷ xs)) 0 (x ∷ xs) None x (omega arith) (λ k d h. absurd (omega arith))
