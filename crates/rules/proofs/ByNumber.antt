-- Sums over numbers (agents, or accounts), and a sum over records taken number by number.
use Rattle.std.proofs.Common.{◌≡◌, ℕ, zero, suc, ◌+◌, ◌<◌, ◌≤◌, Bool, true, false, cond, eqb, ◌⊎◌, List, [], ◌∷◌, sum_by, sym, refl, ap, ◌∙◌, inl, inr, arith}
use Rattle.std.specs.List.{range_with_len, AllByRecursion}
use Rattle.std.proofs.lemmas.List.Sums.{sum_by-cons}
use Rattle.std.proofs.lemmas.Bool.{ne_eqb, eq-eqb, cases_eq}
use Rattle.register.specs.Rules.{sum_to}

-- A way to sum over the numbers that `has` tells, each once.
pub record Summing (S : (ℕ → ℕ) → ℕ) (has : ℕ → Type 0) : Type 0 where
  pub same : (f g : ℕ → ℕ) → ((k : ℕ) → f k ≡ g k) → S f ≡ S g
  pub none : S (λ _. 0) ≡ 0
  pub add : (f g : ℕ → ℕ) → S (λ k. f k + g k) ≡ S f + S g
  pub one : (x d : ℕ) → has x → S (λ k. cond (eqb x k) d 0) ≡ d

-- Each record counts at its number, so that all numbers together count each record once.
pub parts : {X : Type 0} (S : (ℕ → ℕ) → ℕ) (has : ℕ → Type 0) → Summing S has → (g f : X → ℕ) (xs : List X)
    → AllByRecursion (λ x. has (g x) ⊎ (f x ≡ 0)) xs → S (λ k. sum_by (λ x. cond (eqb (g x) k) (f x) 0) xs) ≡ sum_by f xs
parts S has s g f [] a = s.none
parts S has s g f (x ∷ xs) a =
    let r = parts S has s g f xs a.1 in
    let nothing : S (λ k. cond (eqb (g x) k) 0 0) ≡ 0 = s.same (λ k. cond (eqb (g x) k) 0 0) (λ _. 0) (λ k. nil (eqb (g x) k)) ∙ s.none in
    let first : S (λ k. cond (eqb (g x) k) (f x) 0) ≡ f x = elim a.0 [
      | inl i ↦ s.one (g x) (f x) i
      | inr z ↦ ap (λ d. S (λ k. cond (eqb (g x) k) d 0)) z ∙ (nothing ∙ sym z)
    ] in
    s.same (λ k. sum_by (λ y. cond (eqb (g y) k) (f y) 0) (x ∷ xs)) (λ k. cond (eqb (g x) k) (f x) 0 + sum_by (λ y. cond (eqb (g y) k) (f y) 0) xs)
    (λ k. sum_by-cons (λ y. cond (eqb (g y) k) (f y) 0) x xs)
    ∙ (s.add (λ k. cond (eqb (g x) k) (f x) 0) (λ k. sum_by (λ y. cond (eqb (g y) k) (f y) 0) xs)
    ∙ rw (first, r, sum_by-cons f x xs) refl)
  where
    nil : (c : Bool) → cond {A = ℕ} c 0 0 ≡ 0
    nil true = refl
    nil false = refl

-- ---- over a list of numbers

list_same : (ks : List ℕ) (f g : ℕ → ℕ) → ((k : ℕ) → f k ≡ g k) → sum_by f ks ≡ sum_by g ks
list_same [] f g e = refl
list_same (x ∷ ks) f g e = let p = list_same ks f g e in let q = e x in rw (sum_by-cons f x ks, sum_by-cons g x ks) (omega arith)

list_none : (ks : List ℕ) → sum_by (λ _. 0) ks ≡ 0
list_none [] = refl
list_none (x ∷ ks) = let p = list_none ks in rw (sum_by-cons (λ _. 0) x ks) (omega arith)

list_add : (ks : List ℕ) (f g : ℕ → ℕ) → sum_by (λ k. f k + g k) ks ≡ sum_by f ks + sum_by g ks
list_add [] f g = refl
list_add (x ∷ ks) f g = let p = list_add ks f g in rw (sum_by-cons (λ k. f k + g k) x ks, sum_by-cons f x ks, sum_by-cons g x ks) (omega arith)

before : (x d a n : ℕ) → x < a → sum_by (λ k. cond (eqb x k) d 0) (range_with_len a n) ≡ 0
before x d a zero lt = refl
before x d a (suc n) lt =
    let p = before x d (a + 1) n (omega arith) in
    rw (sum_by-cons (λ k. cond (eqb x k) d 0) a (range_with_len (a + 1) n), ne_eqb x a (λ z. omega arith)) (omega (arith, p))

counted_one : (x d a n : ℕ) → a ≤ x → x < a + n → sum_by (λ k. cond (eqb x k) d 0) (range_with_len a n) ≡ d
counted_one x d a zero low high = absurd (omega arith)
counted_one x d a (suc n) low high = elim (cases_eq x a) [
  | inl e ↦ let p = before x d (a + 1) n (omega arith) in rw (sum_by-cons (λ k. cond (eqb x k) d 0) a (range_with_len (a + 1) n), eq-eqb x a e) (omega (arith, p))
  | inr e ↦ let p = counted_one x d (a + 1) n (omega arith) (omega arith) in rw (sum_by-cons (λ k. cond (eqb x k) d 0) a (range_with_len (a + 1) n), ne_eqb x a e) (omega (arith, p))
]

-- Over the numbers from a on, n of them.
pub counted : (a n : ℕ) → Summing (λ f. sum_by f (range_with_len a n)) (λ x. (a ≤ x) × (x < a + n))
counted a n = record {
  same = list_same (range_with_len a n);
  none = list_none (range_with_len a n);
  add = list_add (range_with_len a n);
  one = λ x d h. counted_one x d a n h.0 h.1;
}

-- ---- over the numbers below another

to_same : (n : ℕ) (f g : ℕ → ℕ) → ((k : ℕ) → f k ≡ g k) → sum_to f n ≡ sum_to g n
to_same zero f g e = refl
to_same (suc n) f g e = let p = to_same n f g e in let q = e n in omega arith

to_none : (n : ℕ) → sum_to (λ _. 0) n ≡ 0
to_none zero = refl
to_none (suc n) = let p = to_none n in omega arith

to_add : (n : ℕ) (f g : ℕ → ℕ) → sum_to (λ k. f k + g k) n ≡ sum_to f n + sum_to g n
to_add zero f g = refl
to_add (suc n) f g = let p = to_add n f g in omega arith

to_past : (x d n : ℕ) → n ≤ x → sum_to (λ k. cond (eqb x k) d 0) n ≡ 0
to_past x d zero h = refl
to_past x d (suc n) h = let p = to_past x d n (omega arith) in rw (ne_eqb x n (λ z. omega arith)) (omega (arith, p))

to_one : (x d n : ℕ) → x < n → sum_to (λ k. cond (eqb x k) d 0) n ≡ d
to_one x d zero h = absurd (omega arith)
to_one x d (suc n) h = elim (cases_eq x n) [
  | inl e ↦ let p = to_past x d n (omega arith) in rw (eq-eqb x n e) (omega (arith, p))
  | inr e ↦ let p = to_one x d n (omega arith) in rw (ne_eqb x n e) (omega (arith, p))
]

pub below : (n : ℕ) → Summing (λ f. sum_to f n) (λ x. x < n)
below n = record { same = to_same n; none = to_none n; add = to_add n; one = λ x d h. to_one x d n h }
