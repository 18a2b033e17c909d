-- What the lines of a pair add to the lines so far.
use Rattle.std.proofs.Common.{◌≡◌, ℕ, zero, suc, ◌+◌, ◌-◌, ◌<◌, ◌≤◌, min, Bool, true, false, cond, ◌&&◌, eqb, ◌⊎◌, List, [], ◌∷◌, ◌++◌, length, refl, ap, subst, inl, inr, ⊎_elim, arith, length-append}
use native.Mathlib.Nat.{min-le_left, min-le_right, min-eq_left, min-eq_right}
use Rattle.std.specs.List.{AllByRecursion}
use Rattle.std.proofs.lemmas.List.Sums.{sum_by_push}
use Rattle.std.proofs.ByRecursion.{All-push}
use Rattle.std.proofs.lemmas.Bool.{cases_lt, eqb-true, eqb-false, and_parts}
use Rattle.pairing.specs.declared.pair.Pair.{Pair}
use Rattle.pairing.specs.declared.line.Line.{Line}
use Rattle.pairing.specs.Lines.{Lot, lot, total, of_seller, left, add_line, fresh, lines_of_pair}
use Rattle.pairing.proofs.LineSums.{over_assets, over_same, off}

-- The contracts of a seller's lines of an asset.
abbrev pub sold_of : List Line → ℕ → ℕ → ℕ
sold_of ls row a = total (of_seller row a) (λ l. l.contracts) ls

-- The contracts of the lines whose buyer and seller pass.
abbrev pub between : (ℕ → ℕ → Bool) → List Line → ℕ
between φ ls = total (λ l. φ l.buyer l.seller) (λ l. l.contracts) ls

-- No seller's lines of an asset have more than its lot.
abbrev pub InLots : List Lot → List Line → Type 0
InLots lots ls = (row a : ℕ) → sold_of ls row a ≤ lot lots row a

pub nothing : (t : Bool) (n : ℕ) → n ≡ 0 → cond t n 0 ≡ 0
nothing true n e = e
nothing false n e = refl

in_two : (t : Bool) (m n : ℕ) → m ≤ n → cond t n 0 ≡ cond t m 0 + cond t (n - m) 0
in_two true m n h = omega arith
in_two false m n h = refl

min_either : (a b : ℕ) → (min a b ≡ a) ⊎ (min a b ≡ b)
min_either a b = ⊎_elim (λ h. inl (min-eq_left (omega arith))) (λ h. inr (min-eq_right h)) (cases_lt a b)

-- ---- one line

pub add_total : (passes : Line → Bool) (ls : List Line) (l : Line)
    → total passes (λ k. k.contracts) (add_line ls l) ≡ total passes (λ k. k.contracts) ls + cond (passes l) l.contracts 0
add_total passes ls l = go (eqb l.contracts 0) refl
  where
    go : (t : Bool) → eqb l.contracts 0 ≡ t
        → total passes (λ k. k.contracts) (cond t ls (ls ++ (l ∷ []))) ≡ total passes (λ k. k.contracts) ls + cond (passes l) l.contracts 0
    go true e = let z = nothing (passes l) l.contracts (eqb-true _ _ e) in omega (arith, z)
    go false e = sum_by_push (λ k. cond (passes k) k.contracts 0) ls l

pub add_all : (P : Line → Type 0) (ls : List Line) (l : Line) → AllByRecursion P ls → (0 < l.contracts → P l) → AllByRecursion P (add_line ls l)
add_all P ls l all h = go (eqb l.contracts 0) refl
  where
    go : (t : Bool) → eqb l.contracts 0 ≡ t → AllByRecursion P (cond t ls (ls ++ (l ∷ [])))
    go true e = all
    go false e = All-push P ls l all (h (let ne = eqb-false _ _ e in ⊎_elim (λ q. q) (λ q. absurd (ne (omega arith))) (cases_lt 0 l.contracts)))

pub add_length : (ls : List Line) (l : Line) → length (add_line ls l) ≤ length ls + 1
add_length ls l = go (eqb l.contracts 0)
  where
    go : (t : Bool) → length (cond t ls (ls ++ (l ∷ []))) ≤ length ls + 1
    go true = omega arith
    go false = omega (arith, length-append ls (l ∷ []))

-- ---- one pair

module _ (lots : List Lot) (p : Pair) where
  add_sold : (ls : List Line) (a used row c : ℕ)
      → sold_of (add_line ls (fresh p a used)) row c ≡ sold_of ls row c + cond (eqb (p.seller + 1) row && eqb a c) used 0
  add_sold ls a used row c = add_total (of_seller row c) ls (fresh p a used)

  -- a line of an asset leaves the lots of the later assets
  later : (ls : List Line) (a used row k : ℕ)
      → over_assets (left lots (add_line ls (fresh p a used)) row) (a + 1) k ≡ over_assets (left lots ls row) (a + 1) k
  later ls a used row k = over_same (left lots (add_line ls (fresh p a used)) row) (left lots ls row) (a + 1) k (λ c le.
      let s = add_sold ls a used row c in
      let o = off (eqb (p.seller + 1) row) used a c (λ e. omega arith) in
      omega (arith, s, o))

  pub room : (k a n : ℕ) (ls : List Line) → n ≤ over_assets (left lots ls (p.seller + 1)) a (suc k)
      → n - min n (left lots ls (p.seller + 1) a)
      ≤ over_assets (left lots (add_line ls (fresh p a (min n (left lots ls (p.seller + 1) a)))) (p.seller + 1)) (a + 1) k
  room k a n ls h =
      let u = min n (left lots ls (p.seller + 1) a) in
      let e = later ls a u (p.seller + 1) k in
      ⊎_elim (λ m. omega (arith, e, m, h)) (λ m. omega (arith, e, m, h)) (min_either n (left lots ls (p.seller + 1) a))

  -- A pair that the seller's lots cover puts all its contracts into lines of its buyer and seller.
  pub pair_between : (φ : ℕ → ℕ → Bool) (k a n : ℕ) (ls : List Line) → n ≤ over_assets (left lots ls (p.seller + 1)) a k
      → between φ (lines_of_pair lots p k a n ls) ≡ between φ ls + cond (φ (p.buyer + 1) (p.seller + 1)) n 0
  pair_between φ zero a n ls h = let z = nothing (φ (p.buyer + 1) (p.seller + 1)) n (omega arith) in omega (arith, z)
  pair_between φ (suc k) a n ls h =
      let u = min n (left lots ls (p.seller + 1) a) in
      let ih = pair_between φ k (a + 1) (n - u) (add_line ls (fresh p a u)) (room k a n ls h) in
      let t = add_total (λ l. φ l.buyer l.seller) ls (fresh p a u) in
      let s = in_two (φ (p.buyer + 1) (p.seller + 1)) u n (min-le_left n (left lots ls (p.seller + 1) a)) in
      omega (arith, ih, t, s)

  in_lots_line : (ls : List Line) (a used : ℕ) → InLots lots ls → used ≤ left lots ls (p.seller + 1) a → InLots lots (add_line ls (fresh p a used))
  in_lots_line ls a used h le row c = go (eqb (p.seller + 1) row && eqb a c) refl
    where
      go : (t : Bool) → (eqb (p.seller + 1) row && eqb a c) ≡ t → sold_of (add_line ls (fresh p a used)) row c ≤ lot lots row c
      go true e =
          let q = and_parts (eqb (p.seller + 1) row) (eqb a c) e in
          let s = add_sold ls a used row c in
          let x = ap (λ t. cond t used 0) e in
          let m : used ≤ left lots ls row c = subst (λ r. used ≤ left lots ls r c) (eqb-true _ _ q.0) (subst (λ d. used ≤ left lots ls (p.seller + 1) d) (eqb-true _ _ q.1) le) in
          let z = h row c in
          omega (arith, s, x, m, z)
      go false e = let s = add_sold ls a used row c in let x = ap (λ t. cond t used 0) e in let z = h row c in omega (arith, s, x, z)

  pub pair_in_lots : (k a n : ℕ) (ls : List Line) → InLots lots ls → InLots lots (lines_of_pair lots p k a n ls)
  pair_in_lots zero a n ls h = h
  pair_in_lots (suc k) a n ls h =
      let u = min n (left lots ls (p.seller + 1) a) in
      pair_in_lots k (a + 1) (n - u) (add_line ls (fresh p a u)) (in_lots_line ls a u h (min-le_right n (left lots ls (p.seller + 1) a)))

  -- What holds of each fresh line with contracts holds of all lines.
  pub pair_all : (P : Line → Type 0) (K : ℕ) → ((a n : ℕ) → a < K → 0 < n → P (fresh p a n))
      → (k a n : ℕ) (ls : List Line) → a + k ≤ K → AllByRecursion P ls → AllByRecursion P (lines_of_pair lots p k a n ls)
  pair_all P K new zero a n ls h all = all
  pair_all P K new (suc k) a n ls h all =
      let u = min n (left lots ls (p.seller + 1) a) in
      pair_all P K new k (a + 1) (n - u) (add_line ls (fresh p a u)) (omega arith) (add_all P ls (fresh p a u) all (λ some. new a u (omega arith) some))

  pub pair_length : (k a n : ℕ) (ls : List Line) → length (lines_of_pair lots p k a n ls) ≤ length ls + k
  pair_length zero a n ls = omega arith
  pair_length (suc k) a n ls =
      let u = min n (left lots ls (p.seller + 1) a) in
      let ih = pair_length k (a + 1) (n - u) (add_line ls (fresh p a u)) in
      let e = add_length ls (fresh p a u) in omega (arith, ih, e)
