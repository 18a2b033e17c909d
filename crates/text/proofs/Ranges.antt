-- A number that is held at the limit is in range just where the number itself is; what an accepted row has.
use Rattle.std.proofs.Common.{◌≡◌, ℕ, suc, ◌+◌, ◌<◌, ◌≤◌, Bool, true, false, cond, not, ◌&&◌, ◌||◌, eqb, List, [], ◌∷◌, map, length, ℤ, pos, negsuc, Some, None, Ok, Err, Option, Result, sym, refl, ap, ◌∙◌, ⊎_elim, arith, eq-eqb, ne_eqb, eqb-true, leb-true}
use lib.Signed.{le_z}
use Rattle.std.specs.Str.{bytes_eq}
use Rattle.std.proofs.lemmas.Slice.Eq.{bytes_eq-Decides}
use Rattle.std.proofs.lemmas.Iterator.Adapters.{position_from-zero}
use Rattle.std.specs.List.{position, position_from, zip}
use Rattle.std.proofs.lemmas.Bool.{cond-true, cond-false, and_parts, and_left, cases_Bool}
use Rattle.std.proofs.lemmas.Bool.Decides.{nat_tests}
use Rattle.text.specs.declared.row.RowFault.{RowFault}
use Rattle.text.specs.declared.row.RowFault.TheVariants.{Range}
use Rattle.text.specs.declared.row.Bound.{Bound}
use Rattle.text.specs.Number.{number, held, near, most}
use Rattle.text.specs.Rows.{read, then, held_all, is_zero, inside, outside, row, ranged}

-- ---- held at the limit

pub near_held : (z : ℤ) → near z ≡ true → held z ≡ z
near_held (pos n) h = let k : n ≤ most = leb-true _ _ h in ap pos (omega arith)
near_held (negsuc n) h = let k : n ≤ 999999999999999999 = leb-true _ _ (and_parts _ _ h).0 in ap negsuc (omega arith)

far_held : (z : ℤ) → near z ≡ false → near (held z) ≡ false
far_held (pos n) h = grind (arith, nat_tests)
far_held (negsuc n) h = grind (arith, nat_tests)

inside_held : (b : Bound) (z : ℤ) → inside b (held z) ≡ inside b z
inside_held b z =
    ⊎_elim
    (λ (e : near z ≡ true). ap (inside b) (near_held z e))
    (λ (e : near z ≡ false). and_left (near (held z)) _ (far_held z e) ∙ sym (and_left (near z) _ e))
    (cases_Bool (near z))

outside_held : (k : ℕ) (bs : List Bound) (zs : List ℤ) → outside k bs (map held zs) ≡ outside k bs zs
outside_held k [] zs = refl
outside_held k (b ∷ bs) [] = refl
outside_held k (b ∷ bs) (z ∷ zs) =
    ap (λ v. cond v (outside (suc k) bs (map held zs)) k) (inside_held b z) ∙ ap (λ n. cond (inside b z) n k) (outside_held (suc k) bs zs)

pub cond_zero : (v : Bool) (n k : ℕ) → 0 < k → cond v n k ≡ 0 → (v ≡ true) × (n ≡ 0)
cond_zero true n k h e = (refl, e)
cond_zero false n k h e = absurd (omega arith)

-- every number is near, where each is within its bound
abbrev pub Near : List ℤ → Type 0
Near [] = Unit {0}
Near (z ∷ zs) = (near z ≡ true) × Near zs

pub near_all : (k : ℕ) (bs : List Bound) (zs : List ℤ) → length zs ≡ length bs → 0 < k → outside k bs zs ≡ 0 → Near zs
near_all k [] [] n p e = tt
near_all k [] (z ∷ zs) n p e = absurd (omega arith)
near_all k (b ∷ bs) [] n p e = tt
near_all k (b ∷ bs) (z ∷ zs) n p e =
    let c = cond_zero (inside b z) _ k p e in
    ((and_parts (near z) _ c.0).0, near_all (suc k) bs zs (omega arith) (omega arith) c.1)

held_near : (zs : List ℤ) → Near zs → map held zs ≡ zs
held_near [] h = refl
held_near (z ∷ zs) h = ap (λ y. y ∷ map held zs) (near_held z h.0) ∙ ap (λ ys. z ∷ ys) (held_near zs h.1)

-- ---- the place of the first number outside, by its index

abbrev pub place_of : Option ℕ → ℕ
place_of None = 0
place_of (Some i) = i + 2

outside_from : (i : ℕ) (bs : List Bound) (zs : List ℤ) → outside (i + 2) bs zs ≡ place_of (position_from (λ p. not (inside p.0 p.1)) i (zip bs zs))
outside_from i [] zs = refl
outside_from i (b ∷ bs) [] = refl
outside_from i (b ∷ bs) (z ∷ zs) =
    let next : suc (i + 2) ≡ i + 1 + 2 = omega arith in
    elim (inside b z) as (λ v. cond v (outside (suc (i + 2)) bs zs) (i + 2) ≡ place_of (cond (not v) (Some i) (position_from (λ p. not (inside p.0 p.1)) (i + 1) (zip bs zs)))) [
      | true ↦ ap (λ k. outside k bs zs) next ∙ outside_from (i + 1) bs zs
      | false ↦ refl
    ]

pub outside_place : (bs : List Bound) (zs : List ℤ) (o : Option ℕ) → o ≡ position (λ p. not (inside p.0 p.1)) (zip bs zs) → place_of o ≡ outside 2 bs zs
outside_place bs zs o e = ap place_of (e ∙ position_from-zero (λ p. not (inside p.0 p.1)) (zip bs zs)) ∙ sym (outside_from 0 bs zs)

-- ---- rows

then_length : (o : Option ℤ) (k : ℕ) (r : Result (List ℤ) RowFault) (zs : List ℤ) → then o k r ≡ Ok zs → (ys : List ℤ) × (r ≡ Ok ys) × (length zs ≡ suc (length ys))
then_length None k r zs e = let q : ◌≡◌ {A = ℕ} 0 1 = cc in absurd (omega arith)
then_length (Some z) k (Err f) zs e = let q : ◌≡◌ {A = ℕ} 0 1 = cc in absurd (omega arith)
then_length (Some z) k (Ok ys) zs e = let q : zs ≡ z ∷ ys = cc in (ys, refl, ap length q)

read_length : (k : ℕ) (fs : List (List ℕ)) (zs : List ℤ) → read k fs ≡ Ok zs → length zs ≡ length fs
read_length k [] zs e = let q : zs ≡ [] = cc in ap length q
read_length k (f ∷ fs) zs e =
    let p = then_length (number f) k (read (suc k) fs) zs e in
    omega (arith, p.2, read_length (suc k) fs p.0 p.1)

held_ok : (r : Result (List ℤ) RowFault) (vs : List ℤ) → held_all r ≡ Ok vs → (zs : List ℤ) × (r ≡ Ok zs) × (vs ≡ map held zs)
held_ok (Ok zs) vs e = (zs, refl, cc)
held_ok (Err f) vs e = let q : ◌≡◌ {A = ℕ} 0 1 = cc in absurd (omega arith)

pub held_err : (r : Result (List ℤ) RowFault) (e : RowFault) → held_all r ≡ Err e → r ≡ Err e
held_err (Ok zs) e h = let q : ◌≡◌ {A = ℕ} 0 1 = cc in absurd (omega arith)
held_err (Err f) e h = h

-- a line of its kind, by the fields after it
pub row_same : (kind : List ℕ) (bs : List Bound) (f : List ℕ) (fs : List (List ℕ)) → f ≡ kind → length fs ≡ length bs → row kind bs (f ∷ fs) ≡ ranged bs (read 2 fs)
row_same kind bs f fs e n =
    cond-true (bytes_eq f kind) _ _ ((bytes_eq-Decides f kind).1 e) ∙ cond-true (eqb (length fs) (length bs)) _ _ (eq-eqb (length fs) (length bs) n)

pub row_range : (bs : List Bound) (fs : List (List ℕ)) (vs : List ℤ) (k : ℕ) → held_all (read 2 fs) ≡ Ok vs → k ≡ outside 2 bs vs → (k ≡ 0 → ⊥) → ranged bs (read 2 fs) ≡ Err (Range k)
row_range bs fs vs k e o z =
    let p = held_ok (read 2 fs) vs e in
    let w : outside 2 bs p.0 ≡ k = sym (outside_held 2 bs p.0) ∙ ap (outside 2 bs) (sym p.2) ∙ sym o in
    ap (ranged bs) p.1 ∙ cond-false (eqb (outside 2 bs p.0) 0) _ _ (ne_eqb (outside 2 bs p.0) 0 (λ u. z (sym w ∙ u))) ∙ ap (λ i. Err (Range i)) w

pub row_ok : (bs : List Bound) (fs : List (List ℕ)) (vs : List ℤ) (k : ℕ) → length fs ≡ length bs → held_all (read 2 fs) ≡ Ok vs → k ≡ outside 2 bs vs → k ≡ 0 → ranged bs (read 2 fs) ≡ Ok vs
row_ok bs fs vs k n e o z =
    let p = held_ok (read 2 fs) vs e in
    let w : outside 2 bs p.0 ≡ 0 = sym (outside_held 2 bs p.0) ∙ ap (outside 2 bs) (sym p.2) ∙ sym o ∙ z in
    ap (ranged bs) p.1 ∙ cond-true (eqb (outside 2 bs p.0) 0) _ _ (eq-eqb (outside 2 bs p.0) 0 w)
    ∙ ap Ok (sym (p.2 ∙ held_near p.0 (near_all 2 bs p.0 (read_length 2 fs p.0 p.1 ∙ n) (omega arith) w)))

-- ---- what is known of an accepted row

cond_ok : (v : Bool) (r : Result (List ℤ) RowFault) (f : RowFault) (zs : List ℤ) → cond v r (Err f) ≡ Ok zs → (v ≡ true) × (r ≡ Ok zs)
cond_ok true r f zs e = (refl, e)
cond_ok false r f zs e = let q : ◌≡◌ {A = ℕ} 0 1 = cc in absurd (omega arith)

ranged_ok : (bs : List Bound) (r : Result (List ℤ) RowFault) (zs : List ℤ) → ranged bs r ≡ Ok zs → (r ≡ Ok zs) × (outside 2 bs zs ≡ 0)
ranged_ok bs (Err f) zs e = let q : ◌≡◌ {A = ℕ} 0 1 = cc in absurd (omega arith)
ranged_ok bs (Ok ys) zs e =
    let p = cond_ok (eqb (outside 2 bs ys) 0) (Ok ys) _ zs e in
    let y : ys ≡ zs = let q = p.1 in cc in
    (p.1, ap (outside 2 bs) (sym y) ∙ eqb-true _ _ p.0)

-- an accepted line is of its kind and has a number for each bound, each allowed, and its fields read as they
pub record Accepted (kind : List ℕ) (bs : List Bound) (fs : List (List ℕ)) (zs : List ℤ) : Type 0 where
  pub rest : List (List ℕ)
  pub fields_are : fs ≡ kind ∷ rest
  pub long : length zs ≡ length bs
  pub reads : read 2 rest ≡ Ok zs
  pub allowed : outside 2 bs zs ≡ 0

pub row_accepted : (kind : List ℕ) (bs : List Bound) (fs : List (List ℕ)) (zs : List ℤ) → row kind bs fs ≡ Ok zs → Accepted kind bs fs zs
row_accepted kind bs [] zs e = let q : ◌≡◌ {A = ℕ} 0 1 = cc in absurd (omega arith)
row_accepted kind bs (f ∷ fs) zs e =
    let p = cond_ok (bytes_eq f kind) _ _ zs e in
    let r = cond_ok (eqb (length fs) (length bs)) _ _ zs p.1 in
    let q = ranged_ok bs (read 2 fs) zs r.1 in
    record { rest = fs; fields_are = ap (λ t. t ∷ fs) ((bytes_eq-Decides f kind).0 p.0); long = read_length 2 fs zs q.0 ∙ eqb-true _ _ r.0; reads = q.0; allowed = q.1 }

-- ---- each number in its bound

-- what a number within a bound has
pub record Within (b : Bound) (z : ℤ) : Type 0 where
  pub close : near z ≡ true
  pub above : le_z b.low z ≡ true
  pub under : le_z z b.high ≡ true
  pub may_be_0 : (b.zero || not (is_zero z)) ≡ true

pub within : (b : Bound) (z : ℤ) → inside b z ≡ true → Within b z
within b z h =
    let p = and_parts (near z) ((le_z b.low z && le_z z b.high) && (b.zero || not (is_zero z))) h in
    let q = and_parts (le_z b.low z && le_z z b.high) (b.zero || not (is_zero z)) p.1 in
    let r = and_parts (le_z b.low z) (le_z z b.high) q.0 in
    record { close = p.0; above = r.0; under = r.1; may_be_0 = q.1 }

-- each number is within its bound
abbrev pub Each : List Bound → List ℤ → Type 0
Each [] zs = Unit {0}
Each (b ∷ bs) [] = Unit {0}
Each (b ∷ bs) (z ∷ zs) = Within b z × Each bs zs

pub each : (k : ℕ) (bs : List Bound) (zs : List ℤ) → 0 < k → outside k bs zs ≡ 0 → Each bs zs
each k [] zs p e = tt
each k (b ∷ bs) [] p e = tt
each k (b ∷ bs) (z ∷ zs) p e = let c = cond_zero (inside b z) (outside (suc k) bs zs) k p e in (within b z c.0, each (suc k) bs zs (omega arith) c.1)
