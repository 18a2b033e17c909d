-- Sums over lines, and how a change of the lines changes them.
use Rattle.std.proofs.Common.{◌≡◌, ℕ, zero, suc, ◌+◌, ◌-◌, ◌*◌, ◌<◌, ◌≤◌, Bool, true, false, cond, ◌⊎◌, List, [], ◌∷◌, map, length, get_or, set, sum_by, refl, ap, ◌∙◌, inl, inr, add-mul, zero-mul, arith}
use Rattle.std.specs.List.{AllByRecursion}
use Rattle.std.proofs.lemmas.List.Sums.{sum_by-cons}
use Rattle.std.proofs.lemmas.Bool.Decides.{nat_tests}
use Rattle.pairing.specs.declared.line.Line.{Line}
use Rattle.book.specs.Books.{Contents, value, invoice}
use Rattle.rules.specs.Tally.{take_on, loaded, here}

-- what holds of everything holds of each
pub all_of : {X : Type 0} (P : X → Type 0) → ((x : X) → P x) → (xs : List X) → AllByRecursion P xs
all_of P f [] = tt
all_of P f (x ∷ xs) = (f x, all_of P f xs)

pub sum_zero : {X : Type 0} (f : X → ℕ) (xs : List X) → AllByRecursion (λ x. f x ≡ 0) xs → sum_by f xs ≡ 0
sum_zero f [] a = refl
sum_zero f (x ∷ xs) a = let p = a.0 in let q = sum_zero f xs a.1 in rw (sum_by-cons f x xs) (omega arith)

pub sum_le : {X : Type 0} (f g : X → ℕ) (xs : List X) → AllByRecursion (λ x. f x ≤ g x) xs → sum_by f xs ≤ sum_by g xs
sum_le f g [] a = omega arith
sum_le f g (x ∷ xs) a = let p = a.0 in let q = sum_le f g xs a.1 in rw (sum_by-cons f x xs, sum_by-cons g x xs) (omega arith)

pub sum_same : {X : Type 0} (f g : X → ℕ) (xs : List X) → AllByRecursion (λ x. f x ≡ g x) xs → sum_by f xs ≡ sum_by g xs
sum_same f g [] a = refl
sum_same f g (x ∷ xs) a = let p = a.0 in let q = sum_same f g xs a.1 in rw (sum_by-cons f x xs, sum_by-cons g x xs) (omega arith)

-- a map of the lines
pub map_kept : (f : Line → ℕ) (t : Line → Line) (ls : List Line) → ((l : Line) → f (t l) ≡ f l) → sum_by f (map t ls) ≡ sum_by f ls
map_kept f t [] e = refl
map_kept f t (x ∷ xs) e =
    let p = e x in let q = map_kept f t xs e in
    rw (sum_by-cons f (t x) (map t xs), sum_by-cons f x xs) (omega arith)

pub map_up : (f : Line → ℕ) (t : Line → Line) (ls : List Line) → ((l : Line) → f l ≤ f (t l)) → sum_by f ls ≤ sum_by f (map t ls)
map_up f t [] e = omega arith
map_up f t (x ∷ xs) e =
    let p = e x in let q = map_up f t xs e in
    rw (sum_by-cons f (t x) (map t xs), sum_by-cons f x xs) (omega arith)

pub map_down : (f : Line → ℕ) (t : Line → Line) (ls : List Line) → ((l : Line) → f (t l) ≤ f l) → sum_by f (map t ls) ≤ sum_by f ls
map_down f t [] e = omega arith
map_down f t (x ∷ xs) e =
    let p = e x in let q = map_down f t xs e in
    rw (sum_by-cons f (t x) (map t xs), sum_by-cons f x xs) (omega arith)

pub map_same : (f g : Line → ℕ) (t : Line → Line) (ls : List Line) → AllByRecursion (λ l. f (t l) ≡ g l) ls → sum_by f (map t ls) ≡ sum_by g ls
map_same f g t [] a = refl
map_same f g t (x ∷ xs) a =
    let p = a.0 in let q = map_same f g t xs a.1 in
    rw (sum_by-cons f (t x) (map t xs), sum_by-cons g x xs) (omega arith)

pub map_split : (f g h : Line → ℕ) (t : Line → Line) (ls : List Line) → AllByRecursion (λ l. f l ≡ g (t l) + h l) ls → sum_by f ls ≡ sum_by g (map t ls) + sum_by h ls
map_split f g h t [] a = refl
map_split f g h t (x ∷ xs) a =
    let p = a.0 in let q = map_split f g h t xs a.1 in
    rw (sum_by-cons f x xs, sum_by-cons g (t x) (map t xs), sum_by-cons h x xs) (omega arith)

pub map_more : (f h : Line → ℕ) (t : Line → Line) (ls : List Line) → AllByRecursion (λ l. f (t l) ≡ f l + h l) ls → sum_by f (map t ls) ≡ sum_by f ls + sum_by h ls
map_more f h t [] a = refl
map_more f h t (x ∷ xs) a =
    let p = a.0 in let q = map_more f h t xs a.1 in
    rw (sum_by-cons f (t x) (map t xs), sum_by-cons f x xs, sum_by-cons h x xs) (omega arith)

pub map_zero : (f : Line → ℕ) (t : Line → Line) (ls : List Line) → AllByRecursion (λ l. f (t l) ≡ 0) ls → sum_by f (map t ls) ≡ 0
map_zero f t [] a = refl
map_zero f t (x ∷ xs) a =
    let p = a.0 in let q = map_zero f t xs a.1 in
    rw (sum_by-cons f (t x) (map t xs)) (omega arith)

-- a take
pub take_kept : (f : Line → ℕ) (row a n : ℕ) (ls : List Line) → ((m : ℕ) (l : Line) → f (loaded row a m l) ≡ f l) → sum_by f (take_on row a n ls) ≡ sum_by f ls
take_kept f row a n [] e = refl
take_kept f row a n (x ∷ xs) e =
    let p = e n x in let q = take_kept f row a (n - here row a n x) xs e in
    rw (sum_by-cons f (loaded row a n x) (take_on row a (n - here row a n x) xs), sum_by-cons f x xs) (omega arith)

-- what a take adds is at most what is taken
pub take_adds : (f : Line → ℕ) (row a n : ℕ) (ls : List Line) → ((m : ℕ) (l : Line) → f (loaded row a m l) ≤ f l + here row a m l) → sum_by f (take_on row a n ls) ≤ sum_by f ls + n
take_adds f row a n [] e = omega arith
take_adds f row a n (x ∷ xs) e =
    let p = e n x in let q = take_adds f row a (n - here row a n x) xs e in
    let b : here row a n x ≤ n = grind (arith, nat_tests) in
    rw (sum_by-cons f (loaded row a n x) (take_on row a (n - here row a n x) xs), sum_by-cons f x xs) (omega arith)

pub take_all : (P : Line → Type 0) (row a n : ℕ) (ls : List Line) → ((m : ℕ) (l : Line) → P l → P (loaded row a m l)) → AllByRecursion P ls → AllByRecursion P (take_on row a n ls)
take_all P row a n [] e p = tt
take_all P row a n (x ∷ xs) e p = (e n x p.0, take_all P row a (n - here row a n x) xs e p.1)

-- a sum over the lines that pass is 0, or P follows from some that passes
pub total_or : (passes : Line → Bool) (f : Line → ℕ) (P : Type 0) (ls : List Line) → AllByRecursion (λ l. passes l ≡ true → P) ls → (sum_by (λ l. cond (passes l) (f l) 0) ls ≡ 0) ⊎ P
total_or passes f P [] a = inl refl
total_or passes f P (x ∷ xs) a = go (passes x) refl (total_or passes f P xs a.1)
  where
    go : (b : Bool) → passes x ≡ b → (sum_by (λ l. cond (passes l) (f l) 0) xs ≡ 0) ⊎ P → (sum_by (λ l. cond (passes l) (f l) 0) (x ∷ xs) ≡ 0) ⊎ P
    go true e r = inr (a.0 e)
    go false e (inl z) = inl (let c : cond (passes x) (f x) 0 ≡ 0 = ap (λ (d : Bool). cond d (f x) 0) e in rw (sum_by-cons (λ l. cond (passes l) (f l) 0) x xs) (omega arith))
    go false e (inr p) = inr p

-- ---- values
pub value_add : (b : Contents) (a x y : ℕ) → value b a (x + y) ≡ value b a x + value b a y
value_add b a x y = ap (λ z. z * invoice b a) (add-mul x y b.terms.multiplier) ∙ add-mul (x * b.terms.multiplier) (y * b.terms.multiplier) (invoice b a)

pub value_zero : (b : Contents) (a : ℕ) → value b a 0 ≡ 0
value_zero b a = ap (λ z. z * invoice b a) (zero-mul b.terms.multiplier) ∙ zero-mul (invoice b a)

-- what a function of a line that ignores its change tells of the lines
pub take_map : {Y : Type 0} (f : Line → Y) (row a n : ℕ) (ls : List Line) → ((m : ℕ) (l : Line) → f (loaded row a m l) ≡ f l) → map f (take_on row a n ls) ≡ map f ls
take_map f row a n [] e = refl
take_map f row a n (x ∷ xs) e = let p = e n x in let q = take_map f row a (n - here row a n x) xs e in cc

pub map_map : {Y : Type 0} (f : Line → Y) (t : Line → Line) (ls : List Line) → ((l : Line) → f (t l) ≡ f l) → map f (map t ls) ≡ map f ls
map_map f t [] e = refl
map_map f t (x ∷ xs) e = let p = e x in let q = map_map f t xs e in cc

pub set_map : {Y : Type 0} (f : Line → Y) (ls : List Line) (i : ℕ) (y d : Line) → i < length ls → f y ≡ f (get_or ls i d) → map f (set ls i y) ≡ map f ls
set_map f [] i y d lt e = absurd (omega arith)
set_map f (x ∷ xs) zero y d lt e = ap (λ z. z ∷ map f xs) e
set_map f (x ∷ xs) (suc i) y d lt e = let q = set_map f xs i y d (omega arith) e in ap (λ z. f x ∷ z) q
