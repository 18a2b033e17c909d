-- Sums that are above the most, and those that are not. Assumes nothing.
use Rattle.std.proofs.Common.{◌≡◌, ℕ, zero, suc, ◌+◌, ◌<◌, ◌≤◌, true, false, ◌||◌, ltb, Some, None, Ok, Err, Option, ap, ◌∙◌, ⊎_elim, add-one, arith}
use Rattle.std.proofs.lemmas.Bool.{cases_eq, or_left, or_right, or_from, or_parts, lt-ltb, le-ltb, ltb-false}
use Rattle.std.proofs.lemmas.Bool.Decides.{nat_tests}
use Rattle.std.specs.Option.{ok_or}
use Rattle.register.specs.declared.fault.MakeFault.{MakeFault}
use Rattle.register.specs.declared.fault.MakeFault.TheVariants.{TooMuch}
use Rattle.register.specs.Rules.{most}
use Rattle.table_register.specs.Make.{any_over, within_most}

pub over_more : (f : ℕ → ℕ) (n : ℕ) → any_over f (n + 1) ≡ (any_over f n || ltb most (f n))
over_more f n = rw add-one

pub over_found : (f : ℕ → ℕ) (n m : ℕ) → n < m → most < f n → any_over f m ≡ true
over_found f n zero h big = absurd (omega arith)
over_found f n (suc m) h big =
    ⊎_elim
    (λ (e : n ≡ m). let q : f n ≡ f m = ap f e in or_right _ _ (lt-ltb most (f m) (omega (arith, q, big))))
    (λ ne. or_left _ _ (over_found f n m (omega arith) big))
    (cases_eq n m)

pub over_none : (f : ℕ → ℕ) (n : ℕ) → any_over f n ≡ false → f n ≤ most → any_over f (n + 1) ≡ false
over_none f n h le = over_more f n ∙ or_from _ _ h (le-ltb most (f n) le)

pub most_none : (n : ℕ) → None ≡ within_most n → most < n
most_none n e = grind (arith, nat_tests)

pub most_some : (n v : ℕ) → Some v ≡ within_most n → n ≤ most
most_some n v e = grind (arith, nat_tests)

pub most_is : (n v : ℕ) → Some v ≡ within_most n → v ≡ n
most_is n v e = grind (arith, nat_tests)

-- the same where a sum above the most is a fault
pub most_err : (n : ℕ) (o : Option ℕ) (fault : MakeFault) → o ≡ within_most n → Err fault ≡ ok_or o TooMuch → (fault ≡ TooMuch) × (most < n)
most_err n None fault is e = (cc, most_none n is)
most_err n (Some v) fault is e = let z : ◌≡◌ {A = ℕ} 0 1 = cc in absurd (omega arith)

pub most_ok : (n v : ℕ) (o : Option ℕ) → o ≡ within_most n → Ok v ≡ ok_or o TooMuch → (v ≡ n) × (n ≤ most)
most_ok n v None is e = let z : ◌≡◌ {A = ℕ} 0 1 = cc in absurd (omega arith)
most_ok n v (Some w) is e = let same : v ≡ w = cc in (same ∙ most_is n w is, most_some n w is)

pub none_over : (f : ℕ → ℕ) (n k : ℕ) → any_over f n ≡ false → k < n → f k ≤ most
none_over f zero k e h = omega arith
none_over f (suc n) k e h =
    let parts = or_parts (any_over f n) (ltb most (f n)) e in
    ⊎_elim
    (λ (q : k ≡ n). let same = ap f q in omega (arith, same, ltb-false most (f n) parts.1))
    (λ ne. none_over f n k parts.0 (omega arith))
    (cases_eq k n)
