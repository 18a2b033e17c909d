-- The house holds none of the first assets, seen from the first one on.
use Rattle.std.proofs.Common.{◌≡◌, ℕ, zero, suc, ◌+◌, Bool, true, false, ◌&&◌, eqb, refl, ap, ◌∙◌, zero-add, arith}
use Rattle.std.specs.List.{list_all, range_with_len}
use Rattle.register.specs.Rules.{Meaning}
use Rattle.rules.specs.Verdict.{house_empty}

swap : (a b c : Bool) → (a && (b && c)) ≡ (b && (a && c))
swap true b c = refl
swap false true c = refl
swap false false c = refl

all_more : (p : ℕ → Bool) (a n : ℕ) → list_all p (range_with_len a (suc n)) ≡ (p (a + n) && list_all p (range_with_len a n))
all_more p a zero = ap (λ (k : ℕ). p k && true) at
  where
    at : a ≡ a + 0
    at = omega arith
all_more p a (suc n) =
    ap (λ (b : Bool). p a && b) (all_more p (a + 1) n)
    ∙ (swap (p a) (p ((a + 1) + n)) (list_all p (range_with_len (a + 1) n))
    ∙ ap (λ (k : ℕ). p k && (p a && list_all p (range_with_len (a + 1) n))) at)
  where
    at : (a + 1) + n ≡ a + suc n
    at = omega arith

pub from_the_first : (m : Meaning) (n : ℕ) → list_all (λ i. eqb (m.balance 0 i) 0) (range_with_len 0 n) ≡ house_empty m n
from_the_first m zero = refl
from_the_first m (suc n) =
    all_more (λ i. eqb (m.balance 0 i) 0) 0 n ∙ rw zero-add (ap (λ (b : Bool). eqb (m.balance 0 n) 0 && b) (from_the_first m n))
