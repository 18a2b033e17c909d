-- The order of holders is total.
use Rattle.std.proofs.Common.{◌≡◌, ℕ, ◌≤◌, Bool, true, false, ◌&&◌, ◌||◌, eqb, ltb, leb, arith}
use Rattle.std.proofs.lemmas.Bool.Decides.{nat_tests}
use Rattle.pairing.specs.declared.pair.Unpaired.{Unpaired}
use Rattle.order.specs.First.{Total}
use Rattle.pairing.specs.Orders.{holder_leq, HolderAlike}

abbrev leq : ℕ → ℕ → ℕ → ℕ → ℕ → ℕ → Bool
leq v m n w k l = ltb w v || (eqb v w && (ltb m k || (eqb m k && leb n l)))

compares : (v m n w k l : ℕ) → leq v m n w k l ≡ false → leq w k l v m n ≡ true
compares v m n w k l e = grind (arith, nat_tests)

ties : (v m n w k l : ℕ) → leq v m n w k l ≡ true → leq w k l v m n ≡ true → (v ≡ w) × (m ≡ k) × (n ≡ l)
ties v m n w k l e f = (grind (arith, nat_tests), grind (arith, nat_tests), grind (arith, nat_tests))

carries : (v m n w k l x y z : ℕ) → leq v m n w k l ≡ true → leq w k l x y z ≡ true → leq v m n x y z ≡ true
carries v m n w k l x y z e f = grind (arith, nat_tests)

pub holder_order : Total holder_leq HolderAlike
holder_order = record {
  compares = λ x y. compares x.volume x.member x.number y.volume y.member y.number;
  ties = λ x y. ties x.volume x.member x.number y.volume y.member y.number;
  carries = λ x y z. carries x.volume x.member x.number y.volume y.member y.number z.volume z.member z.number;
}

-- A holder that stands at or before another has no smaller volume.
pub leq_volume : (x y : Unpaired) → holder_leq x y ≡ true → y.volume ≤ x.volume
leq_volume x y e = go x.volume x.member x.number y.volume y.member y.number e
  where
    go : (v m n w k l : ℕ) → leq v m n w k l ≡ true → w ≤ v
    go v m n w k l e = grind (arith, nat_tests)
