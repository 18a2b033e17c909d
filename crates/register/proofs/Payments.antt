-- A delivery that is accepted is accepted on both sides. Assumes nothing.
use Rattle.std.proofs.Common.{◌≡◌, ℕ, Some, None, Option, refl, arith}
use Rattle.register.specs.declared.fault.RegisterFault.{RegisterFault}
use Rattle.register.specs.Deliveries.{first_refusal}

pub both_accepted : (units money : Option RegisterFault) → first_refusal units money ≡ None → (units ≡ None) × (money ≡ None)
both_accepted None None e = (refl, refl)
both_accepted None (Some _) e = let z : ◌≡◌ {A = ℕ} 0 1 = cc in absurd (omega arith)
both_accepted (Some _) money e = let z : ◌≡◌ {A = ℕ} 0 1 = cc in absurd (omega arith)
