-- What a refusal says of its checks, and what says that there is none.
use Rattle.std.proofs.Common.{◌≡◌, ℕ, Some, None, Ok, Err, Option, refl, arith}
use Rattle.register.specs.Rules.{answer}

pub refused_by : {F : Type 0} (x : Option F) (f : F) → answer x ≡ Err f → x ≡ Some f
refused_by None f p = absurd (let z : ◌≡◌ {A = ℕ} 0 1 = cc in omega arith)
refused_by (Some g) f p = cc

pub passed_by : {F : Type 0} (x : Option F) → answer x ≡ Ok tt → x ≡ None
passed_by None p = refl
passed_by (Some g) p = absurd (let z : ◌≡◌ {A = ℕ} 0 1 = cc in omega arith)
