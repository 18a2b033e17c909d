-- What an answer cannot be: both accepted and refused.
use Rattle.std.proofs.Common.{◌≡◌, ℕ, Ok, Err, Result, arith}

pub ok_err : {X Y : Type 0} {r : Result X Y} {x : X} {y : Y} → r ≡ Ok x → r ≡ Err y → ⊥
ok_err {X} {Y} {r} {x} {y} a b = let z : ◌≡◌ {A = ℕ} 0 1 = cc in omega arith
