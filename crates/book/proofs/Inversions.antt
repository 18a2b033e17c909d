-- What an accepted reading passed.
use Rattle.std.proofs.Common.{◌≡◌, ℕ, Bool, true, false, cond, List, ℤ, Ok, Err, Result, refl, arith}
use Rattle.text.specs.declared.row.RowFault.{RowFault}
use Rattle.book.specs.declared.fault.Refusal.{Refusal}
use Rattle.book.specs.Reading.{Draft, Read, on_row, onward}

-- a test that had to be passed
pub passed : {X : Type 0} (v : Bool) (r : Result X Refusal) (e : Refusal) (x : X) → cond v r (Err e) ≡ Ok x → (v ≡ true) × (r ≡ Ok x)
passed true r e x h = (refl, h)
passed false r e x h = let q : ◌≡◌ {A = ℕ} 0 1 = cc in absurd (omega arith)

-- a test that had to fail
pub spared : {X : Type 0} (v : Bool) (r : Result X Refusal) (e : Refusal) (x : X) → cond v (Err e) r ≡ Ok x → (v ≡ false) × (r ≡ Ok x)
spared true r e x h = let q : ◌≡◌ {A = ℕ} 0 1 = cc in absurd (omega arith)
spared false r e x h = (refl, h)

pub on_row_ok : (l : ℕ) (r : Result (List ℤ) RowFault) (use_them : List ℤ → Read) (d : Draft) → on_row l r use_them ≡ Ok d → (zs : List ℤ) × (r ≡ Ok zs) × (use_them zs ≡ Ok d)
on_row_ok l (Ok zs) use_them d h = (zs, refl, h)
on_row_ok l (Err e) use_them d h = let q : ◌≡◌ {A = ℕ} 0 1 = cc in absurd (omega arith)

pub onward_ok : {X : Type 0} (r : Read) (f : Draft → Result X Refusal) (x : X) → onward r f ≡ Ok x → (d : Draft) × (r ≡ Ok d) × (f d ≡ Ok x)
onward_ok (Ok d) f x h = (d, refl, h)
onward_ok (Err e) f x h = let q : ◌≡◌ {A = ℕ} 0 1 = cc in absurd (omega arith)

pub never : {X : Type 0} (e : Refusal) (x : X) → Err e ≡ Ok x → ⊥
never e x h = let q : ◌≡◌ {A = ℕ} 0 1 = cc in omega arith

pub same_ok : {X : Type 0} (x y : X) → ◌≡◌ {A = Result X Refusal} (Ok x) (Ok y) → x ≡ y
same_ok x y h = cc
