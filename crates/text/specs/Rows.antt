-- A line of a kind and numbers: what it gives, and how it is written.
use Rattle.std.specs.Prelude.{◌≡◌, ℕ, suc, Bool, false, cond, not, ◌&&◌, ◌||◌, List, [], ◌∷◌, ◌++◌, map, length, ℤ, pos, negsuc, Some, None, Ok, Err, vec_items, Option, Result, Vec, ◌==◌, int_le}
use Rattle.std.specs.Fmt.{signed_decimal}
use Rattle.std.specs.Str.{bytes_eq}
use Rattle.std.specs.declared.alloc.Global.{Global}
use Rattle.text.specs.declared.row.Bound.{Bound}
use Rattle.text.specs.declared.row.RowFault.{RowFault}
use Rattle.text.specs.declared.row.RowFault.TheVariants.{Form, Range}
use Rattle.text.specs.declared.row.RowError.{RowError}
use Rattle.text.specs.declared.row.RowError.TheVariants.{Refused, NoMemory}
use Rattle.text.specs.Number.{number, held, near}
use Rattle.text.specs.Parts.{together}

-- the number of the k-th field before those of the fields after it
abbrev pub then : Option ℤ → ℕ → Result (List ℤ) RowFault → Result (List ℤ) RowFault
then None k r = Err (Form k)
then (Some z) k (Ok zs) = Ok (z ∷ zs)
then (Some z) k (Err e) = Err e

-- the numbers of the fields, the first of which is the k-th of its line; the first wrong form from the left refuses
abbrev pub read : ℕ → List (List ℕ) → Result (List ℤ) RowFault
read k [] = Ok []
read k (f ∷ fs) = then (number f) k (read (suc k) fs)

abbrev pub is_zero : ℤ → Bool
is_zero (pos n) = n == 0
is_zero (negsuc n) = false

-- a bound allows the numbers from its low to its high one, 0 only where it says so, and none past what any field may have
abbrev pub inside : Bound → ℤ → Bool
inside b z = near z && ((int_le b.low z && int_le z b.high) && (b.zero || not (is_zero z)))

-- the place of the first number, counted from k, that its bound does not allow; 0 where there is none
abbrev pub outside : ℕ → List Bound → List ℤ → ℕ
outside k [] zs = 0
outside k (b ∷ bs) [] = 0
outside k (b ∷ bs) (z ∷ zs) = cond (inside b z) (outside (suc k) bs zs) k

abbrev pub ranged : List Bound → Result (List ℤ) RowFault → Result (List ℤ) RowFault
ranged bs (Err e) = Err e
ranged bs (Ok zs) = cond (outside 2 bs zs == 0) (Ok zs) (Err (Range (outside 2 bs zs)))

-- the numbers of a line of this kind, by its fields: the kind first, then their count, then each form, then each range
abbrev pub row : List ℕ → List Bound → List (List ℕ) → Result (List ℤ) RowFault
row kind bs [] = Err (Form 1)
row kind bs (f ∷ fs) =
    cond (bytes_eq f kind) (cond (length fs == length bs) (ranged bs (read 2 fs)) (Err (Form 0))) (Err (Form 1))

-- the line that is written of these numbers: the kind and the numbers with commas between them, and a line end
abbrev pub line : List ℕ → List ℤ → List ℕ
line kind zs = together 44 (kind ∷ map signed_decimal zs) ++ 10 ∷ []

-- ---- what a call gives

-- the numbers as code has them, each held at the limit
abbrev pub held_all : Result (List ℤ) RowFault → Result (List ℤ) RowFault
held_all (Ok zs) = Ok (map held zs)
held_all (Err e) = Err e

-- the call gives what s says, unless it found no memory
abbrev pub Answers : Result (Vec ℤ Global) RowError → Result (List ℤ) RowFault → Type 0
Answers (Ok v) s = s ≡ Ok (vec_items v)
Answers (Err (Refused e)) s = s ≡ Err e
Answers (Err NoMemory) s = Unit {0}
