-- Numbers of a file: base ten, with no leading zero, no plus and no -0.
use Rattle.std.specs.Prelude.{ℕ, zero, suc, ◌+◌, ◌-◌, ◌*◌, min, Bool, cond, not, ◌&&◌, ◌||◌, List, [], ◌∷◌, length, ℤ, pos, negsuc, Some, None, Option, ◌==◌, int_le}
use Rattle.std.specs.Option.{option_map}
use Rattle.std.specs.Str.{all_ascii_digits}

-- the number that digits write after n
abbrev pub read_on : ℕ → List ℕ → ℕ
read_on n [] = n
read_on n (c ∷ cs) = read_on (n * 10 + (c - 48)) cs

-- a number of digits, with no 0 in front unless it is the only one
abbrev pub natural : List ℕ → Option ℕ
natural [] = None
natural (c ∷ cs) = cond (all_ascii_digits (c ∷ cs) && (not (c == 48) || length cs == 0)) (Some (read_on 0 (c ∷ cs))) None

-- the number below 0 that is so far from it
abbrev pub below : Option ℕ → Option ℤ
below None = None
below (Some zero) = None
below (Some (suc n)) = Some (negsuc n)

-- the number that a field writes, of any length; none where it has another form
abbrev pub number : List ℕ → Option ℤ
number [] = None
number (c ∷ cs) = cond (c == 45) (below (natural cs)) (option_map pos (natural (c ∷ cs)))

-- no field of any file may have a number farther from 0 than this, 10^18
abbrev pub most : ℕ
most = 1000000000000000000

abbrev pub near : ℤ → Bool
near z = int_le (negsuc 999999999999999999) z && int_le z (pos most)

-- a number farther from 0 is held one past it, where it is out of range all the same
abbrev pub limit : ℕ
limit = 1000000000000000001

abbrev pub held : ℤ → ℤ
held (pos n) = pos (min limit n)
held (negsuc n) = negsuc (min most n)
