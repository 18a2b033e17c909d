-- One step of `scan` at a place of the list.
use Rattle.std.proofs.Common.{◌≡◌, ℕ, ◌+◌, ◌-◌, ◌*◌, ◌<◌, ◌≤◌, min, false, cond, List, [], ◌∷◌, length, get_or, drop, Some, None, Option, ◌∙◌}
use Rattle.std.proofs.lemmas.List.{at_drop_more, at_drop_all}
use Rattle.std.proofs.lemmas.Bool.{cond-false}
use Rattle.std.specs.Char.{is_ascii_digit}
use Rattle.text.specs.Number.{limit}

-- the number that the digits write after n, held at the limit; none where a byte is no digit
abbrev pub scan : ℕ → List ℕ → Option ℕ
scan n [] = Some n
scan n (c ∷ cs) = cond (is_ascii_digit c) (scan (min limit (n * 10 + (c - 48))) cs) None

pub scan_none : (n : ℕ) (xs : List ℕ) (i : ℕ) → i < length xs → is_ascii_digit (get_or xs i 0) ≡ false → scan n (drop i xs) ≡ None
scan_none n xs i h e = at_drop_more (scan n) xs i 0 h ∙ cond-false (is_ascii_digit (get_or xs i 0)) _ _ e

pub scan_end : (n : ℕ) (xs : List ℕ) (i : ℕ) → length xs ≤ i → scan n (drop i xs) ≡ Some n
scan_end n xs i h = at_drop_all (scan n) xs i h
