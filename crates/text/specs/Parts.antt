-- Bytes cut at a separator.
use Rattle.std.specs.Prelude.{ℕ, suc, cond, List, [], ◌∷◌, ◌++◌, ◌==◌}
use Rattle.std.specs.List.{flat_map}

-- how many bytes stand before the first b, or in all where there is none
abbrev pub stop : ℕ → List ℕ → ℕ
stop b [] = 0
stop b (c ∷ cs) = cond (c == b) 0 (suc (stop b cs))

-- one byte more in front of the first part
abbrev pub onto : ℕ → List (List ℕ) → List (List ℕ)
onto c [] = (c ∷ []) ∷ []
onto c (f ∷ fs) = (c ∷ f) ∷ fs

-- the parts between bytes b; there is always one, and what stands after the last b is the last
abbrev pub parts : ℕ → List ℕ → List (List ℕ)
parts b [] = [] ∷ []
parts b (c ∷ cs) = cond (c == b) ([] ∷ parts b cs) (onto c (parts b cs))

-- the parts of a rest that begins with its separator, after that separator; an empty rest has none
abbrev pub later : ℕ → List ℕ → List (List ℕ)
later b [] = []
later b (c ∷ cs) = parts b cs

-- parts put together again, with b between them
abbrev pub together : ℕ → List (List ℕ) → List ℕ
together b [] = []
together b (f ∷ fs) = f ++ flat_map (λ g. b ∷ g) fs

-- the fields of a line are parted by commas
abbrev pub fields : List ℕ → List (List ℕ)
fields s = parts 44 s
