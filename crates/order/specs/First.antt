-- The first open record of a list by a total order: in words, and as a function.
use Rattle.std.specs.Prelude.{◌≡◌, ℕ, ◌+◌, ◌<◌, Bool, true, false, cond, ◌&&◌, ◌||◌, List, [], ◌∷◌, length, Some, None, Option, slice_index_or}

-- A total order: any two compare, both ways only when alike in what is compared, and the order carries over.
pub record Total {X : Type 0} (leq : X → X → Bool) (alike : X → X → Type 0) : Type 0 where
  pub compares : (x y : X) → leq x y ≡ false → leq y x ≡ true
  pub ties : (x y : X) → leq x y ≡ true → leq y x ≡ true → alike x y
  pub carries : (x y z : X) → leq x y ≡ true → leq y z ≡ true → leq x z ≡ true

-- ---- in words

-- Among the first n records of the list the one at place b is the first open one: it is open, each open record stands
-- at or after it in the order, and no open record before it in the list is as early in the order.
pub record First {X : Type 0} (leq : X → X → Bool) (is_open : X → Bool) (xs : List X) (n b : ℕ) : Type 0 where
  pub within : b < n
  pub passing : (d : X) → is_open (slice_index_or xs b d) ≡ true
  pub least : (k : ℕ) (d : X) → k < n → is_open (slice_index_or xs k d) ≡ true → leq (slice_index_or xs b d) (slice_index_or xs k d) ≡ true
  pub earliest : (k : ℕ) (d : X) → k < b → is_open (slice_index_or xs k d) ≡ true → leq (slice_index_or xs k d) (slice_index_or xs b d) ≡ false

-- What a search among the first n records answers: the place of the first open one, or that none is open.
abbrev pub FirstAmong : {X : Type 0} → (X → X → Bool) → (X → Bool) → List X → ℕ → Option ℕ → Type 0
FirstAmong {X} leq is_open xs n None = (k : ℕ) (d : X) → k < n → is_open (slice_index_or xs k d) ≡ false
FirstAmong {X} leq is_open xs n (Some b) = First leq is_open xs n b

-- The same of the whole list.
abbrev pub FirstOpen : {X : Type 0} → (X → X → Bool) → (X → Bool) → List X → Option ℕ → Type 0
FirstOpen leq is_open xs answer = FirstAmong leq is_open xs (length xs) answer

-- ---- as a function

-- Of a record x before the chosen one in the list, which is it now?
abbrev pub chosen : {X : Type 0} → (X → X → Bool) → Bool → X → Option (ℕ × X) → Option (ℕ × X)
chosen leq passes x None = cond passes (Some (0, x)) None
chosen leq passes x (Some (i, y)) = cond (passes && leq x y) (Some (0, x)) (Some (i + 1, y))

-- The place, from 0, of the first record that passes, and the record; the earliest in the list among alike ones.
abbrev pub first : {X : Type 0} → (X → X → Bool) → (X → Bool) → List X → Option (ℕ × X)
first leq passes [] = None
first leq passes (x ∷ xs) = chosen leq (passes x) x (first leq passes xs)

-- The place alone.
abbrev pub place_of : {X : Type 0} → Option (ℕ × X) → Option ℕ
place_of None = None
place_of (Some (i, x)) = Some i

-- Whether some record of a list passes.
abbrev pub any : {X : Type 0} → (X → Bool) → List X → Bool
any passes [] = false
any passes (x ∷ xs) = passes x || any passes xs
