-- Lines by their number.
use Rattle.std.specs.Prelude.{◌≡◌, ℕ, ◌-◌, ◌<◌, ◌≤◌, ◌⊎◌, Some, None, Option, ◌≢◌}

-- The place of a line of so many, by its number from 1; none for 0 and past the last.
abbrev pub Placed : ℕ → ℕ → Option ℕ → Type 0
Placed many i None = (i ≡ 0) ⊎ ((i ≢ 0) × (many < i))
Placed many i (Some place) = (i ≢ 0) × (i ≤ many) × (place ≡ i - 1)
