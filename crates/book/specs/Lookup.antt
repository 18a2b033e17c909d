-- The look-up of a holder, in the subject's words.
use Rattle.std.specs.Prelude.{◌≡◌, ℕ, length, Some, None, Option}
use Rattle.book.specs.Books.{Contents, holder, In}

-- A row has this member and number.
pub record Has (b : Contents) (m n row : ℕ) : Type 0 where
  pub within : In 1 (length b.holders) row
  pub member : (holder b row).member ≡ m
  pub number : (holder b row).number ≡ n

-- The one row that has them, or none has.
abbrev pub TheOneRow : Contents → ℕ → ℕ → Option ℕ → Type 0
TheOneRow b member number None = (row : ℕ) → Has b member number row → ⊥
TheOneRow b member number (Some row) = Has b member number row × ((other : ℕ) → Has b member number other → other ≡ row)
