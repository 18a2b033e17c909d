-- The most that the widths of the sums hold. No sum of a book's lines comes near it.
use Rattle.std.specs.Prelude.{ℕ}

-- Contracts have 32 bits.
abbrev pub most_32 : ℕ
most_32 = 4294967295

-- Values have 64 bits.
abbrev pub most_64 : ℕ
most_64 = 18446744073709551615

-- Nets and claims have 64 bits with a sign.
abbrev pub most_63 : ℕ
most_63 = 9223372036854775807

-- Sums have 128 bits until they are told.
abbrev pub most_128 : ℕ
most_128 = 340282366920938463463374607431768211455
