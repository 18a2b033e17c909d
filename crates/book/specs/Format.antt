-- The file of a book: `book,1`, the terms, the assets and the holders, a line each, with their numbers as fields.
use Rattle.std.specs.Prelude.{◌≡◌, ℕ, true, false, List, [], ◌∷◌, ◌++◌, length, ℤ, pos, negsuc, codes, slice_index_or, unsigned_abs}
use Rattle.std.specs.List.{flat_map}
use Rattle.text.specs.declared.row.Bound.{Bound}
use Rattle.text.specs.Rows.{line, outside}
use Rattle.book.specs.declared.records.Terms.{Terms}
use Rattle.book.specs.declared.records.Asset.{Asset}
use Rattle.book.specs.declared.records.Holder.{Holder}
use Rattle.book.specs.Limits.{most_multiplier, least_price, most_price, least_factor, most_factor, most_accrued, most_market, most_member, most_number, most_agent, most_position}
use Rattle.book.specs.Books.{Contents}

-- ---- the numbers of a record, in the order of its fields, and the record of numbers

abbrev pub terms_values : Terms → List ℤ
terms_values t = pos t.multiplier ∷ pos t.price ∷ []

abbrev pub asset_values : Asset → List ℤ
asset_values x = pos x.factor ∷ pos x.accrued ∷ pos x.market ∷ []

abbrev pub holder_values : Holder → List ℤ
holder_values h = pos h.member ∷ pos h.number ∷ pos h.clearing ∷ pos h.agent ∷ h.position ∷ []

-- the k-th number, without its sign
abbrev pub size : List ℤ → ℕ → ℕ
size zs k = unsigned_abs (slice_index_or zs k (pos 0))

abbrev pub terms_from : List ℤ → Terms
terms_from zs = record { multiplier = size zs 0; price = size zs 1 }

abbrev pub asset_from : List ℤ → Asset
asset_from zs = record { factor = size zs 0; accrued = size zs 1; market = size zs 2 }

abbrev pub holder_from : List ℤ → Holder
holder_from zs = record { member = size zs 0; number = size zs 1; clearing = size zs 2; agent = size zs 3; position = slice_index_or zs 4 (pos 0) }

-- ---- the range of each field

-- from low to high, neither below 0
abbrev pub from_to : ℕ → ℕ → Bound
from_to low high = record { low = pos low; high = pos high; zero = true }

abbrev pub terms_bounds : List Bound
terms_bounds = from_to 1 most_multiplier ∷ from_to least_price most_price ∷ []

abbrev pub asset_bounds : List Bound
asset_bounds = from_to least_factor most_factor ∷ from_to 0 most_accrued ∷ from_to 1 most_market ∷ []

-- a position is above 0 or below it, and never 0
abbrev pub position_bound : Bound
position_bound = record { low = negsuc 999999; high = pos most_position; zero = false }

abbrev pub holder_bounds : List Bound
holder_bounds = from_to 1 most_member ∷ from_to 1 most_number ∷ from_to 1 most_member ∷ from_to 1 most_agent ∷ position_bound ∷ []

-- numbers that a line may have: one for each bound, each allowed
abbrev pub Good : List Bound → List ℤ → Type 0
Good bs zs = (length zs ≡ length bs) × (outside 2 bs zs ≡ 0)

-- ---- the lines, and the file

-- the first line, without its line end
abbrev pub heading : List ℕ
heading = codes "book,1"

abbrev pub terms_line : Terms → List ℕ
terms_line t = line (codes "terms") (terms_values t)

abbrev pub asset_line : Asset → List ℕ
asset_line x = line (codes "asset") (asset_values x)

abbrev pub holder_line : Holder → List ℕ
holder_line h = line (codes "holder") (holder_values h)

-- the file of a book
abbrev pub text : Contents → List ℕ
text b = (heading ++ 10 ∷ []) ++ (terms_line b.terms ++ (flat_map asset_line b.assets ++ flat_map holder_line b.holders))
