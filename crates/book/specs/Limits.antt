-- The limits of a book, each in one place.
use Rattle.std.specs.Prelude.{ℕ}

-- units per contract
abbrev pub most_multiplier : ℕ
most_multiplier = 1000

-- the futures price, in centavos
abbrev pub least_price : ℕ
least_price = 100

abbrev pub most_price : ℕ
most_price = 100000000

-- an asset's factor, in millionths
abbrev pub least_factor : ℕ
least_factor = 100000

abbrev pub most_factor : ℕ
most_factor = 2000000

-- accrued interest and market price, in centavos a unit
abbrev pub most_accrued : ℕ
most_accrued = 10000000

abbrev pub most_market : ℕ
most_market = 210000000

-- numbers of members and clearing members, of holders within a member, and of payment agents
abbrev pub most_member : ℕ
most_member = 999

abbrev pub most_number : ℕ
most_number = 999999

abbrev pub most_agent : ℕ
most_agent = 64

-- contracts of one holder, and contracts bought in a book
abbrev pub most_position : ℕ
most_position = 1000000

abbrev pub most_bought : ℕ
most_bought = 1000000

abbrev pub most_assets : ℕ
most_assets = 4

abbrev pub most_holders : ℕ
most_holders = 256
