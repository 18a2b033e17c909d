-- The book, and its prices.
use Rattle.std.specs.Prelude.{◌≡◌, ℕ, ◌+◌, ◌*◌, ◌/◌, ◌<◌, ◌≤◌, Bool, true, cond, ◌&&◌, List, [], ◌∷◌, length, ℤ, pos, Some, None, sum_by, Option, ◌==◌, int_lt, nat_lt, slice_index_or, unsigned_abs}
use Rattle.std.proofs.Math.IntN.{sub_ℕ}
use Rattle.std.specs.List.{AllByRecursion}
use Rattle.book.specs.Limits.{most_multiplier, least_price, most_price, least_factor, most_factor, most_accrued, most_market, most_member, most_number, most_agent, most_position, most_bought, most_assets, most_holders}
use Rattle.book.specs.declared.records.Terms.{Terms}
use Rattle.book.specs.declared.records.Asset.{Asset}
use Rattle.book.specs.declared.records.Holder.{Holder}

-- What a book holds.
pub record Contents : Type 0 where
  pub terms : Terms
  pub assets : List Asset
  pub holders : List Holder

-- ---- holders

-- Buyers' positions count plus, sellers' minus; volume leaves the sign off.
abbrev pub buys : Holder → Bool
buys h = int_lt (pos 0) h.position

abbrev pub sells : Holder → Bool
sells h = int_lt h.position (pos 0)

abbrev pub volume : Holder → ℕ
volume h = unsigned_abs h.position

-- Nobody neither buys nor sells.
abbrev pub nobody : Holder
nobody = record { member = 0; number = 0; clearing = 0; agent = 0; position = pos 0 }

-- The holder in a row. Rows count from 1; in row 0, and after the last row, there is nobody.
abbrev pub holder : Contents → ℕ → Holder
holder b row = slice_index_or (nobody ∷ b.holders) row nobody

abbrev pub next_row : Option ℕ → Option ℕ
next_row None = None
next_row (Some row) = Some (row + 1)

-- The row of the holder with this member and number, which may be absent.
abbrev pub row_among : List Holder → ℕ → ℕ → Option ℕ
row_among [] member number = None
row_among (h ∷ hs) member number =
    cond (h.member == member && h.number == number) (Some 1) (next_row (row_among hs member number))

abbrev pub row_of : Contents → ℕ → ℕ → Option ℕ
row_of b member number = row_among b.holders member number

abbrev pub row_or_0 : Option ℕ → ℕ
row_or_0 None = 0
row_or_0 (Some row) = row

-- The same as a number, 0 where it is absent, so that an absent holder is nobody.
abbrev pub row_named : Contents → ℕ → ℕ → ℕ
row_named b member number = row_or_0 (row_of b member number)

-- ---- prices

abbrev pub no_asset : Asset
no_asset = record { factor = 0; accrued = 0; market = 0 }

abbrev pub asset_at : Contents → ℕ → Asset
asset_at b a = slice_index_or b.assets a no_asset

-- The invoice price of an asset: price × factor, rounded to whole centavos, half up, plus accrued interest.
abbrev pub invoice_of : ℕ → Asset → ℕ
invoice_of price x = (price * x.factor + 500000) / 1000000 + x.accrued

abbrev pub invoice : Contents → ℕ → ℕ
invoice b a = invoice_of b.terms.price (asset_at b a)

-- The value of so many contracts of an asset.
abbrev pub value : Contents → ℕ → ℕ → ℕ
value b a contracts = contracts * b.terms.multiplier * invoice b a

-- Market price less invoice price.
abbrev pub difference : Contents → ℕ → ℤ
difference b a = sub_ℕ (asset_at b a).market (invoice b a)

-- ---- what every book that exists has; only the empty book is excepted

abbrev pub In : ℕ → ℕ → ℕ → Type 0
In low high n = (low ≤ n) × (n ≤ high)

pub record AssetInRange (x : Asset) : Type 0 where
  pub factor : In least_factor most_factor x.factor
  pub accrued : In 0 most_accrued x.accrued
  pub market : In 1 most_market x.market

pub record HolderInRange (h : Holder) : Type 0 where
  pub member : In 1 most_member h.member
  pub number : In 1 most_number h.number
  pub clearing : In 1 most_member h.clearing
  pub agent : In 1 most_agent h.agent
  pub volume : In 1 most_position (volume h)

-- By member, then number.
abbrev pub stands_before : Holder → Holder → Bool
stands_before x y = cond (x.member == y.member) (nat_lt x.number y.number) (nat_lt x.member y.member)

-- Contracts bought, and contracts sold.
abbrev pub bought_by : List Holder → ℕ
bought_by hs = sum_by (λ h. cond (buys h) (volume h) 0) hs

abbrev pub sold_by : List Holder → ℕ
sold_by hs = sum_by (λ h. cond (sells h) (volume h) 0) hs

abbrev pub bought : Contents → ℕ
bought b = bought_by b.holders

abbrev pub sold : Contents → ℕ
sold b = sold_by b.holders

-- The contents of a book that exists.
pub record Sound (b : Contents) : Type 0 where
  pub multiplier : In 1 most_multiplier b.terms.multiplier
  pub price : In least_price most_price b.terms.price
  pub asset_count : In 1 most_assets (length b.assets)
  pub assets : AllByRecursion AssetInRange b.assets
  pub holder_count : In 1 most_holders (length b.holders)
  pub holders : AllByRecursion HolderInRange b.holders
  pub ascending : (r s : ℕ) → 1 ≤ r → r < s → s ≤ length b.holders → stands_before (holder b r) (holder b s) ≡ true
  pub one_clearing : (r s : ℕ) → In 1 (length b.holders) r → In 1 (length b.holders) s → (holder b r).member ≡ (holder b s).member → (holder b r).clearing ≡ (holder b s).clearing
  pub one_agent : (r s : ℕ) → In 1 (length b.holders) r → In 1 (length b.holders) s → (holder b r).clearing ≡ (holder b s).clearing → (holder b r).agent ≡ (holder b s).agent
  pub balanced : bought b ≡ sold b
  pub few : bought b ≤ most_bought

-- The empty book, all zero.
abbrev pub empty : Contents
empty = record { terms = record { multiplier = 0; price = 0 }; assets = []; holders = [] }
