-- What stops a notice, and what it leaves in the record of its seller.
use Rattle.std.specs.Prelude.{◌≡◌, ℕ, ◌+◌, ◌-◌, ◌<◌, min, Bool, true, false, cond, ◌&&◌, List, [], ◌∷◌, length, Some, None, Ok, Err, Option, Result, ◌==◌, nat_le, nat_lt, slice_index}
use Rattle.book.specs.declared.records.Holder.{Holder}
use Rattle.book.specs.Limits.{most_assets, most_holders}
use Rattle.book.specs.Books.{Contents, holder, row_named, sells, volume}
use Rattle.pairs.specs.declared.lots.SellerLots.{SellerLots}
use Rattle.rules.specs.declared.session.Session.{Session}
use Rattle.rules.specs.declared.session.Session.TheVariants.{MembersNotices}
use Rattle.rules.specs.declared.speaker.Speaker.{Speaker}
use Rattle.rules.specs.declared.speaker.Speaker.TheVariants as speaker
use Rattle.rules.specs.declared.fault.Cause.{Cause}
use Rattle.rules.specs.declared.fault.Cause.TheVariants.{NotItsSeller, NoSuchSeller, NoSuchAsset, BadContracts}
use Rattle.rules.specs.Numbers.{session_number}
use Rattle.rules.specs.Verdict.{first_failed}
use Rattle.state.specs.Seeing.{record_of}

-- Whether it is this session.
abbrev pub is_session : Session → Session → Bool
is_session now' s = session_number now' == session_number s

-- Whether the speaker speaks for the seller, in a session.
abbrev pub speaks : Session → Speaker → Holder → Bool
speaks session (speaker.Member n) h = is_session session MembersNotices && n == h.member
speaks session (speaker.Clearing n) h = n == h.clearing

-- The checks of a notice for a seller, of whose contracts so many are notified, in a book of so many assets.
abbrev pub fault_checks : Session → Speaker → Holder → ℕ → ℕ → ℕ → ℕ → List (Bool × Cause)
fault_checks session speaker seller assets done asset contracts =
    (speaks session speaker seller, NotItsSeller)
    ∷ (nat_lt asset assets, NoSuchAsset)
    ∷ (nat_lt 0 contracts && nat_le contracts (volume seller - done), BadContracts) ∷ []

-- The first check of a notice that fails, in a session, where so many contracts of the seller are notified.
abbrev pub notice_stops : Contents → Session → ℕ → Speaker → ℕ → ℕ → ℕ → ℕ → Option Cause
notice_stops b session done speaker member number asset contracts =
    first_failed
    ((sells (holder b (row_named b member number)), NoSuchSeller)
    ∷ fault_checks session speaker (holder b (row_named b member number)) (length b.assets) done asset contracts)

-- The place of a row, or what stops the notice.
abbrev pub place_or : Option Cause → ℕ → Result ℕ Cause
place_or None row = Ok (row - 1)
place_or (Some cause) row = Err cause

-- The seller of a member and number: its place among the holders, which is its row less one.
abbrev pub SellerAt : Contents → ℕ → ℕ → Option ℕ → Type 0
SellerAt b member number None = sells (holder b (row_named b member number)) ≡ false
SellerAt b member number (Some place) =
    (row_named b member number ≡ place + 1) × (place < length b.holders) × (place < most_holders) × (sells (holder b (row_named b member number)) ≡ true)

-- There is a record and a lot for a notice, and its contracts can be counted.
abbrev pub FitsIn : List SellerLots → ℕ → ℕ → Result ℕ Cause → Type 0
FitsIn records asset contracts (Ok place) = (place < most_holders) × (asset < most_assets) × ((record_of records (place + 1)).notified + contracts < 4294967296)
FitsIn records asset contracts (Err cause) = Unit {0}

-- A lot of the record, with so many contracts more where it is the one for the asset, as far as it can count.
abbrev pub lot_more : SellerLots → ℕ → ℕ → ℕ → ℕ
lot_more x a n i = cond (i == a) (min (slice_index x.lots i + n) 4294967295) (slice_index x.lots i)

-- The record with so many contracts more notified, in the lot for an asset.
abbrev pub with_lot : SellerLots → ℕ → ℕ → SellerLots
with_lot x a n = record { lots = lot_more x a n 0 ∷ lot_more x a n 1 ∷ lot_more x a n 2 ∷ lot_more x a n 3 ∷ []; notified = x.notified + n }
