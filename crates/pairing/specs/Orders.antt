-- The orders of holders and of deliverables, and the first deliverable of a book.
use Rattle.std.specs.Prelude.{◌≡◌, ℕ, ◌+◌, Bool, true, ◌&&◌, ◌||◌, List, [], ◌∷◌, Some, None, Option, ◌==◌, nat_le, nat_lt}
use Rattle.book.specs.declared.records.Asset.{Asset}
use Rattle.pairing.specs.declared.pair.Unpaired.{Unpaired}
use Rattle.pairing.specs.declared.deliverable.Deliverable.{Deliverable}
use Rattle.order.specs.First.{first}
use Rattle.book.specs.Books.{Contents, invoice_of}

-- Holders stand by larger unpaired volume, then lower member, then lower number.
abbrev pub holder_leq : Unpaired → Unpaired → Bool
holder_leq x y = nat_lt y.volume x.volume
    || (x.volume == y.volume && (nat_lt x.member y.member || (x.member == y.member && nat_le x.number y.number)))

abbrev pub HolderAlike : Unpaired → Unpaired → Type 0
HolderAlike x y = (x.volume ≡ y.volume) × (x.member ≡ y.member) × (x.number ≡ y.number)

-- A holder is open while it has unpaired volume.
abbrev pub holder_open : Unpaired → Bool
holder_open x = nat_lt 0 x.volume

-- Deliverables stand by lower market price less invoice price, then lower asset number. All are open.
abbrev pub deliverable_leq : Deliverable → Deliverable → Bool
deliverable_leq x y = nat_lt (x.market + y.invoice) (y.market + x.invoice)
    || (x.market + y.invoice == y.market + x.invoice && nat_le x.asset y.asset)

abbrev pub DeliverableAlike : Deliverable → Deliverable → Type 0
DeliverableAlike x y = (x.market + y.invoice ≡ y.market + x.invoice) × (x.asset ≡ y.asset)

-- The deliverables of a list of assets, numbered from a on.
abbrev pub deliverables : ℕ → ℕ → List Asset → List Deliverable
deliverables price a [] = []
deliverables price a (x ∷ xs) = record { asset = a; market = x.market; invoice = invoice_of price x } ∷ deliverables price (a + 1) xs

abbrev pub place_or_0 : {X : Type 0} → Option (ℕ × X) → ℕ
place_or_0 None = 0
place_or_0 (Some (i, x)) = i

-- The asset of the first deliverable; every book has one.
abbrev pub first_deliverable : Contents → ℕ
first_deliverable b = place_or_0 (first deliverable_leq (λ _. true) (deliverables b.terms.price 0 b.assets))
