-- The reading of a file: what every file of bytes gives, a book or a refusal with its line and field.
use Rattle.std.specs.Prelude.{ℕ, suc, Bool, true, false, cond, ◌&&◌, List, [], ◌∷◌, ◌++◌, length, take, ℤ, Ok, Err, codes, Result, ◌==◌, nat_le, nat_lt}
use Rattle.std.specs.Str.{bytes_eq}
use Rattle.text.specs.declared.row.RowFault.{RowFault}
use Rattle.text.specs.declared.row.RowFault.TheVariants as row_fault
use Rattle.text.specs.Parts.{stop, parts, fields}
use Rattle.text.specs.Rows.{row}
use Rattle.text.specs.Pages.{most_bytes}
use Rattle.book.specs.declared.records.Terms.{Terms}
use Rattle.book.specs.declared.records.Asset.{Asset}
use Rattle.book.specs.declared.records.Holder.{Holder}
use Rattle.book.specs.declared.fault.Cause.{Cause}
use Rattle.book.specs.declared.fault.Cause.TheVariants as cause
use Rattle.book.specs.declared.fault.Refusal.{Refusal}
use Rattle.book.specs.declared.awaits.Awaits.{Awaits}
use Rattle.book.specs.declared.awaits.Awaits.TheVariants as awaits
use Rattle.book.specs.Limits.{most_assets, most_holders}
use Rattle.book.specs.Books.{Contents, empty}
use Rattle.book.specs.Format.{heading, terms_bounds, asset_bounds, holder_bounds, terms_from, asset_from, holder_from}
use Rattle.book.specs.Lawful.{ascends, agrees, complete}

-- what was read so far, and which line comes next
pub record Draft : Type 0 where
  pub awaits : Awaits
  pub book : Contents

abbrev pub drafted : Awaits → Contents → Draft
drafted next b = record { awaits = next; book = b }

abbrev pub refuse : Cause → ℕ → ℕ → Refusal
refuse cause line field = record { cause = cause; line = line; field = field }

abbrev pub Read : Type 0
Read = Result Draft Refusal

-- ---- one line: l is its number, b what was read before it, s its bytes, and `ended` whether a line end follows

-- a fault of a row of numbers, at its line
abbrev pub placed : ℕ → RowFault → Refusal
placed l (row_fault.Form k) = refuse cause.Form l k
placed l (row_fault.Range k) = refuse cause.Range l k

-- the numbers of a line, used, or its fault
abbrev pub on_row : ℕ → Result (List ℤ) RowFault → (List ℤ → Read) → Read
on_row l (Ok zs) use_them = use_them zs
on_row l (Err e) use_them = Err (placed l e)

abbrev pub with_terms : Contents → Terms → Contents
with_terms b t = record { terms = t; assets = b.assets; holders = b.holders }

abbrev pub with_asset : Contents → Asset → Contents
with_asset b x = record { terms = b.terms; assets = b.assets ++ x ∷ []; holders = b.holders }

abbrev pub with_holder : Contents → Holder → Contents
with_holder b h = record { terms = b.terms; assets = b.assets; holders = b.holders ++ h ∷ [] }

-- the first line is `book,1`
abbrev pub heading_read : ℕ → Contents → List ℕ → Bool → Read
heading_read l b s ended =
    cond (bytes_eq s heading) (cond ended (Ok (drafted awaits.Terms b)) (Err (refuse cause.Form l 0))) (Err (refuse cause.Heading l 0))

abbrev pub terms_read : ℕ → Contents → List ℕ → Read
terms_read l b s = on_row l (row (codes "terms") terms_bounds (fields s)) (λ zs. Ok (drafted awaits.Rows (with_terms b (terms_from zs))))

abbrev pub asset_read : ℕ → Contents → List ℕ → Read
asset_read l b s = on_row l (row (codes "asset") asset_bounds (fields s)) (λ zs. Ok (drafted awaits.Rows (with_asset b (asset_from zs))))

-- a row ascends, and agrees with those before it
abbrev pub row_added : ℕ → Contents → Holder → Read
row_added l b h =
    cond (ascends b.holders h)
    (cond (agrees b.holders h) (Ok (drafted awaits.Rows (with_holder b h))) (Err (refuse cause.Grouping l 0)))
    (Err (refuse cause.Order l 0))

abbrev pub holder_read : ℕ → Contents → List ℕ → Read
holder_read l b s = on_row l (row (codes "holder") holder_bounds (fields s)) (λ zs. row_added l b (holder_from zs))

-- the first field of a line is its kind
abbrev pub is_kind : List ℕ → List ℕ → Bool
is_kind s kind = bytes_eq (take (stop 44 s) s) kind

-- an asset may come before the first holder, while there are fewer than 4; a holder may come after an asset
abbrev pub asset_next : Contents → List ℕ → Bool
asset_next b s = is_kind s (codes "asset") && (length b.holders == 0 && nat_lt (length b.assets) most_assets)

abbrev pub holder_next : Contents → List ℕ → Bool
holder_next b s = is_kind s (codes "holder") && nat_lt 0 (length b.assets)

abbrev pub row_read : ℕ → Contents → List ℕ → Read
row_read l b s = cond (asset_next b s) (asset_read l b s) (cond (holder_next b s) (holder_read l b s) (Err (refuse cause.Form l 1)))

-- one holder too many, told before all else of its line
abbrev pub overfull : Contents → List ℕ → Bool
overfull b s = is_kind s (codes "holder") && nat_le most_holders (length b.holders)

abbrev pub next_by : Awaits → ℕ → Contents → List ℕ → Bool → Read
next_by awaits.Heading l b s ended = heading_read l b s ended
next_by awaits.Terms l b s ended = cond ended (terms_read l b s) (Err (refuse cause.Form l 0))
next_by awaits.Rows l b s ended = cond (overfull b s) (Err (refuse cause.Size l 0)) (cond ended (row_read l b s) (Err (refuse cause.Form l 0)))

abbrev pub next : ℕ → Draft → List ℕ → Bool → Read
next l d s ended = next_by d.awaits l d.book s ended

-- ---- the whole file

abbrev pub onward : {X : Type 0} → Read → (Draft → Result X Refusal) → Result X Refusal
onward (Ok d) f = f d
onward (Err e) f = Err e

-- line by line; what stands after the last line end is no line where it is empty
abbrev pub read_on : ℕ → Draft → List (List ℕ) → Read
read_on l d [] = Ok d
read_on l d (s ∷ []) = cond (length s == 0) (Ok d) (next l d s false)
read_on l d (s ∷ t ∷ ts) = onward (next l d s true) (λ e. read_on (suc l) e (t ∷ ts))

-- after the last line, or with none, the holders must be there and balance
abbrev pub finished : Draft → Result Contents Refusal
finished d = cond (complete d.book) (Ok d.book) (Err (refuse cause.Holdings 0 0))

abbrev pub start : Draft
start = drafted awaits.Heading empty

-- what a file gives: too many bytes come first
abbrev pub reading : List ℕ → Result Contents Refusal
reading file = cond (nat_lt most_bytes (length file)) (Err (refuse cause.Size 0 0)) (onward (read_on 1 start (parts 10 file)) finished)
