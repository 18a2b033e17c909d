-- What the programs tell of a book's file.
use Rattle.std.specs.Prelude.{◌≡◌, ℕ, Bool, true, false, List, ◌++◌, length, Ok, Err, Some, None, codes, decimal, Option, Result}
use Rattle.book.specs.declared.fault.Refusal.{Refusal}
use Rattle.book.specs.Books.{Contents, Sound, bought}
use Rattle.book.specs.Format.{text}

-- a file that gives s is accepted, and b is its book; or it is refused
abbrev pub Accepts : Bool → Result Contents Refusal → Contents → Type 0
Accepts true s b = s ≡ Ok b
Accepts false s b = (e : Refusal) × (s ≡ Err e)

-- the length of the text of the book, which exists
abbrev pub AcceptsBytes : Option ℕ → Contents → Type 0
AcceptsBytes None b = Unit {0}
AcceptsBytes (Some n) b = Sound b × (n ≡ length (text b))

-- the text that tells of an accepted book of so many bytes
abbrev pub accepted : Contents → ℕ → List ℕ
accepted b bytes = codes "accepted," ++ (decimal bytes ++ (codes "," ++ (decimal (length b.assets) ++ (codes "," ++ (decimal (length b.holders) ++ (codes "," ++ decimal (bought b)))))))
