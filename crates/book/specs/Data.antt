-- What a book and a draft hold, for the contracts of their methods.
use Rattle.std.specs.Prelude.{◌≡◌, ℕ, Bool, cond, List, length, ℤ, Ok, Err, vec_items, Result, ◌==◌, nat_lt}
use Rattle.text.specs.declared.row.RowFault.{RowFault}
use Rattle.text.specs.declared.row.RowError.{RowError}
use Rattle.text.specs.declared.row.RowError.TheVariants as row_error
use Rattle.text.specs.Pages.{placed as put_at_start}
use Rattle.book.specs.declared.book.Book.{Book}
use Rattle.book.specs.declared.draft.Draft.{Draft as DraftRead}
use Rattle.book.specs.declared.fault.Cause.TheVariants.{Form}
use Rattle.book.specs.declared.fault.Refusal.{Refusal}
use Rattle.book.specs.declared.fault.ReadFault.{ReadFault}
use Rattle.book.specs.declared.fault.ReadFault.TheVariants.{Refused, NoMemory}
use Rattle.book.specs.declared.fault.WriteFault.{WriteFault}
use Rattle.book.specs.declared.fault.WriteFault.TheVariants.{EmptyBook, SmallBuffer}
use Rattle.book.specs.Books.{Contents, empty}
use Rattle.book.specs.Format.{text}
use Rattle.book.specs.Reading.{Draft, placed, refuse}

abbrev pub contents : Book → Contents
contents b = record { terms = b.terms; assets = vec_items b.assets; holders = vec_items b.holders }

abbrev pub draft_of : DraftRead → Draft
draft_of d = record { awaits = d.awaits; book = record { terms = d.terms; assets = vec_items d.assets; holders = vec_items d.holders } }

-- a draft after a call that was to do what s says: it did, or the call gives the refusal, or found no memory
abbrev pub Does : {X : Type 0} → Result (Unit {0}) ReadFault → Result X Refusal → X → Type 0
Does (Ok u) s x = s ≡ Ok x
Does (Err (Refused e)) s x = s ≡ Err e
Does (Err NoMemory) s x = Unit {0}

-- a call that gives what s says, by what its value holds, unless it found no memory
abbrev pub Gives : {T X : Type 0} → (T → X) → Result T ReadFault → Result X Refusal → Type 0
Gives holds (Ok x) s = s ≡ Ok (holds x)
Gives holds (Err (Refused e)) s = s ≡ Err e
Gives holds (Err NoMemory) s = Unit {0}

-- a fault of a row, at its line
abbrev pub fault_on : ℕ → RowError → ReadFault
fault_on l (row_error.Refused e) = Refused (placed l e)
fault_on l row_error.NoMemory = NoMemory

-- the record of a line's numbers, or the line's fault
abbrev pub record_of : {X : Type 0} → ℕ → Result (List ℤ) RowFault → (List ℤ → X) → Result X Refusal
record_of l (Ok zs) from = Ok (from zs)
record_of l (Err e) from = Err (placed l e)

-- a call that passes a line with its end, and refuses the form of another
abbrev pub Ends : Bool → ℕ → Result (Unit {0}) ReadFault → Type 0
Ends ended l r = r ≡ cond ended (Ok tt) (Err (Refused (refuse Form l 0)))

-- a book after a reading that was to give what s says: that book, or the empty one with the refusal or with no memory
abbrev pub Reads : Result (Unit {0}) ReadFault → Result Contents Refusal → Contents → Type 0
Reads (Ok u) s b = s ≡ Ok b
Reads (Err (Refused e)) s b = (s ≡ Err e) × (b ≡ empty)
Reads (Err NoMemory) s b = b ≡ empty

-- ---- writing into a buffer

-- the answer: the text's length, or why there is none, the empty book before a small buffer
abbrev pub write_answer : Contents → List ℕ → Result ℕ WriteFault
write_answer b out = cond (length b.holders == 0) (Err EmptyBook) (cond (nat_lt (length out) (length (text b))) (Err SmallBuffer) (Ok (length (text b))))

-- the buffer afterwards: the text at its start and later bytes as they were; where writing is refused, all as it was
abbrev pub write_leaves : Contents → List ℕ → List ℕ
write_leaves b out = cond (length b.holders == 0) out (put_at_start (text b) out)
