-- How each refusal of a book file is told: its number and its text.
use Rattle.std.specs.Prelude.{ℕ, List, ◌++◌, codes, decimal}
use Rattle.book.specs.declared.fault.Cause.{Cause}
use Rattle.book.specs.declared.fault.Cause.TheVariants.{Heading, Form, Range, Order, Grouping, Holdings, Size}
use Rattle.book.specs.declared.fault.Refusal.{Refusal}
use Rattle.book.specs.declared.fault.ReadFault.{ReadFault}
use Rattle.book.specs.declared.fault.ReadFault.TheVariants.{Refused, NoMemory}
use Rattle.book.specs.declared.fault.WriteFault.{WriteFault}
use Rattle.book.specs.declared.fault.WriteFault.TheVariants.{EmptyBook, SmallBuffer}

abbrev pub number : Cause → ℕ
number Heading = 1
number Form = 2
number Range = 3
number Order = 4
number Grouping = 5
number Holdings = 6
number Size = 7

abbrev pub write_number : WriteFault → ℕ
write_number EmptyBook = 6
write_number SmallBuffer = 15

-- the text of a refused file: its cause's number, and where
abbrev pub told : Refusal → List ℕ
told r = codes "refused," ++ (decimal (number r.cause) ++ (codes "," ++ (decimal r.line ++ (codes "," ++ decimal r.field))))

abbrev pub read_told : ReadFault → List ℕ
read_told (Refused r) = told r
read_told NoMemory = codes "no memory for the book"

abbrev pub write_told : WriteFault → List ℕ
write_told EmptyBook = codes "the empty book has no file"
write_told SmallBuffer = codes "the buffer is too small for the book's file"
