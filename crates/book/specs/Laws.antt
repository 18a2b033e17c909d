-- The file of a book, in the subject's words: one file for each book, and one book for each file.
use Rattle.std.specs.Prelude.{◌≡◌, ℕ, ◌≤◌, ◌⊎◌, List, length, Ok, Err, Result}
use Rattle.book.specs.declared.fault.ReadFault.{ReadFault}
use Rattle.book.specs.declared.fault.ReadFault.TheVariants.{NoMemory}
use Rattle.text.specs.Pages.{most_bytes}
use Rattle.book.specs.Books.{Contents, Sound}
use Rattle.book.specs.Format.{text}
use Rattle.book.specs.Reading.{reading}

-- ---- of one reading: r is its answer, and now the book afterwards

-- An accepted file is the text of the book that it gives, which exists; and the text of a book that exists is never
-- refused and gives that book (short of memory).
pub record AcceptsExactlyTexts (r : Result (Unit {0}) ReadFault) (file : List ℕ) (now : Contents) : Type 0 where
  pub only_texts : r ≡ Ok tt → Sound now × (file ≡ text now)
  pub every_text : (b : Contents) → Sound b → file ≡ text b → ((r ≡ Ok tt) × (now ≡ b)) ⊎ (r ≡ Err NoMemory)

-- ---- of all files and books

-- A file is accepted exactly when it is the text of a book that exists, and gives that book.
abbrev pub AcceptedFilesAreTexts : Type 0
AcceptedFilesAreTexts = (file : List ℕ) (b : Contents) → reading file ≡ Ok b → Sound b × (file ≡ text b)

-- The text of every book that exists reads back to that book, and is no longer than a file may be.
abbrev pub TextsReadBack : Type 0
TextsReadBack = (b : Contents) → Sound b → (reading (text b) ≡ Ok b) × (length (text b) ≤ most_bytes)

-- Two books with one text are the same book.
abbrev pub OneBookForEachText : Type 0
OneBookForEachText = (b c : Contents) → Sound b → Sound c → text b ≡ text c → b ≡ c
