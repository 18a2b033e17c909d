-- An accepted file is the text of its book, so it has as many bytes.
use Rattle.std.proofs.Common.{◌≡◌, ℕ, Bool, true, false, List, length, Option, ap, ◌∙◌, subst, sym}
use Rattle.std.specs.Bool.{then_some}
use Rattle.book.specs.Books.{Contents}
use Rattle.book.specs.Reading.{reading}
use Rattle.book.proofs.OneFile.{accepted_files_are_texts}
use Rattle.book_report.specs.Told.{Accepts, AcceptsBytes}

-- n is the file's length, told where it is accepted
pub bytes_of_text : (yes : Bool) (file : List ℕ) (b : Contents) (n : ℕ) (o : Option ℕ) → Accepts yes (reading file) b → n ≡ length file → o ≡ then_some yes n → AcceptsBytes o b
bytes_of_text true file b n o a k e = let p = accepted_files_are_texts file b a in subst (λ x. AcceptsBytes x b) (sym e) (p.0, k ∙ ap length p.1)
bytes_of_text false file b n o a k e = subst (λ x. AcceptsBytes x b) (sym e) tt
