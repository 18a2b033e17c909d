-- One file for each book, and one book for each file.
use Rattle.std.proofs.Common.{◌≡◌, ℕ, List, Ok, Err, sym, refl, ap, ◌∙◌, inl, inr, arith}
use Rattle.book.specs.declared.fault.ReadFault.{ReadFault}
use Rattle.book.specs.declared.fault.ReadFault.TheVariants.{Refused, NoMemory}
use Rattle.book.specs.Books.{Contents, Sound}
use Rattle.book.specs.Format.{text}
use Rattle.book.specs.Reading.{reading}
use Rattle.book.specs.Data.{Gives}
use Rattle.book.specs.Laws.{AcceptsExactlyTexts, AcceptedFilesAreTexts, TextsReadBack, OneBookForEachText}
use Rattle.book.proofs.FileOfBook.{accepted}
use Rattle.book.proofs.Inversions.{same_ok, never}
use Rattle.book.proofs.SoundLawful.{sound_from, lawful_from_sound}
use Rattle.book.proofs.TextLength.{text_length}
use Rattle.book.proofs.TextReads.{reads_back}

pub accepted_files_are_texts : AcceptedFilesAreTexts
accepted_files_are_texts file b h = let p = accepted file b h in (sound_from b p.0, p.1)

pub texts_read_back : TextsReadBack
texts_read_back b s = let n = text_length b s in (reads_back b (lawful_from_sound b s) n, n)

pub one_book_for_each_text : OneBookForEachText
one_book_for_each_text b c s t e = same_ok b c (sym (texts_read_back b s).0 ∙ ap reading e ∙ (texts_read_back c t).0)

-- ---- of one reading

reads_text : (file : List ℕ) (b : Contents) → Sound b → file ≡ text b → reading file ≡ Ok b
reads_text file b s e = ap reading e ∙ (texts_read_back b s).0

pub accepts_read : (file : List ℕ) (b : Contents) → reading file ≡ Ok b → AcceptsExactlyTexts (Ok tt) file b
accepts_read file b h = record {
  only_texts = λ _. accepted_files_are_texts file b h;
  every_text = λ c s e. inl (refl, same_ok b c (sym h ∙ reads_text file c s e));
}

pub accepts_refused : {T : Type 0} (holds : T → Contents) (file : List ℕ) (e : ReadFault) (now : Contents) → Gives holds (Err e) (reading file) → AcceptsExactlyTexts (Err e) file now
accepts_refused holds file (Refused q) now g = record {
  only_texts = λ h. let z : ◌≡◌ {A = ℕ} 0 1 = cc in absurd (omega arith);
  every_text = λ c s e. absurd (never q c (sym g ∙ reads_text file c s e));
}
accepts_refused holds file NoMemory now g = record {
  only_texts = λ h. let z : ◌≡◌ {A = ℕ} 0 1 = cc in absurd (omega arith);
  every_text = λ c s e. inr refl;
}
