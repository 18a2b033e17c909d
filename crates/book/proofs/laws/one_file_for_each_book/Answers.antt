use Rattle.book.proofs.OneFile.{accepted_files_are_texts, texts_read_back, one_book_for_each_text}
use Rattle.book.proofs.laws.one_file_for_each_book.Goals as goal

pub returns : goal.returns
returns c = record { accepted_files_are_texts = accepted_files_are_texts; texts_read_back = texts_read_back; one_book_for_each_text = one_book_for_each_text }
