-- What a book that is not empty has.
use Rattle.std.proofs.Common.{◌≡◌, ◌<◌, Bool, true, false, ◌&&◌, ◌||◌, eqb, length, take, sym, ap, ◌∙◌, ⊎_elim, arith, take_all, eqb-true}
use Rattle.std.proofs.lemmas.Bool.{and_parts, cases_Bool}
use Rattle.text.specs.Pages.{most_bytes}
use Rattle.book.specs.declared.book.Book.{Book}
use Rattle.book.specs.Books.{Contents, Sound}
use Rattle.book.specs.Format.{text}
use Rattle.book.specs.Lawful.{nothing, lawful}
use Rattle.book.specs.Data.{contents}
use Rattle.book.proofs.SoundLawful.{sound_from}
use Rattle.book.proofs.TextLength.{text_length}

none : (b : Contents) → nothing b ≡ true → length b.holders ≡ 0
none b h =
    let p = and_parts (eqb b.terms.multiplier 0) (eqb b.terms.price 0 && (eqb (length b.assets) 0 && eqb (length b.holders) 0)) h in
    let q = and_parts (eqb b.terms.price 0) (eqb (length b.assets) 0 && eqb (length b.holders) 0) p.1 in
    eqb-true _ _ (and_parts (eqb (length b.assets) 0) (eqb (length b.holders) 0) q.1).1

other : (x y : Bool) → (x || y) ≡ true → x ≡ false → y ≡ true
other x y h e = ap (λ v. v || y) (sym e) ∙ h

pub book_sound : (b : Book) → 0 < length (contents b).holders → Sound (contents b)
book_sound b n =
    ⊎_elim
    (λ (e : nothing (contents b) ≡ true). absurd (omega (arith, none (contents b) e)))
    (λ (e : nothing (contents b) ≡ false). sound_from (contents b) (other (nothing (contents b)) (lawful (contents b)) b.one_that_exists e))
    (cases_Bool (nothing (contents b)))

-- its text is whole on a page
pub page_holds : (b : Book) → 0 < length (contents b).holders → take most_bytes (text (contents b)) ≡ text (contents b)
page_holds b n = take_all most_bytes (text (contents b)) (text_length (contents b) (book_sound b n))
