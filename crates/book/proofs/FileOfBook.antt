-- A file that is accepted is the text of the book that it gives, and that book is lawful.
use Rattle.std.proofs.Common.{◌≡◌, ℕ, ◌<◌, ◌≤◌, true, ltb, leb, List, [], length, Ok, sym, refl, ap, ◌∙◌, arith, ltb-true, lt-ltb, le-leb}
use Rattle.std.proofs.lemmas.Bool.{and_parts, and_from}
use Rattle.text.specs.Pages.{most_bytes}
use Rattle.text.specs.Parts.{parts}
use Rattle.text.proofs.PartsAt.{together_parts}
use Rattle.book.specs.declared.awaits.Awaits.{Awaits}
use Rattle.book.specs.declared.awaits.Awaits.TheVariants as awaits
use Rattle.book.specs.declared.fault.Cause.TheVariants as cause
use Rattle.book.specs.Limits.{most_assets, most_holders}
use Rattle.book.specs.Books.{Contents, empty}
use Rattle.book.specs.Format.{text}
use Rattle.book.specs.Lawful.{terms_ok, headed, rows, complete, lawful}
use Rattle.book.specs.Reading.{Draft, refuse, onward, read_on, finished, start, reading}
use Rattle.book.proofs.DraftText.{Partial, Keeps, so_far, lines_grow}
use Rattle.book.proofs.Inversions.{passed, spared, onward_ok, same_ok}

few_kept : (a : Awaits) (b : Contents) → Keeps a b → length b.holders ≤ most_holders
few_kept awaits.Heading b k = omega (arith, ap (λ (x : Contents). length x.holders) k)
few_kept awaits.Terms b k = omega (arith, ap (λ (x : Contents). length x.holders) k)
few_kept awaits.Rows b k = k.few_holders

-- no draft has too many holders
pub few_holders : (ps : List (List ℕ)) (d : Draft) → read_on 1 start ps ≡ Ok d → length d.book.holders ≤ most_holders
few_holders ps d h = few_kept d.awaits d.book (lines_grow 1 awaits.Heading empty ps d refl h).keeps

-- a draft with holders has all of a book
some_holders : (b : Contents) → complete b ≡ true → 0 < length b.holders
some_holders b c = ltb-true _ _ (and_parts (ltb 0 (length b.holders)) _ c).0

whole : (a : Awaits) (b : Contents) → complete b ≡ true → Keeps a b → Partial b × (so_far a b ≡ text b)
whole awaits.Heading b c k = absurd (omega (arith, some_holders b c, ap (λ (x : Contents). length x.holders) k))
whole awaits.Terms b c k = absurd (omega (arith, some_holders b c, ap (λ (x : Contents). length x.holders) k))
whole awaits.Rows b c k = (k, refl)

lawful_from : (b : Contents) → Partial b → complete b ≡ true → lawful b ≡ true
lawful_from b k c =
    let some = k.assets_first (some_holders b c) in
    and_from (headed b.terms b.assets) _
    (and_from (terms_ok b.terms) _ k.terms (and_from (ltb 0 (length b.assets)) _ (lt-ltb 0 (length b.assets) some) (and_from (leb (length b.assets) most_assets) _ (le-leb (length b.assets) most_assets k.few_assets) k.assets)))
    (and_from (leb (length b.holders) most_holders) _ (le-leb (length b.holders) most_holders k.few_holders) (and_from (rows [] b.holders) _ k.rows c))

pub accepted : (file : List ℕ) (b : Contents) → reading file ≡ Ok b → (lawful b ≡ true) × (file ≡ text b)
accepted file b h =
    let p = spared (ltb most_bytes (length file)) (onward (read_on 1 start (parts 10 file)) finished) (refuse cause.Size 0 0) b h in
    let q = onward_ok (read_on 1 start (parts 10 file)) finished b p.1 in
    let d = q.0 in
    let r = passed (complete d.book) (Ok d.book) (refuse cause.Holdings 0 0) b q.2 in
    let is : d.book ≡ b = same_ok d.book b r.1 in
    let g = lines_grow 1 awaits.Heading empty (parts 10 file) d refl q.1 in
    let w = whole d.awaits d.book r.0 g.keeps in (
      ap lawful (sym is) ∙ lawful_from d.book w.0 r.0,
      sym (together_parts 10 file) ∙ sym g.reads ∙ w.1 ∙ ap text is,
    )
