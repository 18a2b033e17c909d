-- The row of a member and number: the one that a search by them finds, and that it is the only one.
use Rattle.std.proofs.Common.{◌≡◌, ℕ, zero, suc, ◌+◌, ◌<◌, ◌≤◌, Bool, true, false, ◌&&◌, eqb, ltb, List, [], ◌∷◌, length, get_or, Some, None, Option, Ok, Err, Result, sym, refl, ap, ◌∙◌, subst, ⊎_elim, arith, ltb-true, eq-eqb, eqb-true}
use Rattle.std.specs.Ordering.{nat_cmp, ordering_then, is_lt}
use Rattle.std.specs.Result.{result_ok}
use Rattle.std.specs.Option.{MatchOption, IsSomeAnd}
use Rattle.std.proofs.lemmas.List.{get_or_default}
use Rattle.std.specs.Cmp.{IsTotalOrder}
use Rattle.std.specs.List.Sorted.{IsBinarySearchResult, IsSearchInRange, IsSortedBy}
use Rattle.std.specs.declared.cmp.Ordering.{Ordering}
use Rattle.std.specs.declared.cmp.Ordering.TheVariants.{Less, Equal, Greater}
use Rattle.std.proofs.lemmas.Cmp.{then_total, on_total, nat_cmp_total}
use Rattle.std.proofs.lemmas.List.Sorted.{searchable_from_sorted}
use Rattle.std.proofs.lemmas.Bool.Decides.{nat_tests}
use Rattle.std.proofs.lemmas.Bool.{cond-true, cond-false, and_parts, and_from, cases_Bool, cases_lt}
use Rattle.book.specs.declared.records.Holder.{Holder}
use Rattle.book.specs.declared.book.Book.{Book}
use Rattle.book.specs.Books.{Contents, nobody, holder, next_row, row_among, row_of, stands_before, Sound}
use Rattle.book.specs.Data.{contents}
use Rattle.book.specs.Lookup.{Has, TheOneRow}
use Rattle.book.proofs.BookKept.{book_sound}

abbrev is : ℕ → ℕ → Holder → Bool
is m n h = eqb h.member m && eqb h.number n

-- ---- by their order

abbrev pub key : Holder → ℕ × ℕ
key h = (h.member, h.number)

abbrev pub by_key : ℕ × ℕ → ℕ × ℕ → Ordering
by_key x y = ordering_then (nat_cmp x.0 y.0) (nat_cmp x.1 y.1)

by_key_total : IsTotalOrder by_key
by_key_total = then_total (on_total (λ (t : ℕ × ℕ). t.0) nat_cmp_total) (on_total (λ (t : ℕ × ℕ). t.1) nat_cmp_total)

-- a row that stands before another is not above it
not_above : (g h : Holder) → stands_before g h ≡ true → is_lt (by_key (key h) (key g)) ≡ false
not_above g h b = grind (arith, nat_tests)

is_by_key : (m n : ℕ) (h : Holder) → by_key (key h) (m, n) ≡ Equal → is m n h ≡ true
is_by_key m n h e = grind (arith, nat_tests)

below_by_key : (m n : ℕ) (h : Holder) → by_key (key h) (m, n) ≡ Less → is m n h ≡ false
below_by_key m n h e = grind (arith, nat_tests)

above_by_key : (m n : ℕ) (h : Holder) → by_key (key h) (m, n) ≡ Greater → is m n h ≡ false
above_by_key m n h e = grind (arith, nat_tests)

-- ---- the one row

next_some : (o : Option ℕ) (r : ℕ) → next_row o ≡ Some r → (s : ℕ) × (o ≡ Some s) × (r ≡ s + 1)
next_some None r h = let q : ◌≡◌ {A = ℕ} 0 1 = cc in absurd (omega arith)
next_some (Some s) r h = (s, refl, cc)

next_none : (o : Option ℕ) → next_row o ≡ None → o ≡ None
next_none None h = refl
next_none (Some s) h = let q : ◌≡◌ {A = ℕ} 0 1 = cc in absurd (omega arith)

row_some : (hs : List Holder) (m n r : ℕ) → row_among hs m n ≡ Some r → (i : ℕ) × (r ≡ suc i) × (i < length hs) × (is m n (get_or hs i nobody) ≡ true)
row_some [] m n r h = let q : ◌≡◌ {A = ℕ} 0 1 = cc in absurd (omega arith)
row_some (x ∷ xs) m n r h =
    ⊎_elim
    (λ (e : is m n x ≡ true). let k : ◌≡◌ {A = Option ℕ} (Some 1) (Some r) = sym (cond-true (is m n x) (Some 1) (next_row (row_among xs m n)) e) ∙ h in let s : r ≡ 1 = cc in (0, s, omega arith, e))
    (λ (e : is m n x ≡ false).
    let p = next_some (row_among xs m n) r (sym (cond-false (is m n x) (Some 1) (next_row (row_among xs m n)) e) ∙ h) in
    let q = row_some xs m n p.0 p.1 in
    (suc q.0, omega (arith, p.2, q.1), omega (arith, q.2), q.3))
    (cases_Bool (is m n x))

row_none : (hs : List Holder) (m n : ℕ) → row_among hs m n ≡ None → (i : ℕ) → i < length hs → is m n (get_or hs i nobody) ≡ true → ⊥
row_none [] m n h i l e = omega arith
row_none (x ∷ xs) m n h zero l e = let k : ◌≡◌ {A = Option ℕ} (Some 1) None = sym (cond-true (is m n x) (Some 1) (next_row (row_among xs m n)) e) ∙ h in let q : ◌≡◌ {A = ℕ} 0 1 = cc in omega arith
row_none (x ∷ xs) m n h (suc i) l e =
    ⊎_elim
    (λ (t : is m n x ≡ true). let k : ◌≡◌ {A = Option ℕ} (Some 1) None = sym (cond-true (is m n x) (Some 1) (next_row (row_among xs m n)) t) ∙ h in let q : ◌≡◌ {A = ℕ} 0 1 = cc in omega arith)
    (λ (t : is m n x ≡ false). row_none xs m n (next_none (row_among xs m n) (sym (cond-false (is m n x) (Some 1) (next_row (row_among xs m n)) t) ∙ h)) i (omega arith) e)
    (cases_Bool (is m n x))

-- a row of these names is one in the list
has_at : (b : Contents) (m n r : ℕ) → Has b m n r → (i : ℕ) × (r ≡ suc i) × (i < length b.holders) × (is m n (get_or b.holders i nobody) ≡ true)
has_at b m n zero h = absurd (omega (arith, h.within.0))
has_at b m n (suc i) h = (i, refl, omega (arith, h.within.1), and_from (eqb (holder b (suc i)).member m) (eqb (holder b (suc i)).number n) (eq-eqb (holder b (suc i)).member m h.member) (eq-eqb (holder b (suc i)).number n h.number))

-- no row stands before one with the same names
apart : (g h : Holder) → stands_before g h ≡ true → g.member ≡ h.member → g.number ≡ h.number → ⊥
apart g h s m n =
    let t : ltb g.number h.number ≡ true = sym (cond-true (eqb g.member h.member) (ltb g.number h.number) (ltb g.member h.member) (eq-eqb g.member h.member m)) ∙ s in
    omega (arith, ltb-true g.number h.number t)

only : (b : Contents) (m n r s : ℕ) → Sound b → Has b m n r → Has b m n s → s ≡ r
only b m n r s k p q =
    ⊎_elim
    (λ (l : r < s). absurd (apart (holder b r) (holder b s) (k.ascending r s p.within.0 l q.within.1) (p.member ∙ sym q.member) (p.number ∙ sym q.number)))
    (λ (l : s ≤ r).
    ⊎_elim
    (λ (j : s < r). absurd (apart (holder b s) (holder b r) (k.ascending s r q.within.0 j p.within.1) (q.member ∙ sym p.member) (q.number ∙ sym p.number)))
    (λ (j : r ≤ s). omega arith)
    (cases_lt s r))
    (cases_lt r s)

the_row : (b : Book) (m n r : ℕ) → row_of (contents b) m n ≡ Some r → Has (contents b) m n r
the_row b m n r h =
    let p = row_some (contents b).holders m n r h in
    let q = and_parts (eqb (get_or (contents b).holders p.0 nobody).member m) (eqb (get_or (contents b).holders p.0 nobody).number n) p.3 in
    let e : holder (contents b) r ≡ get_or (contents b).holders p.0 nobody = ap (holder (contents b)) p.1 in
    record { within = (omega (arith, p.1), omega (arith, p.1, p.2)); member = ap (λ (x : Holder). x.member) e ∙ eqb-true _ _ q.0; number = ap (λ (x : Holder). x.number) e ∙ eqb-true _ _ q.1 }

pub one_row : (b : Book) (m n : ℕ) (r : Option ℕ) → r ≡ row_of (contents b) m n → TheOneRow (contents b) m n r
one_row b m n None e = λ row h. let p = has_at (contents b) m n row h in row_none (contents b).holders m n (sym e) p.0 p.2 p.3
one_row b m n (Some row) e =
    let has = the_row b m n row (sym e) in
    (has, λ other h. only (contents b) m n row other (book_sound b (omega (arith, has.within.0, has.within.1))) has h)

-- ---- what a search by member and number finds

here : (m n : ℕ) (x : Holder) (xs : List Holder) → is m n x ≡ true → row_among (x ∷ xs) m n ≡ Some 1
here m n x xs e = cond-true (is m n x) (Some 1) (next_row (row_among xs m n)) e

later : (m n : ℕ) (x : Holder) (xs : List Holder) → is m n x ≡ false → row_among (x ∷ xs) m n ≡ next_row (row_among xs m n)
later m n x xs e = cond-false (is m n x) (Some 1) (next_row (row_among xs m n)) e

first_row : (m n : ℕ) (hs : List Holder) (i : ℕ) → i < length hs → ((k : ℕ) → k < i → is m n (get_or hs k nobody) ≡ false) → is m n (get_or hs i nobody) ≡ true → row_among hs m n ≡ Some (i + 1)
first_row m n [] i l none e = absurd (omega arith)
first_row m n (x ∷ xs) zero l none e = here m n x xs e
first_row m n (x ∷ xs) (suc i) l none e = later m n x xs (none 0 (omega arith)) ∙ ap next_row (first_row m n xs i (omega arith) (λ k h. none (suc k) (omega arith)) e) ∙ ap Some (omega arith)

no_row : (m n : ℕ) (hs : List Holder) → ((k : ℕ) → k < length hs → is m n (get_or hs k nobody) ≡ false) → row_among hs m n ≡ None
no_row m n [] none = refl
no_row m n (x ∷ xs) none = later m n x xs (none 0 (omega arith)) ∙ ap next_row (no_row m n xs (λ k h. none (suc k) (omega arith)))

-- a row before one of these names has others
others_before : (m n : ℕ) (g h : Holder) → stands_before g h ≡ true → is m n h ≡ true → is m n g ≡ false
others_before m n g h b e = grind (arith, nat_tests)

abbrev Ascending : List Holder → Type 0
Ascending hs = (i j : ℕ) → i < j → j < length hs → stands_before (get_or hs i nobody) (get_or hs j nobody) ≡ true

abbrev row_found : Result ℕ ℕ → Option ℕ
row_found (Ok i) = Some (i + 1)
row_found (Err i) = None

sorted : (hs : List Holder) → Ascending hs → IsSortedBy (λ a b. is_lt (by_key (key a) (key b))) hs
sorted hs up k d l n =
    let low = get_or_default hs k d nobody (omega arith) in
    let high = get_or_default hs (k + 1) d nobody n in
    ap (λ x. is_lt (by_key (key x) (key (get_or hs k d)))) high ∙ ap (λ x. is_lt (by_key (key (get_or hs (k + 1) nobody)) (key x))) low
    ∙ not_above (get_or hs k nobody) (get_or hs (k + 1) nobody) (up k (k + 1) (omega arith) n)

found : (m n : ℕ) (hs : List Holder) (r : Result ℕ ℕ) → Ascending hs → IsSearchInRange r (length hs) → IsBinarySearchResult (λ h. by_key (key h) (m, n)) hs r → row_found r ≡ row_among hs m n
found m n hs (Ok i) up l at = let e : is m n (get_or hs i nobody) ≡ true = is_by_key m n (get_or hs i nobody) (at nobody) in sym (first_row m n hs i l (λ k h. others_before m n (get_or hs k nobody) (get_or hs i nobody) (up k i h l) e) e)
found m n hs (Err i) up l at =
    let p = at (searchable_from_sorted by_key_total key hs (m, n) (sorted hs up)) in
    sym (no_row m n hs (λ k h. ⊎_elim (λ (b : k < i). below_by_key m n (get_or hs k nobody) (p.0 k nobody (omega arith) b)) (λ (b : i ≤ k). above_by_key m n (get_or hs k nobody) (p.1 k nobody b h)) (cases_lt k i)))

none_found : (r : Result ℕ ℕ) → None ≡ result_ok r → None ≡ row_found r
none_found (Ok i) e = let q : ◌≡◌ {A = ℕ} 0 1 = cc in absurd (omega arith)
none_found (Err i) e = refl

some_found : (r : Result ℕ ℕ) (x : ℕ) → Some x ≡ result_ok r → Some (x + 1) ≡ row_found r
some_found (Ok i) x e = let q : x ≡ i = cc in ap (λ k. Some (k + 1)) q
some_found (Err i) x e = let q : ◌≡◌ {A = ℕ} 0 1 = cc in absurd (omega arith)

-- the place that was found, as a row
as_row : (r : Result ℕ ℕ) (o q : Option ℕ) (As : ℕ → ℕ → Type 0) → ((x y : ℕ) → As x y → y ≡ x + 1) → o ≡ result_ok r → MatchOption o (q ≡ None) (λ x. IsSomeAnd q (As x)) → q ≡ row_found r
as_row r None q As one e m = m ∙ none_found r e
as_row r (Some x) None As one e m = absurd m
as_row r (Some x) (Some y) As one e m = ap Some (one x y m) ∙ some_found r x e

rows_ascend : (b : Book) → Ascending (contents b).holders
rows_ascend b i j l n = (book_sound b (omega arith)).ascending (suc i) (suc j) (omega arith) (omega arith) (omega arith)

-- hs is the slice that was searched, and q the row that comes of the answer r
pub row_searched : (b : Book) (m n : ℕ) (hs : List Holder) (r : Result ℕ ℕ) (o q : Option ℕ) (As : ℕ → ℕ → Type 0) → hs ≡ (contents b).holders → IsSearchInRange r (length hs) → IsBinarySearchResult (λ h. by_key (key h) (m, n)) hs r → ((x y : ℕ) → As x y → y ≡ x + 1) → o ≡ result_ok r → MatchOption o (q ≡ None) (λ x. IsSomeAnd q (As x)) → q ≡ row_of (contents b) m n
row_searched b m n hs r o q As e l at one k c =
    as_row r o q As one k c ∙ found m n hs r (subst Ascending (sym e) (rows_ascend b)) l at ∙ ap (λ xs. row_among xs m n) e
