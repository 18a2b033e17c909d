-- The rules leave no choice: what they tell of a book's pairs is one list of pairs.
use Rattle.std.proofs.Common.{◌≡◌, ℕ, ◌+◌, ◌<◌, min, Bool, true, false, cond, not, ◌&&◌, eqb, ltb, List, length, sym, refl, ap, ◌∙◌, subst, ⊎_elim, arith}
use Rattle.std.proofs.lemmas.List.{length-set}
use Rattle.std.proofs.lemmas.List.Sums.{get_or-le-sum_by}
use Rattle.std.proofs.lemmas.Bool.{cases_order, and_parts, ltb-true, eq-eqb, le-ltb, true≢false}
use Rattle.book.specs.declared.records.Holder.{Holder}
use Rattle.pairing.specs.declared.pair.Unpaired.{Unpaired}
use Rattle.pairing.specs.declared.pair.Pair.{Pair}
use Rattle.pairing.specs.declared.stage.Group.{Group}
use Rattle.book.specs.Books.{Contents, Sound, holder, stands_before}
use Rattle.pairing.specs.Orders.{holder_open}
use Rattle.pairing.specs.Pairing.{no_holder, key, lower, paired, in_groups, all_groups, pairs}
use Rattle.pairing.specs.InWords.{at, Emptied, StandsFirst, LargestEqual, FirstTwo, NoneEqual, Equals, none_equal, equal, Firsts, one_side, first, Told, all_told, told, AsTold}
use Rattle.pairing.proofs.LoweredHolders.{lower_keeps}
use Rattle.pairing.proofs.HolderOrder.{holder_order}
use Rattle.pairing.proofs.RuleTold.{book_told}
use Rattle.pairing.proofs.PairLaws.{rows, rows_length, row_is}

-- No two places have the same member and number.
abbrev pub Distinct : List Unpaired → Type 0
Distinct hs = (i k : ℕ) → i < length hs → k < length hs → (at hs i).member ≡ (at hs k).member → (at hs i).number ≡ (at hs k).number → i ≡ k

paired_distinct : (p : Pair) (hs : List Unpaired) → p.buyer < length hs → p.seller < length hs → Distinct hs → Distinct (paired p hs)
paired_distinct p hs hb hs' d i k hi hk em en =
    let ks = lower p.contracts p.buyer hs in
    let in2 : p.seller < length ks = rw length-set hs' in
    let l1 : length ks ≡ length hs = length-set _ _ _ in
    let l2 : length (paired p hs) ≡ length ks = length-set _ _ _ in
    let m : (j : ℕ) → (at (paired p hs) j).member ≡ (at hs j).member
    = λ j. lower_keeps (λ h. h.member) (λ n h. refl) p.contracts p.seller j ks in2 ∙ lower_keeps (λ h. h.member) (λ n h. refl) p.contracts p.buyer j hs hb in
    let n : (j : ℕ) → (at (paired p hs) j).number ≡ (at hs j).number
    = λ j. lower_keeps (λ h. h.number) (λ n h. refl) p.contracts p.seller j ks in2 ∙ lower_keeps (λ h. h.number) (λ n h. refl) p.contracts p.buyer j hs hb in
    d i k (omega (arith, hi, l1, l2)) (omega (arith, hk, l1, l2)) (sym (m i) ∙ em ∙ m k) (sym (n i) ∙ en ∙ n k)

one_first : (g : Group) (t : Bool) (P : Unpaired → Type 0) (hs : List Unpaired) (i k : ℕ) → Distinct hs → StandsFirst g t P hs i → StandsFirst g t P hs k → i ≡ k
one_first g t P hs i k d a b =
    let s = holder_order.ties (at hs i) (at hs k) (a.before k b.inside b.on b.passing) (b.before i a.inside a.on a.passing) in
    d i k a.inside b.inside s.1 s.2

same_pair : (p q : Pair) → p.stage ≡ q.stage → p.buyer ≡ q.buyer → p.seller ≡ q.seller → p.contracts ≡ q.contracts → p ≡ q
same_pair p q a b c d = λ i. record { stage = a i; buyer = b i; seller = c i; contracts = d i }

one_equal : (g : Group) (hs : List Unpaired) (p q : Pair) → Distinct hs → LargestEqual g hs p → LargestEqual g hs q → p ≡ q
one_equal g hs p q d a b =
    let x = b.largest p.buyer p.seller a.buyer.inside a.seller.inside a.buyer.on a.seller.on (a.buyer.passing ∙ sym a.seller.passing) in
    let y = a.largest q.buyer q.seller b.buyer.inside b.seller.inside b.buyer.on b.seller.on (b.buyer.passing ∙ sym b.seller.passing) in
    let u = a.buyer.passing in let v = b.buyer.passing in
    let e : p.contracts ≡ q.contracts = omega (arith, x, y, u, v) in
    let B : ℕ → Type 0 = λ n. StandsFirst g true (λ h. h.volume ≡ n) hs p.buyer in
    let S : ℕ → Type 0 = λ n. StandsFirst g false (λ h. h.volume ≡ n) hs p.seller in
    same_pair p q (a.stage ∙ sym b.stage)
    (one_first g true (λ h. h.volume ≡ q.contracts) hs p.buyer q.buyer d (subst B e a.buyer) b.buyer)
    (one_first g false (λ h. h.volume ≡ q.contracts) hs p.seller q.seller d (subst S e a.seller) b.seller) e

one_two : (g : Group) (hs : List Unpaired) (p q : Pair) → Distinct hs → FirstTwo g hs p → FirstTwo g hs q → p ≡ q
one_two g hs p q d a b =
    let x = one_first g true (λ h. Unit {0}) hs p.buyer q.buyer d a.buyer b.buyer in
    let y = one_first g false (λ h. Unit {0}) hs p.seller q.seller d a.seller b.seller in
    same_pair p q (a.stage ∙ sym b.stage) x y
    (a.smaller ∙ ap (λ i. min (at hs i).volume (at hs p.seller).volume) x ∙ ap (λ i. min (at hs q.buyer).volume (at hs i).volume) y ∙ sym b.smaller)

not_none : (g : Group) (hs : List Unpaired) (p : Pair) → LargestEqual g hs p → NoneEqual g hs → ⊥
not_none g hs p a n = n p.buyer p.seller a.buyer.inside a.seller.inside a.buyer.on a.seller.on (a.buyer.passing ∙ sym a.seller.passing)

not_emptied : (g : Group) (hs : List Unpaired) (p : Pair) → FirstTwo g hs p → Emptied g hs → ⊥
not_emptied g hs p a = ⊎_elim
    (λ z.
    let h = at hs p.buyer in
    let q = and_parts (eqb (key g.stage h) g.number) (holder_open h && h.buys) a.buyer.on in
    let r = and_parts (holder_open h) h.buys q.1 in
    let v = ltb-true 0 h.volume r.0 in
    let l = get_or-le-sum_by (λ (x : Unpaired). cond (x.buys && eqb (key g.stage x) g.number) x.volume 0) hs p.buyer no_holder a.buyer.inside in
    let e : cond (h.buys && eqb (key g.stage h) g.number) h.volume 0 ≡ h.volume
    = ap (λ t. cond (t && eqb (key g.stage h) g.number) h.volume 0) r.1 ∙ ap (λ t. cond t h.volume 0) q.0 in
    omega (arith, z, v, l, e))
    (λ z.
    let h = at hs p.seller in
    let q = and_parts (eqb (key g.stage h) g.number) (holder_open h && not h.buys) a.seller.on in
    let r = and_parts (holder_open h) (not h.buys) q.1 in
    let v = ltb-true 0 h.volume r.0 in
    let l = get_or-le-sum_by (λ (x : Unpaired). cond (not x.buys && eqb (key g.stage x) g.number) x.volume 0) hs p.seller no_holder a.seller.inside in
    let e : cond (not h.buys && eqb (key g.stage h) g.number) h.volume 0 ≡ h.volume
    = ap (λ t. cond (t && eqb (key g.stage h) g.number) h.volume 0) r.1 ∙ ap (λ t. cond t h.volume 0) q.0 in
    omega (arith, z, v, l, e))

-- ---- runs

equals_once : (g : Group) (hs : List Unpaired) (ps : List Pair) (ks : List Unpaired) → Distinct hs → Equals g hs ps ks
    → (qs : List Pair) (ls : List Unpaired) → Equals g hs qs ls → (ps ≡ qs) × (ks ≡ ls) × Distinct ks
equals_once g hs ps ks d (none_equal e) qs ls (none_equal f) = (refl, refl, d)
equals_once g hs ps ks d (none_equal e) qs ls (equal {p = q} f r) = absurd (not_none g hs q f e)
equals_once g hs ps ks d (equal {p = p} e r) qs ls (none_equal f) = absurd (not_none g hs p e f)
equals_once g hs ps ks d (equal {p = p} {ps = ps₁} e r) qs ls (equal {p = q} {ps = qs₁} f s) =
    let same : p ≡ q = one_equal g hs p q d e f in
    let R : Pair → Type 0 = λ x. Equals g (paired x hs) qs₁ ls in
    let ih = equals_once g (paired p hs) ps₁ ks (paired_distinct p hs e.buyer.inside e.seller.inside d) r qs₁ ls (subst R (sym same) s) in
    (cc (same, ih.0), ih.1, ih.2)

firsts_once : (g : Group) (hs : List Unpaired) (ps : List Pair) (ks : List Unpaired) → Distinct hs → Firsts g hs ps ks
    → (qs : List Pair) (ls : List Unpaired) → Firsts g hs qs ls → (ps ≡ qs) × (ks ≡ ls) × Distinct ks
firsts_once g hs ps ks d (one_side e) qs ls (one_side f) = (refl, refl, d)
firsts_once g hs ps ks d (one_side e) qs ls (first {p = q} f r) = absurd (not_emptied g hs q f e)
firsts_once g hs ps ks d (first {p = p} e r) qs ls (one_side f) = absurd (not_emptied g hs p e f)
firsts_once g hs ps ks d (first {p = p} {ps = ps₁} e r) qs ls (first {p = q} {ps = qs₁} f s) =
    let same : p ≡ q = one_two g hs p q d e f in
    let R : Pair → Type 0 = λ x. Firsts g (paired x hs) qs₁ ls in
    let ih = firsts_once g (paired p hs) ps₁ ks (paired_distinct p hs e.buyer.inside e.seller.inside d) r qs₁ ls (subst R (sym same) s) in
    (cc (same, ih.0), ih.1, ih.2)

told_once : (gs : List Group) (hs : List Unpaired) (ps : List Pair) (ks : List Unpaired) → Distinct hs → Told gs hs ps ks
    → (qs : List Pair) (ls : List Unpaired) → Told gs hs qs ls → ps ≡ qs
told_once gs hs ps ks d all_told qs ls all_told = refl
told_once gs hs ps ks d (told {g = g} {gs = gs₁} {ks = a} {ls = b} ps₁ ps₂ ps₃ x y z) qs ls (told {ks = a'} {ls = b'} qs₁ qs₂ qs₃ x' y' z') =
    let one = equals_once g hs ps₁ a d x qs₁ a' x' in
    let F : List Unpaired → Type 0 = λ k. Firsts g k qs₂ b' in
    let two = firsts_once g a ps₂ b one.2 y qs₂ b' (subst F (sym one.1) y') in
    let T : List Unpaired → Type 0 = λ k. Told gs₁ k qs₃ ls in
    let three = told_once gs₁ b ps₃ ks two.2 z qs₃ ls (subst T (sym two.1) z') in
    cc (one.0, two.0, three)

-- ---- a book

later : (x y : Holder) → stands_before x y ≡ true → x.member ≡ y.member → x.number ≡ y.number → ⊥
later x y e m n =
    let f = ap (λ t. cond t (ltb x.number y.number) (ltb x.member y.member)) (eq-eqb x.member y.member m) in
    true≢false (sym e ∙ f ∙ le-ltb x.number y.number (omega arith))

pub book_distinct : (b : Contents) → Sound b → Distinct (rows b)
book_distinct b ok i k hi hk em en =
    let l = rows_length b.holders in
    let m = sym (ap (λ u. u.member) (row_is b i)) ∙ em ∙ ap (λ u. u.member) (row_is b k) in
    let n = sym (ap (λ u. u.number) (row_is b i)) ∙ en ∙ ap (λ u. u.number) (row_is b k) in
    ⊎_elim (λ e. e) (⊎_elim
    (λ lt. absurd (later (holder b (i + 1)) (holder b (k + 1)) (ok.ascending (i + 1) (k + 1) (omega arith) (omega arith) (omega (arith, hk, l))) m n))
    (λ gt. absurd (later (holder b (k + 1)) (holder b (i + 1)) (ok.ascending (k + 1) (i + 1) (omega arith) (omega arith) (omega (arith, hi, l))) (sym m) (sym n))))
    (cases_order i k)

-- Any pairs that the rules tell of a sound book are its pairs.
pub book_once : (b : Contents) → Sound b → (ps : List Pair) (ks : List Unpaired) → Told all_groups (rows b) ps ks → ps ≡ pairs b
book_once b ok ps ks t = told_once all_groups (rows b) ps ks (book_distinct b ok) t (pairs b) (in_groups all_groups (rows b)).1 (book_told b)

pub pairs_as_told : (b : Contents) → Sound b → AsTold b (pairs b)
pairs_as_told b ok = record { told = ((in_groups all_groups (rows b)).1, book_told b); only = book_once b ok }
