-- The test of a lawful book, and what every book that exists has: each gives the other.
use Rattle.std.proofs.Common.{◌≡◌, ℕ, zero, suc, ◌+◌, ◌-◌, ◌<◌, ◌≤◌, Bool, true, not, ◌&&◌, ◌||◌, eqb, ltb, leb, List, [], ◌∷◌, ◌++◌, length, get_or, ℤ, pos, negsuc, nat_abs, sym, refl, ap, ◌∙◌, subst, ⊎_elim, append_assoc, arith, length-append, ltb-true, lt-ltb, eq-eqb, ne_eqb, eqb-true, le-leb, leb-true}
use Rattle.std.specs.List.{AllByRecursion, list_all}
use Rattle.std.proofs.lemmas.List.Recursion.{and_at, and_from_places}
use Rattle.std.proofs.lemmas.List.{get_or_append_left, get_or-append_right}
use Rattle.std.proofs.lemmas.Bool.{and_parts, and_from, cond-true, cases_eq, cases_lt}
use Rattle.std.proofs.lemmas.Bool.Decides.{nat_tests}
use Rattle.text.specs.declared.row.Bound.{Bound}
use Rattle.text.specs.Number.{near}
use Rattle.text.specs.Rows.{inside, outside}
use Rattle.text.proofs.Ranges.{each}
use Rattle.book.specs.declared.records.Terms.{Terms}
use Rattle.book.specs.declared.records.Asset.{Asset}
use Rattle.book.specs.declared.records.Holder.{Holder}
use Rattle.book.specs.Limits.{most_assets, most_holders, most_bought, most_position}
use Rattle.book.specs.Books.{Contents, nobody, holder, In, AssetInRange, HolderInRange, stands_before, bought_by, sold_by, Sound}
use Rattle.book.specs.Format.{from_to, position_bound, terms_bounds, asset_bounds, holder_bounds, terms_values, asset_values, holder_values}
use Rattle.book.specs.Lawful.{terms_ok, asset_ok, holder_ok, ascends, agree, agrees, rows, headed, lawful}
use Rattle.book.proofs.RecordValues.{counts, position_size}
use Rattle.book.proofs.TextReads.{parts_of}

-- ---- numbers in range

asset_ranged : (x : Asset) → asset_ok x ≡ true → AssetInRange x
asset_ranged x h =
    let e = each 2 asset_bounds (asset_values x) (omega arith) (eqb-true _ _ h) in
    let f = counts 100000 2000000 (pos x.factor) e.0 in
    let a = counts 0 10000000 (pos x.accrued) e.1.0 in
    let m = counts 1 210000000 (pos x.market) e.1.1.0 in
    record { factor = (f.least, f.most); accrued = (a.least, a.most); market = (m.least, m.most) }

holder_ranged : (x : Holder) → holder_ok x ≡ true → HolderInRange x
holder_ranged x h =
    let e = each 2 holder_bounds (holder_values x) (omega arith) (eqb-true _ _ h) in
    let m = counts 1 999 (pos x.member) e.0 in
    let n = counts 1 999999 (pos x.number) e.1.0 in
    let c = counts 1 999 (pos x.clearing) e.1.1.0 in
    let a = counts 1 64 (pos x.agent) e.1.1.1.0 in
    record { member = (m.least, m.most); number = (n.least, n.most); clearing = (c.least, c.most); agent = (a.least, a.most); volume = position_size x.position e.1.1.1.1.0 }

-- a number that is in a range from 0 on is within its bound
in_bound : (low high n : ℕ) → high ≤ 1000000000 → In low high n → inside (from_to low high) (pos n) ≡ true
in_bound low high n h i =
    and_from (near (pos n)) _ (le-leb n 1000000000000000000 (omega (arith, i.1)))
    (and_from (leb low n && leb n high) true (and_from (leb low n) (leb n high) (le-leb low n i.0) (le-leb n high i.1)) refl)

in_position : (z : ℤ) → In 1 most_position (nat_abs z) → inside position_bound z ≡ true
in_position (pos zero) i = absurd (omega (arith, i.0))
in_position (pos (suc n)) i =
    and_from (near (pos (suc n))) _ (le-leb (suc n) 1000000000000000000 (omega (arith, i.1))) (and_from (leb (suc n) most_position) _ (le-leb (suc n) most_position i.1) (ap not (ne_eqb (suc n) 0 (λ e. omega arith))))
in_position (negsuc n) i =
    and_from (near (negsuc n)) _ (and_from (leb n 999999999999999999) true (le-leb n 999999999999999999 (omega (arith, i.1))) refl)
    (and_from (leb n 999999 && true) true (and_from (leb n 999999) true (le-leb n 999999 (omega (arith, i.1))) refl) refl)

inside_all : (k : ℕ) (b : Bound) (bs : List Bound) (z : ℤ) (zs : List ℤ) → inside b z ≡ true → outside (suc k) bs zs ≡ 0 → outside k (b ∷ bs) (z ∷ zs) ≡ 0
inside_all k b bs z zs e r = cond-true (inside b z) (outside (suc k) bs zs) k e ∙ r

terms_in : (t : Terms) → In 1 1000 t.multiplier → In 100 100000000 t.price → terms_ok t ≡ true
terms_in t m p =
    eq-eqb (outside 2 terms_bounds (terms_values t)) 0
    (inside_all 2 (from_to 1 1000) (from_to 100 100000000 ∷ []) (pos t.multiplier) (pos t.price ∷ []) (in_bound 1 1000 t.multiplier (omega arith) m)
    (inside_all 3 (from_to 100 100000000) [] (pos t.price) [] (in_bound 100 100000000 t.price (omega arith) p) refl))

asset_in : (x : Asset) → AssetInRange x → asset_ok x ≡ true
asset_in x r =
    eq-eqb (outside 2 asset_bounds (asset_values x)) 0
    (inside_all 2 (from_to 100000 2000000) (from_to 0 10000000 ∷ from_to 1 210000000 ∷ []) (pos x.factor) (pos x.accrued ∷ pos x.market ∷ []) (in_bound 100000 2000000 x.factor (omega arith) r.factor)
    (inside_all 3 (from_to 0 10000000) (from_to 1 210000000 ∷ []) (pos x.accrued) (pos x.market ∷ []) (in_bound 0 10000000 x.accrued (omega arith) r.accrued)
    (inside_all 4 (from_to 1 210000000) [] (pos x.market) [] (in_bound 1 210000000 x.market (omega arith) r.market) refl)))

holder_in : (x : Holder) → HolderInRange x → holder_ok x ≡ true
holder_in x r =
    eq-eqb (outside 2 holder_bounds (holder_values x)) 0
    (inside_all 2 (from_to 1 999) (from_to 1 999999 ∷ from_to 1 999 ∷ from_to 1 64 ∷ position_bound ∷ []) (pos x.member) (pos x.number ∷ pos x.clearing ∷ pos x.agent ∷ x.position ∷ []) (in_bound 1 999 x.member (omega arith) r.member)
    (inside_all 3 (from_to 1 999999) (from_to 1 999 ∷ from_to 1 64 ∷ position_bound ∷ []) (pos x.number) (pos x.clearing ∷ pos x.agent ∷ x.position ∷ []) (in_bound 1 999999 x.number (omega arith) r.number)
    (inside_all 4 (from_to 1 999) (from_to 1 64 ∷ position_bound ∷ []) (pos x.clearing) (pos x.agent ∷ x.position ∷ []) (in_bound 1 999 x.clearing (omega arith) r.clearing)
    (inside_all 5 (from_to 1 64) (position_bound ∷ []) (pos x.agent) (x.position ∷ []) (in_bound 1 64 x.agent (omega arith) r.agent)
    (inside_all 6 position_bound [] x.position [] (in_position x.position r.volume) refl)))))

all_to : {X : Type 0} (p : X → Bool) (P : X → Type 0) → ((x : X) → p x ≡ true → P x) → (xs : List X) → list_all p xs ≡ true → AllByRecursion P xs
all_to p P f [] h = tt
all_to p P f (x ∷ xs) h = let q = and_parts (p x) (list_all p xs) h in (f x q.0, all_to p P f xs q.1)

all_from : {X : Type 0} (p : X → Bool) (P : X → Type 0) → ((x : X) → P x → p x ≡ true) → (xs : List X) → AllByRecursion P xs → list_all p xs ≡ true
all_from p P f [] h = refl
all_from p P f (x ∷ xs) h = and_from (p x) (list_all p xs) (f x h.0) (all_from p P f xs h.1)

-- ---- rows: each pair of them

zero_from : (j n : ℕ) → j ≡ n → j - n ≡ 0
zero_from j n e = omega arith

above : (j n m : ℕ) → n ≤ j → (j ≡ n → ⊥) → m ≡ n + 1 → m ≤ j
above j n m h e l = ⊎_elim (λ (k : n < j). omega arith) (λ (k : j ≤ n). absurd (e (omega arith))) (cases_lt n j)

implied : (a b c d : ℕ) → (a ≡ b → c ≡ d) → (not (eqb a b) || eqb c d) ≡ true
implied a b c d f =
    ⊎_elim
    (λ (e : a ≡ b). ap (λ v. not v || eqb c d) (eq-eqb a b e) ∙ eq-eqb c d (f e))
    (λ (e : a ≡ b → ⊥). ap (λ v. not v || eqb c d) (ne_eqb a b e))
    (cases_eq a b)

-- what holds of places from 0 holds of rows from 1
by_rows : (P : ℕ → ℕ → Type 0) (n : ℕ) → ((i j : ℕ) → i < j → j < n → P (suc i) (suc j)) → (r s : ℕ) → 1 ≤ r → r < s → s ≤ n → P r s
by_rows P n f zero s i l k = absurd (omega arith)
by_rows P n f (suc r) zero i l k = absurd (omega arith)
by_rows P n f (suc r) (suc s) i l k = f r s (omega arith) (omega arith)

-- what holds of a row and itself, and of an earlier and a later one both ways round, holds of any two
one_of : (P : ℕ → ℕ → Type 0) (n : ℕ) → ((i : ℕ) → P (suc i) (suc i)) → ((i j : ℕ) → i < j → j < n → P (suc i) (suc j)) → ((i j : ℕ) → i < j → j < n → P (suc j) (suc i)) → (r s : ℕ) → In 1 n r → In 1 n s → P r s
one_of P n same up down zero s i j = absurd (omega (arith, i.0))
one_of P n same up down (suc r) zero i j = absurd (omega (arith, j.0))
one_of P n same up down (suc r) (suc s) i j =
    ⊎_elim
    (λ (l : r < s). up r s l (omega (arith, j.1)))
    (λ (l : s ≤ r).
    ⊎_elim
    (λ (k : s < r). down s r k (omega (arith, i.1)))
    (λ (k : r ≤ s). let e : r ≡ s = omega arith in subst (λ x. P (suc r) (suc x)) e (same r))
    (cases_lt s r))
    (cases_lt r s)

all_at : {X : Type 0} (p : X → Bool) (xs : List X) (i : ℕ) (d : X) → list_all p xs ≡ true → i < length xs → p (get_or xs i d) ≡ true
all_at p xs i d h n = and_at (list_all p) p refl (λ _ _. refl) xs i d n h

all_by : {X : Type 0} (p : X → Bool) (xs : List X) (d : X) → ((i : ℕ) → i < length xs → p (get_or xs i d) ≡ true) → list_all p xs ≡ true
all_by p xs d f = and_from_places (list_all p) p refl (λ _ _. refl) xs d f

abbrev row_at : List Holder → ℕ → Holder
row_at hs i = get_or hs i nobody

-- an earlier and a later row
abbrev Ordered : List Holder → ℕ → ℕ → Type 0
Ordered hs i j = (stands_before (row_at hs i) (row_at hs j) ≡ true) × (agree (row_at hs i) (row_at hs j) ≡ true)

rows_ordered : (gs hs : List Holder) → rows gs hs ≡ true → (i j : ℕ) → i < j → j < length (gs ++ hs) → length gs ≤ j → Ordered (gs ++ hs) i j
rows_ordered gs [] r i j l n k = absurd (omega (arith, length-append gs []))
rows_ordered gs (h ∷ hs) r i j l n k =
    let p = and_parts (holder_ok h && (ascends gs h && agrees gs h)) (rows (gs ++ h ∷ []) hs) r in
    let q = and_parts (ascends gs h) (agrees gs h) (and_parts (holder_ok h) (ascends gs h && agrees gs h) p.0).1 in
    ⊎_elim
    (λ (e : j ≡ length gs).
    let at_j : row_at (gs ++ h ∷ hs) j ≡ h = get_or-append_right gs (h ∷ hs) (length gs) j nobody refl k ∙ ap (λ m. get_or (h ∷ hs) m nobody) (zero_from j (length gs) e) in
    let at_i : row_at (gs ++ h ∷ hs) i ≡ row_at gs i = get_or_append_left gs (h ∷ hs) nobody i (omega arith) in (
      ap (λ x. stands_before x (row_at (gs ++ h ∷ hs) j)) at_i ∙ ap (stands_before (row_at gs i)) at_j ∙ all_at (λ g. stands_before g h) gs i nobody q.0 (omega arith),
      ap (λ x. agree x (row_at (gs ++ h ∷ hs) j)) at_i ∙ ap (agree (row_at gs i)) at_j ∙ all_at (λ g. agree g h) gs i nobody q.1 (omega arith),
    ))
    (λ (e : j ≡ length gs → ⊥).
    subst (λ xs. Ordered xs i j) (append_assoc gs (h ∷ []) hs)
    (rows_ordered (gs ++ h ∷ []) hs p.1 i j l (omega (arith, ap length (append_assoc gs (h ∷ []) hs))) (above j (length gs) (length (gs ++ h ∷ [])) k e (length-append gs (h ∷ [])))))
    (cases_eq j (length gs))

rows_ok : (gs hs : List Holder) → rows gs hs ≡ true → list_all holder_ok hs ≡ true
rows_ok gs [] r = refl
rows_ok gs (h ∷ hs) r =
    let p = and_parts (holder_ok h && (ascends gs h && agrees gs h)) (rows (gs ++ h ∷ []) hs) r in
    and_from (holder_ok h) (list_all holder_ok hs) (and_parts (holder_ok h) (ascends gs h && agrees gs h) p.0).0 (rows_ok (gs ++ h ∷ []) hs p.1)

rows_from : (gs hs : List Holder) → list_all holder_ok hs ≡ true → ((i j : ℕ) → i < j → j < length (gs ++ hs) → Ordered (gs ++ hs) i j) → rows gs hs ≡ true
rows_from gs [] a f = refl
rows_from gs (h ∷ hs) a f =
    let p = and_parts (holder_ok h) (list_all holder_ok hs) a in
    let n : length gs < length (gs ++ h ∷ hs) = omega (arith, length-append gs (h ∷ hs)) in
    let at : row_at (gs ++ h ∷ hs) (length gs) ≡ h = get_or-append_right gs (h ∷ hs) (length gs) (length gs) nobody refl (omega arith) ∙ ap (λ m. get_or (h ∷ hs) m nobody) (zero_from (length gs) (length gs) refl) in
    let before : (i : ℕ) → i < length gs → Ordered (gs ++ h ∷ hs) i (length gs) = λ i k. f i (length gs) k n in
    let up : ascends gs h ≡ true = all_by (λ g. stands_before g h) gs nobody (λ i k. ap (λ x. stands_before x h) (sym (get_or_append_left gs (h ∷ hs) nobody i k)) ∙ ap (stands_before (row_at (gs ++ h ∷ hs) i)) (sym at) ∙ (before i k).0) in
    let one : agrees gs h ≡ true = all_by (λ g. agree g h) gs nobody (λ i k. ap (λ x. agree x h) (sym (get_or_append_left gs (h ∷ hs) nobody i k)) ∙ ap (agree (row_at (gs ++ h ∷ hs) i)) (sym at) ∙ (before i k).1) in
    and_from (holder_ok h && (ascends gs h && agrees gs h)) _ (and_from (holder_ok h) _ p.0 (and_from (ascends gs h) (agrees gs h) up one))
    (rows_from (gs ++ h ∷ []) hs p.1 (λ i j l m. subst (λ xs. Ordered xs i j) (sym (append_assoc gs (h ∷ []) hs)) (f i j l (omega (arith, ap length (append_assoc gs (h ∷ []) hs))))))

-- ---- members, clearing members and agents

agree_clearing : (g h : Holder) → agree g h ≡ true → g.member ≡ h.member → g.clearing ≡ h.clearing
agree_clearing g h a e = grind (arith, nat_tests)

agree_agent : (g h : Holder) → agree g h ≡ true → g.clearing ≡ h.clearing → g.agent ≡ h.agent
agree_agent g h a e = grind (arith, nat_tests)

agree_from : (g h : Holder) → (g.member ≡ h.member → g.clearing ≡ h.clearing) → (g.clearing ≡ h.clearing → g.agent ≡ h.agent) → agree g h ≡ true
agree_from g h c a =
    and_from (not (eqb g.member h.member) || eqb g.clearing h.clearing) (not (eqb g.clearing h.clearing) || eqb g.agent h.agent)
    (implied g.member h.member g.clearing h.clearing c) (implied g.clearing h.clearing g.agent h.agent a)

-- ---- both ways

pub sound_from : (b : Contents) → lawful b ≡ true → Sound b
sound_from b h =
    let k = parts_of b h in
    let hs = b.holders in
    let t = each 2 terms_bounds (terms_values b.terms) (omega arith) (eqb-true _ _ k.terms) in
    let m = counts 1 1000 (pos b.terms.multiplier) t.0 in
    let p = counts 100 100000000 (pos b.terms.price) t.1.0 in
    let c = and_parts (ltb 0 (length hs)) (eqb (bought_by hs) (sold_by hs) && leb (bought_by hs) most_bought) k.complete in
    let d = and_parts (eqb (bought_by hs) (sold_by hs)) (leb (bought_by hs) most_bought) c.1 in
    let ordered : (r s : ℕ) → r < s → s < length hs → Ordered hs r s = λ r s l n. rows_ordered [] hs k.rows r s l n (omega arith) in
    record {
      multiplier = (m.least, m.most);
      price = (p.least, p.most);
      asset_count = (omega (arith, k.some_assets), k.few_assets);
      assets = all_to asset_ok AssetInRange asset_ranged b.assets k.assets;
      holder_count = (omega (arith, ltb-true _ _ c.0), k.few_holders);
      holders = all_to holder_ok HolderInRange holder_ranged hs (rows_ok [] hs k.rows);
      ascending = λ r s i l n. by_rows (λ x y. stands_before (holder b x) (holder b y) ≡ true) (length hs) (λ x y u v. (ordered x y u v).0) r s i l n;
      one_clearing = λ r s i j. one_of (λ x y. (holder b x).member ≡ (holder b y).member → (holder b x).clearing ≡ (holder b y).clearing) (length hs) (λ x e. refl) (λ x y u v e. agree_clearing (row_at hs x) (row_at hs y) (ordered x y u v).1 e) (λ x y u v e. sym (agree_clearing (row_at hs x) (row_at hs y) (ordered x y u v).1 (sym e))) r s i j;
      one_agent = λ r s i j. one_of (λ x y. (holder b x).clearing ≡ (holder b y).clearing → (holder b x).agent ≡ (holder b y).agent) (length hs) (λ x e. refl) (λ x y u v e. agree_agent (row_at hs x) (row_at hs y) (ordered x y u v).1 e) (λ x y u v e. sym (agree_agent (row_at hs x) (row_at hs y) (ordered x y u v).1 (sym e))) r s i j;
      balanced = eqb-true _ _ d.0;
      few = leb-true _ _ d.1;
    }

pub lawful_from_sound : (b : Contents) → Sound b → lawful b ≡ true
lawful_from_sound b s =
    let hs = b.holders in
    let ordered : (i j : ℕ) → i < j → j < length hs → Ordered hs i j = λ i j l n. (
      s.ascending (suc i) (suc j) (omega arith) (omega arith) (omega arith),
      agree_from (row_at hs i) (row_at hs j) (s.one_clearing (suc i) (suc j) (omega arith, omega arith) (omega arith, omega arith)) (s.one_agent (suc i) (suc j) (omega arith, omega arith) (omega arith, omega arith)),
    ) in
    and_from (headed b.terms b.assets) _
    (and_from (terms_ok b.terms) _ (terms_in b.terms s.multiplier s.price)
    (and_from (ltb 0 (length b.assets)) _ (lt-ltb 0 (length b.assets) (omega (arith, s.asset_count.0)))
    (and_from (leb (length b.assets) most_assets) _ (le-leb (length b.assets) most_assets s.asset_count.1) (all_from asset_ok AssetInRange asset_in b.assets s.assets))))
    (and_from (leb (length hs) most_holders) _ (le-leb (length hs) most_holders s.holder_count.1)
    (and_from (rows [] hs) _ (rows_from [] hs (all_from holder_ok HolderInRange holder_in hs s.holders) ordered)
    (and_from (ltb 0 (length hs)) _ (lt-ltb 0 (length hs) (omega (arith, s.holder_count.0)))
    (and_from (eqb (bought_by hs) (sold_by hs)) _ (eq-eqb (bought_by hs) (sold_by hs) s.balanced) (le-leb (bought_by hs) most_bought s.few)))))
