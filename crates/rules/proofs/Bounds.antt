-- No sum of the rules passes its range: contracts, units, values, nets, claims and balances.
use Rattle.std.proofs.Common.{◌≡◌, ℕ, zero, suc, ◌+◌, ◌-◌, ◌*◌, ◌≤◌, Bool, true, false, cond, ◌&&◌, eqb, ltb, List, [], ◌∷◌, length, ℤ, pos, negsuc, ◌-ℤ◌, ◌*ℤ◌, nat_abs, sum_by, ap, ◌∙◌, inl, inr, mul_assoc, add-mul, mul-le-mul, mul-le-mul_left, arith}
use lib.IntN.{sub_ℕ, pos-*ℤ-pos, pos-*ℤ-negsuc}
use Rattle.std.specs.List.{range_with_len, AllByRecursion}
use Rattle.std.proofs.lemmas.List.Sums.{sum_by-cons}
use Rattle.std.proofs.ByRecursion.{All-weaker, All-get_or}
use Rattle.std.proofs.lemmas.List.{get_or_past}
use Rattle.std.proofs.lemmas.Bool.{cases_lt, cond_both, ltb-true}
use Rattle.std.proofs.lemmas.Int.{ints}
use Rattle.book.specs.declared.records.Asset.{Asset}
use Rattle.pairing.specs.declared.line.Line.{Line}
use Rattle.book.specs.Books.{Contents, Sound, HolderInRange, holder, nobody, sells, volume, AssetInRange, asset_at, no_asset, invoice, invoice_of, value, difference}
use Rattle.pairing.specs.Lines.{Lot, lot, sumℤ, total, of_seller, of_buyer, of_asset, open_on, inside, unsettled, buyer_agent, seller_agent, value_bought, value_sold, net, differences, claim_on}
use Rattle.rules.specs.Tally.{Opening, Tally, held, all_held, claim}
use Rattle.rules.specs.Histories.{tally_of, Opens}
use Rattle.book.specs.Limits.{most_agent}
use Rattle.rules.specs.Ranges.{SumsInRange}
use Rattle.rules.proofs.Totals.{all_of, sum_le}
use Rattle.rules.proofs.Kept.{Kept, Sane, in_lots, for_sale}
use Rattle.rules.proofs.KeptAlways.{kept}
use Rattle.rules.proofs.CreditsKnown.{credits_known}
use Rattle.rules.proofs.WholePays.{held_all, bought_in_all}
use Rattle.rules.proofs.ToldLawful.{told_lawful}

-- ---- prices

invoice_at_most : (price : ℕ) (x : Asset) → price ≤ 100000000 → x.factor ≤ 2000000 → x.accrued ≤ 10000000 → invoice_of price x ≤ 210000000
invoice_at_most price x p f a =
    let m : price * x.factor ≤ 100000000 * 2000000 = mul-le-mul p f in
    omega (arith, m)

pub invoice_bound : (b : Contents) (a : ℕ) → Sound b → invoice b a ≤ 210000000
invoice_bound b a s = elim (cases_lt a (length b.assets)) [
  | inl lt ↦ let v = All-get_or AssetInRange b.assets a no_asset lt s.assets in invoice_at_most b.terms.price (asset_at b a) s.price.1 v.factor.1 v.accrued.1
  | inr past ↦ let e : asset_at b a ≡ no_asset = get_or_past b.assets a no_asset past in rw e (invoice_at_most b.terms.price no_asset s.price.1 (omega arith) (omega arith))
]

pub market_bound : (b : Contents) (a : ℕ) → Sound b → (asset_at b a).market ≤ 210000000
market_bound b a s = elim (cases_lt a (length b.assets)) [
  | inl lt ↦ let v = All-get_or AssetInRange b.assets a no_asset lt s.assets in v.market.1
  | inr past ↦ let e : asset_at b a ≡ no_asset = get_or_past b.assets a no_asset past in rw e (omega arith)
]

-- 1,000 times 210,000,000
pub value_bound : (b : Contents) (a n : ℕ) → Sound b → value b a n ≤ n * 210000000000
value_bound b a n s =
    let p : n * b.terms.multiplier * invoice b a ≤ n * 1000 * 210000000 = mul-le-mul (mul-le-mul_left n s.multiplier.1) (invoice_bound b a s) in
    let q = mul_assoc n 1000 210000000 in
    omega (arith, p, q)

-- ---- sums

sum_scaled : (f c : Line → ℕ) (q : ℕ) (ls : List Line) → AllByRecursion (λ l. f l ≤ c l * q) ls → sum_by f ls ≤ sum_by c ls * q
sum_scaled f c q [] a = omega arith
sum_scaled f c q (x ∷ xs) a =
    let p = a.0 in let r = sum_scaled f c q xs a.1 in
    let d = add-mul (c x) (sum_by c xs) q in
    rw (sum_by-cons f x xs, sum_by-cons c x xs, d) (omega arith)

cond_le : (p : Bool) (x y : ℕ) → x ≤ y → cond p x 0 ≤ y
cond_le true x y h = h
cond_le false x y h = omega arith

-- the value of the lines that pass, of at most their contracts
value_sum : (b : Contents) (p : Line → Bool) (f : Line → ℕ) (ls : List Line) → Sound b → AllByRecursion (λ l. f l ≤ l.contracts) ls → sum_by (λ l. l.contracts) ls ≤ 1000000
    → sum_by (λ l. cond (p l) (value b l.asset (f l)) 0) ls ≤ 210000000000000000
value_sum b p f ls s a few =
    let e = sum_scaled (λ l. cond (p l) (value b l.asset (f l)) 0) (λ l. l.contracts) 210000000000 ls
    (All-weaker (λ l. f l ≤ l.contracts) (λ l. cond (p l) (value b l.asset (f l)) 0 ≤ l.contracts * 210000000000)
    (λ l h. let v = value_bound b l.asset (f l) s in cond_le (p l) (value b l.asset (f l)) (l.contracts * 210000000000) (omega (arith, v, h))) ls a) in
    omega (arith, e, few)

pub bought_bound : (b : Contents) (f : Line → ℕ) (ls : List Line) (k : ℕ) → Sound b → AllByRecursion (λ l. f l ≤ l.contracts) ls → sum_by (λ l. l.contracts) ls ≤ 1000000 → value_bought b f ls k ≤ 210000000000000000
bought_bound b f ls k s a few = value_sum b (λ l. eqb (buyer_agent b l) k) f ls s a few

pub sold_bound : (b : Contents) (f : Line → ℕ) (ls : List Line) (k : ℕ) → Sound b → AllByRecursion (λ l. f l ≤ l.contracts) ls → sum_by (λ l. l.contracts) ls ≤ 1000000 → value_sold b f ls k ≤ 210000000000000000
sold_bound b f ls k s a few = value_sum b (λ l. eqb (seller_agent b l) k) f ls s a few

-- ---- nets and claims

abs_sub : (x y most : ℕ) → x ≤ most → y ≤ most → nat_abs (sub_ℕ x y) ≤ most
abs_sub x y most p q = cond_both (ltb x y) (negsuc (y - suc x)) (pos (x - y)) (λ z. nat_abs z ≤ most) (λ e. let h = ltb-true x y e in omega arith) (λ e. omega arith)

abs_pos_mul : (x : ℕ) (z : ℤ) → nat_abs (pos x *ℤ z) ≡ x * nat_abs z
abs_pos_mul x (pos n) = ap nat_abs (pos-*ℤ-pos x n)
abs_pos_mul x (negsuc n) = ap nat_abs (pos-*ℤ-negsuc x n) ∙ omega (arith, ints)

pub net_bound : (b : Contents) (ls : List Line) (k : ℕ) → Sound b → sum_by (λ l. l.contracts) ls ≤ 1000000 → nat_abs (net b ls k) ≤ 210000000000000000
net_bound b ls k s few =
    let a = all_of (λ (l : Line). l.contracts ≤ l.contracts) (λ l. omega arith) ls in
    abs_sub (value_sold b (λ l. l.contracts) ls k) (value_bought b (λ l. l.contracts) ls k) 210000000000000000 (sold_bound b (λ l. l.contracts) ls k s a few) (bought_bound b (λ l. l.contracts) ls k s a few)

differences_bound : (b : Contents) (l : Line) → Sound b → nat_abs (differences b l) ≤ l.contracts * 210000000000
differences_bound b l s =
    let d = abs_sub (asset_at b l.asset).market (invoice b l.asset) 210000000 (market_bound b l.asset s) (invoice_bound b l.asset s) in
    let e = abs_pos_mul (unsettled l * b.terms.multiplier) (difference b l.asset) in
    let u : unsettled l ≤ l.contracts = omega arith in
    let p : unsettled l * b.terms.multiplier * nat_abs (difference b l.asset) ≤ l.contracts * 1000 * 210000000 = mul-le-mul (mul-le-mul u s.multiplier.1) d in
    let q = mul_assoc l.contracts 1000 210000000 in
    omega (arith, e, p, q)

one_claim : (x y : Bool) (d : ℤ) → nat_abs (cond x d (pos 0) -ℤ cond y d (pos 0)) ≤ nat_abs d
one_claim true true d = omega (arith, ints)
one_claim true false d = omega (arith, ints)
one_claim false true d = omega (arith, ints)
one_claim false false d = omega (arith, ints)

abs_sum : (f : Line → ℤ) (ls : List Line) → nat_abs (sumℤ f ls) ≤ sum_by (λ l. nat_abs (f l)) ls
abs_sum f [] = omega arith
abs_sum f (x ∷ xs) = let r = abs_sum f xs in rw (sum_by-cons (λ l. nat_abs (f l)) x xs) (omega (arith, ints, r))

pub claim_bound : (b : Contents) (t : Tally) (k : ℕ) → Sound b → sum_by (λ l. l.contracts) t.closed ≤ 1000000 → nat_abs (claim b t k) ≤ 210000000000000000
claim_bound b t k s few =
    let a = abs_sum (claim_on b k) t.closed in
    let e = sum_scaled (λ l. nat_abs (claim_on b k l)) (λ l. l.contracts) 210000000000 t.closed
    (all_of (λ l. nat_abs (claim_on b k l) ≤ l.contracts * 210000000000) (λ l. let p = one_claim (eqb (buyer_agent b l) k) (eqb (seller_agent b l) k) (differences b l) in let q = differences_bound b l s in omega (arith, p, q)) t.closed) in
    omega (arith, a, e, few)

-- ---- units

-- the units of the lines that pass, of at most their contracts
pub units_bound : (b : Contents) (p : Line → Bool) (f : Line → ℕ) (ls : List Line) → Sound b → AllByRecursion (λ l. f l ≤ l.contracts) ls → sum_by (λ l. l.contracts) ls ≤ 1000000
    → b.terms.multiplier * total p f ls ≤ 1000000000
units_bound b p f ls s a few =
    let e = sum_le (λ l. cond (p l) (f l) 0) (λ l. l.contracts) ls (All-weaker (λ l. f l ≤ l.contracts) (λ l. cond (p l) (f l) 0 ≤ l.contracts) (λ l h. cond_le (p l) (f l) l.contracts h) ls a) in
    let t : total p f ls ≤ 1000000 = omega (arith, e, few) in
    let q : b.terms.multiplier * total p f ls ≤ 1000 * 1000000 = mul-le-mul s.multiplier.1 t in
    omega (arith, q)

-- ---- lots, single lines, and all draws

-- A lot is a part of what its seller has.
lot_part : (lots : List Lot) (row a : ℕ) → lot lots row a ≤ in_lots lots row
lot_part lots row a = sum_le (λ (x : Lot). cond (eqb x.row row && eqb x.asset a) x.contracts 0) (λ x. cond (eqb x.row row) x.contracts 0) lots
    (all_of (λ (x : Lot). cond (eqb x.row row && eqb x.asset a) x.contracts 0 ≤ cond (eqb x.row row) x.contracts 0) (λ x. part (eqb x.row row) (eqb x.asset a) x.contracts) lots)
  where
    part : (x y : Bool) (n : ℕ) → cond (x && y) n 0 ≤ cond x n 0
    part true true n = omega arith
    part true false n = omega arith
    part false y n = omega arith

-- No seller has more than all bought contracts.
for_sale_bound : (b : Contents) (row : ℕ) → Sound b → for_sale b row ≤ 1000000
for_sale_bound b zero s = omega arith
for_sale_bound b (suc i) s = elim (cases_lt i (length b.holders)) [
  | inl lt ↦ let v = (All-get_or HolderInRange b.holders i nobody lt s.holders).volume.1 in cond_le (sells (holder b (suc i))) (volume (holder b (suc i))) 1000000 v
  | inr past ↦ let e : holder b (suc i) ≡ nobody = get_or_past b.holders i nobody past in rw e (omega arith)
]

lots_bound : (o : Opening) (t : Tally) → Sound o.book → Kept o t → (row a : ℕ) → lot t.lots row a ≤ 1000000
lots_bound o t s k row a =
    let x = lot_part t.lots row a in let y = k.lots_within row in let z = for_sale_bound o.book row s in omega (arith, x, y, z)

each_few : (ls : List Line) (n : ℕ) → sum_by (λ (l : Line). l.contracts) ls ≤ n → AllByRecursion (λ l. l.contracts ≤ n) ls
each_few [] n h = tt
each_few (x ∷ xs) n h =
    let e = sum_by-cons (λ (l : Line). l.contracts) x xs in
    (omega (arith, e, h), each_few xs n (omega (arith, e, h)))

values_bound : (b : Contents) (ls : List Line) → Sound b → sum_by (λ l. l.contracts) ls ≤ 1000000 → AllByRecursion (λ l. value b l.asset l.contracts ≤ 210000000000000000) ls
values_bound b ls s few = All-weaker (λ l. l.contracts ≤ 1000000) (λ l. value b l.asset l.contracts ≤ 210000000000000000)
    (λ l h. let v = value_bound b l.asset l.contracts s in omega (arith, v, h)) ls (each_few ls 1000000 few)

-- Each draw is at most what its agent buys, so all together are at most what all buy.
held_part : (o : Opening) (t : Tally) (k : ℕ) → Kept o t → held t k ≤ value_bought o.book (λ l. l.contracts) t.lines k
held_part o t x k = elim (k.drawn x) [ inl e ↦ omega (arith, e) | inr e ↦ omega (arith, e) ]

over_le : (f g : ℕ → ℕ) (ks : List ℕ) → ((k : ℕ) → f k ≤ g k) → sum_by f ks ≤ sum_by g ks
over_le f g ks h = sum_le f g ks (all_of (λ k. f k ≤ g k) h ks)

draws_bound : (o : Opening) (t : Tally) → Opens o → Kept o t → all_held t ≤ 210000000000000000
draws_bound o t p k =
    let b : Contents = o.book in
    let ls : List Line = t.lines in
    let e = held_all o t p.book k in
    let f = over_le (held t) (value_bought b (λ l. l.contracts) ls) (range_with_len 1 most_agent) (λ x. held_part o t x k) in
    let g = bought_in_all b (λ l. l.contracts) ls p.book k.lines in
    let v = value_sum b (λ _. true) (λ l. l.contracts) ls p.book (All-weaker (Sane b) (λ l. l.contracts ≤ l.contracts) (λ l v. omega arith) ls k.lines) k.few in
    chained (all_held t) (sum_by (held t) (range_with_len 1 most_agent)) (sum_by (value_bought b (λ l. l.contracts) ls) (range_with_len 1 most_agent)) (sum_by (λ (l : Line). value b l.asset l.contracts) ls) 210000000000000000 e f g v
  where
    -- (Over numbers of its own, since the sums over agents are long.)
    chained : (x y z w most : ℕ) → y ≡ x → y ≤ z → z ≡ w → w ≤ most → x ≤ most
    chained x y z w most e f g v = omega arith

-- ---- every sum of a lived history

pub sums_in_range : SumsInRange
sums_in_range o h p lived =
    let t : Tally = tally_of o h in
    let b : Contents = o.book in
    let s = p.book in
    let k = kept o h p lived in
    let ls : List Line = t.lines in
    let w : (f : Line → ℕ) → ((l : Line) → Sane b l → f l ≤ l.contracts) → AllByRecursion (λ l. f l ≤ l.contracts) ls = λ f g. All-weaker (Sane b) (λ l. f l ≤ l.contracts) g ls k.lines in
    let settled = w (λ l. l.settled) (λ l v. let u = v.used in let x = v.within in omega arith) in
    let whole = w (λ l. l.contracts) (λ l v. omega arith) in
    record {
      lots = lots_bound o t s k;
      contracts = k.few;
      counts = All-weaker (Sane b) (λ l. (l.settled + l.returned ≤ l.taken) × (l.taken ≤ l.contracts)) (λ l v. (v.used, v.within)) ls k.lines;
      outstanding_units = λ row a. units_bound b (of_seller row a) open_on ls s (w open_on (λ l v. omega arith)) k.few;
      given_units = λ row a. units_bound b (of_seller row a) (λ l. l.taken - l.returned) ls s (w (λ l. l.taken - l.returned) (λ l v. let x = v.within in omega arith)) k.few;
      got_units = λ row a. units_bound b (of_buyer row a) (λ l. l.settled) ls s settled k.few;
      units_in = λ a. units_bound b (of_asset a) inside ls s (w inside (λ l v. let x = v.within in omega arith)) k.few;
      values = values_bound b ls s k.few;
      bought = λ x. bought_bound b (λ l. l.contracts) ls x s whole k.few;
      sold = λ x. sold_bound b (λ l. l.contracts) ls x s whole k.few;
      draws = draws_bound o t p k;
      nets = λ x. net_bound b ls x s k.few;
      claims = λ x. claim_bound b t x s k.closed_few;
      registers = told_lawful o t p k (credits_known o h lived);
    }
